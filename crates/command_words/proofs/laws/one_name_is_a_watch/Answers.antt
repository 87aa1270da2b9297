use Rattle.command_words.proofs.LawLemmas.{one_watch}
use Rattle.command_words.proofs.laws.one_name_is_a_watch.Goals as goal

pub returns : goal.returns
returns c = one_watch
