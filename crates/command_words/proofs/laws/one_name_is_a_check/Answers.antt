use Rattle.command_words.proofs.LawLemmas.{one_check}
use Rattle.command_words.proofs.laws.one_name_is_a_check.Goals as goal

pub returns : goal.returns
returns c = one_check
