use Rattle.command_words.proofs.LawLemmas.{two_replay}
use Rattle.command_words.proofs.laws.two_names_are_a_replay.Goals as goal

pub returns : goal.returns
returns c = two_replay
