use Rattle.command_words.proofs.LawLemmas.{one_no_replay}
use Rattle.command_words.proofs.laws.a_replay_without_a_log_is_refused.Goals as goal

pub returns : goal.returns
returns c = one_no_replay
