use Rattle.replay_specs.specs.RunChecks.{gap_steps, gap_before, time_before, sample_at, gap_at}
use Rattle.replay_specs.proofs.CheckLemmas.{answers_once}
use Rattle.replay_specs.proofs.checks.one_answer.Goals as goal

pub returns : goal.returns
returns c a k samples gaps i =
    answers_once (gap_steps a k (gap_before i gaps) (time_before i samples) (sample_at i samples) (gap_at i gaps))
