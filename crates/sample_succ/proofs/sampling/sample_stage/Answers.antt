use Rattle.run_specs.specs.Automaton.{width}
use Rattle.run_specs.specs.Stages as stages
use Rattle.run_specs.specs.Stages.{rows_after}
use Rattle.sample_succ.proofs.PrunedLemmas.{pruned_plain}
use Rattle.sample_succ.proofs.sampling.sample_stage.Goals as goal

pub returns-clause-plain : goal.returns-clause-plain
returns-clause-plain c =
    pruned_plain (width c.args.a.now) c.in_ok-system.system c.in_ok-few.few (rows_after (stages.sample_stage c.args.a.now c.args.gap.now c.args.seen.now c.args.state.now.rows))
    c.in_ok-system.ensures.wide c.in_ok-few.ensures c.in_ok-system.ensures.plain
