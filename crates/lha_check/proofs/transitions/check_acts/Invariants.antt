use Rattle.std.proofs.Common.{◌≡◌, [], map, take, drop}
use Rattle.model_specs.specs.Automata.{act_name}
use Rattle.model_specs.specs.Faults.{acts_faults}
use Rattle.lha_check.proofs.transitions.check_acts.Given as goal

abbrev pub invariant-loop-i : goal.invariant-loop-i
invariant-loop-i l =
    acts_faults l.line l.vars [] l.acts ≡ acts_faults l.line l.vars (map act_name (take l.i l.acts)) (drop l.i l.acts)
