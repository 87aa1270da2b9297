-- States of an automaton, with systems over its variables.
use Rattle.std.specs.Prelude.{◌≡◌}
use Rattle.run_specs.specs.Automaton.{Automaton, width}
use Rattle.run_specs.specs.Keys.{IsState}
use Rattle.gap_keys.specs.Views.{StateView}

-- a state of the automaton, with a system over its variables
pub record IsStateOf (a : Automaton) (s : StateView) : Type 0 where
  pub state : IsState a s.state
  pub wide : s.width ≡ width a
