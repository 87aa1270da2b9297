-- The names by which automata and their variables are told apart.
use Rattle.std.specs.Prelude.{List, map, All, bytes_eq}
use Rattle.std.specs.List.{IsDistinct}
use Rattle.run_specs.specs.Automaton.{Automaton}

-- no two automata have one name, and no two variables of one automaton
pub record AreNamedApart (automata : List Automaton) : Type 0 where
  pub names : IsDistinct bytes_eq (map (λ a. a.name) automata)
  pub variables : All (λ a. IsDistinct bytes_eq a.variables) automata
