-- A judged log by the parts that it is stored in, and what it keeps of them.
use Rattle.std.specs.Prelude.{◌≡◌, List, [], Bool, false, All, bytes_eq}
use Rattle.std.specs.List.{IsDistinct}
use Rattle.run_specs.specs.Automaton.{Automaton}
use Rattle.log_specs.specs.declared.LogForm.{LogForm}
use Rattle.log_specs.specs.declared.LogForm.TheVariants.{Check}
use Rattle.log_specs.specs.declared.RunsMode.{RunsMode}
use Rattle.log_table.specs.Tables.{Table, known_with}
use Rattle.log_session.specs.declared.tally.Tally.{Tally}
use Rattle.log_session.specs.Progress.{Progress}

abbrev pub progress_of : LogForm → List Automaton → RunsMode → Table → Bool → Tally → Progress
progress_of form models runs t begun tally =
    record { form = form; models = models; jumps = t.jumps; runs = runs; known = known_with begun t; tally = tally }

-- what it keeps: the variables of each automaton have distinct names, and before the header of `check` no session is open
pub record IsKept (form : LogForm) (models : List Automaton) (t : Table) (begun : Bool) : Type 0 where
  pub distinct : All (λ a. IsDistinct bytes_eq a.variables) models
  pub first : form ≡ Check → begun ≡ false → t.sessions ≡ []
