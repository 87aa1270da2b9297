-- The columns of a header, by the numbers of their variables.
use Rattle.std.specs.Prelude.{◌≡◌, ◌<◌, ℕ, List, map, length, true}
use Rattle.run_specs.specs.Sessions.{AreColumns}
use Rattle.log_specs.specs.LogSessions.{is_among, are_columns}
use Rattle.log_table.specs.Tables.{name_at}

-- the names are those of variables, none repeats, and these are their numbers
pub record AreNumbersOf (variables names : List (List ℕ)) (columns : List ℕ) : Type 0 where
  pub named : are_columns variables names ≡ true
  pub distinct : AreColumns (length variables) columns
  pub same : map (name_at variables) columns ≡ names

-- the variable of this number has this name
pub record IsNumberOf (variables : List (List ℕ)) (name : List ℕ) (c : ℕ) : Type 0 where
  pub within : c < length variables
  pub named : name_at variables c ≡ name
  pub among : is_among variables name ≡ true
