-- The faults of one element of a list of a tree, which stands after elements of these names.
use Rattle.std.specs.Prelude.{ℕ, ◌≤◌, List, [], ◌++◌, length, Option, Some, None}
use Rattle.lang_specs.specs.Trees.{Term, RowsTree, BoxTree, BoundTree, Act, TransTree, Tree}
use Rattle.model_specs.specs.Automata.{act_name}
use Rattle.model_specs.specs.Faults as faults
use Rattle.model_specs.specs.Faults.{ModelFault, if_so, unknown, repeated, unknown_in_act, unknown_in_rows, is_empty_box}
use Rattle.model_rows.specs.declared.faults.RowFault.{RowFault}
use Rattle.model_rows.specs.declared.faults.RowFault.TheVariants as rows
use Rattle.model_rows.specs.Passing.{constraints_pass, slopes_pass, transition_passes}
use Rattle.lha_check.specs.declared.faults.CheckFault.{CheckFault}
use Rattle.lha_check.specs.declared.faults.CheckFault.TheVariants.{Passes, Memory}

-- ---- names

abbrev pub term_faults : ℕ → List (List ℕ) → Term → List ModelFault
term_faults line vars t = elim t.var [ None ↦ [] | Some name ↦ unknown line vars name ]

abbrev pub bound_faults : ℕ → List (List ℕ) → List (List ℕ) → BoundTree → List ModelFault
bound_faults line vars before b = unknown line vars b.var ++ repeated line before b.var

abbrev pub box_faults : ℕ → List (List ℕ) → List (List ℕ) → BoxTree → List ModelFault
box_faults line vars before b =
    unknown line vars b.var ++ repeated line before b.var ++ if_so (is_empty_box b) (faults.EmptyBox line b.var)

abbrev pub act_faults : ℕ → List (List ℕ) → List (List ℕ) → Act → List ModelFault
act_faults line vars before a =
    unknown line vars (act_name a) ++ repeated line before (act_name a) ++ unknown_in_act line vars a

-- ---- rows

-- a number passes in forming the rows of an `init` or `inv`
abbrev pub standing_passes : Tree → RowsTree → List ModelFault
standing_passes t r = if_so (constraints_pass t.vars (length t.vars) r.rows) (faults.Passes r.line t.name)

-- `init` or `inv`
abbrev pub standing_faults : Tree → RowsTree → List ModelFault
standing_faults t r = unknown_in_rows r.line t.vars r.rows ++ standing_passes t r

-- the line of an `also`; 0 where none stands
abbrev pub also_line : Option RowsTree → ℕ
also_line None = 0
also_line (Some r) = r.line

abbrev pub also_unknown : Tree → Option RowsTree → List ModelFault
also_unknown t None = []
also_unknown t (Some r) = unknown_in_rows r.line t.vars r.rows

abbrev pub also_passes : Tree → Option RowsTree → List ModelFault
also_passes t also = if_so (slopes_pass t.vars also) (faults.Passes (also_line also) t.name)

abbrev pub jump_passes : Tree → TransTree → List ModelFault
jump_passes t e = if_so (transition_passes t.vars e) (faults.Passes e.line t.name)

-- why a statement at this line has no rows, in the automaton of this name
abbrev pub row_fault : RowFault → ℕ → List ℕ → CheckFault
row_fault rows.Passes line name = Passes line name
row_fault rows.Memory line name = Memory

-- ---- limits

-- the counts on which the widths of rows and the numbers of locations rest
pub record IsSmall (t : Tree) : Type 0 where
  pub variables : length t.vars ≤ 6
  pub locations : length t.locs ≤ 32
