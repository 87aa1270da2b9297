-- The rows of constraints, boxes and acts.
use Rattle.std.specs.Prelude.{ℕ, suc, ◌+◌, List, [], ◌∷◌, ◌++◌, map, length, Bool, true, false, pos, ℤ, neg_ℤ, Option, Some, None, if◌then◌else◌, bytes_eq, slice_set}
use Rattle.poly_specs.specs.Rows.{Row}
use Rattle.poly_specs.specs.Elimination.{divided}
use Rattle.poly_specs.specs.Systems.{negated}
use Rattle.run_specs.specs.Stages.{zeros}
use Rattle.lang_specs.specs.declared.Sign.{Sign}
use Rattle.lang_specs.specs.declared.Sign.TheVariants.{AtMost, AtLeast, Equal, Less, Greater}
use Rattle.lang_specs.specs.Trees.{Term, RowTree, BoxTree, Act, Set, Within, Free}
use Rattle.lang_specs.specs.Expressions.{one, signed}
use Rattle.model_specs.specs.Parts.{Part, in_column, negative, row_of_parts, part_numbers}

-- ---- names

-- the place of the name; where it is not among the names, their number
abbrev pub place_in : List (List ℕ) → List ℕ → ℕ
place_in [] name = 0
place_in (x ∷ xs) name = if bytes_eq x name then 0 else suc (place_in xs name)

-- ---- expressions

abbrev pub column_of : List (List ℕ) → Option (List ℕ) → Option ℕ
column_of vars None = None
column_of vars (Some name) = Some (place_in vars name)

-- a term: its number, in the column of its variable
abbrev pub part_of : List (List ℕ) → Term → Part
part_of vars t = record { column = column_of vars t.var; value = signed t.neg t.value }

abbrev pub parts_of : List (List ℕ) → List Term → List Part
parts_of vars terms = map (part_of vars) terms

-- ---- constraints

-- both sides on one: what is to be at most 0, in the order of the text
abbrev pub sides : Sign → List Part → List Part → List Part
sides AtMost left right = left ++ map negative right
sides Less left right = left ++ map negative right
sides Equal left right = left ++ map negative right
sides AtLeast left right = map negative left ++ right
sides Greater left right = map negative left ++ right

abbrev pub is_strict : Sign → Bool
is_strict Less = true
is_strict Greater = true
is_strict s = false

-- an equation gives its row and the negation of it
abbrev pub rows_by : Sign → Row → List Row
rows_by Equal r = r ∷ negated r ∷ []
rows_by s r = r ∷ []

-- a comparison of two sums over n columns
pub record Comparison : Type 0 where
  pub left : List Part
  pub sign : Sign
  pub right : List Part

-- its rows
abbrev pub comparison_rows : ℕ → Comparison → List Row
comparison_rows n c = rows_by c.sign (row_of_parts n (is_strict c.sign) (sides c.sign c.left c.right))

-- the numbers that forming them takes
abbrev pub comparison_numbers : ℕ → Comparison → List ℤ
comparison_numbers n c = part_numbers n (sides c.sign c.left c.right)

-- a constraint over the variables, which stand in the first columns
abbrev pub constraint : List (List ℕ) → RowTree → Comparison
constraint vars r = record { left = parts_of vars r.left; sign = r.sign; right = parts_of vars r.right }

-- ---- slopes; columns: the slope of each variable, the duration

-- of m variables, the row that says c * (slope of variable j) + n * duration ≤ 0
abbrev pub slope_row : ℕ → ℕ → ℤ → ℤ → Row
slope_row m j c n = divided (record { coef = slice_set (slice_set (zeros (m + 1)) j c) m n; cst = pos 0; strict = false })

-- the slope of variable j is at most the greater number, and at least the lesser
abbrev pub box_rows : ℕ → ℕ → BoxTree → List Row
box_rows m j b = slope_row m j b.hi.den (neg_ℤ b.hi.num) ∷ slope_row m j (neg_ℤ b.lo.den) b.lo.num ∷ []

-- a constant stands for so much of each unit of time
abbrev pub with_time : ℕ → Part → Part
with_time m p = elim p.column [ None ↦ in_column m p.value | Some j ↦ p ]

-- a constraint of slopes
abbrev pub slope_constraint : List (List ℕ) → RowTree → Comparison
slope_constraint vars r = record {
  left = map (with_time (length vars)) (parts_of vars r.left);
  sign = r.sign;
  right = map (with_time (length vars)) (parts_of vars r.right);
}

-- ---- acts; columns: the values before, the values after

-- the value of variable j after the jump, where there are m variables
abbrev pub after : ℕ → ℕ → List Part
after m j = in_column (m + j) one ∷ []

-- what an act says of variable j, which it names
abbrev pub act_comparisons : List (List ℕ) → ℕ → Act → List Comparison
act_comparisons vars j (Set var value) = record { left = after (length vars) j; sign = Equal; right = parts_of vars value } ∷ []
act_comparisons vars j (Within var lo hi) =
    record { left = parts_of vars lo; sign = AtMost; right = after (length vars) j }
    ∷ record { left = after (length vars) j; sign = AtMost; right = parts_of vars hi }
    ∷ []
act_comparisons vars j (Free var) = []

-- a variable without an act keeps its value
abbrev pub kept : List (List ℕ) → ℕ → List Comparison
kept vars j = record { left = after (length vars) j; sign = Equal; right = in_column j one ∷ [] } ∷ []
