-- The one text that is printed of trees.
use Rattle.std.specs.Prelude.{ℕ, Bool, true, false, ◌&&◌, ◌||◌, not, if◌then◌else◌, pos, unsigned_abs, List, [], ◌∷◌, ◌++◌, Option, Some, None, codes}
use Rattle.std.specs.List.{list_any, flat_map, join_by}
use Rattle.std.specs.Int.{is_negative}
use Rattle.std.specs.Ordering.{int_eq}
use Rattle.poly_specs.specs.Fractions.{Fraction}
use Rattle.number_specs.specs.FractionTexts.{fraction_text}
use Rattle.lang_specs.specs.declared.Sign.{Sign}
use Rattle.lang_specs.specs.declared.Sign.TheVariants as signs
use Rattle.lang_specs.specs.declared.Kind.{Kind}
use Rattle.lang_specs.specs.declared.Kind.TheVariants as kinds
use Rattle.lang_specs.specs.Words.{spelled}
use Rattle.lang_specs.specs.Marks.{Mark, has_text, the, a_name, a_number}
use Rattle.lang_specs.specs.Trees.{Term, RowTree, RowsTree, BoxTree, BoundTree, BoundsTree, LocTree, Act, Set, Within, Free, TransTree, Tree, row_lists}
use Rattle.lang_specs.specs.Expressions.{minus_if, minus_or_plus, sign_mark}
use Rattle.lang_specs.specs.Grammar.{unsafe_if, version}

-- ---- the tokens inside a statement

-- with commas between
abbrev pub joined : {X : Type 0} → (X → List Mark) → List X → List Mark
joined tokens xs = join_by tokens (the kinds.Comma ∷ []) xs

-- a number that is at least 0
abbrev pub number_tokens : Fraction → List Mark
number_tokens v = a_number (fraction_text v) ∷ []

-- a number, behind a `-` where it is below 0
abbrev pub num_tokens : Fraction → List Mark
num_tokens v = minus_if (is_negative v.num) ++ number_tokens (record v { num = pos (unsigned_abs v.num) })

abbrev pub is_one : Fraction → Bool
is_one v = int_eq v.num (pos 1) && int_eq v.den (pos 1)

-- a number; a number `*` a variable, or the variable alone where the number is 1
abbrev pub factor_tokens : Fraction → Option (List ℕ) → List Mark
factor_tokens v None = number_tokens v
factor_tokens v (Some var) = if is_one v then a_name var ∷ [] else number_tokens v ++ the kinds.Times ∷ a_name var ∷ []

abbrev pub more_term_tokens : Term → List Mark
more_term_tokens t = minus_or_plus t.neg ∷ factor_tokens t.value t.var

abbrev pub expr_tokens : List Term → List Mark
expr_tokens [] = []
expr_tokens (t ∷ ts) = minus_if t.neg ++ factor_tokens t.value t.var ++ flat_map more_term_tokens ts

abbrev pub row_tokens : RowTree → List Mark
row_tokens r = expr_tokens r.left ++ sign_mark r.sign ∷ expr_tokens r.right

-- an empty list of rows is `true`
abbrev pub rows_tokens : List RowTree → List Mark
rows_tokens [] = the kinds.True ∷ []
rows_tokens (r ∷ rs) = joined row_tokens (r ∷ rs)

-- `[ A , B ]`
abbrev pub between_tokens : {X : Type 0} → (X → List Mark) → X → X → List Mark
between_tokens tokens lo hi = the kinds.Open ∷ tokens lo ++ the kinds.Comma ∷ tokens hi ++ the kinds.Close ∷ []

abbrev pub box_tokens : BoxTree → List Mark
box_tokens b = a_name b.var ∷ the kinds.In ∷ between_tokens num_tokens b.lo b.hi

abbrev pub bound_tokens : BoundTree → List Mark
bound_tokens b = a_name b.var ∷ the kinds.Within ∷ number_tokens b.within

abbrev pub act_tokens : Act → List Mark
act_tokens (Set var value) = a_name var ∷ the kinds.Equal ∷ expr_tokens value
act_tokens (Within var lo hi) = a_name var ∷ the kinds.In ∷ between_tokens expr_tokens lo hi
act_tokens (Free var) = the kinds.Free ∷ a_name var ∷ []

-- an empty guard is left out
abbrev pub guard_tokens : List RowTree → List Mark
guard_tokens [] = []
guard_tokens (r ∷ rs) = the kinds.When ∷ rows_tokens (r ∷ rs)

-- an empty list of acts is left out
abbrev pub acts_tokens : List Act → List Mark
acts_tokens [] = []
acts_tokens (a ∷ acts) = the kinds.Set ∷ joined act_tokens (a ∷ acts)

-- ---- the statements, a line each

abbrev pub rows_line : Kind → Option RowsTree → List (List Mark)
rows_line k None = []
rows_line k (Some r) = (the k ∷ rows_tokens r.rows) ∷ []

abbrev pub obs_line : Option BoundsTree → List (List Mark)
obs_line None = []
obs_line (Some o) = (the kinds.Obs ∷ joined bound_tokens o.bounds) ∷ []

abbrev pub loc_lines : LocTree → List (List Mark)
loc_lines l =
    (the kinds.Loc ∷ a_name l.name ∷ unsafe_if l.is_unsafe) ∷ rows_line kinds.Init l.init ++ rows_line kinds.Inv l.inv
    ++ (the kinds.Flow ∷ joined box_tokens l.flow.boxes) ∷ rows_line kinds.Also l.also

abbrev pub trans_line : TransTree → List Mark
trans_line t =
    the kinds.Trans ∷ a_name t.from ∷ the kinds.Arrow ∷ a_name t.to ∷ the kinds.As ∷ a_name t.label ∷ guard_tokens t.guard ++ acts_tokens t.acts

abbrev pub tree_lines : Tree → List (List Mark)
tree_lines t =
    (the kinds.Automaton ∷ a_name t.name ∷ []) ∷ (the kinds.Var ∷ joined (λ v. a_name v ∷ []) t.vars) ∷ obs_line t.obs
    ++ flat_map loc_lines t.locs ++ flat_map (λ e. trans_line e ∷ []) t.trans ++ (the kinds.End ∷ []) ∷ []

abbrev pub is_strict : Sign → Bool
is_strict signs.Less = true
is_strict signs.Greater = true
is_strict s = false

abbrev pub has_obs : Option BoundsTree → Bool
has_obs None = false
has_obs (Some o) = true

-- some constraint of these lists has a strict sign
abbrev pub has_strict : List (List RowTree) → Bool
has_strict lists = list_any (λ rows. list_any (λ r. is_strict r.sign) rows) lists

-- the automaton has a strict sign or an `obs`, and so needs the second version
abbrev pub needs_second : Tree → Bool
needs_second t = has_obs t.obs || has_strict (row_lists t)

-- all statements; the version is the second exactly where it is needed
abbrev pub canonical_lines : List Tree → List (List Mark)
canonical_lines trees = (the kinds.Lha ∷ a_number (version (list_any needs_second trees)) ∷ []) ∷ flat_map tree_lines trees

-- ---- bytes

-- what is written for a token
abbrev pub written : Mark → List ℕ
written m = if has_text m.kind then m.text else spelled m.kind

-- no space stands before these
abbrev pub is_close_before : Kind → Bool
is_close_before kinds.Comma = true
is_close_before kinds.Close = true
is_close_before kinds.Times = true
is_close_before k = false

-- no space stands behind these
abbrev pub is_close_behind : Kind → Bool
is_close_behind kinds.Open = true
is_close_behind kinds.Times = true
is_close_behind k = false

-- a `-` leads its term where no name and no number stands before it
abbrev pub leads : Kind → Kind → Bool
leads before kinds.Minus = not (has_text before)
leads before k = false

-- the tokens behind one of this kind, which leads a term or not, with one space between two where none is left out
abbrev pub spaced : Kind → Bool → List Mark → List ℕ
spaced before leading [] = []
spaced before leading (m ∷ ms) =
    (if leading || is_close_behind before || is_close_before m.kind then [] else codes " ") ++ written m ++ spaced m.kind (leads before m.kind) ms

-- a statement, with its line feed
abbrev pub line_text : List Mark → List ℕ
line_text [] = codes "\n"
line_text (m ∷ ms) = written m ++ spaced m.kind false ms ++ codes "\n"

-- the canonical text of trees
abbrev pub canonical_text : List Tree → List ℕ
canonical_text trees = flat_map line_text (canonical_lines trees)
