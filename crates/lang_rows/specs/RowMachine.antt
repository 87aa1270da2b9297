-- Reading constraints.
use Rattle.std.specs.Prelude.{◌≡◌, ℕ, ◌+◌, Bool, true, false, ◌&&◌, if◌then◌else◌, nat_le, List, [], ◌∷◌, length, Option, Some, None}
use Rattle.std.specs.List.{sum_by, list_all}
use Rattle.lang_specs.specs.declared.Which.{Which}
use Rattle.lang_specs.specs.declared.Which.TheVariants.{Rows, Terms}
use Rattle.lang_specs.specs.declared.Sign.{Sign}
use Rattle.lang_specs.specs.declared.Sign.TheVariants as signs
use Rattle.lang_specs.specs.declared.Kind.TheVariants as kinds
use Rattle.lang_specs.specs.Marks.{Mark}
use Rattle.lang_specs.specs.Trees.{RowTree}
use Rattle.lang_specs.specs.Limits.{rows_in, row_count, has_at_most}
use Rattle.lang_tokens.specs.Kinds.{same_kind}
use Rattle.lang_tokens.specs.Machines.{AllValues, Machine, Reading, LineMachine, start_of, next}
use Rattle.lang_tokens.specs.LineFaults.{Keeping}
use Rattle.lang_rows.specs.Texts.{Term, Row, IsRowValue}
use Rattle.lang_rows.specs.ExprMachine.{ExprPlace, expr_start, in_expr, made_expr, few_terms, few_at}

-- the expression before the sign is read, or that behind it
pub data Place : Type 0 where
  on_left : ExprPlace → Place
  on_right : List Term → Sign → ExprPlace → Place

-- how a mark compares, where `<` and `>` do so only if strict
abbrev pub compares : Bool → Mark → Option Sign
compares strict m =
    if same_kind m.kind kinds.AtMost then Some signs.AtMost
    else if same_kind m.kind kinds.AtLeast then Some signs.AtLeast
    else if same_kind m.kind kinds.Equal then Some signs.Equal
    else if same_kind m.kind kinds.Less && strict then Some signs.Less
    else if same_kind m.kind kinds.Greater && strict then Some signs.Greater
    else None

abbrev pub behind_left : Option (List Term) → Option Sign → Option Place
behind_left None s = None
behind_left (Some e) None = None
behind_left (Some e) (Some s) = Some (on_right e s expr_start)

abbrev pub by_left : Bool → ExprPlace → Mark → Option ExprPlace → Option Place
by_left strict e m (Some f) = Some (on_left f)
by_left strict e m None = behind_left (made_expr e) (compares strict m)

abbrev pub by_right : List Term → Sign → Option ExprPlace → Option Place
by_right left s (Some f) = Some (on_right left s f)
by_right left s None = None

-- the place behind a token in a constraint
unfoldable pub in_row : Bool → Place → Mark → Option Place
in_row strict (on_left e) m = by_left strict e m (in_expr e m)
in_row strict (on_right left s e) m = by_right left s (in_expr e m)

abbrev pub row_of : List Term → Sign → Option (List Term) → Option Row
row_of left s None = None
row_of left s (Some right) = Some (record { left = left; sign = s; right = right })

-- the constraint that is complete there
abbrev pub made : Place → Option Row
made (on_left e) = None
made (on_right left s e) = row_of left s (made_expr e)

-- ---- limits

-- how many rows the constraint counts for that is read or is to come
abbrev pub rows_at : Place → ℕ
rows_at (on_left e) = 1
rows_at (on_right left s e) = rows_in s

-- how many rows these constraints count for
abbrev pub rows_of : List Row → ℕ
rows_of rs = sum_by (λ r. rows_in r.sign) rs

abbrev pub few_rows : Bool → List Row → Place → Bool
few_rows has_ended rs p = nat_le (rows_of rs + (if has_ended then 0 else rows_at p)) 12

abbrev pub few_both : Row → Bool
few_both r = few_terms r.left && few_terms r.right

abbrev pub few_there : Place → Bool
few_there (on_left e) = few_at e
few_there (on_right left s e) = few_terms left && few_at e

abbrev pub fits_rows : Which → Reading Place Row → Bool
fits_rows Rows r = few_rows r.has_ended r.done r.place
fits_rows Terms r = list_all few_both r.done && (if r.has_ended then true else few_there r.place)
fits_rows which r = true

abbrev pub rows : Bool → Machine Place Row
rows strict = record { start = on_left expr_start; next = in_row strict; made = made; fits = fits_rows }

-- twelve rows at most, and fourteen terms in each expression
abbrev pub row_limits : Keeping (List RowTree)
row_limits Rows rs = nat_le (row_count rs) 12
row_limits Terms rs = list_all (λ r. has_at_most 14 r.left && has_at_most 14 r.right) rs
row_limits which rs = true

-- ---- `true`, or constraints with commas between

pub data State : Type 0 where
  at_first : State
  behind_true : State
  true_ended : State
  in_rows : Reading Place Row → State

abbrev pub go_on : Option (Reading Place Row) → Option State
go_on None = None
go_on (Some r) = Some (in_rows r)

unfoldable pub next_row : Bool → State → Mark → Option State
next_row strict at_first m = if same_kind m.kind kinds.True then Some behind_true else go_on (next (rows strict) (start_of (rows strict)) m)
next_row strict behind_true m = if same_kind m.kind kinds.EndLine then Some true_ended else None
next_row strict true_ended m = None
next_row strict (in_rows r) m = go_on (next (rows strict) r m)

abbrev pub fits_state : Which → State → Bool
fits_state which at_first = true
fits_state which behind_true = true
fits_state which true_ended = true
fits_state which (in_rows r) = fits_rows which r

abbrev pub row_line : Bool → LineMachine State
row_line strict = record { start = at_first; next = next_row strict; fits = fits_state }

-- the line has ended, and its constraints say this
abbrev pub Ends : State → List RowTree → Type 0
Ends at_first ys = ⊥
Ends behind_true ys = ⊥
Ends true_ended ys = ys ≡ []
Ends (in_rows r) ys = (r.has_ended ≡ true) × AllValues IsRowValue r.done ys
