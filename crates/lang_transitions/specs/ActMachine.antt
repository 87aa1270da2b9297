-- Reading an act.
use Rattle.std.specs.Prelude.{◌≡◌, ℕ, Bool, true, ◌&&◌, if◌then◌else◌, List, Option, Some, None}
use Rattle.std.specs.List.{list_all, flat_map}
use Rattle.lang_specs.specs.declared.Which.{Which}
use Rattle.lang_specs.specs.declared.Which.TheVariants.{Terms}
use Rattle.lang_specs.specs.declared.Kind.TheVariants as kinds
use Rattle.lang_specs.specs.Marks.{Mark}
use Rattle.lang_specs.specs.Trees as trees
use Rattle.lang_specs.specs.Limits.{has_at_most}
use Rattle.lang_tokens.specs.Kinds.{same_kind}
use Rattle.lang_tokens.specs.Machines.{AllValues, Machine, Reading}
use Rattle.lang_tokens.specs.LineFaults.{Keeping}
use Rattle.lang_rows.specs.Texts.{Term, IsTermValue}
use Rattle.lang_rows.specs.ExprMachine.{ExprPlace, expr_start, in_expr, made_expr, few_terms, few_at}

-- an act as it is written: the variable takes the value of an expression, a value from the first to the second, or any value
pub data Act : Type 0 where
  sets : List ℕ → List Term → Act
  within : List ℕ → List Term → List Term → Act
  frees : List ℕ → Act

-- what an act wants next, and what stands before it in the act; or the act, where it is complete and nothing goes on with it
pub data Place : Type 0 where
  at_act : Place
  at_free : Place
  at_verb : List ℕ → Place
  at_value : List ℕ → ExprPlace → Place
  at_open : List ℕ → Place
  at_lo : List ℕ → ExprPlace → Place
  at_hi : List ℕ → List Term → ExprPlace → Place
  behind : Act → Place

-- ---- one act

abbrev pub by_value : List ℕ → Option ExprPlace → Option Place
by_value v None = None
by_value v (Some e) = Some (at_value v e)

-- behind the first expression stands a comma
abbrev pub behind_lo : List ℕ → Option (List Term) → Bool → Option Place
behind_lo v None comma = None
behind_lo v (Some lo) comma = if comma then Some (at_hi v lo expr_start) else None

abbrev pub by_lo : List ℕ → ExprPlace → Mark → Option ExprPlace → Option Place
by_lo v e m (Some f) = Some (at_lo v f)
by_lo v e m None = behind_lo v (made_expr e) (same_kind m.kind kinds.Comma)

-- behind the second expression stands the sign that closes the act
abbrev pub behind_hi : List ℕ → List Term → Option (List Term) → Bool → Option Place
behind_hi v lo None closes = None
behind_hi v lo (Some hi) closes = if closes then Some (behind (within v lo hi)) else None

abbrev pub by_hi : List ℕ → List Term → ExprPlace → Mark → Option ExprPlace → Option Place
by_hi v lo e m (Some f) = Some (at_hi v lo f)
by_hi v lo e m None = behind_hi v lo (made_expr e) (same_kind m.kind kinds.Close)

-- the place behind a token in an act
unfoldable pub in_act : Place → Mark → Option Place
in_act at_act m = if same_kind m.kind kinds.Name then Some (at_verb m.text) else if same_kind m.kind kinds.Free then Some at_free else None
in_act at_free m = if same_kind m.kind kinds.Name then Some (behind (frees m.text)) else None
in_act (at_verb v) m =
    if same_kind m.kind kinds.Equal then Some (at_value v expr_start) else if same_kind m.kind kinds.In then Some (at_open v) else None
in_act (at_value v e) m = by_value v (in_expr e m)
in_act (at_open v) m = if same_kind m.kind kinds.Open then Some (at_lo v expr_start) else None
in_act (at_lo v e) m = by_lo v e m (in_expr e m)
in_act (at_hi v lo e) m = by_hi v lo e m (in_expr e m)
in_act (behind a) m = None

abbrev pub set_of : List ℕ → Option (List Term) → Option Act
set_of v None = None
set_of v (Some e) = Some (sets v e)

-- the act that is complete there
abbrev pub made : Place → Option Act
made at_act = None
made at_free = None
made (at_verb v) = None
made (at_value v e) = set_of v (made_expr e)
made (at_open v) = None
made (at_lo v e) = None
made (at_hi v lo e) = None
made (behind a) = Some a

-- ---- limits

-- each expression has at most fourteen terms
abbrev pub few_act : Act → Bool
few_act (sets v e) = few_terms e
few_act (within v lo hi) = few_terms lo && few_terms hi
few_act (frees v) = true

-- the same of what was read of an act, with the term that is read or is to come
abbrev pub few_there : Place → Bool
few_there at_act = true
few_there at_free = true
few_there (at_verb v) = true
few_there (at_value v e) = few_at e
few_there (at_open v) = true
few_there (at_lo v e) = few_at e
few_there (at_hi v lo e) = few_terms lo && few_at e
few_there (behind a) = few_act a

abbrev pub fits_acts : Which → Reading Place Act → Bool
fits_acts Terms r = list_all few_act r.done && (if r.has_ended then true else few_there r.place)
fits_acts which r = true

abbrev pub acts : Machine Place Act
acts = record { start = at_act; next = in_act; made = made; fits = fits_acts }

-- fourteen terms at most in each expression
abbrev pub act_limits : Keeping (List trees.Act)
act_limits Terms ys = list_all (has_at_most 14) (flat_map trees.act_expressions ys)
act_limits which ys = true

-- ---- what acts say

abbrev pub IsActValue : Act → trees.Act → Type 0
IsActValue (sets v e) (trees.Set var value) = (v ≡ var) × AllValues IsTermValue e value
IsActValue (within v lo hi) (trees.Within var least most) = (v ≡ var) × AllValues IsTermValue lo least × AllValues IsTermValue hi most
IsActValue (frees v) (trees.Free var) = v ≡ var
IsActValue a y = ⊥
