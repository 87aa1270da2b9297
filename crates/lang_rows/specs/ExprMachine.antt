-- Reading an expression.
use Rattle.std.specs.Prelude.{ℕ, suc, Bool, true, false, not, ◌&&◌, if◌then◌else◌, nat_le, List, [], ◌∷◌, ◌++◌, length, Option, Some, None}
use Rattle.lang_specs.specs.declared.Kind.TheVariants as kinds
use Rattle.lang_specs.specs.Marks.{Mark}
use Rattle.lang_specs.specs.Limits.{has_at_most}
use Rattle.lang_tokens.specs.Kinds.{same_kind}
use Rattle.lang_rows.specs.Texts.{Factor, literal, scaled, plain, Term}

-- what an expression wants next, and what stands before it in the term
pub data TermPlace : Type 0 where
  at_term : Bool → TermPlace
  at_number : Bool → List ℕ → TermPlace
  at_times : Bool → List ℕ → TermPlace
  at_named : Term → TermPlace

-- the terms before, and the place in the next one
pub record ExprPlace : Type 0 where
  pub terms : List Term
  pub place : TermPlace

abbrev pub expr_start : ExprPlace
expr_start = record { terms = []; place = at_term false }

abbrev pub term : Bool → Factor → Term
term neg f = record { neg = neg; factor = f }

abbrev pub is_empty : List Term → Bool
is_empty [] = true
is_empty (t ∷ ts) = false

-- the place behind a token in a term; first says that no term stands before it
unfoldable pub in_term : Bool → TermPlace → Mark → Option TermPlace
in_term first (at_term neg) m =
    if same_kind m.kind kinds.Number then Some (at_number neg m.text)
    else if same_kind m.kind kinds.Name then Some (at_named (term neg (plain m.text)))
    else if same_kind m.kind kinds.Minus && (first && not neg) then Some (at_term true)
    else None
in_term first (at_number neg l) m = if same_kind m.kind kinds.Times then Some (at_times neg l) else None
in_term first (at_times neg l) m = if same_kind m.kind kinds.Name then Some (at_named (term neg (scaled l m.text))) else None
in_term first (at_named t) m = None

-- the term that is complete there
abbrev pub made_term : TermPlace → Option Term
made_term (at_term neg) = None
made_term (at_number neg l) = Some (term neg (literal l))
made_term (at_times neg l) = None
made_term (at_named t) = Some t

-- a sign that joins a next term to those before, and whether that one is taken away
abbrev pub joins : Mark → Option Bool
joins m = if same_kind m.kind kinds.Plus then Some false else if same_kind m.kind kinds.Minus then Some true else None

abbrev pub behind_term : List Term → Option Term → Option Bool → Option ExprPlace
behind_term terms None j = None
behind_term terms (Some t) None = None
behind_term terms (Some t) (Some neg) = Some (record { terms = terms ++ t ∷ []; place = at_term neg })

abbrev pub by_term : ExprPlace → Mark → Option TermPlace → Option ExprPlace
by_term e m (Some p) = Some (record { terms = e.terms; place = p })
by_term e m None = behind_term e.terms (made_term e.place) (joins m)

-- the place behind a token in an expression
abbrev pub in_expr : ExprPlace → Mark → Option ExprPlace
in_expr e m = by_term e m (in_term (is_empty e.terms) e.place m)

abbrev pub made_of : List Term → Option Term → Option (List Term)
made_of terms None = None
made_of terms (Some t) = Some (terms ++ t ∷ [])

-- the expression that is complete there
abbrev pub made_expr : ExprPlace → Option (List Term)
made_expr e = made_of e.terms (made_term e.place)

-- ---- fourteen terms at most

abbrev pub few_terms : List Term → Bool
few_terms ts = has_at_most 14 ts

-- with the term that is read or is to come
abbrev pub few_at : ExprPlace → Bool
few_at e = nat_le (suc (length e.terms)) 14
