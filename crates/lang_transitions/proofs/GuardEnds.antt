-- Constraints have no `set`, and behind the end of their line nothing stands.
use Rattle.std.proofs.Common.{◌≡◌, ℕ, Bool, true, false, if◌then◌else◌, List, [], ◌∷◌, ◌++◌, Option, Some, None, refl, sym, ap, ◌∙◌, subst}
use Rattle.lang_specs.specs.declared.Kind.TheVariants.{Set, EndLine}
use Rattle.lang_specs.specs.Marks.{Mark, the}
use Rattle.lang_tokens.specs.Kinds.{same_kind}
use Rattle.lang_tokens.specs.Machines.{Reading, start_of, behind_item, in_item, next}
use Rattle.lang_tokens.proofs.Walks.{same_kind-true}
use Rattle.lang_rows.specs.Texts.{Term, Row}
use Rattle.lang_rows.specs.ExprMachine.{TermPlace, at_term, at_number, at_times, at_named, ExprPlace, is_empty, in_term, made_term, joins, behind_term, by_term, in_expr, made_expr}
use Rattle.lang_rows.specs.RowMachine.{Place, on_left, on_right, compares, behind_left, by_left, by_right, in_row, made, rows, State, at_first, behind_true, true_ended, in_rows, go_on, next_row}

abbrev R : Type 0
R = Reading Place Row

-- a mark that no constraint has
record IsApart (strict : Bool) (m : Mark) : Type 0 where
  pub no_term : (first : Bool) (p : TermPlace) → in_term first p m ≡ None
  pub no_joint : joins m ≡ None
  pub no_sign : compares strict m ≡ None

no_next : (terms : List Term) (o : Option Term) → behind_term terms o None ≡ None
no_next terms None = refl
no_next terms (Some t) = refl

no_right : (o : Option (List Term)) → behind_left o None ≡ None
no_right None = refl
no_right (Some x) = refl

module _ (strict : Bool) where
  no_expr : (e : ExprPlace) (m : Mark) → IsApart strict m → in_expr e m ≡ None
  no_expr e m h =
      ap (by_term e m) (h.no_term (is_empty e.terms) e.place) ∙ ap (behind_term e.terms (made_term e.place)) h.no_joint ∙ no_next e.terms (made_term e.place)

  no_row : (p : Place) (m : Mark) → IsApart strict m → in_row strict p m ≡ None
  unfolding in_row
  no_row (on_left e) m h = ap (by_left strict e m) (no_expr e m h) ∙ ap (behind_left (made_expr e)) h.no_sign ∙ no_right (made_expr e)
  no_row (on_right left s e) m h = ap (by_right left s) (no_expr e m h)

  -- ---- `set`

  set_term : (text : List ℕ) (first : Bool) (p : TermPlace) → in_term first p (record { kind = Set; text = text }) ≡ None
  unfolding in_term
  set_term text first (at_term neg) = refl
  set_term text first (at_number neg l) = refl
  set_term text first (at_times neg l) = refl
  set_term text first (at_named t) = refl

  set_apart : (text : List ℕ) → IsApart strict (record { kind = Set; text = text })
  set_apart text = record { no_term = set_term text; no_joint = refl; no_sign = refl }

  set_behind : (text : List ℕ) (done : List Row) (o : Option Row) → behind_item (rows strict) done (record { kind = Set; text = text }) o ≡ None
  set_behind text done None = refl
  set_behind text done (Some x) = refl

  set_rows : (text : List ℕ) (r : R) → next (rows strict) r (record { kind = Set; text = text }) ≡ None
  set_rows text r =
      elim r.has_ended as (λ b. (if b then None else in_item (rows strict) r (record { kind = Set; text = text }) (in_row strict r.place (record { kind = Set; text = text }))) ≡ None) [
        | true ↦ refl
        | false ↦ ap (in_item (rows strict) r (record { kind = Set; text = text })) (no_row r.place (record { kind = Set; text = text }) (set_apart text)) ∙ set_behind text r.done (made r.place)
      ]

  set_state : (text : List ℕ) (s : State) → next_row strict s (record { kind = Set; text = text }) ≡ None
  unfolding next_row
  set_state text at_first = ap go_on (set_rows text (start_of (rows strict)))
  set_state text behind_true = refl
  set_state text true_ended = refl
  set_state text (in_rows r) = ap go_on (set_rows text r)

  pub no_set : (s : State) (m : Mark) → same_kind m.kind Set ≡ true → next_row strict s m ≡ None
  no_set s m e = subst (λ k. next_row strict s (record { kind = k; text = m.text }) ≡ None) (sym (same_kind-true m.kind Set e)) (set_state m.text s)

  -- ---- the end of the line

  end_term : (first : Bool) (p : TermPlace) → in_term first p (the EndLine) ≡ None
  unfolding in_term
  end_term first (at_term neg) = refl
  end_term first (at_number neg l) = refl
  end_term first (at_times neg l) = refl
  end_term first (at_named t) = refl

  end_apart : IsApart strict (the EndLine)
  end_apart = record { no_term = end_term; no_joint = refl; no_sign = refl }

  end_behind : (done : List Row) (o : Option Row) (u : R) → behind_item (rows strict) done (the EndLine) o ≡ Some u → u.has_ended ≡ true
  end_behind done None u e = absurd cc
  end_behind done (Some x) u e =
      let same : record { done = done ++ x ∷ []; place = (rows strict).start; has_ended = true } ≡ u = cc in ap (λ (z : R). z.has_ended) (sym same)

  end_rows : (r u : R) → next (rows strict) r (the EndLine) ≡ Some u → u.has_ended ≡ true
  end_rows r u e =
      elim r.has_ended as (λ b. (if b then None else in_item (rows strict) r (the EndLine) (in_row strict r.place (the EndLine))) ≡ Some u → u.has_ended ≡ true) [
        | true ↦ λ k. absurd cc
        | false ↦ λ k. end_behind r.done (made r.place) u (sym (ap (in_item (rows strict) r (the EndLine)) (no_row r.place (the EndLine) end_apart)) ∙ k)
      ] e

  nothing_on : (r : R) (m : Mark) → r.has_ended ≡ true → next (rows strict) r m ≡ None
  nothing_on r m e = ap (λ b. if b then None else in_item (rows strict) r m (in_row strict r.place m)) e

  ended_by : (r : R) (u : State) (m : Mark) → go_on (next (rows strict) r (the EndLine)) ≡ Some u → next_row strict u m ≡ None
  unfolding next_row
  ended_by r u m e =
      elim (next (rows strict) r (the EndLine)) as (λ o. next (rows strict) r (the EndLine) ≡ o → go_on o ≡ Some u → next_row strict u m ≡ None) [
        | None ↦ λ h k. absurd cc
        | Some v ↦ λ h k.
            let same : in_rows v ≡ u = cc in
            subst (λ z. next_row strict z m ≡ None) same (ap go_on (nothing_on v m (end_rows r v h)))
      ] refl e

  pub end_stops : (s u : State) → next_row strict s (the EndLine) ≡ Some u → (m : Mark) → next_row strict u m ≡ None
  unfolding next_row
  end_stops at_first u e m = ended_by (start_of (rows strict)) u m e
  end_stops behind_true u e m = let same : true_ended ≡ u = cc in subst (λ z. next_row strict z m ≡ None) same refl
  end_stops true_ended u e m = absurd cc
  end_stops (in_rows r) u e m = ended_by r u m e
