-- A line goes on, and keeps to a limit, exactly where what stands behind its first word does.
use Rattle.std.proofs.Common.{◌≡◌, ◌↔◌, inl, inr, Bool, true, List, [], ◌∷◌, ◌++◌, Some, sym, ap, ◌∙◌, subst}
use Rattle.std.specs.Prelude.{IsTrue}
use Rattle.lang_specs.specs.declared.Which.{Which}
use Rattle.lang_specs.specs.declared.Kind.{Kind}
use Rattle.lang_specs.specs.declared.Kind.TheVariants as kinds
use Rattle.lang_specs.specs.Marks.{Mark, the}
use Rattle.lang_specs.specs.FirstFault.{is_joint}
use Rattle.lang_specs.proofs.ListLemmas.{head_is, tail_is}
use Rattle.lang_specs.proofs.SplitLemmas.{apart}
use Rattle.lang_order.specs.declared.Place.{Place}
use Rattle.lang_order.specs.Statements.{first_word}
use Rattle.lang_order.specs.Order.{next}
use Rattle.lang_order.specs.LineLimits.{line_keeps, Counts, count, are_few}
use Rattle.lang_order.specs.Beginnings.{IsViableLine, IsViableLineWithin, MayFollow, MayFollowWithin, LineHasKept}
use Rattle.lang_order.specs.Bodies.{IsBodyBehind, BodyKeeps, HasKeptSo}
use Rattle.lang_order.proofs.FirstWords.{next_no_joint, next_no_end, word_keeps}

module _ (second : Bool) (p q : Place) (k : Kind) (d : next p k ≡ Some q) where
  not_empty : {A : Type 0} (ms : List Mark) → the k ∷ ms ≡ [] → A
  not_empty ms e = absurd (let b : ⊥ = cc in b)

  not_end : {A : Type 0} (ms : List Mark) → the k ∷ ms ≡ the kinds.EndText ∷ [] → A
  not_end ms e = absurd (next_no_end p q k d (ap (λ m. m.kind) (head_is (the k) (the kinds.EndText) ms [] e)))

  -- ---- a line that goes on

  body_follows : (ms : List Mark) → MayFollow second p (the k ∷ ms) → IsViableLine (IsBodyBehind second k) ms
  body_follows ms (inl e) = not_empty ms e
  body_follows ms (inr (inl (e, f))) = not_end ms f
  body_follows ms (inr (inr (tail, s, (inside, e, ((body, f, b), (r, g)))))) =
      let whole : the k ∷ (ms ++ tail) ≡ the (first_word s) ∷ (body ++ the kinds.EndLine ∷ []) = e ∙ ap (λ z. z ++ the kinds.EndLine ∷ []) f in (
        tail,
        s,
        (
          body,
          tail_is (the k) (the (first_word s)) (ms ++ tail) (body ++ the kinds.EndLine ∷ []) whole,
          (ap (λ m. m.kind) (sym (head_is (the k) (the (first_word s)) (ms ++ tail) (body ++ the kinds.EndLine ∷ []) whole)), b),
        ),
      )

  body_leads : (ms : List Mark) → IsViableLine (IsBodyBehind second k) ms → MayFollow second p (the k ∷ ms)
  body_leads ms (tail, s, (body, e, (f, b))) =
      inr (inr (tail, s, (the k ∷ body, ap (λ z. the k ∷ z) e, ((body, ap (λ z. the z ∷ body) (sym f), b), (q, subst (λ z. next p z ≡ Some q) (sym f) d)))))

  pub word_off : (ms : List Mark) → MayFollow second p (the k ∷ ms) ↔ IsViableLine (IsBodyBehind second k) ms
  word_off ms = (body_follows ms, body_leads ms)

  -- ---- a line that keeps to a limit

  abbrev BodyWithin : Which → List Mark → Type 0
  BodyWithin w ms = IsViableLineWithin (IsBodyBehind second k) (BodyKeeps w) ms

  within_body : (w : Which) (c : Counts) (ms : List Mark) → MayFollowWithin w second p c (the k ∷ ms) → IsTrue (are_few w (count c k)) × BodyWithin w ms
  within_body w c ms (inl e) = not_empty ms e
  within_body w c ms (inr (inl (e, f))) = not_end ms f
  within_body w c ms (inr (inr (tail, s, (inside, e, (((body, f, b), (r, g)), (keep, few)))))) =
      let whole : the k ∷ (ms ++ tail) ≡ the (first_word s) ∷ (body ++ the kinds.EndLine ∷ []) = e ∙ ap (λ z. z ++ the kinds.EndLine ∷ []) f in
      let word : first_word s ≡ k = ap (λ m. m.kind) (sym (head_is (the k) (the (first_word s)) (ms ++ tail) (body ++ the kinds.EndLine ∷ []) whole)) in
      let kept : line_keeps w body s ≡ true = sym (word_keeps w body s) ∙ ap (λ z. line_keeps w z s) (sym f) ∙ keep in (
        subst (λ z. IsTrue (are_few w (count c z))) word few,
        (tail, s, (body, tail_is (the k) (the (first_word s)) (ms ++ tail) (body ++ the kinds.EndLine ∷ []) whole, ((word, b), kept))),
      )

  body_within : (w : Which) (c : Counts) (ms : List Mark) → IsTrue (are_few w (count c k)) → BodyWithin w ms → MayFollowWithin w second p c (the k ∷ ms)
  body_within w c ms few (tail, s, (body, e, ((f, b), keep))) =
      let kept : line_keeps w (the k ∷ body) s ≡ true = ap (λ z. line_keeps w (the z ∷ body) s) (sym f) ∙ word_keeps w body s ∙ keep in
      inr (inr (
        tail,
        s,
        (
          the k ∷ body,
          ap (λ z. the k ∷ z) e,
          (((body, ap (λ z. the z ∷ body) (sym f), b), (q, subst (λ z. next p z ≡ Some q) (sym f) d)), (kept, subst (λ z. IsTrue (are_few w (count c z))) (sym f) few)),
        ),
      ))

  abbrev BodyHasKept : Which → List Mark → Type 0
  BodyHasKept w ms = HasKeptSo (IsBodyBehind second k) (BodyKeeps w) ms

  joint_in : (w : Which) (c : Counts) (ms front : List Mark) (joint : Mark) → the k ∷ ms ≡ front ++ joint ∷ [] → IsTrue (is_joint joint.kind) →
      MayFollowWithin w second p c front → IsTrue (are_few w (count c k)) × BodyHasKept w ms
  joint_in w c ms [] joint e j h =
      apart (sym j ∙ ap (λ m. is_joint m.kind) (sym (head_is (the k) joint ms [] e)) ∙ next_no_joint p q k d)
  joint_in w c ms (m ∷ front) joint e j h =
      let first = head_is (the k) m ms (front ++ joint ∷ []) e in
      let b = within_body w c front (subst (λ z. MayFollowWithin w second p c (z ∷ front)) (sym first) h) in
      (b.0, inr (record { front = front; joint = joint; parts = tail_is (the k) m ms (front ++ joint ∷ []) e; joins = j; before = b.1 }))

  kept_in_body : (w : Which) (c : Counts) (ms : List Mark) → LineHasKept w second p c (the k ∷ ms) → IsTrue (are_few w (count c k)) × BodyHasKept w ms
  kept_in_body w c ms (inl h) = let b = within_body w c ms h in (b.0, inl b.1)
  kept_in_body w c ms (inr j) = joint_in w c ms j.front j.joint j.parts j.joins j.before

  body_has_kept : (w : Which) (c : Counts) (ms : List Mark) → IsTrue (are_few w (count c k)) × BodyHasKept w ms → LineHasKept w second p c (the k ∷ ms)
  body_has_kept w c ms (few, inl h) = inl (body_within w c ms few h)
  body_has_kept w c ms (few, inr j) = inr (record {
    front = the k ∷ j.front;
    joint = j.joint;
    parts = ap (λ z. the k ∷ z) j.parts;
    joins = j.joins;
    before = body_within w c j.front few j.before;
  })

  pub word_off_kept : (w : Which) (c : Counts) (ms : List Mark) → LineHasKept w second p c (the k ∷ ms) ↔ IsTrue (are_few w (count c k)) × BodyHasKept w ms
  word_off_kept w c ms = (kept_in_body w c ms, body_has_kept w c ms)
