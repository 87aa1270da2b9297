-- Reading a constraint accepts what spells it and nothing else, and each place can be completed.
use Rattle.std.proofs.Common.{◌≡◌, ◌⊎◌, inl, inr, Bool, true, false, if◌then◌else◌, ◌&&◌, List, [], ◌∷◌, ◌++◌, Option, Some, None, refl, sym, ap, ◌∙◌, subst, append_assoc}
use Rattle.std.specs.Prelude.{⊤}
use Rattle.lang_specs.specs.declared.Sign.{Sign}
use Rattle.lang_specs.specs.declared.Sign.TheVariants as signs
use Rattle.lang_specs.specs.declared.Kind.TheVariants as kinds
use Rattle.lang_specs.specs.Marks.{Mark, the}
use Rattle.lang_specs.specs.Trees.{RowTree}
use Rattle.lang_specs.specs.Expressions.{IsSome, IsExpr, sign_mark, IsAllowed, IsRow}
use Rattle.lang_tokens.specs.Kinds.{same_kind}
use Rattle.lang_tokens.specs.LineFaults.{AreLiterals}
use Rattle.lang_tokens.proofs.LiteralMarks.{zero_text, nought, literals_front, literals_rest}
use Rattle.lang_tokens.proofs.LimitLemmas.{ArePlain, plain_append}
use Rattle.lang_tokens.proofs.JoinedLaws.{some_last, Laws, Values}
use Rattle.lang_tokens.proofs.Walks.{both, IsClean, is_the, walk, and_walk, walk_on, walk_step}
use Rattle.lang_rows.specs.Texts.{literal, Term, Row, IsRowValue}
use Rattle.lang_rows.specs.ExprMachine.{ExprPlace, expr_start, term, in_expr, made_expr}
use Rattle.lang_rows.specs.RowMachine.{Place, on_left, on_right, compares, behind_left, by_left, by_right, in_row, row_of, made, rows}
use Rattle.lang_rows.proofs.ExprLaws.{spell_terms, said_expr, expr_complete, expr_some, expr_more, expr_accepts, IsBehind, behind_expr, expr_finishes, expr_spells, expr_spelled, expr_valued}

abbrev pub spell_row : Row → List Mark
spell_row r = spell_terms r.left ++ sign_mark r.sign ∷ spell_terms r.right

-- what was read of a constraint
abbrev pub said_row : Place → List Mark
said_row (on_left e) = said_expr e
said_row (on_right left s e) = spell_terms left ++ sign_mark s ∷ said_expr e

if_next : {A : Type 0} (b : Bool) (x y : A) (o : Option A) → (if b then Some x else o) ≡ Some y → ((b ≡ true) × (x ≡ y)) ⊎ (o ≡ Some y)
if_next true x y o e = inl (refl, cc)
if_next false x y o e = inr e

pub behind_left_is : (o : Option (List Term)) (c : Option Sign) (q : Place) → behind_left o c ≡ Some q →
    (x : List Term) × (s : Sign) × (o ≡ Some x) × (c ≡ Some s) × (on_right x s expr_start ≡ q)
behind_left_is None c q e = absurd cc
behind_left_is (Some x) None q e = absurd cc
behind_left_is (Some x) (Some s) q e = (x, s, refl, refl, cc)

pub row_is : (left : List Term) (s : Sign) (o : Option (List Term)) (x : Row) → row_of left s o ≡ Some x →
    (right : List Term) × (o ≡ Some right) × ((record { left = left; sign = s; right = right }) ≡ x)
row_is left s None x e = absurd cc
row_is left s (Some right) x e = (right, refl, cc)

sign_is_behind : (s : Sign) → IsBehind (sign_mark s)
sign_is_behind signs.AtMost = (refl, refl, refl)
sign_is_behind signs.AtLeast = (refl, refl, refl)
sign_is_behind signs.Equal = (refl, refl, refl)
sign_is_behind signs.Less = (refl, refl, refl)
sign_is_behind signs.Greater = (refl, refl, refl)

nothing : Option Sign
nothing = None

module _ (strict : Bool) where
  -- a constraint has a term on both sides, and a sign that may stand here
  abbrev pub GoodRow : Row → Type 0
  GoodRow r = IsSome r.left × IsAllowed strict r.sign × IsSome r.right

  abbrev pub FinePlace : Place → Type 0
  FinePlace (on_left e) = ⊤
  FinePlace (on_right left s e) = IsSome left × IsAllowed strict s

  compares_by : (m : Mark) (s : Sign) → compares strict m ≡ Some s →
      ((same_kind m.kind kinds.AtMost ≡ true) × (signs.AtMost ≡ s)) ⊎ (((same_kind m.kind kinds.AtLeast ≡ true) × (signs.AtLeast ≡ s)) ⊎ (((same_kind m.kind kinds.Equal ≡ true) × (signs.Equal ≡ s))
      ⊎ ((((same_kind m.kind kinds.Less && strict) ≡ true) × (signs.Less ≡ s)) ⊎ (((same_kind m.kind kinds.Greater && strict) ≡ true) × (signs.Greater ≡ s)))))
  compares_by m s e =
      elim (if_next (same_kind m.kind kinds.AtMost) signs.AtMost s _ e) [
        | inl h ↦ inl h
        | inr e1 ↦ elim (if_next (same_kind m.kind kinds.AtLeast) signs.AtLeast s _ e1) [
          | inl h ↦ inr (inl h)
          | inr e2 ↦ elim (if_next (same_kind m.kind kinds.Equal) signs.Equal s _ e2) [
            | inl h ↦ inr (inr (inl h))
            | inr e3 ↦ elim (if_next (same_kind m.kind kinds.Less && strict) signs.Less s _ e3) [
              | inl h ↦ inr (inr (inr (inl h)))
              | inr e4 ↦ elim (if_next (same_kind m.kind kinds.Greater && strict) signs.Greater s None e4) [
                | inl h ↦ inr (inr (inr (inr h)))
                | inr e5 ↦ absurd cc
              ]
            ]
          ]
        ]
      ]

  compares_is : (m : Mark) (s : Sign) → IsClean m → compares strict m ≡ Some s → m ≡ sign_mark s
  compares_is m s c e =
      elim (compares_by m s e) [
        | inl h ↦ subst (λ z. m ≡ sign_mark z) h.1 (is_the m kinds.AtMost c refl h.0)
        | inr (inl h) ↦ subst (λ z. m ≡ sign_mark z) h.1 (is_the m kinds.AtLeast c refl h.0)
        | inr (inr (inl h)) ↦ subst (λ z. m ≡ sign_mark z) h.1 (is_the m kinds.Equal c refl h.0)
        | inr (inr (inr (inl h))) ↦ subst (λ z. m ≡ sign_mark z) h.1 (is_the m kinds.Less c refl (both (same_kind m.kind kinds.Less) strict h.0).0)
        | inr (inr (inr (inr h))) ↦ subst (λ z. m ≡ sign_mark z) h.1 (is_the m kinds.Greater c refl (both (same_kind m.kind kinds.Greater) strict h.0).0)
      ]

  compares_allowed : (m : Mark) (s : Sign) → compares strict m ≡ Some s → IsAllowed strict s
  compares_allowed m s e =
      elim (compares_by m s e) [
        | inl h ↦ subst (IsAllowed strict) h.1 tt
        | inr (inl h) ↦ subst (IsAllowed strict) h.1 tt
        | inr (inr (inl h)) ↦ subst (IsAllowed strict) h.1 tt
        | inr (inr (inr (inl h))) ↦ subst (IsAllowed strict) h.1 (both (same_kind m.kind kinds.Less) strict h.0).1
        | inr (inr (inr (inr h))) ↦ subst (IsAllowed strict) h.1 (both (same_kind m.kind kinds.Greater) strict h.0).1
      ]

  sign_compares : (s : Sign) → IsAllowed strict s → compares strict (sign_mark s) ≡ Some s
  sign_compares signs.AtMost h = refl
  sign_compares signs.AtLeast h = refl
  sign_compares signs.Equal h = refl
  sign_compares signs.Less h = rw h refl
  sign_compares signs.Greater h = rw h refl

  -- ---- what was read

  more_left : (e : ExprPlace) (q : Place) (m : Mark) (o : Option ExprPlace) → IsClean m → in_expr e m ≡ o → by_left strict e m o ≡ Some q → said_row q ≡ said_expr e ++ m ∷ []
  more_left e q m (Some f) c n h = let same : on_left f ≡ q = cc in subst (λ x. said_row x ≡ said_expr e ++ m ∷ []) same (expr_more e f m c n)
  more_left e q m None c n h =
      let b = behind_left_is (made_expr e) (compares strict m) q h in
      subst (λ x. said_row x ≡ said_expr e ++ m ∷ []) b.4 (ap (λ z. z ++ sign_mark b.1 ∷ []) (sym (expr_complete e b.0 b.2)) ∙ ap (λ z. said_expr e ++ z ∷ []) (sym (compares_is m b.1 c b.3)))

  more_right : (left : List Term) (s : Sign) (e : ExprPlace) (q : Place) (m : Mark) (o : Option ExprPlace) → IsClean m → in_expr e m ≡ o → by_right left s o ≡ Some q →
      said_row q ≡ said_row (on_right left s e) ++ m ∷ []
  more_right left s e q m (Some f) c n h =
      let same : on_right left s f ≡ q = cc in
      subst (λ x. said_row x ≡ said_row (on_right left s e) ++ m ∷ []) same
      (ap (λ z. spell_terms left ++ sign_mark s ∷ z) (expr_more e f m c n) ∙ sym (append_assoc (spell_terms left) (sign_mark s ∷ said_expr e) (m ∷ [])))
  more_right left s e q m None c n h = absurd cc

  pub row_more : (p q : Place) (m : Mark) → IsClean m → in_row strict p m ≡ Some q → said_row q ≡ said_row p ++ m ∷ []
  unfolding in_row
  row_more (on_left e) q m c h = more_left e q m (in_expr e m) c refl h
  row_more (on_right left s e) q m c h = more_right left s e q m (in_expr e m) c refl h

  fine_left : (e : ExprPlace) (q : Place) (m : Mark) (o : Option ExprPlace) → by_left strict e m o ≡ Some q → FinePlace q
  fine_left e q m (Some f) h = let same : on_left f ≡ q = cc in subst FinePlace same tt
  fine_left e q m None h =
      let b = behind_left_is (made_expr e) (compares strict m) q h in
      subst FinePlace b.4 (expr_some e b.0 b.2, compares_allowed m b.1 b.3)

  fine_right : (left : List Term) (s : Sign) (q : Place) (o : Option ExprPlace) → IsSome left × IsAllowed strict s → by_right left s o ≡ Some q → FinePlace q
  fine_right left s q (Some f) fine h = let same : on_right left s f ≡ q = cc in subst FinePlace same fine
  fine_right left s q None fine h = absurd cc

  pub row_stays : (p q : Place) (m : Mark) → FinePlace p → in_row strict p m ≡ Some q → FinePlace q
  unfolding in_row
  row_stays (on_left e) q m fine h = fine_left e q m (in_expr e m) h
  row_stays (on_right left s e) q m fine h = fine_right left s q (in_expr e m) fine h

  pub row_complete : (p : Place) (x : Row) → made p ≡ Some x → said_row p ≡ spell_row x
  row_complete (on_left e) x h = absurd cc
  row_complete (on_right left s e) x h =
      let r = row_is left s (made_expr e) x h in
      ap (λ z. spell_terms left ++ sign_mark s ∷ z) (expr_complete e r.0 r.1) ∙ ap spell_row r.2

  pub row_good : (p : Place) (x : Row) → FinePlace p → made p ≡ Some x → GoodRow x
  row_good (on_left e) x fine h = absurd cc
  row_good (on_right left s e) x fine h =
      let r = row_is left s (made_expr e) x h in subst GoodRow r.2 (fine.0, fine.1, expr_some e r.0 r.1)

  -- ---- what is spelled is taken

  lift_left : (e f : ExprPlace) (ms : List Mark) → walk in_expr e ms ≡ Some f → walk (in_row strict) (on_left e) ms ≡ Some (on_left f)
  unfolding walk and_walk in_row
  lift_left e f [] h = let same : e ≡ f = cc in ap (λ z. Some (on_left z)) same
  lift_left e f (m ∷ ms) h =
      elim (in_expr e m) as (λ o. and_walk o (λ u. walk in_expr u ms) ≡ Some f → and_walk (by_left strict e m o) (λ u. walk (in_row strict) u ms) ≡ Some (on_left f)) [
        | None ↦ λ k. absurd cc
        | Some g ↦ λ k. lift_left g f ms k
      ] h

  lift_right : (left : List Term) (s : Sign) (e f : ExprPlace) (ms : List Mark) → walk in_expr e ms ≡ Some f → walk (in_row strict) (on_right left s e) ms ≡ Some (on_right left s f)
  unfolding walk and_walk in_row
  lift_right left s e f [] h = let same : e ≡ f = cc in ap (λ z. Some (on_right left s z)) same
  lift_right left s e f (m ∷ ms) h =
      elim (in_expr e m) as (λ o. and_walk o (λ u. walk in_expr u ms) ≡ Some f → and_walk (by_right left s o) (λ u. walk (in_row strict) u ms) ≡ Some (on_right left s f)) [
        | None ↦ λ k. absurd cc
        | Some g ↦ λ k. lift_right left s g f ms k
      ] h

  takes_sign : (e : ExprPlace) (left : List Term) (s : Sign) → IsAllowed strict s → made_expr e ≡ Some left → in_row strict (on_left e) (sign_mark s) ≡ Some (on_right left s expr_start)
  unfolding in_row
  takes_sign e left s allowed h = rw (behind_expr e left (sign_mark s) (sign_is_behind s) h, h, sign_compares s allowed) refl

  pub row_accepts : (x : Row) → GoodRow x → (p : Place) × (walk (in_row strict) (on_left expr_start) (spell_row x) ≡ Some p) × (made p ≡ Some x)
  row_accepts x good =
      let l = expr_accepts x.left good.0 in
      let r = expr_accepts x.right good.2 in (
        on_right x.left x.sign r.0,
        walk_on (in_row strict) (on_left expr_start) (on_left l.0) (spell_terms x.left) (sign_mark x.sign ∷ spell_terms x.right) (lift_left expr_start l.0 (spell_terms x.left) l.1)
            ∙ walk_step (in_row strict) (on_left l.0) (on_right x.left x.sign expr_start) (sign_mark x.sign) (spell_terms x.right) (takes_sign l.0 x.left x.sign good.1 l.2)
            ∙ lift_right x.left x.sign expr_start r.0 (spell_terms x.right) r.1,
        ap (row_of x.left x.sign) r.2,
      )

  pub row_behind : (p : Place) (x : Row) (m : Mark) → IsBehind m → made p ≡ Some x → in_row strict p m ≡ None
  unfolding in_row
  row_behind (on_left e) x m b h = absurd cc
  row_behind (on_right left s e) x m b h = let r = row_is left s (made_expr e) x h in rw (behind_expr e r.0 m b r.1) refl

  -- ---- each place can be completed

  abbrev zero_expr : List Term
  zero_expr = term false (literal zero_text) ∷ []

  unfoldable pub row_finishes : (p : Place) → (more : List Mark) × (x : Row) × (said_row p ++ more ≡ spell_row x) × ArePlain more
  row_finishes (on_left e) =
      let f = expr_finishes e in (
        f.0 ++ the kinds.AtMost ∷ nought ∷ [],
        record { left = e.terms ++ f.1 ∷ []; sign = signs.AtMost; right = zero_expr },
        sym (append_assoc (said_expr e) f.0 (the kinds.AtMost ∷ nought ∷ [])) ∙ ap (λ z. z ++ the kinds.AtMost ∷ nought ∷ []) f.2,
        plain_append f.0 (the kinds.AtMost ∷ nought ∷ []) f.3 (refl, (refl, tt)),
      )
  row_finishes (on_right left s e) =
      let f = expr_finishes e in (
        f.0,
        record { left = left; sign = s; right = e.terms ++ f.1 ∷ [] },
        append_assoc (spell_terms left) (sign_mark s ∷ said_expr e) f.0 ∙ ap (λ z. spell_terms left ++ sign_mark s ∷ z) f.2,
        f.3,
      )

  pub finish_is_good : (p : Place) → FinePlace p → GoodRow (row_finishes p).1
  unfolding row_finishes
  finish_is_good (on_left e) fine = (some_last e.terms (expr_finishes e).1, tt, tt)
  finish_is_good (on_right left s e) fine = (fine.0, fine.1, some_last e.terms (expr_finishes e).1)

  unfoldable pub row_laws : Laws (rows strict) spell_row said_row GoodRow FinePlace
  row_laws = record {
    at_start = refl;
    one_more = row_more;
    complete = row_complete;
    start_fine = tt;
    stays_fine = row_stays;
    made_good = row_good;
    accepts = row_accepts;
    no_comma = λ p x e. row_behind p x (the kinds.Comma) (refl, refl, refl) e;
    no_end = λ p x e. row_behind p x (the kinds.EndLine) (refl, refl, refl) e;
    finishes = row_finishes;
    finish_good = finish_is_good;
  }

  -- ---- values

  row_spells : (r : Row) (y : RowTree) → GoodRow r → IsRowValue r y → IsRow strict (spell_row r) y
  row_spells r y good (left, sign, right) = (
    spell_terms r.left,
    spell_terms r.right,
    ap (λ s. spell_terms r.left ++ sign_mark s ∷ spell_terms r.right) sign,
    expr_spells r.left y.left good.0 left,
    subst (IsAllowed strict) sign good.1,
    expr_spells r.right y.right good.2 right,
  )

  row_spelled : (ms : List Mark) (y : RowTree) → IsRow strict ms y → (r : Row) × (ms ≡ spell_row r) × IsRowValue r y × GoodRow r
  row_spelled ms y (front, rest, p, h, allowed, k) =
      let l = expr_spelled front y.left h in
      let r = expr_spelled rest y.right k in (
        record { left = l.0; sign = y.sign; right = r.0 },
        p ∙ ap (λ z. z ++ sign_mark y.sign ∷ rest) l.1 ∙ ap (λ z. spell_terms l.0 ++ sign_mark y.sign ∷ z) r.1,
        (l.2, refl, r.2),
        (l.3, allowed, r.3),
      )

  row_valued : (r : Row) → GoodRow r → AreLiterals (spell_row r) → (y : RowTree) × IsRowValue r y
  row_valued r good h =
      let l = expr_valued r.left (literals_front (spell_terms r.left) (sign_mark r.sign ∷ spell_terms r.right) h) in
      let q = expr_valued r.right (literals_rest (spell_terms r.left) (sign_mark r.sign ∷ spell_terms r.right) h).1 in
      (record { left = l.0; sign = r.sign; right = q.0 }, (l.1, refl, q.1))

  pub row_values : Values spell_row (IsRow strict) IsRowValue GoodRow
  row_values = record { spells = row_spells; spelled = row_spelled; valued = row_valued }
