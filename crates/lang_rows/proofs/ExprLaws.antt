-- Reading an expression accepts what spells it and nothing else, and each place can be completed.
use Rattle.std.proofs.Common.{◌≡◌, ◌⊎◌, inl, inr, ℕ, suc, ◌≤◌, length, arith, Bool, true, false, if◌then◌else◌, ◌&&◌, not, List, [], ◌∷◌, ◌++◌, Option, Some, None, refl, sym, ap, ◌∙◌, subst, append_assoc}
use Rattle.std.specs.List.{flat_map}
use Rattle.std.proofs.lemmas.List.{append-nil, flat_map_more, length-append}
use Rattle.std.proofs.lemmas.List.Concat.{flat_map-cons}
use Rattle.poly_specs.specs.Fractions.{Fraction}
use Rattle.lang_specs.specs.declared.Kind.{Kind}
use Rattle.lang_specs.specs.declared.Kind.TheVariants as kinds
use Rattle.lang_specs.specs.Marks.{Mark, the, a_name, a_number}
use Rattle.lang_specs.specs.Trees as trees
use Rattle.lang_specs.specs.Expressions.{IsSome, minus_if, minus_or_plus, one, IsFactor, AreMoreTerms, IsExpr}
use Rattle.lang_tokens.specs.Kinds.{same_kind}
use Rattle.lang_tokens.specs.Machines.{AllValues}
use Rattle.lang_tokens.specs.LineFaults.{AreLiterals}
use Rattle.lang_tokens.proofs.LiteralMarks.{zero_text, nought, literal_value, literals_front, literals_rest}
use Rattle.lang_tokens.proofs.LimitLemmas.{ArePlain}
use Rattle.lang_tokens.proofs.JoinedLaws.{some_last}
use Rattle.lang_tokens.proofs.Walks.{both, IsClean, is_the, is_a_name, is_a_number, if_some, if_either, walk, and_walk, walk_on, walk_step}
use Rattle.lang_rows.specs.Texts.{Factor, literal, scaled, plain, Term, IsFactorValue, IsTermValue}
use Rattle.lang_rows.specs.ExprMachine.{TermPlace, at_term, at_number, at_times, at_named, ExprPlace, expr_start, term, is_empty, in_term, made_term, joins, behind_term, by_term, in_expr, made_of, made_expr}

-- ---- how expressions are spelled

abbrev pub spell_factor : Factor → List Mark
spell_factor (literal l) = a_number l ∷ []
spell_factor (scaled l v) = a_number l ∷ the kinds.Times ∷ a_name v ∷ []
spell_factor (plain v) = a_name v ∷ []

-- what stands before a term, behind these
abbrev pub lead : List Term → Bool → List Mark
lead [] neg = minus_if neg
lead (t ∷ ts) neg = minus_or_plus neg ∷ []

abbrev pub later_term : Term → List Mark
later_term t = minus_or_plus t.neg ∷ spell_factor t.factor

abbrev pub spell_terms : List Term → List Mark
spell_terms [] = []
spell_terms (t ∷ ts) = (minus_if t.neg ++ spell_factor t.factor) ++ flat_map later_term ts

-- ---- what was read

abbrev pub said_term : List Term → TermPlace → List Mark
said_term terms (at_term neg) = lead terms neg
said_term terms (at_number neg l) = lead terms neg ++ a_number l ∷ []
said_term terms (at_times neg l) = lead terms neg ++ a_number l ∷ the kinds.Times ∷ []
said_term terms (at_named t) = lead terms t.neg ++ spell_factor t.factor

abbrev pub said_expr : ExprPlace → List Mark
said_expr e = spell_terms e.terms ++ said_term e.terms e.place

either_of_three : {A : Type 0} (a b d : Bool) (x y z w : A) → (if a then Some x else if b then Some y else if d then Some z else None) ≡ Some w →
    ((a ≡ true) × (x ≡ w)) ⊎ (((b ≡ true) × (y ≡ w)) ⊎ ((d ≡ true) × (z ≡ w)))
either_of_three true b d x y z w e = inl (refl, cc)
either_of_three false true d x y z w e = inr (inl (refl, cc))
either_of_three false false true x y z w e = inr (inr (refl, cc))
either_of_three false false false x y z w e = absurd cc

leading : (terms : List Term) (neg : Bool) (m : Mark) → m ≡ the kinds.Minus → (is_empty terms && not neg) ≡ true → lead terms true ≡ lead terms neg ++ m ∷ []
leading [] false m is e = ap (λ x. x ∷ []) (sym is)
leading [] true m is e = absurd cc
leading (t ∷ ts) neg m is e = absurd cc

said_in_term : (terms : List Term) (p : TermPlace) (m : Mark) (q : TermPlace) → IsClean m → in_term (is_empty terms) p m ≡ Some q → said_term terms q ≡ said_term terms p ++ m ∷ []
unfolding in_term
said_in_term terms (at_term neg) m q c e =
    elim (either_of_three (same_kind m.kind kinds.Number) (same_kind m.kind kinds.Name) (same_kind m.kind kinds.Minus && (is_empty terms && not neg)) (at_number neg m.text) (at_named (term neg (plain m.text))) (at_term true) q e) [
      | inl h ↦ subst (λ x. said_term terms x ≡ lead terms neg ++ m ∷ []) h.1 (ap (λ x. lead terms neg ++ x ∷ []) (sym (is_a_number m h.0)))
      | inr (inl h) ↦ subst (λ x. said_term terms x ≡ lead terms neg ++ m ∷ []) h.1 (ap (λ x. lead terms neg ++ x ∷ []) (sym (is_a_name m h.0)))
      | inr (inr h) ↦
          let tests = both (same_kind m.kind kinds.Minus) (is_empty terms && not neg) h.0 in
          subst (λ x. said_term terms x ≡ lead terms neg ++ m ∷ []) h.1 (leading terms neg m (is_the m kinds.Minus c refl tests.0) tests.1)
    ]
said_in_term terms (at_number neg l) m q c e =
    let h = if_some (same_kind m.kind kinds.Times) (at_times neg l) q e in
    subst (λ x. said_term terms x ≡ (lead terms neg ++ a_number l ∷ []) ++ m ∷ []) h.1
    (ap (λ x. lead terms neg ++ a_number l ∷ x ∷ []) (sym (is_the m kinds.Times c refl h.0)) ∙ sym (append_assoc (lead terms neg) (a_number l ∷ []) (m ∷ [])))
said_in_term terms (at_times neg l) m q c e =
    let h = if_some (same_kind m.kind kinds.Name) (at_named (term neg (scaled l m.text))) q e in
    subst (λ x. said_term terms x ≡ (lead terms neg ++ a_number l ∷ the kinds.Times ∷ []) ++ m ∷ []) h.1
    (ap (λ x. lead terms neg ++ a_number l ∷ the kinds.Times ∷ x ∷ []) (sym (is_a_name m h.0)) ∙ sym (append_assoc (lead terms neg) (a_number l ∷ the kinds.Times ∷ []) (m ∷ [])))
said_in_term terms (at_named t) m q c e = absurd cc

-- an expression with one term more
terms_more : (terms : List Term) (t : Term) → spell_terms (terms ++ t ∷ []) ≡ spell_terms terms ++ (lead terms t.neg ++ spell_factor t.factor)
terms_more [] t = append-nil (minus_if t.neg ++ spell_factor t.factor)
terms_more (x ∷ xs) t =
    let first : List Mark = minus_if x.neg ++ spell_factor x.factor in
    let more : flat_map later_term (xs ++ t ∷ []) ≡ flat_map later_term xs ++ later_term t = sym (flat_map_more later_term [] xs t) in
    ap (λ ms. first ++ ms) more ∙ sym (append_assoc first (flat_map later_term xs) (later_term t))

-- what stands at a complete term is the term
said_made : (terms : List Term) (p : TermPlace) (t : Term) → made_term p ≡ Some t → said_term terms p ≡ lead terms t.neg ++ spell_factor t.factor
said_made terms (at_term neg) t e = absurd cc
said_made terms (at_number neg l) t e = let same : record { neg = neg; factor = literal l } ≡ t = cc in ap (λ (x : Term). lead terms x.neg ++ spell_factor x.factor) same
said_made terms (at_times neg l) t e = absurd cc
said_made terms (at_named u) t e = let same : u ≡ t = cc in ap (λ (x : Term). lead terms x.neg ++ spell_factor x.factor) same

said_terms : (e : ExprPlace) (t : Term) → made_term e.place ≡ Some t → said_expr e ≡ spell_terms (e.terms ++ t ∷ [])
said_terms e t h = ap (λ z. spell_terms e.terms ++ z) (said_made e.terms e.place t h) ∙ sym (terms_more e.terms t)

made_is : (terms : List Term) (o : Option Term) (x : List Term) → made_of terms o ≡ Some x → (t : Term) × (o ≡ Some t) × (terms ++ t ∷ [] ≡ x)
made_is terms None x e = absurd cc
made_is terms (Some t) x e = (t, refl, cc)

pub expr_complete : (e : ExprPlace) (x : List Term) → made_expr e ≡ Some x → said_expr e ≡ spell_terms x
expr_complete e x h = let m = made_is e.terms (made_term e.place) x h in said_terms e m.0 m.1 ∙ ap spell_terms m.2

-- what is complete has a term
pub expr_some : (e : ExprPlace) (x : List Term) → made_expr e ≡ Some x → IsSome x
expr_some e x h = let m = made_is e.terms (made_term e.place) x h in subst IsSome m.2 (some_last e.terms m.0)

lead_behind : (terms : List Term) (t : Term) (neg : Bool) → lead (terms ++ t ∷ []) neg ≡ minus_or_plus neg ∷ []
lead_behind [] t neg = refl
lead_behind (x ∷ xs) t neg = refl

joins_is : (m : Mark) (neg : Bool) → IsClean m → joins m ≡ Some neg → m ≡ minus_or_plus neg
joins_is m neg c e =
    elim (if_either (same_kind m.kind kinds.Plus) (same_kind m.kind kinds.Minus) false true neg e) [
      | inl h ↦ subst (λ b. m ≡ minus_or_plus b) h.1 (is_the m kinds.Plus c refl h.0)
      | inr h ↦ subst (λ b. m ≡ minus_or_plus b) h.1 (is_the m kinds.Minus c refl h.0)
    ]

behind_is : (terms : List Term) (o : Option Term) (j : Option Bool) (f : ExprPlace) → behind_term terms o j ≡ Some f →
    (t : Term) × (neg : Bool) × (o ≡ Some t) × (j ≡ Some neg) × ((record { terms = terms ++ t ∷ []; place = at_term neg }) ≡ f)
behind_is terms None j f e = absurd cc
behind_is terms (Some t) None f e = absurd cc
behind_is terms (Some t) (Some neg) f e = (t, neg, refl, refl, cc)

more_by : (e f : ExprPlace) (m : Mark) (o : Option TermPlace) → IsClean m → in_term (is_empty e.terms) e.place m ≡ o → by_term e m o ≡ Some f → said_expr f ≡ said_expr e ++ m ∷ []
more_by e f m (Some p) c n h =
    let same : record { terms = e.terms; place = p } ≡ f = cc in
    subst (λ x. said_expr x ≡ said_expr e ++ m ∷ []) same
    (ap (λ z. spell_terms e.terms ++ z) (said_in_term e.terms e.place m p c n) ∙ sym (append_assoc (spell_terms e.terms) (said_term e.terms e.place) (m ∷ [])))
more_by e f m None c n h =
    let b = behind_is e.terms (made_term e.place) (joins m) f h in
    subst (λ x. said_expr x ≡ said_expr e ++ m ∷ []) b.4
    (ap (λ z. spell_terms (e.terms ++ b.0 ∷ []) ++ z) (lead_behind e.terms b.0 b.1 ∙ ap (λ z. z ∷ []) (sym (joins_is m b.1 c b.3))) ∙ ap (λ z. z ++ m ∷ []) (sym (said_terms e b.0 b.2)))

pub expr_more : (e f : ExprPlace) (m : Mark) → IsClean m → in_expr e m ≡ Some f → said_expr f ≡ said_expr e ++ m ∷ []
expr_more e f m c h = more_by e f m (in_term (is_empty e.terms) e.place m) c refl h

-- ---- what is spelled is taken

-- the place behind a term
abbrev complete : Term → TermPlace
complete t = elim t.factor as (λ f. TermPlace) [ literal l ↦ at_number t.neg l | scaled l v ↦ at_named t | plain v ↦ at_named t ]

abbrev at : List Term → TermPlace → ExprPlace
at terms p = record { terms = terms; place = p }

takes_factor : (f : Factor) (neg : Bool) (terms : List Term) (rest : List Mark) → walk in_expr (at terms (at_term neg)) (spell_factor f ++ rest) ≡ walk in_expr (at terms (complete (term neg f))) rest
unfolding walk and_walk in_term
takes_factor (literal l) neg terms rest = refl
takes_factor (scaled l v) neg terms rest = refl
takes_factor (plain v) neg terms rest = refl

takes_joint : (f : Factor) (neg next : Bool) (terms : List Term) (rest : List Mark) →
    walk in_expr (at terms (complete (term neg f))) (minus_or_plus next ∷ rest) ≡ walk in_expr (at (terms ++ term neg f ∷ []) (at_term next)) rest
unfolding walk and_walk in_term
takes_joint (literal l) neg true terms rest = refl
takes_joint (literal l) neg false terms rest = refl
takes_joint (scaled l v) neg true terms rest = refl
takes_joint (scaled l v) neg false terms rest = refl
takes_joint (plain v) neg true terms rest = refl
takes_joint (plain v) neg false terms rest = refl

made_complete : (t : Term) → made_term (complete t) ≡ Some t
made_complete t = elim t.factor as (λ f. made_term (complete (term t.neg f)) ≡ Some (term t.neg f)) [ literal l ↦ refl | scaled l v ↦ refl | plain v ↦ refl ]

-- the terms of an expression, with the last one apart
record Apart (terms : List Term) : Type 0 where
  pub before : List Term
  pub last : Term
  pub whole : before ++ last ∷ [] ≡ terms

takes_later : (ts : List Term) (t : Term) (terms : List Term) →
    (a : Apart (terms ++ t ∷ ts)) × (walk in_expr (at terms (complete t)) (flat_map later_term ts) ≡ Some (at a.before (complete a.last)))
unfolding walk
takes_later [] t terms = (record { before = terms; last = t; whole = refl }, refl)
takes_later (u ∷ ts) t terms =
    let more = terms ++ t ∷ [] in
    let r = takes_later ts u more in (
      record { before = r.0.before; last = r.0.last; whole = r.0.whole ∙ append_assoc terms (t ∷ []) (u ∷ ts) },
      ap (walk in_expr (at terms (complete t))) (flat_map-cons later_term u ts)
          ∙ takes_joint t.factor t.neg u.neg terms (spell_factor u.factor ++ flat_map later_term ts)
          ∙ takes_factor u.factor u.neg more (flat_map later_term ts)
          ∙ r.1,
    )

takes_lead : (neg : Bool) (rest : List Mark) → walk in_expr expr_start (minus_if neg ++ rest) ≡ walk in_expr (at [] (at_term neg)) rest
unfolding walk and_walk in_term
takes_lead true rest = refl
takes_lead false rest = refl

pub expr_accepts : (x : List Term) → IsSome x → (e : ExprPlace) × (walk in_expr expr_start (spell_terms x) ≡ Some e) × (made_expr e ≡ Some x)
expr_accepts [] h = absurd h
expr_accepts (t ∷ ts) h =
    let r = takes_later ts t [] in
    let parts = append_assoc (minus_if t.neg) (spell_factor t.factor) (flat_map later_term ts) in (
      at r.0.before (complete r.0.last),
      ap (walk in_expr expr_start) parts ∙ takes_lead t.neg (spell_factor t.factor ++ flat_map later_term ts) ∙ takes_factor t.factor t.neg [] (flat_map later_term ts) ∙ r.1,
      ap (made_of r.0.before) (made_complete r.0.last) ∙ ap (λ xs. Some xs) r.0.whole,
    )

-- ---- what stands behind an expression does not go on with it

-- a mark that no expression has behind a complete term
abbrev pub IsBehind : Mark → Type 0
IsBehind m = (same_kind m.kind kinds.Plus ≡ false) × (same_kind m.kind kinds.Minus ≡ false) × (same_kind m.kind kinds.Times ≡ false)

no_term : (first : Bool) (p : TermPlace) (t : Term) (m : Mark) → same_kind m.kind kinds.Times ≡ false → made_term p ≡ Some t → in_term first p m ≡ None
unfolding in_term
no_term first (at_term neg) t m h e = absurd cc
no_term first (at_number neg l) t m h e = rw h refl
no_term first (at_times neg l) t m h e = absurd cc
no_term first (at_named u) t m h e = refl

pub behind_expr : (e : ExprPlace) (x : List Term) (m : Mark) → IsBehind m → made_expr e ≡ Some x → in_expr e m ≡ None
behind_expr e x m h made =
    let t = made_is e.terms (made_term e.place) x made in rw (no_term (is_empty e.terms) e.place t.0 m h.2 t.1, t.1, h.0, h.1) refl

-- ---- each place can be completed

pub expr_finishes : (e : ExprPlace) → (more : List Mark) × (t : Term) × (said_expr e ++ more ≡ spell_terms (e.terms ++ t ∷ [])) × ArePlain more
expr_finishes e =
    elim e.place as (λ p. (more : List Mark) × (t : Term) × ((spell_terms e.terms ++ said_term e.terms p) ++ more ≡ spell_terms (e.terms ++ t ∷ [])) × ArePlain more) [
      | at_term neg ↦ (
        nought ∷ [],
        term neg (literal zero_text),
        append_assoc (spell_terms e.terms) (lead e.terms neg) (nought ∷ []) ∙ sym (terms_more e.terms (term neg (literal zero_text))),
        (refl, tt),
      )
      | at_number neg l ↦ (
        [],
        term neg (literal l),
        append-nil (spell_terms e.terms ++ (lead e.terms neg ++ a_number l ∷ [])) ∙ sym (terms_more e.terms (term neg (literal l))),
        tt,
      )
      | at_times neg l ↦ (
        a_name (120 ∷ []) ∷ [],
        term neg (scaled l (120 ∷ [])),
        append_assoc (spell_terms e.terms) (lead e.terms neg ++ a_number l ∷ the kinds.Times ∷ []) (a_name (120 ∷ []) ∷ [])
            ∙ ap (λ z. spell_terms e.terms ++ z) (append_assoc (lead e.terms neg) (a_number l ∷ the kinds.Times ∷ []) (a_name (120 ∷ []) ∷ []))
            ∙ sym (terms_more e.terms (term neg (scaled l (120 ∷ [])))),
        (refl, tt),
      )
      | at_named t ↦ (
        [],
        t,
        append-nil (spell_terms e.terms ++ (lead e.terms t.neg ++ spell_factor t.factor)) ∙ sym (terms_more e.terms t),
        tt,
      )
    ]

-- ---- values

factor_spells : (f : Factor) (y : trees.Term) → IsFactorValue f y → IsFactor (spell_factor f) y.value y.var
factor_spells (literal l) y (h, e) = subst (λ o. IsFactor (a_number l ∷ []) y.value o) (sym e) (l, refl, h)
factor_spells (scaled l v) y (h, e) = subst (λ o. IsFactor (a_number l ∷ the kinds.Times ∷ a_name v ∷ []) y.value o) (sym e) (inl (a_number l ∷ [], refl, (l, refl, h)))
factor_spells (plain v) y (h, e) = subst (λ o. IsFactor (a_name v ∷ []) y.value o) (sym e) (inr (refl, h))

factor_spelled : (ms : List Mark) (y : trees.Term) (o : Option (List ℕ)) → y.var ≡ o → IsFactor ms y.value o → (f : Factor) × (ms ≡ spell_factor f) × IsFactorValue f y
factor_spelled ms y None e (text, p, h) = (literal text, p, (h, e))
factor_spelled ms y (Some v) e (inl (front, p, (text, q, h))) = (scaled text v, p ∙ ap (λ z. z ++ the kinds.Times ∷ a_name v ∷ []) q, (h, e))
factor_spelled ms y (Some v) e (inr (p, h)) = (plain v, p, (h, e))

a_tree : Bool → Fraction → Option (List ℕ) → trees.Term
a_tree neg value var = record { neg = neg; value = value; var = var }

factor_valued : (neg : Bool) (f : Factor) → AreLiterals (spell_factor f) → (y : trees.Term) × (neg ≡ y.neg) × IsFactorValue f y
unfolding a_tree
factor_valued neg (literal l) h = let v = literal_value l h.0 in (a_tree neg v.0 None, refl, (v.1, refl))
factor_valued neg (scaled l x) h = let v = literal_value l h.0 in (a_tree neg v.0 (Some x), refl, (v.1, refl))
factor_valued neg (plain x) h = (a_tree neg one (Some x), refl, (refl, refl))

later_spells : (ts : List Term) (ys : List trees.Term) → AllValues IsTermValue ts ys → AreMoreTerms (flat_map later_term ts) ys
later_spells [] [] h = refl
later_spells [] (y ∷ ys) h = absurd h
later_spells (t ∷ ts) [] h = absurd h
later_spells (t ∷ ts) (y ∷ ys) (h, k) = (
  spell_factor t.factor,
  flat_map later_term ts,
  flat_map-cons later_term t ts ∙ ap (λ b. minus_or_plus b ∷ (spell_factor t.factor ++ flat_map later_term ts)) h.0,
  factor_spells t.factor y h.1,
  later_spells ts ys k,
)

pub expr_spells : (x : List Term) (ys : List trees.Term) → IsSome x → AllValues IsTermValue x ys → IsExpr (spell_terms x) ys
expr_spells [] ys some h = absurd some
expr_spells (t ∷ ts) [] some h = absurd h
expr_spells (t ∷ ts) (y ∷ ys) some (h, k) = (
  spell_factor t.factor,
  flat_map later_term ts,
  ap (λ b. minus_if b ++ spell_factor t.factor ++ flat_map later_term ts) h.0,
  factor_spells t.factor y h.1,
  later_spells ts ys k,
)

later_spelled : (ms : List Mark) (ys : List trees.Term) → AreMoreTerms ms ys → (ts : List Term) × (ms ≡ flat_map later_term ts) × AllValues IsTermValue ts ys
later_spelled ms [] h = ([], h, tt)
later_spelled ms (y ∷ ys) (front, rest, p, f, k) =
    let one = factor_spelled front y y.var refl f in
    let others = later_spelled rest ys k in
    let t = term y.neg one.0 in (
      t ∷ others.0,
      p ∙ ap (λ z. minus_or_plus y.neg ∷ (z ++ rest)) one.1 ∙ ap (λ z. minus_or_plus y.neg ∷ (spell_factor one.0 ++ z)) others.1 ∙ sym (flat_map-cons later_term t others.0),
      ((refl, one.2), others.2),
    )

pub expr_spelled : (ms : List Mark) (ys : List trees.Term) → IsExpr ms ys → (x : List Term) × (ms ≡ spell_terms x) × AllValues IsTermValue x ys × IsSome x
expr_spelled ms [] h = absurd h
expr_spelled ms (y ∷ ys) (front, rest, p, f, k) =
    let one = factor_spelled front y y.var refl f in
    let others = later_spelled rest ys k in (
      term y.neg one.0 ∷ others.0,
      p ∙ ap (λ z. minus_if y.neg ++ z ++ rest) one.1 ∙ ap (λ z. minus_if y.neg ++ spell_factor one.0 ++ z) others.1,
      ((refl, one.2), others.2),
      tt,
    )

later_valued : (ts : List Term) → AreLiterals (flat_map later_term ts) → (ys : List trees.Term) × AllValues IsTermValue ts ys
later_valued [] h = ([], tt)
later_valued (t ∷ ts) h =
    let whole = subst AreLiterals (flat_map-cons later_term t ts) h in
    let one = factor_valued t.neg t.factor (literals_front (spell_factor t.factor) (flat_map later_term ts) whole.1) in
    let others = later_valued ts (literals_rest (spell_factor t.factor) (flat_map later_term ts) whole.1) in
    (one.0 ∷ others.0, ((one.1, one.2), others.1))

pub expr_valued : (x : List Term) → AreLiterals (spell_terms x) → (ys : List trees.Term) × AllValues IsTermValue x ys
expr_valued [] h = ([], tt)
expr_valued (t ∷ ts) h =
    let first = literals_front (minus_if t.neg ++ spell_factor t.factor) (flat_map later_term ts) h in
    let one = factor_valued t.neg t.factor (literals_rest (minus_if t.neg) (spell_factor t.factor) first) in
    let others = later_valued ts (literals_rest (minus_if t.neg ++ spell_factor t.factor) (flat_map later_term ts) h) in
    (one.0 ∷ others.0, ((one.1, one.2), others.1))

-- ---- how many terms

pub expr_length : (e : ExprPlace) (x : List Term) → made_expr e ≡ Some x → length x ≡ suc (length e.terms)
expr_length e x h =
    let m = made_is e.terms (made_term e.place) x h in
    let one = length-append e.terms (m.0 ∷ []) in
    sym (ap length m.2) ∙ omega (arith, one)

grows_by : (e f : ExprPlace) (m : Mark) (o : Option TermPlace) → by_term e m o ≡ Some f → length e.terms ≤ length f.terms
grows_by e f m (Some p) h = let same : record { terms = e.terms; place = p } ≡ f = cc in let alike = ap (λ (x : ExprPlace). length x.terms) same in omega (arith, alike)
grows_by e f m None h =
    let b = behind_is e.terms (made_term e.place) (joins m) f h in
    let one = length-append e.terms (b.0 ∷ []) in
    let alike = ap (λ (x : ExprPlace). length x.terms) b.4 in
    omega (arith, one, alike)

pub expr_grows : (e f : ExprPlace) (m : Mark) → in_expr e m ≡ Some f → length e.terms ≤ length f.terms
expr_grows e f m h = grows_by e f m (in_term (is_empty e.terms) e.place m) h
