-- Reading an act accepts what spells it and nothing else, and each place can be completed.
use Rattle.std.proofs.Common.{◌≡◌, inl, inr, ℕ, Bool, true, false, List, [], ◌∷◌, ◌++◌, Option, Some, None, refl, sym, ap, ◌∙◌, subst, append_assoc}
use Rattle.std.specs.Prelude.{⊤}
use Rattle.std.proofs.lemmas.List.{append-nil}
use Rattle.lang_specs.specs.declared.Kind.TheVariants as kinds
use Rattle.lang_specs.specs.Marks.{Mark, the, a_name}
use Rattle.lang_specs.specs.Trees as trees
use Rattle.lang_specs.specs.Expressions.{IsSome, IsAct}
use Rattle.lang_tokens.specs.Kinds.{same_kind}
use Rattle.lang_tokens.specs.LineFaults.{AreLiterals}
use Rattle.lang_tokens.proofs.LiteralMarks.{zero_text, nought, literals_front, literals_rest}
use Rattle.lang_tokens.proofs.LimitLemmas.{ArePlain, plain_append}
use Rattle.lang_tokens.proofs.JoinedLaws.{some_last, Laws, Values}
use Rattle.lang_tokens.proofs.Walks.{IsClean, is_the, is_a_name, if_some, if_either, walk, and_walk, walk_on, walk_one, walk_step}
use Rattle.lang_rows.specs.Texts.{literal, Term}
use Rattle.lang_rows.specs.ExprMachine.{ExprPlace, expr_start, term, in_expr, made_expr}
use Rattle.lang_rows.proofs.ExprLaws.{spell_terms, said_expr, expr_complete, expr_some, expr_more, expr_accepts, IsBehind, behind_expr, expr_finishes, expr_spells, expr_spelled, expr_valued}
use Rattle.lang_transitions.specs.ActMachine.{Act, sets, within, frees, Place, at_act, at_free, at_verb, at_value, at_open, at_lo, at_hi, behind, by_value, behind_lo, by_lo, behind_hi, by_hi, in_act, set_of, made, acts, IsActValue}

-- `NAME = EXPR`, `NAME in [ EXPR , EXPR ]` or `free NAME`
abbrev pub spell_act : Act → List Mark
spell_act (sets v e) = a_name v ∷ the kinds.Equal ∷ spell_terms e
spell_act (within v lo hi) = a_name v ∷ the kinds.In ∷ the kinds.Open ∷ spell_terms lo ++ the kinds.Comma ∷ spell_terms hi ++ the kinds.Close ∷ []
spell_act (frees v) = the kinds.Free ∷ a_name v ∷ []

-- what was read of an act
abbrev pub said_act : Place → List Mark
said_act at_act = []
said_act at_free = the kinds.Free ∷ []
said_act (at_verb v) = a_name v ∷ []
said_act (at_value v e) = a_name v ∷ the kinds.Equal ∷ said_expr e
said_act (at_open v) = a_name v ∷ the kinds.In ∷ []
said_act (at_lo v e) = a_name v ∷ the kinds.In ∷ the kinds.Open ∷ said_expr e
said_act (at_hi v lo e) = a_name v ∷ the kinds.In ∷ the kinds.Open ∷ spell_terms lo ++ the kinds.Comma ∷ said_expr e
said_act (behind a) = spell_act a

-- each expression has a term
abbrev pub GoodAct : Act → Type 0
GoodAct (sets v e) = IsSome e
GoodAct (within v lo hi) = IsSome lo × IsSome hi
GoodAct (frees v) = ⊤

abbrev pub FinePlace : Place → Type 0
FinePlace at_act = ⊤
FinePlace at_free = ⊤
FinePlace (at_verb v) = ⊤
FinePlace (at_value v e) = ⊤
FinePlace (at_open v) = ⊤
FinePlace (at_lo v e) = ⊤
FinePlace (at_hi v lo e) = IsSome lo
FinePlace (behind a) = GoodAct a

-- ---- steps that went on

pub value_is : (v : List ℕ) (o : Option ExprPlace) (q : Place) → by_value v o ≡ Some q → (e : ExprPlace) × (o ≡ Some e) × (at_value v e ≡ q)
value_is v None q h = absurd cc
value_is v (Some e) q h = (e, refl, cc)

pub behind_lo_is : (v : List ℕ) (o : Option (List Term)) (comma : Bool) (q : Place) → behind_lo v o comma ≡ Some q →
    (lo : List Term) × (o ≡ Some lo) × (comma ≡ true) × (at_hi v lo expr_start ≡ q)
behind_lo_is v None comma q h = absurd cc
behind_lo_is v (Some lo) comma q h = let c = if_some comma (at_hi v lo expr_start) q h in (lo, refl, c.0, c.1)

pub behind_hi_is : (v : List ℕ) (lo : List Term) (o : Option (List Term)) (closes : Bool) (q : Place) → behind_hi v lo o closes ≡ Some q →
    (hi : List Term) × (o ≡ Some hi) × (closes ≡ true) × (behind (within v lo hi) ≡ q)
behind_hi_is v lo None closes q h = absurd cc
behind_hi_is v lo (Some hi) closes q h = let c = if_some closes (behind (within v lo hi)) q h in (hi, refl, c.0, c.1)

pub set_is : (v : List ℕ) (o : Option (List Term)) (x : Act) → set_of v o ≡ Some x → (e : List Term) × (o ≡ Some e) × (sets v e ≡ x)
set_is v None x h = absurd cc
set_is v (Some e) x h = (e, refl, cc)

-- ---- what was read

more_lo : (v : List ℕ) (e : ExprPlace) (q : Place) (m : Mark) (o : Option ExprPlace) → IsClean m → in_expr e m ≡ o → by_lo v e m o ≡ Some q → said_act q ≡ said_act (at_lo v e) ++ m ∷ []
more_lo v e q m (Some f) c n h =
    let same : at_lo v f ≡ q = cc in
    subst (λ x. said_act x ≡ said_act (at_lo v e) ++ m ∷ []) same (ap (λ z. a_name v ∷ the kinds.In ∷ the kinds.Open ∷ z) (expr_more e f m c n))
more_lo v e q m None c n h =
    let b = behind_lo_is v (made_expr e) (same_kind m.kind kinds.Comma) q h in
    subst (λ x. said_act x ≡ said_act (at_lo v e) ++ m ∷ []) b.3
    (ap (λ z. a_name v ∷ the kinds.In ∷ the kinds.Open ∷ z ++ the kinds.Comma ∷ []) (sym (expr_complete e b.0 b.1)) ∙ ap (λ z. said_act (at_lo v e) ++ z ∷ []) (sym (is_the m kinds.Comma c refl b.2)))

more_hi : (v : List ℕ) (lo : List Term) (e : ExprPlace) (q : Place) (m : Mark) (o : Option ExprPlace) → IsClean m → in_expr e m ≡ o → by_hi v lo e m o ≡ Some q →
    said_act q ≡ said_act (at_hi v lo e) ++ m ∷ []
more_hi v lo e q m (Some f) c n h =
    let same : at_hi v lo f ≡ q = cc in
    subst (λ x. said_act x ≡ said_act (at_hi v lo e) ++ m ∷ []) same
    (ap (λ z. a_name v ∷ the kinds.In ∷ the kinds.Open ∷ spell_terms lo ++ the kinds.Comma ∷ z) (expr_more e f m c n)
    ∙ ap (λ z. a_name v ∷ the kinds.In ∷ the kinds.Open ∷ z) (sym (append_assoc (spell_terms lo) (the kinds.Comma ∷ said_expr e) (m ∷ []))))
more_hi v lo e q m None c n h =
    let b = behind_hi_is v lo (made_expr e) (same_kind m.kind kinds.Close) q h in
    subst (λ x. said_act x ≡ said_act (at_hi v lo e) ++ m ∷ []) b.3
    (ap (λ z. a_name v ∷ the kinds.In ∷ the kinds.Open ∷ spell_terms lo ++ the kinds.Comma ∷ z ++ the kinds.Close ∷ []) (sym (expr_complete e b.0 b.1))
    ∙ ap (λ z. said_act (at_hi v lo e) ++ z ∷ []) (sym (is_the m kinds.Close c refl b.2)))

pub act_more : (p q : Place) (m : Mark) → IsClean m → in_act p m ≡ Some q → said_act q ≡ said_act p ++ m ∷ []
unfolding in_act
act_more at_act q m c h =
    elim (if_either (same_kind m.kind kinds.Name) (same_kind m.kind kinds.Free) (at_verb m.text) at_free q h) [
      | inl k ↦ subst (λ x. said_act x ≡ m ∷ []) k.1 (ap (λ x. x ∷ []) (sym (is_a_name m k.0)))
      | inr k ↦ subst (λ x. said_act x ≡ m ∷ []) k.1 (ap (λ x. x ∷ []) (sym (is_the m kinds.Free c refl k.0)))
    ]
act_more at_free q m c h =
    let k = if_some (same_kind m.kind kinds.Name) (behind (frees m.text)) q h in
    subst (λ x. said_act x ≡ the kinds.Free ∷ m ∷ []) k.1 (ap (λ x. the kinds.Free ∷ x ∷ []) (sym (is_a_name m k.0)))
act_more (at_verb v) q m c h =
    elim (if_either (same_kind m.kind kinds.Equal) (same_kind m.kind kinds.In) (at_value v expr_start) (at_open v) q h) [
      | inl k ↦ subst (λ x. said_act x ≡ a_name v ∷ m ∷ []) k.1 (ap (λ x. a_name v ∷ x ∷ []) (sym (is_the m kinds.Equal c refl k.0)))
      | inr k ↦ subst (λ x. said_act x ≡ a_name v ∷ m ∷ []) k.1 (ap (λ x. a_name v ∷ x ∷ []) (sym (is_the m kinds.In c refl k.0)))
    ]
act_more (at_value v e) q m c h =
    let k = value_is v (in_expr e m) q h in
    subst (λ x. said_act x ≡ said_act (at_value v e) ++ m ∷ []) k.2 (ap (λ z. a_name v ∷ the kinds.Equal ∷ z) (expr_more e k.0 m c k.1))
act_more (at_open v) q m c h =
    let k = if_some (same_kind m.kind kinds.Open) (at_lo v expr_start) q h in
    subst (λ x. said_act x ≡ a_name v ∷ the kinds.In ∷ m ∷ []) k.1 (ap (λ x. a_name v ∷ the kinds.In ∷ x ∷ []) (sym (is_the m kinds.Open c refl k.0)))
act_more (at_lo v e) q m c h = more_lo v e q m (in_expr e m) c refl h
act_more (at_hi v lo e) q m c h = more_hi v lo e q m (in_expr e m) c refl h
act_more (behind a) q m c h = absurd cc

pub act_complete : (p : Place) (x : Act) → made p ≡ Some x → said_act p ≡ spell_act x
act_complete at_act x h = absurd cc
act_complete at_free x h = absurd cc
act_complete (at_verb v) x h = absurd cc
act_complete (at_value v e) x h = let s = set_is v (made_expr e) x h in ap (λ z. a_name v ∷ the kinds.Equal ∷ z) (expr_complete e s.0 s.1) ∙ ap spell_act s.2
act_complete (at_open v) x h = absurd cc
act_complete (at_lo v e) x h = absurd cc
act_complete (at_hi v lo e) x h = absurd cc
act_complete (behind a) x h = let same : a ≡ x = cc in ap spell_act same

-- ---- each expression that is complete has a term

fine_lo : (v : List ℕ) (e : ExprPlace) (q : Place) (m : Mark) (o : Option ExprPlace) → by_lo v e m o ≡ Some q → FinePlace q
fine_lo v e q m (Some f) h = let same : at_lo v f ≡ q = cc in subst FinePlace same tt
fine_lo v e q m None h = let b = behind_lo_is v (made_expr e) (same_kind m.kind kinds.Comma) q h in subst FinePlace b.3 (expr_some e b.0 b.1)

fine_hi : (v : List ℕ) (lo : List Term) (e : ExprPlace) (q : Place) (m : Mark) (o : Option ExprPlace) → IsSome lo → by_hi v lo e m o ≡ Some q → FinePlace q
fine_hi v lo e q m (Some f) some h = let same : at_hi v lo f ≡ q = cc in subst FinePlace same some
fine_hi v lo e q m None some h = let b = behind_hi_is v lo (made_expr e) (same_kind m.kind kinds.Close) q h in subst FinePlace b.3 (some, expr_some e b.0 b.1)

pub act_stays : (p q : Place) (m : Mark) → FinePlace p → in_act p m ≡ Some q → FinePlace q
unfolding in_act
act_stays at_act q m fine h =
    elim (if_either (same_kind m.kind kinds.Name) (same_kind m.kind kinds.Free) (at_verb m.text) at_free q h) [ inl k ↦ subst FinePlace k.1 tt | inr k ↦ subst FinePlace k.1 tt ]
act_stays at_free q m fine h = let k = if_some (same_kind m.kind kinds.Name) (behind (frees m.text)) q h in subst FinePlace k.1 tt
act_stays (at_verb v) q m fine h =
    elim (if_either (same_kind m.kind kinds.Equal) (same_kind m.kind kinds.In) (at_value v expr_start) (at_open v) q h) [ inl k ↦ subst FinePlace k.1 tt | inr k ↦ subst FinePlace k.1 tt ]
act_stays (at_value v e) q m fine h = let k = value_is v (in_expr e m) q h in subst FinePlace k.2 tt
act_stays (at_open v) q m fine h = let k = if_some (same_kind m.kind kinds.Open) (at_lo v expr_start) q h in subst FinePlace k.1 tt
act_stays (at_lo v e) q m fine h = fine_lo v e q m (in_expr e m) h
act_stays (at_hi v lo e) q m fine h = fine_hi v lo e q m (in_expr e m) fine h
act_stays (behind a) q m fine h = absurd cc

pub act_good : (p : Place) (x : Act) → FinePlace p → made p ≡ Some x → GoodAct x
act_good at_act x fine h = absurd cc
act_good at_free x fine h = absurd cc
act_good (at_verb v) x fine h = absurd cc
act_good (at_value v e) x fine h = let s = set_is v (made_expr e) x h in subst GoodAct s.2 (expr_some e s.0 s.1)
act_good (at_open v) x fine h = absurd cc
act_good (at_lo v e) x fine h = absurd cc
act_good (at_hi v lo e) x fine h = absurd cc
act_good (behind a) x fine h = let same : a ≡ x = cc in subst GoodAct same fine

-- ---- what is spelled is taken

lift_value : (v : List ℕ) (e f : ExprPlace) (ms : List Mark) → walk in_expr e ms ≡ Some f → walk in_act (at_value v e) ms ≡ Some (at_value v f)
unfolding walk and_walk in_act
lift_value v e f [] h = let same : e ≡ f = cc in ap (λ z. Some (at_value v z)) same
lift_value v e f (m ∷ ms) h =
    elim (in_expr e m) as (λ o. and_walk o (λ u. walk in_expr u ms) ≡ Some f → and_walk (by_value v o) (λ u. walk in_act u ms) ≡ Some (at_value v f)) [
      | None ↦ λ k. absurd cc
      | Some g ↦ λ k. lift_value v g f ms k
    ] h

lift_lo : (v : List ℕ) (e f : ExprPlace) (ms : List Mark) → walk in_expr e ms ≡ Some f → walk in_act (at_lo v e) ms ≡ Some (at_lo v f)
unfolding walk and_walk in_act
lift_lo v e f [] h = let same : e ≡ f = cc in ap (λ z. Some (at_lo v z)) same
lift_lo v e f (m ∷ ms) h =
    elim (in_expr e m) as (λ o. and_walk o (λ u. walk in_expr u ms) ≡ Some f → and_walk (by_lo v e m o) (λ u. walk in_act u ms) ≡ Some (at_lo v f)) [
      | None ↦ λ k. absurd cc
      | Some g ↦ λ k. lift_lo v g f ms k
    ] h

lift_hi : (v : List ℕ) (lo : List Term) (e f : ExprPlace) (ms : List Mark) → walk in_expr e ms ≡ Some f → walk in_act (at_hi v lo e) ms ≡ Some (at_hi v lo f)
unfolding walk and_walk in_act
lift_hi v lo e f [] h = let same : e ≡ f = cc in ap (λ z. Some (at_hi v lo z)) same
lift_hi v lo e f (m ∷ ms) h =
    elim (in_expr e m) as (λ o. and_walk o (λ u. walk in_expr u ms) ≡ Some f → and_walk (by_hi v lo e m o) (λ u. walk in_act u ms) ≡ Some (at_hi v lo f)) [
      | None ↦ λ k. absurd cc
      | Some g ↦ λ k. lift_hi v lo g f ms k
    ] h

takes_comma : (v : List ℕ) (e : ExprPlace) (lo : List Term) → made_expr e ≡ Some lo → in_act (at_lo v e) (the kinds.Comma) ≡ Some (at_hi v lo expr_start)
unfolding in_act
takes_comma v e lo h = rw (behind_expr e lo (the kinds.Comma) (refl, refl, refl) h, h) refl

takes_close : (v : List ℕ) (lo : List Term) (e : ExprPlace) (hi : List Term) → made_expr e ≡ Some hi → in_act (at_hi v lo e) (the kinds.Close) ≡ Some (behind (within v lo hi))
unfolding in_act
takes_close v lo e hi h = rw (behind_expr e hi (the kinds.Close) (refl, refl, refl) h, h) refl

takes_between : (v : List ℕ) (lo hi : List Term) → IsSome lo → IsSome hi →
    walk in_act (at_lo v expr_start) (spell_terms lo ++ the kinds.Comma ∷ spell_terms hi ++ the kinds.Close ∷ []) ≡ Some (behind (within v lo hi))
takes_between v lo hi g k =
    let l = expr_accepts lo g in
    let r = expr_accepts hi k in
    let rest = spell_terms hi ++ the kinds.Close ∷ [] in
    ap (walk in_act (at_lo v expr_start)) (append_assoc (spell_terms lo) (the kinds.Comma ∷ spell_terms hi) (the kinds.Close ∷ []))
    ∙ walk_on in_act (at_lo v expr_start) (at_lo v l.0) (spell_terms lo) (the kinds.Comma ∷ rest) (lift_lo v expr_start l.0 (spell_terms lo) l.1)
    ∙ walk_step in_act (at_lo v l.0) (at_hi v lo expr_start) (the kinds.Comma) rest (takes_comma v l.0 lo l.2)
    ∙ walk_on in_act (at_hi v lo expr_start) (at_hi v lo r.0) (spell_terms hi) (the kinds.Close ∷ []) (lift_hi v lo expr_start r.0 (spell_terms hi) r.1)
    ∙ walk_one in_act (at_hi v lo r.0) (the kinds.Close)
    ∙ takes_close v lo r.0 hi r.2

takes_front : (v : List ℕ) (e rest : List Mark) →
    (walk in_act at_act (a_name v ∷ the kinds.Equal ∷ e) ≡ walk in_act (at_value v expr_start) e)
    × (walk in_act at_act (a_name v ∷ the kinds.In ∷ the kinds.Open ∷ rest) ≡ walk in_act (at_lo v expr_start) rest)
    × (walk in_act at_act (the kinds.Free ∷ a_name v ∷ []) ≡ Some (behind (frees v)))
unfolding walk and_walk in_act
takes_front v e rest = (refl, refl, refl)

pub act_accepts : (x : Act) → GoodAct x → (p : Place) × (walk in_act at_act (spell_act x) ≡ Some p) × (made p ≡ Some x)
act_accepts (sets v e) good =
    let r = expr_accepts e good in
    (at_value v r.0, (takes_front v (spell_terms e) []).0 ∙ lift_value v expr_start r.0 (spell_terms e) r.1, ap (set_of v) r.2)
act_accepts (within v lo hi) good = (
  behind (within v lo hi),
  (takes_front v [] (spell_terms lo ++ the kinds.Comma ∷ spell_terms hi ++ the kinds.Close ∷ [])).1 ∙ takes_between v lo hi good.0 good.1,
  refl,
)
act_accepts (frees v) good = (behind (frees v), (takes_front v [] []).2, refl)

-- ---- what stands behind an act does not go on with it

pub act_behind : (p : Place) (x : Act) (m : Mark) → IsBehind m → made p ≡ Some x → in_act p m ≡ None
unfolding in_act
act_behind at_act x m b h = absurd cc
act_behind at_free x m b h = absurd cc
act_behind (at_verb v) x m b h = absurd cc
act_behind (at_value v e) x m b h = let s = set_is v (made_expr e) x h in rw (behind_expr e s.0 m b s.1) refl
act_behind (at_open v) x m b h = absurd cc
act_behind (at_lo v e) x m b h = absurd cc
act_behind (at_hi v lo e) x m b h = absurd cc
act_behind (behind a) x m b h = refl

-- ---- each place can be completed

abbrev zero_expr : List Term
zero_expr = term false (literal zero_text) ∷ []

unfoldable pub act_finishes : (p : Place) → (more : List Mark) × (x : Act) × (said_act p ++ more ≡ spell_act x) × ArePlain more
act_finishes at_act = (the kinds.Free ∷ a_name (120 ∷ []) ∷ [], frees (120 ∷ []), refl, (refl, (refl, tt)))
act_finishes at_free = (a_name (120 ∷ []) ∷ [], frees (120 ∷ []), refl, (refl, tt))
act_finishes (at_verb v) = (the kinds.Equal ∷ nought ∷ [], sets v zero_expr, refl, (refl, (refl, tt)))
act_finishes (at_value v e) = let f = expr_finishes e in (f.0, sets v (e.terms ++ f.1 ∷ []), ap (λ z. a_name v ∷ the kinds.Equal ∷ z) f.2, f.3)
act_finishes (at_open v) = (
  the kinds.Open ∷ nought ∷ the kinds.Comma ∷ nought ∷ the kinds.Close ∷ [],
  within v zero_expr zero_expr,
  refl,
  (refl, (refl, (refl, (refl, (refl, tt))))),
)
act_finishes (at_lo v e) =
    let f = expr_finishes e in
    let lo = spell_terms (e.terms ++ f.1 ∷ []) in (
      f.0 ++ the kinds.Comma ∷ nought ∷ the kinds.Close ∷ [],
      within v (e.terms ++ f.1 ∷ []) zero_expr,
      ap (λ z. a_name v ∷ the kinds.In ∷ the kinds.Open ∷ z)
          (sym (append_assoc (said_expr e) f.0 (the kinds.Comma ∷ nought ∷ the kinds.Close ∷ []))
          ∙ ap (λ z. z ++ the kinds.Comma ∷ nought ∷ the kinds.Close ∷ []) f.2
          ∙ sym (append_assoc lo (the kinds.Comma ∷ nought ∷ []) (the kinds.Close ∷ []))),
      plain_append f.0 (the kinds.Comma ∷ nought ∷ the kinds.Close ∷ []) f.3 (refl, (refl, (refl, tt))),
    )
act_finishes (at_hi v lo e) =
    let f = expr_finishes e in (
      f.0 ++ the kinds.Close ∷ [],
      within v lo (e.terms ++ f.1 ∷ []),
      ap (λ z. a_name v ∷ the kinds.In ∷ the kinds.Open ∷ z)
          (sym (append_assoc (spell_terms lo ++ the kinds.Comma ∷ said_expr e) f.0 (the kinds.Close ∷ []))
          ∙ ap (λ z. z ++ the kinds.Close ∷ []) (append_assoc (spell_terms lo) (the kinds.Comma ∷ said_expr e) f.0 ∙ ap (λ z. spell_terms lo ++ the kinds.Comma ∷ z) f.2)),
      plain_append f.0 (the kinds.Close ∷ []) f.3 (refl, tt),
    )
act_finishes (behind a) = ([], a, append-nil (spell_act a), tt)

pub act_finish_good : (p : Place) → FinePlace p → GoodAct (act_finishes p).1
unfolding act_finishes
act_finish_good at_act fine = tt
act_finish_good at_free fine = tt
act_finish_good (at_verb v) fine = tt
act_finish_good (at_value v e) fine = some_last e.terms (expr_finishes e).1
act_finish_good (at_open v) fine = (tt, tt)
act_finish_good (at_lo v e) fine = (some_last e.terms (expr_finishes e).1, tt)
act_finish_good (at_hi v lo e) fine = (fine, some_last e.terms (expr_finishes e).1)
act_finish_good (behind a) fine = fine

unfoldable pub act_laws : Laws acts spell_act said_act GoodAct FinePlace
act_laws = record {
  at_start = refl;
  one_more = act_more;
  complete = act_complete;
  start_fine = tt;
  stays_fine = act_stays;
  made_good = act_good;
  accepts = act_accepts;
  no_comma = λ p x h. act_behind p x (the kinds.Comma) (refl, refl, refl) h;
  no_end = λ p x h. act_behind p x (the kinds.EndLine) (refl, refl, refl) h;
  finishes = act_finishes;
  finish_good = act_finish_good;
}

-- ---- values

act_spells : (x : Act) (y : trees.Act) → GoodAct x → IsActValue x y → IsAct (spell_act x) y
act_spells (sets v e) (trees.Set var value) good (same, h) =
    (spell_terms e, ap (λ z. a_name z ∷ the kinds.Equal ∷ spell_terms e) same, expr_spells e value good h)
act_spells (sets v e) (trees.Within var least most) good h = absurd h
act_spells (sets v e) (trees.Free var) good h = absurd h
act_spells (within v lo hi) (trees.Set var value) good h = absurd h
act_spells (within v lo hi) (trees.Within var least most) good (same, h, k) =
    let rest = the kinds.Open ∷ spell_terms lo ++ the kinds.Comma ∷ spell_terms hi ++ the kinds.Close ∷ [] in (
      rest,
      ap (λ z. a_name z ∷ the kinds.In ∷ rest) same,
      (spell_terms lo, spell_terms hi, refl, expr_spells lo least good.0 h, expr_spells hi most good.1 k),
    )
act_spells (within v lo hi) (trees.Free var) good h = absurd h
act_spells (frees v) (trees.Set var value) good h = absurd h
act_spells (frees v) (trees.Within var least most) good h = absurd h
act_spells (frees v) (trees.Free var) good h = ap (λ z. the kinds.Free ∷ a_name z ∷ []) h

act_spelled : (ms : List Mark) (y : trees.Act) → IsAct ms y → (x : Act) × (ms ≡ spell_act x) × IsActValue x y × GoodAct x
act_spelled ms (trees.Set var value) (rest, p, h) =
    let e = expr_spelled rest value h in (sets var e.0, p ∙ ap (λ z. a_name var ∷ the kinds.Equal ∷ z) e.1, (refl, e.2), e.3)
act_spelled ms (trees.Within var least most) (rest, p, (f, r, q, h, k)) =
    let lo = expr_spelled f least h in
    let hi = expr_spelled r most k in (
      within var lo.0 hi.0,
      p ∙ ap (λ z. a_name var ∷ the kinds.In ∷ z)
          (q ∙ ap (λ z. the kinds.Open ∷ z ++ the kinds.Comma ∷ r ++ the kinds.Close ∷ []) lo.1 ∙ ap (λ z. the kinds.Open ∷ spell_terms lo.0 ++ the kinds.Comma ∷ z ++ the kinds.Close ∷ []) hi.1),
      (refl, lo.2, hi.2),
      (lo.3, hi.3),
    )
act_spelled ms (trees.Free var) p = (frees var, p, refl, tt)

act_valued : (x : Act) → GoodAct x → AreLiterals (spell_act x) → (y : trees.Act) × IsActValue x y
act_valued (sets v e) good h = let value = expr_valued e h.1.1 in (trees.Set v value.0, (refl, value.1))
act_valued (within v lo hi) good h =
    let both = literals_front (spell_terms lo ++ the kinds.Comma ∷ spell_terms hi) (the kinds.Close ∷ []) h.1.1.1 in
    let least = expr_valued lo (literals_front (spell_terms lo) (the kinds.Comma ∷ spell_terms hi) both) in
    let most = expr_valued hi (literals_rest (spell_terms lo) (the kinds.Comma ∷ spell_terms hi) both).1 in
    (trees.Within v least.0 most.0, (refl, least.1, most.1))
act_valued (frees v) good h = (trees.Free v, refl)

pub act_values : Values spell_act IsAct IsActValue GoodAct
act_values = record { spells = act_spells; spelled = act_spelled; valued = act_valued }
