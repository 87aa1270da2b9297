-- A list of acts keeps to its limit exactly where the reader finds room.
use Rattle.std.proofs.Common.{◌≡◌, Bool, true, false, ◌&&◌, List, [], ◌∷◌, ◌++◌, length, Option, Some, None, refl, sym, ap, ◌∙◌, subst}
use Rattle.std.specs.Prelude.{ℕ, nat_le}
use Rattle.std.specs.List.{list_all, flat_map}
use Rattle.std.proofs.Math.Bool.{and-true}
use Rattle.std.proofs.lemmas.List.Concat.{flat_map-cons}
use Rattle.std.proofs.lemmas.List.Folds.{list_all-append}
use Rattle.lang_specs.specs.declared.Which.{Which}
use Rattle.lang_specs.specs.declared.Which.TheVariants.{Automata, Variables, Locations, Transitions, Rows, Terms, NameBytes, Digits}
use Rattle.lang_specs.specs.declared.Kind.TheVariants as kinds
use Rattle.lang_specs.specs.Marks.{Mark}
use Rattle.lang_specs.specs.Trees as trees
use Rattle.lang_specs.specs.Limits.{has_at_most}
use Rattle.lang_tokens.specs.Kinds.{same_kind}
use Rattle.lang_tokens.specs.Machines.{Reading, AllValues}
use Rattle.lang_tokens.proofs.Walks.{both}
use Rattle.lang_tokens.proofs.LimitLemmas.{both_so}
use Rattle.lang_tokens.proofs.JoinedLaws.{LimitLaws, finish}
use Rattle.lang_rows.specs.Texts.{Term, IsTermValue}
use Rattle.lang_rows.specs.ExprMachine.{ExprPlace, expr_start, in_expr, made_expr, few_terms, few_at}
use Rattle.lang_rows.proofs.ExprLaws.{expr_grows, expr_finishes}
use Rattle.lang_rows.proofs.RowLimits.{and_moves, few_moves, few_made, few_more, alike}
use Rattle.lang_transitions.specs.ActMachine.{Act, sets, within, frees, Place, at_act, at_free, at_verb, at_value, at_open, at_lo, at_hi, behind, by_lo, by_hi, in_act, made, few_act, few_there, fits_acts, acts, act_limits, IsActValue}
use Rattle.lang_transitions.proofs.ActLaws.{value_is, behind_lo_is, behind_hi_is, set_is, spell_act, said_act, GoodAct, FinePlace, act_finishes, act_laws}

abbrev R : Type 0
R = Reading Place Act

moves : (r s : R) → (fits_acts Terms r ≡ true → fits_acts Terms s ≡ true) → (which : Which) → fits_acts which r ≡ true → fits_acts which s ≡ true
moves r s h Automata f = refl
moves r s h Variables f = refl
moves r s h Locations f = refl
moves r s h Transitions f = refl
moves r s h Rows f = refl
moves r s h Terms f = h f
moves r s h NameBytes f = refl
moves r s h Digits f = refl

abbrev reading : Bool → List Act → Place → R
reading b done p = record { done = done; place = p; has_ended = b }

start_fits : (which : Which) → fits_acts which (reading false [] at_act) ≡ true
start_fits Automata = refl
start_fits Variables = refl
start_fits Locations = refl
start_fits Transitions = refl
start_fits Rows = refl
start_fits Terms = refl
start_fits NameBytes = refl
start_fits Digits = refl

-- ---- from place to place

fewer : (e f : ExprPlace) (m : Mark) → in_expr e m ≡ Some f → few_at f ≡ true → few_at e ≡ true
fewer e f m h k = few_moves (length e.terms) (length f.terms) (expr_grows e f m h) k

lo_grows : (v : List ℕ) (e : ExprPlace) (m : Mark) (q : Place) (o : Option ExprPlace) → in_expr e m ≡ o → by_lo v e m o ≡ Some q → few_there q ≡ true → few_at e ≡ true
lo_grows v e m q (Some f) n h k = let same : at_lo v f ≡ q = cc in fewer e f m n (subst (λ x. few_there x ≡ true) (sym same) k)
lo_grows v e m q None n h k =
    let b = behind_lo_is v (made_expr e) (same_kind m.kind kinds.Comma) q h in
    sym (few_made e b.0 b.1) ∙ (both (few_terms b.0) (few_at expr_start) (subst (λ x. few_there x ≡ true) (sym b.3) k)).0

hi_grows : (v : List ℕ) (lo : List Term) (e : ExprPlace) (m : Mark) (q : Place) (o : Option ExprPlace) → in_expr e m ≡ o → by_hi v lo e m o ≡ Some q → few_there q ≡ true →
    (few_terms lo && few_at e) ≡ true
hi_grows v lo e m q (Some f) n h k =
    let same : at_hi v lo f ≡ q = cc in and_moves (few_terms lo) (few_at f) (few_at e) (fewer e f m n) (subst (λ x. few_there x ≡ true) (sym same) k)
hi_grows v lo e m q None n h k =
    let b = behind_hi_is v lo (made_expr e) (same_kind m.kind kinds.Close) q h in
    and_moves (few_terms lo) (few_terms b.0) (few_at e) (λ f. sym (few_made e b.0 b.1) ∙ f) (subst (λ x. few_there x ≡ true) (sym b.3) k)

terms_grow : (p q : Place) (m : Mark) → in_act p m ≡ Some q → few_there q ≡ true → few_there p ≡ true
unfolding in_act
terms_grow at_act q m h k = refl
terms_grow at_free q m h k = refl
terms_grow (at_verb v) q m h k = refl
terms_grow (at_value v e) q m h k = let n = value_is v (in_expr e m) q h in fewer e n.0 m n.1 (subst (λ x. few_there x ≡ true) (sym n.2) k)
terms_grow (at_open v) q m h k = refl
terms_grow (at_lo v e) q m h k = lo_grows v e m q (in_expr e m) refl h k
terms_grow (at_hi v lo e) q m h k = hi_grows v lo e m q (in_expr e m) refl h k
terms_grow (behind a) q m h k = absurd cc

made_few : (p : Place) (x : Act) → made p ≡ Some x → few_act x ≡ few_there p
made_few at_act x h = absurd cc
made_few at_free x h = absurd cc
made_few (at_verb v) x h = absurd cc
made_few (at_value v e) x h = let s = set_is v (made_expr e) x h in sym (ap few_act s.2) ∙ few_made e s.0 s.1
made_few (at_open v) x h = absurd cc
made_few (at_lo v e) x h = absurd cc
made_few (at_hi v lo e) x h = absurd cc
made_few (behind a) x h = let same : a ≡ x = cc in ap few_act (sym same)

-- one act more, of which each has few terms
all_few : (done : List Act) (x : Act) → list_all few_act (done ++ x ∷ []) ≡ (list_all few_act done && (few_act x && true))
all_few done x = list_all-append few_act done (x ∷ [])

over_act : (done : List Act) (p : Place) (x : Act) → made p ≡ Some x → (list_all few_act (done ++ x ∷ []) && true) ≡ true → (list_all few_act done && few_there p) ≡ true
over_act done p x h e =
    let all = both (list_all few_act (done ++ x ∷ [])) true e in
    let parts = both (list_all few_act done) (few_act x && true) (sym (all_few done x) ∙ all.0) in
    both_so (list_all few_act done) (few_there p) parts.0 (sym (made_few p x h) ∙ (both (few_act x) true parts.1).0)

finish_few : (p : Place) → few_there p ≡ true → few_act (act_finishes p).1 ≡ true
unfolding act_finishes
finish_few at_act k = refl
finish_few at_free k = refl
finish_few (at_verb v) k = refl
finish_few (at_value v e) k = few_more e.terms (expr_finishes e).1 e refl k
finish_few (at_open v) k = refl
finish_few (at_lo v e) k = both_so (few_terms (e.terms ++ (expr_finishes e).1 ∷ [])) true (few_more e.terms (expr_finishes e).1 e refl k) refl
finish_few (at_hi v lo e) k =
    let p = both (few_terms lo) (few_at e) k in both_so (few_terms lo) (few_terms (e.terms ++ (expr_finishes e).1 ∷ [])) p.0 (few_more e.terms (expr_finishes e).1 e refl p.1)
finish_few (behind a) k = k

finished_few : (done : List Act) (p : Place) → (list_all few_act done && few_there p) ≡ true → (list_all few_act (done ++ (act_finishes p).1 ∷ []) && true) ≡ true
finished_few done p e =
    let x = (act_finishes p).1 in
    let parts = both (list_all few_act done) (few_there p) e in
    let last = both_so (few_act x) true (finish_few p parts.1) refl in
    both_so (list_all few_act (done ++ x ∷ [])) true (all_few done x ∙ both_so (list_all few_act done) (few_act x && true) parts.0 last) refl

-- ---- what the acts say

few_say : (e : List Term) (y : List trees.Term) → AllValues IsTermValue e y → few_terms e ≡ has_at_most 14 y
few_say e y h = ap (λ n. nat_le n 14) (alike IsTermValue e y h)

act_says : (x : Act) (y : trees.Act) → IsActValue x y → few_act x ≡ list_all (has_at_most 14) (trees.act_expressions y)
act_says (sets v e) (trees.Set var value) h = few_say e value h.1 ∙ sym (and-true (has_at_most 14 value))
act_says (sets v e) (trees.Within var least most) h = absurd h
act_says (sets v e) (trees.Free var) h = absurd h
act_says (within v lo hi) (trees.Set var value) h = absurd h
act_says (within v lo hi) (trees.Within var least most) h =
    ap (λ b. b && few_terms hi) (few_say lo least h.1) ∙ ap (λ b. has_at_most 14 least && b) (few_say hi most h.2 ∙ sym (and-true (has_at_most 14 most)))
act_says (within v lo hi) (trees.Free var) h = absurd h
act_says (frees v) (trees.Set var value) h = absurd h
act_says (frees v) (trees.Within var least most) h = absurd h
act_says (frees v) (trees.Free var) h = refl

acts_say : (xs : List Act) (ys : List trees.Act) → AllValues IsActValue xs ys → list_all few_act xs ≡ list_all (has_at_most 14) (flat_map trees.act_expressions ys)
acts_say [] [] h = refl
acts_say [] (y ∷ ys) h = absurd h
acts_say (x ∷ xs) [] h = absurd h
acts_say (x ∷ xs) (y ∷ ys) (h, k) =
    let whole = flat_map-cons trees.act_expressions y ys in
    ap (λ b. b && list_all few_act xs) (act_says x y h)
    ∙ ap (λ b. list_all (has_at_most 14) (trees.act_expressions y) && b) (acts_say xs ys k)
    ∙ sym (list_all-append (has_at_most 14) (trees.act_expressions y) (flat_map trees.act_expressions ys))
    ∙ ap (λ z. list_all (has_at_most 14) z) (sym whole)

end_fits : (which : Which) (p : Place) (xs : List Act) (ys : List trees.Act) → AllValues IsActValue xs ys → fits_acts which (reading true xs p) ≡ act_limits which ys
end_fits Automata p xs ys h = refl
end_fits Variables p xs ys h = refl
end_fits Locations p xs ys h = refl
end_fits Transitions p xs ys h = refl
end_fits Rows p xs ys h = refl
end_fits Terms p xs ys h = and-true (list_all few_act xs) ∙ acts_say xs ys h
end_fits NameBytes p xs ys h = refl
end_fits Digits p xs ys h = refl

-- behind the end of a line the limit fits where what the acts say keeps to it
pub acts_keep : (which : Which) (r : R) (ys : List trees.Act) → r.has_ended ≡ true → AllValues IsActValue r.done ys → fits_acts which r ≡ true → act_limits which ys ≡ true
acts_keep which r ys ended h f = sym (end_fits which r.place r.done ys h) ∙ subst (λ b. fits_acts which (reading b r.done r.place) ≡ true) ended f

pub limit_laws : LimitLaws acts (finish acts spell_act said_act GoodAct FinePlace act_laws) IsActValue act_limits
unfolding act_laws
limit_laws = record {
  at_start = start_fits;
  inside = λ which done p q m n. moves (reading false done q) (reading false done p) (λ e. and_moves (list_all few_act done) (few_there q) (few_there p) (terms_grow p q m n) e) which;
  over_comma = λ which done p x h. moves (reading false (done ++ x ∷ []) at_act) (reading false done p) (λ e. over_act done p x h e) which;
  over_end = λ which done p x h. moves (reading true (done ++ x ∷ []) at_act) (reading false done p) (λ e. over_act done p x h e) which;
  finished = λ which done p. moves (reading false done p) (reading true (done ++ (act_finishes p).1 ∷ []) at_act) (λ e. finished_few done p e) which;
  ended_alike = λ which xs p. moves (reading true xs p) (reading true xs at_act) (λ e. e) which;
  at_end = λ which xs ys h. end_fits which at_act xs ys h;
}
