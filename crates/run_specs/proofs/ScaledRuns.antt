-- Legs, jumps and points over a multiple of their denominator.
use Rattle.std.proofs.Common.{◌≡◌, ℕ, zero, suc, ◌+◌, List, [], ◌∷◌, ◌++◌, length, length-append, take, drop, refl, sym, ◌∙◌, ap, subst, arith, ℤ, pos, ◌+ℤ◌, ◌-ℤ◌, ◌*ℤ◌, ◌<ℤ◌}
use Rattle.std.proofs.lemmas.List.{length-map}
use Rattle.poly_specs.proofs.IntLemmas.{products, expand, product_positive}
use Rattle.poly_specs.proofs.ProjectionLemmas.{scaled-scaled}
use Rattle.run_specs.proofs.FirstRunLemmas.{scaled-append, split_same}
use Rattle.run_specs.proofs.HistorySystems.{leg_system, jump_system, same_leg, same_jump, take_here, drop_here}
use Rattle.run_specs.proofs.MixLemmas.{transitions}
use Rattle.run_specs.proofs.RunEndLemmas.{all_same}
use Rattle.run_specs.proofs.SystemLemmas.{at_same_point}
use Rattle.poly_specs.specs.Lists.{scaled, number_at}
use Rattle.poly_specs.specs.Rows.{Row, over, AllHold, SamePoint}
use Rattle.run_specs.specs.Automaton.{Automaton, width, location_at, transition_at}
use Rattle.run_specs.specs.WellFormed.{IsWellFormed}
use Rattle.run_specs.specs.Runs.{Leg, Move, IsLeg, IsJump, LeadOn, total}

-- ---- numbers over a multiple of their denominator

pub same_scaled : (k d : ℤ) (ns : List ℤ) → SamePoint (over d ns) (over (k *ℤ d) (scaled k ns))
same_scaled k d ns = scaled-scaled k d ns

pub swapped : (k d : ℤ) → k *ℤ d ≡ d *ℤ k
swapped k d = omega (arith, products)

pub sum_times : (x y k : ℤ) → (x +ℤ y) *ℤ k ≡ x *ℤ k +ℤ y *ℤ k
sum_times x y k = simp expand (omega (arith, products))

difference_times : (x y k : ℤ) → (x -ℤ y) *ℤ k ≡ (x *ℤ k) -ℤ (y *ℤ k)
difference_times x y k = simp expand (omega (arith, products))

-- points with one more number are equal where both parts are
pub last_same : (c d e f : ℤ) (v w : List ℤ) → length v ≡ length w → SamePoint (over c (v ++ e ∷ [])) (over d (w ++ f ∷ [])) →
    (scaled d v ≡ scaled c w) × (e *ℤ d ≡ f *ℤ c)
last_same c d e f v w l same =
    let whole : scaled d v ++ (e *ℤ d) ∷ [] ≡ scaled c w ++ (f *ℤ c) ∷ [] = sym (scaled-append d v (e ∷ [])) ∙ same ∙ scaled-append c w (f ∷ []) in
    let s = split_same (scaled d v) (scaled c w) ((e *ℤ d) ∷ []) ((f *ℤ c) ∷ []) (length-map v (λ n. n *ℤ d) ∙ l ∙ sym (length-map w (λ n. n *ℤ c))) whole in
    let head : e *ℤ d ≡ f *ℤ c = ap (number_at 0) s.1 in
    (s.0, head)

last_number : (m : ℕ) (v u : List ℤ) (s : ℤ) → length v ≡ m → (number_at m (v ++ s ∷ u) ≡ s) × (drop (suc m) (v ++ s ∷ u) ≡ u)
last_number zero [] u s l = (refl, refl)
last_number zero (x ∷ v) u s l = absurd (omega arith)
last_number (suc m) [] u s l = absurd (omega arith)
last_number (suc m) (x ∷ v) u s l = last_number m v u s (omega arith)

pub take_whole : (m : ℕ) (v : List ℤ) → length v ≡ m → take m v ≡ v
take_whole zero [] l = refl
take_whole zero (x ∷ v) l = absurd (omega arith)
take_whole (suc m) [] l = absurd (omega arith)
take_whole (suc m) (x ∷ v) l = ap (λ ys. x ∷ ys) (take_whole m v (omega arith))

-- ---- legs and moves over a multiple of their denominator

abbrev pub scaled_leg : ℤ → Leg → Leg
scaled_leg k f = record { length_of = f.length_of *ℤ k; at_end = scaled k f.at_end }

abbrev pub scaled_moves : ℤ → List Move → List Move
scaled_moves k [] = []
scaled_moves k (y ∷ ms) = record { leg = scaled_leg k y.leg; transition = y.transition; after = scaled k y.after } ∷ scaled_moves k ms

pub total_scaled : (k : ℤ) (ms : List Move) (f : Leg) → total (scaled_moves k ms) (scaled_leg k f) ≡ total ms f *ℤ k
total_scaled k [] f = refl
total_scaled k (y ∷ ms) f = let r = total_scaled k ms f in ap (λ z. y.leg.length_of *ℤ k +ℤ z) r ∙ sym (sum_times y.leg.length_of (total ms f) k)

pub transitions_scaled : (k : ℤ) (ms : List Move) → transitions (scaled_moves k ms) ≡ transitions ms
transitions_scaled k [] = refl
transitions_scaled k (y ∷ ms) = ap (λ es. y.transition ∷ es) (transitions_scaled k ms)

module _ (a : Automaton) (wf : IsWellFormed a) where
  pub leg_scaled : (k d : ℤ) (l : ℕ) (p : List ℤ) (t : ℤ) (q : List ℤ) → pos 0 <ℤ k → pos 0 <ℤ d → length p ≡ width a → IsLeg (location_at a l) d p t q →
      IsLeg (location_at a l) (k *ℤ d) (scaled k p) (t *ℤ k) (scaled k q)
  leg_scaled k d l p t q hk hd lp leg =
      let m : ℕ = width a in
      let n : ℕ = suc m + m in
      let lq : length q ≡ m = leg.same_size ∙ lp in
      let lsp : length (scaled k p) ≡ m = length-map p (λ x. x *ℤ k) ∙ lp in
      let lsq : length (scaled k q) ≡ m = length-map q (λ x. x *ℤ k) ∙ lq in
      let ns : List ℤ = q ++ t ∷ p in
      let ms : List ℤ = scaled k q ++ (t *ℤ k) ∷ scaled k p in
      let same : SamePoint (over d ns) (over (k *ℤ d) ms) = same_scaled k d ns ∙ ap (scaled d) (scaled-append k q (t ∷ p)) in
      let one = last_number m q p t lq in
      let two = last_number m (scaled k q) (scaled k p) (t *ℤ k) lsq in
      let first : IsLeg (location_at a l) d (take m (drop (suc m) ns)) (number_at m ns) (take m ns) =
      (same_leg (location_at a l) d (take m (drop (suc m) ns)) p (number_at m ns) t (take m ns) q (ap (take m) one.1 ∙ take_whole m p lp) one.0 (take_here m q (t ∷ p) lq)).1 leg in
      let there = at_same_point n _ (leg_system a l n wf.each_location (omega arith)) d (k *ℤ d) ns ms hd (product_positive k d hk hd)
      (omega (arith, length-append q (t ∷ p), lq, lp)) (omega (arith, length-append (scaled k q) ((t *ℤ k) ∷ scaled k p), lsq, lsp)) same first in
      (same_leg (location_at a l) (k *ℤ d) (take m (drop (suc m) ms)) (scaled k p) (number_at m ms) (t *ℤ k) (take m ms) (scaled k q)
      (ap (take m) two.1 ∙ take_whole m (scaled k p) lsp) two.0 (take_here m (scaled k q) ((t *ℤ k) ∷ scaled k p) lsq)).0 there

  jump_scaled : (k d : ℤ) (e : ℕ) (p q : List ℤ) → pos 0 <ℤ k → pos 0 <ℤ d → length p ≡ width a → IsJump a e d p q → IsJump a e (k *ℤ d) (scaled k p) (scaled k q)
  jump_scaled k d e p q hk hd lp jump =
      let m : ℕ = width a in
      let n : ℕ = m + m in
      let lq : length q ≡ m = jump.same_size ∙ lp in
      let lsp : length (scaled k p) ≡ m = length-map p (λ x. x *ℤ k) ∙ lp in
      let lsq : length (scaled k q) ≡ m = length-map q (λ x. x *ℤ k) ∙ lq in
      let ns : List ℤ = q ++ p in
      let ms : List ℤ = scaled k q ++ scaled k p in
      let same : SamePoint (over d ns) (over (k *ℤ d) ms) = same_scaled k d ns ∙ ap (scaled d) (scaled-append k q p) in
      let first : IsJump a e d (take m (drop m ns)) (take m ns) =
      (same_jump a e d (take m (drop m ns)) p (take m ns) q (ap (take m) (drop_here m q p lq) ∙ take_whole m p lp) (take_here m q p lq)).1 jump in
      let there = at_same_point n _ (jump_system a e n (omega arith)) d (k *ℤ d) ns ms hd (product_positive k d hk hd)
      (omega (arith, length-append q p, lq, lp)) (omega (arith, length-append (scaled k q) (scaled k p), lsq, lsp)) same first in
      (same_jump a e (k *ℤ d) (take m (drop m ms)) (scaled k p) (take m ms) (scaled k q)
      (ap (take m) (drop_here m (scaled k q) (scaled k p) lsq) ∙ take_whole m (scaled k p) lsp) (take_here m (scaled k q) (scaled k p) lsq)).0 there

  pub lead_scaled : (k d : ℤ) (l : ℕ) (p : List ℤ) (ms : List Move) (f : Leg) → pos 0 <ℤ k → pos 0 <ℤ d → length p ≡ width a → LeadOn a d l p ms f →
      LeadOn a (k *ℤ d) l (scaled k p) (scaled_moves k ms) (scaled_leg k f)
  lead_scaled k d l p [] f hk hd lp h = leg_scaled k d l p f.length_of f.at_end hk hd lp h
  lead_scaled k d l p (y ∷ ms) f hk hd lp h =
      let lq : length y.leg.at_end ≡ width a = h.0.same_size ∙ lp in
      let la : length y.after ≡ width a = h.2.same_size ∙ lq in (
        leg_scaled k d l p y.leg.length_of y.leg.at_end hk hd lp h.0,
        h.1,
        jump_scaled k d y.transition y.leg.at_end y.after hk hd lq h.2,
        lead_scaled k d (transition_at a y.transition).target y.after ms f hk hd la h.3,
      )

  -- ---- where the denominator is spelt otherwise

  pub leg_over : (k d c : ℤ) (l : ℕ) (p : List ℤ) (t : ℤ) (q : List ℤ) → pos 0 <ℤ k → pos 0 <ℤ d → length p ≡ width a → k *ℤ d ≡ c → IsLeg (location_at a l) d p t q →
      IsLeg (location_at a l) c (scaled k p) (t *ℤ k) (scaled k q)
  leg_over k d c l p t q hk hd lp e leg = subst (λ n. IsLeg (location_at a l) n (scaled k p) (t *ℤ k) (scaled k q)) e (leg_scaled k d l p t q hk hd lp leg)

  pub jump_over : (k d c : ℤ) (e : ℕ) (p q v : List ℤ) → pos 0 <ℤ k → pos 0 <ℤ d → length p ≡ width a → k *ℤ d ≡ c → scaled k p ≡ v → IsJump a e d p q → IsJump a e c v (scaled k q)
  jump_over k d c e p q v hk hd lp same there jump =
      subst (λ n. IsJump a e n v (scaled k q)) same (subst (λ xs. IsJump a e (k *ℤ d) xs (scaled k q)) there (jump_scaled k d e p q hk hd lp jump))

  pub lead_over : (k d c : ℤ) (l : ℕ) (p v : List ℤ) (ms : List Move) (f : Leg) → pos 0 <ℤ k → pos 0 <ℤ d → length p ≡ width a → k *ℤ d ≡ c → scaled k p ≡ v → LeadOn a d l p ms f →
      LeadOn a c l v (scaled_moves k ms) (scaled_leg k f)
  lead_over k d c l p v ms f hk hd lp same there leads =
      subst (λ n. LeadOn a n l v (scaled_moves k ms) (scaled_leg k f)) same
      (subst (λ xs. LeadOn a (k *ℤ d) l xs (scaled_moves k ms) (scaled_leg k f)) there (lead_scaled k d l p ms f hk hd lp leads))

-- ---- points with an elapsed time

-- the time that is left before the last leg
pub time_back : (k elapsed t : ℤ) (p : List ℤ) → scaled k (p ++ (elapsed -ℤ t) ∷ []) ≡ scaled k p ++ ((elapsed *ℤ k) -ℤ (t *ℤ k)) ∷ []
time_back k elapsed t p = scaled-append k p ((elapsed -ℤ t) ∷ []) ∙ ap (λ z. scaled k p ++ z ∷ []) (difference_times elapsed t k)

pub starts_over : (state : List Row) (k d c elapsed t : ℤ) (p : List ℤ) → pos 0 <ℤ k → pos 0 <ℤ d → k *ℤ d ≡ c → AllHold state (over d (p ++ (elapsed -ℤ t) ∷ [])) →
    AllHold state (over c (scaled k p ++ ((elapsed *ℤ k) -ℤ (t *ℤ k)) ∷ []))
starts_over state k d c elapsed t p hk hd same h =
    let ns : List ℤ = p ++ (elapsed -ℤ t) ∷ [] in
    let there : AllHold state (over (k *ℤ d) (scaled k ns)) = all_same state (over d ns) (over (k *ℤ d) (scaled k ns)) hd (product_positive k d hk hd) (same_scaled k d ns) h in
    subst (λ n. AllHold state (over n (scaled k p ++ ((elapsed *ℤ k) -ℤ (t *ℤ k)) ∷ []))) same (subst (λ xs. AllHold state (over (k *ℤ d) xs)) (time_back k elapsed t p) there)

pub ends_over : (k d c : ℤ) (q : List ℤ) (x z : ℤ) → k *ℤ d ≡ c → x *ℤ k ≡ z → SamePoint (over d (q ++ x ∷ [])) (over c (scaled k q ++ z ∷ []))
ends_over k d c q x z same e =
    let there : scaled k (q ++ x ∷ []) ≡ scaled k q ++ z ∷ [] = scaled-append k q (x ∷ []) ∙ ap (λ w. scaled k q ++ w ∷ []) e in
    subst (λ n. SamePoint (over d (q ++ x ∷ [])) (over n (scaled k q ++ z ∷ []))) same
    (subst (λ xs. SamePoint (over d (q ++ x ∷ [])) (over (k *ℤ d) xs)) there (same_scaled k d (q ++ x ∷ [])))
