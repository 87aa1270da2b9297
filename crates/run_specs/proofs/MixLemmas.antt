-- Between two points, legs, jumps and gap runs: the points are mixed with positive factors, and so are the parts of the runs.
use Rattle.std.proofs.Common.{◌≡◌, inl, inr, ℕ, zero, suc, Bool, List, [], ◌∷◌, ◌++◌, length, length-append, map, Option, refl, sym, ◌∙◌, ap, subst, arith, ℤ, pos, negsuc, ◌+ℤ◌, ◌-ℤ◌, ◌*ℤ◌, ◌≤ℤ◌, ◌<ℤ◌}
use Rattle.std.specs.Prelude.{All}
use Rattle.std.proofs.lemmas.Int.{ints}
use Rattle.std.proofs.lemmas.Bool.{cases_lt}
use Rattle.std.proofs.lemmas.List.{get_or_past}
use Rattle.poly_specs.proofs.IntLemmas.{products, expand, add_mul, mul_le, mul_comm_int, product_positive}
use Rattle.poly_specs.proofs.LinearLemmas.{Allows-mix, Allows-left}
use Rattle.poly_specs.proofs.EliminationLemmas.{AllHold-from_in, AllHold-at_in}
use Rattle.run_specs.proofs.StageLemmas.{length-minus, slopes_at}
use Rattle.poly_specs.specs.Lists.{dot, plus, minus, scaled, number_at}
use Rattle.poly_specs.specs.Fractions.{Fraction, DifferAtMost}
use Rattle.poly_specs.specs.Rows.{Row, over, row_value, Allows, Holds, AllHold}
use Rattle.run_specs.specs.Automaton.{Automaton, Location, never, nowhere, width, location_at, transition_at, tolerance_at}
use Rattle.run_specs.specs.WellFormed.{IsLocation}
use Rattle.run_specs.specs.Logs.{IsPassing}
use Rattle.run_specs.specs.Runs.{Leg, Move, IsLeg, IsJump, LeadOn, total}

-- ---- lists of numbers

-- the sums of the numbers, times k and times m
abbrev pub mixed : ℤ → ℤ → List ℤ → List ℤ → List ℤ
mixed k m ps qs = plus (scaled k ps) (scaled m qs)

pub length-mixed : (k m : ℤ) (ps qs : List ℤ) → length ps ≡ length qs → length (mixed k m ps qs) ≡ length ps
length-mixed k m [] [] e = refl
length-mixed k m [] (q ∷ qs) e = absurd (omega arith)
length-mixed k m (p ∷ ps) [] e = absurd (omega arith)
length-mixed k m (p ∷ ps) (q ∷ qs) e = ap suc (length-mixed k m ps qs (omega arith))

pub number-mixed : (k m : ℤ) (ps qs : List ℤ) → length ps ≡ length qs → (j : ℕ) → number_at j (mixed k m ps qs) ≡ number_at j ps *ℤ k +ℤ number_at j qs *ℤ m
number-mixed k m [] [] e j = omega (arith, ints)
number-mixed k m [] (q ∷ qs) e j = absurd (omega arith)
number-mixed k m (p ∷ ps) [] e j = absurd (omega arith)
number-mixed k m (p ∷ ps) (q ∷ qs) e zero = refl
number-mixed k m (p ∷ ps) (q ∷ qs) e (suc j) = number-mixed k m ps qs (omega arith) j

pub mixed-append : (k m : ℤ) (ps qs us vs : List ℤ) → length ps ≡ length qs → mixed k m (ps ++ us) (qs ++ vs) ≡ mixed k m ps qs ++ mixed k m us vs
mixed-append k m [] [] us vs e = refl
mixed-append k m [] (q ∷ qs) us vs e = absurd (omega arith)
mixed-append k m (p ∷ ps) [] us vs e = absurd (omega arith)
mixed-append k m (p ∷ ps) (q ∷ qs) us vs e = ap (λ ns. (p *ℤ k +ℤ q *ℤ m) ∷ ns) (mixed-append k m ps qs us vs (omega arith))

mixed-minus : (k m : ℤ) (qs ps vs us : List ℤ) → length qs ≡ length ps → length ps ≡ length us → length vs ≡ length us →
    minus (mixed k m qs vs) (mixed k m ps us) ≡ mixed k m (minus qs ps) (minus vs us)
mixed-minus k m [] [] [] [] e f g = refl
mixed-minus k m [] [] [] (u ∷ us) e f g = absurd (omega arith)
mixed-minus k m [] [] (v ∷ vs) [] e f g = absurd (omega arith)
mixed-minus k m [] [] (v ∷ vs) (u ∷ us) e f g = absurd (omega arith)
mixed-minus k m [] (p ∷ ps) vs us e f g = absurd (omega arith)
mixed-minus k m (q ∷ qs) [] vs us e f g = absurd (omega arith)
mixed-minus k m (q ∷ qs) (p ∷ ps) [] us e f g = absurd (omega arith)
mixed-minus k m (q ∷ qs) (p ∷ ps) (v ∷ vs) [] e f g = absurd (omega arith)
mixed-minus k m (q ∷ qs) (p ∷ ps) (v ∷ vs) (u ∷ us) e f g =
    let a : (q *ℤ k +ℤ v *ℤ m) -ℤ (p *ℤ k +ℤ u *ℤ m) ≡ (q -ℤ p) *ℤ k +ℤ (v -ℤ u) *ℤ m = simp expand (omega (arith, products)) in
    let b = mixed-minus k m qs ps vs us (omega arith) (omega arith) (omega arith) in cc

dot-mixed : (k m : ℤ) (cs ps qs : List ℤ) → length ps ≡ length qs → dot cs (mixed k m ps qs) ≡ dot cs ps *ℤ k +ℤ dot cs qs *ℤ m
dot-mixed k m [] ps qs e = omega (arith, ints)
dot-mixed k m (c ∷ cs) [] [] e = omega (arith, ints)
dot-mixed k m (c ∷ cs) [] (q ∷ qs) e = absurd (omega arith)
dot-mixed k m (c ∷ cs) (p ∷ ps) [] e = absurd (omega arith)
dot-mixed k m (c ∷ cs) (p ∷ ps) (q ∷ qs) e =
    let r = dot-mixed k m cs ps qs (omega arith) in
    let a : c *ℤ (p *ℤ k +ℤ q *ℤ m) ≡ (c *ℤ p) *ℤ k +ℤ (c *ℤ q) *ℤ m = simp expand (omega (arith, products)) in
    let b : (c *ℤ p +ℤ dot cs ps) *ℤ k ≡ (c *ℤ p) *ℤ k +ℤ dot cs ps *ℤ k = add_mul (c *ℤ p) (dot cs ps) k in
    let d : (c *ℤ q +ℤ dot cs qs) *ℤ m ≡ (c *ℤ q) *ℤ m +ℤ dot cs qs *ℤ m = add_mul (c *ℤ q) (dot cs qs) m in
    omega (arith, ints, r, a, b, d)

-- ---- rows

-- the factors, and the denominators that they belong to
pub record IsMix (k m d c e : ℤ) : Type 0 where
  pub first : pos 0 <ℤ k
  pub second : pos 0 <ℤ m
  pub first_den : pos 0 <ℤ d
  pub second_den : pos 0 <ℤ c
  pub den : e ≡ d *ℤ k +ℤ c *ℤ m

pub mix-positive : {k m d c e : ℤ} → IsMix k m d c e → pos 0 <ℤ e
mix-positive {k} {m} {d} {c} {e} is =
    let a = product_positive d k is.first_den is.first in
    let b = product_positive c m is.second_den is.second in
    omega (arith, ints, a, b, is.den)

Allows-mixed : (s : Bool) (k m v w : ℤ) → pos 0 <ℤ k → pos 0 <ℤ m → Allows s v → Allows s w → Allows s (v *ℤ k +ℤ w *ℤ m)
Allows-mixed s (pos k) (pos m) v w hk hm a b =
    let e : v *ℤ pos k +ℤ w *ℤ pos m ≡ pos k *ℤ v +ℤ pos m *ℤ w = omega (arith, ints) in
    subst (Allows s) (sym e) (Allows-left s s (pos k *ℤ v +ℤ pos m *ℤ w) (Allows-mix s s k m v w (omega (arith, ints)) (omega (arith, ints)) a b))
Allows-mixed s (pos k) (negsuc m) v w hk hm a b = absurd (omega (arith, ints))
Allows-mixed s (negsuc k) m v w hk hm a b = absurd (omega (arith, ints))

value-mixed : (k m d c e : ℤ) (r : Row) (ps qs : List ℤ) → e ≡ d *ℤ k +ℤ c *ℤ m → length ps ≡ length qs →
    row_value r (over e (mixed k m ps qs)) ≡ row_value r (over d ps) *ℤ k +ℤ row_value r (over c qs) *ℤ m
value-mixed k m d c e r ps qs den l =
    let a = dot-mixed k m r.coef ps qs l in
    let f : r.cst *ℤ e ≡ (r.cst *ℤ d) *ℤ k +ℤ (r.cst *ℤ c) *ℤ m = ap (λ z. r.cst *ℤ z) den ∙ simp expand (omega (arith, products)) in
    let b = add_mul (dot r.coef ps) (r.cst *ℤ d) k in
    let g = add_mul (dot r.coef qs) (r.cst *ℤ c) m in
    omega (arith, ints, a, f, b, g)

pub rows-mixed : {k m d c e : ℤ} (rows : List Row) (ps qs : List ℤ) → IsMix k m d c e → length ps ≡ length qs →
    AllHold rows (over d ps) → AllHold rows (over c qs) → AllHold rows (over e (mixed k m ps qs))
rows-mixed {k} {m} {d} {c} {e} rows ps qs is l h g = AllHold-from_in rows (over e (mixed k m ps qs)) (λ r i.
    subst (Allows r.strict) (sym (value-mixed k m d c e r ps qs is.den l))
    (Allows-mixed r.strict k m (row_value r (over d ps)) (row_value r (over c qs)) is.first is.second
    (AllHold-at_in rows (over d ps) h r i) (AllHold-at_in rows (over c qs) g r i)))

-- ---- legs and jumps

abbrev pub mixed_leg : ℤ → ℤ → Leg → Leg → Leg
mixed_leg k m l r = record { length_of = l.length_of *ℤ k +ℤ r.length_of *ℤ m; at_end = mixed k m l.at_end r.at_end }

no_time : (k t : ℤ) → pos 0 <ℤ k → pos 0 ≤ℤ t → (t *ℤ k) ≤ℤ pos 0 → t ≡ pos 0
no_time k (pos zero) hk h e = refl
no_time k (pos (suc n)) hk h e = absurd (let p = product_positive (pos (suc n)) k (omega (arith, ints)) hk in omega (arith, ints, p, e))
no_time k (negsuc n) hk h e = absurd (omega (arith, ints))

time_there : (k t : ℤ) → pos 0 <ℤ k → pos 0 ≤ℤ t → pos 0 ≤ℤ (t *ℤ k)
time_there k t hk h = let m = mul_le k (pos 0) t hk h in omega (arith, ints, m)

pub leg-mixed : {k m d c e : ℤ} (n : ℕ) (loc : Location) (p u : List ℤ) (t s : ℤ) (q v : List ℤ) → IsMix k m d c e → IsLocation n loc →
    length p ≡ n → length u ≡ n → IsLeg loc d p t q → IsLeg loc c u s v →
    IsLeg loc e (mixed k m p u) (t *ℤ k +ℤ s *ℤ m) (mixed k m q v)
leg-mixed {k} {m} {d} {c} {e} n loc p u t s q v is loc_is lp lu one two =
    let lq : length q ≡ n = one.same_size ∙ lp in
    let lv : length v ≡ n = two.same_size ∙ lu in
    let a = time_there k t is.first one.lasts in
    let b = time_there m s is.second two.lasts in
    record {
      same_size = length-mixed k m q v (lq ∙ sym lv) ∙ one.same_size ∙ sym (length-mixed k m p u (lp ∙ sym lu));
      lasts = omega (arith, ints, a, b);
      inside_before = rows-mixed loc.invariant p u is (lp ∙ sym lu) one.inside_before two.inside_before;
      inside_after = rows-mixed loc.invariant q v is (lq ∙ sym lv) one.inside_after two.inside_after;
      still = λ z.
          let x = one.still (no_time k t is.first one.lasts (omega (arith, ints, a, b, z))) in
          let y = two.still (no_time m s is.second two.lasts (omega (arith, ints, a, b, z))) in
          cc;
      straight = λ _. subst (λ ns. AllHold loc.slopes (over e ns)) (together lq lv)
          (rows-mixed loc.slopes (minus q p ++ t ∷ []) (minus v u ++ s ∷ []) is (same_length lq lv)
          (slopes_at n loc d q t p loc_is lp one) (slopes_at n loc c v s u loc_is lu two));
    }
  where
    sized : (q p : List ℤ) → length q ≡ n → length p ≡ n → length (minus q p) ≡ n
    sized q p lq lp = length-minus q p (lq ∙ sym lp) ∙ lp

    same_length : length q ≡ n → length v ≡ n → length (minus q p ++ t ∷ []) ≡ length (minus v u ++ s ∷ [])
    same_length lq lv =
        omega (arith, length-append (minus q p) (t ∷ []), length-append (minus v u) (s ∷ []), sized q p lq lp, sized v u lv lu)

    together : length q ≡ n → length v ≡ n → mixed k m (minus q p ++ t ∷ []) (minus v u ++ s ∷ []) ≡ minus (mixed k m q v) (mixed k m p u) ++ (t *ℤ k +ℤ s *ℤ m) ∷ []
    together lq lv =
        mixed-append k m (minus q p) (minus v u) (t ∷ []) (s ∷ []) (sized q p lq lp ∙ sym (sized v u lv lu))
        ∙ ap (λ ns. ns ++ (t *ℤ k +ℤ s *ℤ m) ∷ []) (sym (mixed-minus k m q p v u (lq ∙ sym lp) (lp ∙ sym lu) (lv ∙ sym lu)))

pub jump-mixed : {k m d c e : ℤ} (a : Automaton) (j : ℕ) (p u q v : List ℤ) → IsMix k m d c e → length p ≡ length u → IsJump a j d p q → IsJump a j c u v →
    IsJump a j e (mixed k m p u) (mixed k m q v)
jump-mixed {k} {m} {d} {c} {e} a j p u q v is l one two =
    let lq : length q ≡ length v = one.same_size ∙ l ∙ sym two.same_size in
    record {
      same_size = length-mixed k m q v lq ∙ one.same_size ∙ sym (length-mixed k m p u l);
      related = subst (λ ns. AllHold (transition_at a j).relation (over e ns)) (mixed-append k m p u q v l)
          (rows-mixed (transition_at a j).relation (p ++ q) (u ++ v) is (omega (arith, length-append p q, length-append u v)) one.related two.related);
      inside_after = rows-mixed (location_at a (transition_at a j).target).invariant q v is lq one.inside_after two.inside_after;
    }

-- ---- gap runs

abbrev pub mixed_moves : ℤ → ℤ → List Move → List Move → List Move
mixed_moves k m [] ns = []
mixed_moves k m (x ∷ ms) [] = []
mixed_moves k m (x ∷ ms) (y ∷ ns) =
    record { leg = mixed_leg k m x.leg y.leg; transition = x.transition; after = mixed k m x.after y.after } ∷ mixed_moves k m ms ns

abbrev pub transitions : List Move → List ℕ
transitions ms = map (λ x. x.transition) ms

head_same : (x y : ℕ) (xs ys : List ℕ) → x ∷ xs ≡ y ∷ ys → x ≡ y
head_same x y xs ys e = cc

tail_same : (x y : ℕ) (xs ys : List ℕ) → x ∷ xs ≡ y ∷ ys → xs ≡ ys
tail_same x y xs ys e = cc

pub transitions-mixed : (k m : ℤ) (ms ns : List Move) → transitions ms ≡ transitions ns → transitions (mixed_moves k m ms ns) ≡ transitions ms
transitions-mixed k m [] ns e = refl
transitions-mixed k m (x ∷ ms) [] e = absurd (let b : ⊥ = cc in b)
transitions-mixed k m (x ∷ ms) (y ∷ ns) e =
    ap (λ xs. x.transition ∷ xs) (transitions-mixed k m ms ns (tail_same x.transition y.transition (transitions ms) (transitions ns) e))

pub total-mixed : (k m : ℤ) (ms ns : List Move) (l r : Leg) → transitions ms ≡ transitions ns →
    total (mixed_moves k m ms ns) (mixed_leg k m l r) ≡ total ms l *ℤ k +ℤ total ns r *ℤ m
total-mixed k m [] [] l r e = refl
total-mixed k m [] (y ∷ ns) l r e = absurd (let b : ⊥ = cc in b)
total-mixed k m (x ∷ ms) [] l r e = absurd (let b : ⊥ = cc in b)
total-mixed k m (x ∷ ms) (y ∷ ns) l r e =
    let rest = total-mixed k m ms ns l r (tail_same x.transition y.transition (transitions ms) (transitions ns) e) in
    let a = add_mul x.leg.length_of (total ms l) k in
    let b = add_mul y.leg.length_of (total ns r) m in
    omega (arith, ints, rest, a, b)

-- a leg stays in a location of the automaton: past the last, no point is
here : (a : Automaton) (l : ℕ) (d : ℤ) (p : List ℤ) (t : ℤ) (q : List ℤ) → All (IsLocation (width a)) a.locations → pos 0 <ℤ d → IsLeg (location_at a l) d p t q →
    IsLocation (width a) (location_at a l)
here a l d p t q locs hd leg = elim (cases_lt l (length a.locations)) [
  | inl lt ↦ locs l nowhere lt
  | inr ge ↦ absurd (
      let past : location_at a l ≡ nowhere = get_or_past a.locations l nowhere ge in
      let none : AllHold (never ∷ []) (over d p) = subst (λ loc. AllHold loc.invariant (over d p)) past leg.inside_before in
      let h : Holds never (over d p) = AllHold-at_in (never ∷ []) (over d p) none never (inl refl) in
      omega (arith, ints, h, hd))
]

pub lead-mixed : {k m d c e : ℤ} (a : Automaton) (l : ℕ) (p u : List ℤ) (ms ns : List Move) (f g : Leg) → IsMix k m d c e → All (IsLocation (width a)) a.locations →
    length p ≡ width a → length u ≡ width a → transitions ms ≡ transitions ns → LeadOn a d l p ms f → LeadOn a c l u ns g →
    LeadOn a e l (mixed k m p u) (mixed_moves k m ms ns) (mixed_leg k m f g)
lead-mixed {k} {m} {d} {c} {e} a l p u [] [] f g is locs lp lu same one two =
    leg-mixed (width a) (location_at a l) p u f.length_of g.length_of f.at_end g.at_end is (here a l d p f.length_of f.at_end locs is.first_den one) lp lu one two
lead-mixed a l p u [] (y ∷ ns) f g is locs lp lu same one two = absurd (let b : ⊥ = cc in b)
lead-mixed a l p u (x ∷ ms) [] f g is locs lp lu same one two = absurd (let b : ⊥ = cc in b)
lead-mixed {k} {m} {d} {c} {e} a l p u (x ∷ ms) (y ∷ ns) f g is locs lp lu same one two =
    let loc = here a l d p x.leg.length_of x.leg.at_end locs is.first_den one.0 in
    let next_one : y.transition ≡ x.transition = sym (head_same x.transition y.transition (transitions ms) (transitions ns) same) in
    let lx : length x.leg.at_end ≡ width a = one.0.same_size ∙ lp in
    let ly : length y.leg.at_end ≡ width a = two.0.same_size ∙ lu in
    let jump : IsJump a x.transition c y.leg.at_end y.after = subst (λ i. IsJump a i c y.leg.at_end y.after) next_one two.2 in
    let next : LeadOn a c (transition_at a x.transition).target y.after ns g = subst (λ i. LeadOn a c (transition_at a i).target y.after ns g) next_one two.3 in (
      leg-mixed (width a) (location_at a l) p u x.leg.length_of y.leg.length_of x.leg.at_end y.leg.at_end is loc lp lu one.0 two.0,
      one.1,
      jump-mixed a x.transition x.leg.at_end y.leg.at_end x.after y.after is (lx ∙ sym ly) one.2 jump,
      lead-mixed a (transition_at a x.transition).target x.after y.after ms ns f g is locs (one.2.same_size ∙ lx) (two.2.same_size ∙ ly)
          (tail_same x.transition y.transition (transitions ms) (transitions ns) same) one.3 next,
    )

-- ---- samples

le-mixed : (k m x y z w : ℤ) → pos 0 <ℤ k → pos 0 <ℤ m → x ≤ℤ y → z ≤ℤ w → (x *ℤ k +ℤ z *ℤ m) ≤ℤ (y *ℤ k +ℤ w *ℤ m)
le-mixed k m x y z w hk hm a b = let f = mul_le k x y hk a in let g = mul_le m z w hm b in omega (arith, ints, f, g)

le-same : {x x' y y' : ℤ} → x' ≡ x → y' ≡ y → x ≤ℤ y → x' ≤ℤ y'
le-same e f h = omega (arith, ints, e, f, h)

-- a product with a mixed sum
factor_in : (a x k y m : ℤ) → a *ℤ (x *ℤ k +ℤ y *ℤ m) ≡ (a *ℤ x) *ℤ k +ℤ (a *ℤ y) *ℤ m
factor_in a x k y m = simp expand (omega (arith, products))

factor_out : (a x k y m : ℤ) → (x *ℤ k +ℤ y *ℤ m) *ℤ a ≡ (x *ℤ a) *ℤ k +ℤ (y *ℤ a) *ℤ m
factor_out a x k y m = simp expand (omega (arith, products))

gap-mixed : (k m a b n x d c : ℤ) → a *ℤ (d *ℤ k +ℤ c *ℤ m) -ℤ (n *ℤ k +ℤ x *ℤ m) *ℤ b ≡ (a *ℤ d -ℤ n *ℤ b) *ℤ k +ℤ (a *ℤ c -ℤ x *ℤ b) *ℤ m
gap-mixed k m a b n x d c = simp expand (omega (arith, products))

back-mixed : (k m a b n x d c : ℤ) → (n *ℤ k +ℤ x *ℤ m) *ℤ b -ℤ a *ℤ (d *ℤ k +ℤ c *ℤ m) ≡ (n *ℤ b -ℤ a *ℤ d) *ℤ k +ℤ (x *ℤ b -ℤ a *ℤ c) *ℤ m
back-mixed k m a b n x d c = simp expand (omega (arith, products))

-- a number within the tolerance w of v at both ends is so between them
near-mixed : {k m d c e : ℤ} (w v : Fraction) (n x : ℤ) → IsMix k m d c e →
    DifferAtMost w v (record { num = n; den = d }) → DifferAtMost w v (record { num = x; den = c }) →
    DifferAtMost w v (record { num = n *ℤ k +ℤ x *ℤ m; den = e })
near-mixed {k} {m} {d} {c} {e} w v n x is (a, b) (f, g) =
    let one : v.den *ℤ (d *ℤ k +ℤ c *ℤ m) ≡ (v.den *ℤ d) *ℤ k +ℤ (v.den *ℤ c) *ℤ m = factor_in v.den d k c m in
    let two : w.num *ℤ (v.den *ℤ (d *ℤ k +ℤ c *ℤ m)) ≡ (w.num *ℤ (v.den *ℤ d)) *ℤ k +ℤ (w.num *ℤ (v.den *ℤ c)) *ℤ m =
    ap (λ z. w.num *ℤ z) one ∙ factor_in w.num (v.den *ℤ d) k (v.den *ℤ c) m in
    let swapped : w.num *ℤ ((d *ℤ k +ℤ c *ℤ m) *ℤ v.den) ≡ w.num *ℤ (v.den *ℤ (d *ℤ k +ℤ c *ℤ m)) = ap (λ z. w.num *ℤ z) (mul_comm_int (d *ℤ k +ℤ c *ℤ m) v.den) in
    let there : w.num *ℤ (d *ℤ v.den) ≡ w.num *ℤ (v.den *ℤ d) = ap (λ z. w.num *ℤ z) (mul_comm_int d v.den) in
    let here : w.num *ℤ (c *ℤ v.den) ≡ w.num *ℤ (v.den *ℤ c) = ap (λ z. w.num *ℤ z) (mul_comm_int c v.den) in
    let up : (v.num *ℤ (d *ℤ k +ℤ c *ℤ m) -ℤ (n *ℤ k +ℤ x *ℤ m) *ℤ v.den) *ℤ w.den ≡ ((v.num *ℤ d -ℤ n *ℤ v.den) *ℤ w.den) *ℤ k +ℤ ((v.num *ℤ c -ℤ x *ℤ v.den) *ℤ w.den) *ℤ m =
    ap (λ z. z *ℤ w.den) (gap-mixed k m v.num v.den n x d c) ∙ factor_out w.den (v.num *ℤ d -ℤ n *ℤ v.den) k (v.num *ℤ c -ℤ x *ℤ v.den) m in
    let down : ((n *ℤ k +ℤ x *ℤ m) *ℤ v.den -ℤ v.num *ℤ (d *ℤ k +ℤ c *ℤ m)) *ℤ w.den ≡ ((n *ℤ v.den -ℤ v.num *ℤ d) *ℤ w.den) *ℤ k +ℤ ((x *ℤ v.den -ℤ v.num *ℤ c) *ℤ w.den) *ℤ m =
    ap (λ z. z *ℤ w.den) (back-mixed k m v.num v.den n x d c) ∙ factor_out w.den (n *ℤ v.den -ℤ v.num *ℤ d) k (x *ℤ v.den -ℤ v.num *ℤ c) m in
    let p = le-mixed k m ((v.num *ℤ d -ℤ n *ℤ v.den) *ℤ w.den) (w.num *ℤ (v.den *ℤ d)) ((v.num *ℤ c -ℤ x *ℤ v.den) *ℤ w.den) (w.num *ℤ (v.den *ℤ c)) is.first is.second a f in
    let q = le-mixed k m ((n *ℤ v.den -ℤ v.num *ℤ d) *ℤ w.den) (w.num *ℤ (v.den *ℤ d)) ((x *ℤ v.den -ℤ v.num *ℤ c) *ℤ w.den) (w.num *ℤ (v.den *ℤ c)) is.first is.second
    (subst (λ z. ((n *ℤ v.den -ℤ v.num *ℤ d) *ℤ w.den) ≤ℤ z) there b) (subst (λ z. ((x *ℤ v.den -ℤ v.num *ℤ c) *ℤ w.den) ≤ℤ z) here g) in
    subst (λ z. DifferAtMost w v (record { num = n *ℤ k +ℤ x *ℤ m; den = z })) (sym is.den) (
      le-same up two p,
      le-same down (swapped ∙ two) q,
    )

pub passing-mixed : {k m d c e : ℤ} (a : Automaton) (cells : List (Option Fraction)) (ps qs : List ℤ) → IsMix k m d c e →
    IsPassing a cells (over d ps) → IsPassing a cells (over c qs) → IsPassing a cells (over e (mixed k m ps qs))
passing-mixed {k} {m} {d} {c} {e} a cells ps qs is one two =
    let l : length ps ≡ length qs = one.sized ∙ sym two.sized in
    record {
      sized = length-mixed k m ps qs l ∙ one.sized;
      near = λ j v s. subst (λ z. DifferAtMost (tolerance_at a j) v (record { num = z; den = e })) (sym (number-mixed k m ps qs l j))
          (near-mixed (tolerance_at a j) v (number_at j ps) (number_at j qs) is (one.near j v s) (two.near j v s));
    }
