-- The values that are left for a number of a first run are an interval.
use Rattle.std.proofs.Common.{◌≡◌, inl, inr, ℕ, zero, suc, ◌+◌, ◌<◌, List, [], ◌∷◌, ◌++◌, length, length-append, take, get_or, refl, sym, ◌∙◌, ap, subst, arith, ℤ, pos, ◌+ℤ◌, ◌-ℤ◌, ◌*ℤ◌, ◌<ℤ◌}
use Rattle.std.specs.List.{AllZip}
use Rattle.std.proofs.lemmas.Int.{ints}
use Rattle.poly_specs.proofs.IntLemmas.{products, expand, product_positive}
use Rattle.poly_specs.proofs.FractionLemmas.{AtMost-trans, AtMost-same, either, same-AtMost, same-trans}
use Rattle.run_specs.proofs.MixLemmas.{mixed, mixed-append, mixed_leg, mixed_moves, transitions}
use Rattle.run_specs.proofs.MixRuns.{mid, mid-of_same, mixed_gap, mixed_gaps, mixed_run, IsAlike, runs_alike, history-mixed, aimed-mixed}
use Rattle.poly_specs.specs.Fractions.{Fraction, IsFraction, SameFraction, AtMost, Below, fractions, zero_fraction}
use Rattle.poly_specs.specs.Sets.{IsInterval}
use Rattle.run_specs.specs.Automaton.{Automaton, width, transition_at}
use Rattle.run_specs.specs.WellFormed.{IsWellFormed}
use Rattle.run_specs.specs.Logs.{Sample}
use Rattle.run_specs.specs.Runs.{Leg, Move, GapRun, Run, LeadOn}
use Rattle.run_specs.specs.Histories.{history_of}
use Rattle.run_specs.specs.Aims.{Aim, IsAimedRun}
use Rattle.run_specs.specs.FirstRun.{backwards, numbers_before, last_values, picked, pick_at, Takes, IsLeft}

-- ---- lists of fractions

abbrev pub mids : ℤ → ℤ → List Fraction → List Fraction → List Fraction
mids w x [] zs = []
mids w x (y ∷ ys) [] = []
mids w x (y ∷ ys) (z ∷ zs) = mid w x y z ∷ mids w x ys zs

mids-append : (w x : ℤ) (ys zs us vs : List Fraction) → length ys ≡ length zs → mids w x (ys ++ us) (zs ++ vs) ≡ mids w x ys zs ++ mids w x us vs
mids-append w x [] [] us vs e = refl
mids-append w x [] (z ∷ zs) us vs e = absurd (omega arith)
mids-append w x (y ∷ ys) [] us vs e = absurd (omega arith)
mids-append w x (y ∷ ys) (z ∷ zs) us vs e = ap (λ ns. mid w x y z ∷ ns) (mids-append w x ys zs us vs (omega arith))

mids-at : (w x : ℤ) (ys zs : List Fraction) (i : ℕ) → length ys ≡ length zs → i < length ys → get_or (mids w x ys zs) i zero_fraction ≡ mid w x (get_or ys i zero_fraction) (get_or zs i zero_fraction)
mids-at w x [] zs i e h = absurd (omega arith)
mids-at w x (y ∷ ys) [] i e h = absurd (omega arith)
mids-at w x (y ∷ ys) (z ∷ zs) zero e h = refl
mids-at w x (y ∷ ys) (z ∷ zs) (suc i) e h = mids-at w x ys zs i (omega arith) (omega arith)

fractions-mixed : (w x d c : ℤ) (ps qs : List ℤ) → fractions (d *ℤ (w *ℤ c) +ℤ c *ℤ (x *ℤ d)) (mixed (w *ℤ c) (x *ℤ d) ps qs) ≡ mids w x (fractions d ps) (fractions c qs)
fractions-mixed w x d c [] [] = refl
fractions-mixed w x d c [] (q ∷ qs) = refl
fractions-mixed w x d c (p ∷ ps) [] = refl
fractions-mixed w x d c (p ∷ ps) (q ∷ qs) = ap (λ ns. mid w x (record { num = p; den = d }) (record { num = q; den = c }) ∷ ns) (fractions-mixed w x d c ps qs)

pub length-fractions : (d : ℤ) (ns : List ℤ) → length (fractions d ns) ≡ length ns
length-fractions d [] = refl
length-fractions d (n ∷ ns) = ap suc (length-fractions d ns)

-- all are fractions
abbrev pub AllFractions : List Fraction → Type 0
AllFractions [] = Unit {0}
AllFractions (y ∷ ys) = IsFraction y × AllFractions ys

fractions_are : (d : ℤ) (ns : List ℤ) → pos 0 <ℤ d → AllFractions (fractions d ns)
fractions_are d [] h = tt
fractions_are d (n ∷ ns) h = (h, fractions_are d ns h)

all_both : (ys zs : List Fraction) → AllFractions ys → AllFractions zs → AllFractions (ys ++ zs)
all_both [] zs h g = g
all_both (y ∷ ys) zs h g = (h.0, all_both ys zs h.1 g)

pub fraction_at : (ys : List Fraction) (i : ℕ) → AllFractions ys → IsFraction (get_or ys i zero_fraction)
fraction_at [] i h = record { lt = tt }
fraction_at (y ∷ ys) zero h = h.0
fraction_at (y ∷ ys) (suc i) h = fraction_at ys i h.1

same-mids : (w x : ℤ) (i : ℕ) (ys zs vs : List Fraction) → pos 0 <ℤ w → pos 0 <ℤ x → AllFractions ys → AllFractions zs → AllFractions vs →
    AllZip SameFraction (take i ys) (take i vs) → AllZip SameFraction (take i zs) (take i vs) → AllZip SameFraction (take i (mids w x ys zs)) (take i vs)
same-mids w x zero ys zs vs hw hx hy hz hv e f = tt
same-mids w x (suc i) [] zs [] hw hx hy hz hv e f = tt
same-mids w x (suc i) [] zs (v ∷ vs) hw hx hy hz hv e f = absurd e
same-mids w x (suc i) (y ∷ ys) [] [] hw hx hy hz hv e f = absurd e
same-mids w x (suc i) (y ∷ ys) [] (v ∷ vs) hw hx hy hz hv e f = absurd f
same-mids w x (suc i) (y ∷ ys) (z ∷ zs) [] hw hx hy hz hv e f = absurd e
same-mids w x (suc i) (y ∷ ys) (z ∷ zs) (v ∷ vs) hw hx hy hz hv e f =
    (mid-of_same w x y z v hw hx hy.0 hz.0 hv.0 e.0 f.0, same-mids w x i ys zs vs hw hx hy.1 hz.1 hv.1 e.1 f.1)

-- ---- the numbers of a gap

-- how many numbers a path has, for n variables
abbrev size : ℕ → List Move → ℕ
size n [] = suc n
size n (y ∷ ms) = size n ms + n + suc n

size-same : (n : ℕ) (ms ns : List Move) → transitions ms ≡ transitions ns → size n ms ≡ size n ns
size-same n [] [] e = refl
size-same n [] (y ∷ ns) e = absurd (let b : ⊥ = cc in b)
size-same n (y ∷ ms) [] e = absurd (let b : ⊥ = cc in b)
size-same n (y ∷ ms) (z ∷ ns) e =
    let t : transitions ms ≡ transitions ns = cc in let h = size-same n ms ns t in omega (arith, h)

pub length-backwards : (a : Automaton) (n : ℕ) (d : ℤ) (l : ℕ) (p : List ℤ) (ms : List Move) (f : Leg) → length p ≡ n → LeadOn a d l p ms f → length (backwards p ms f) ≡ size n ms
length-backwards a n d l p [] f lp h = ap suc lp
length-backwards a n d l p (y ∷ ms) f lp h =
    let ly : length y.leg.at_end ≡ n = h.0.same_size ∙ lp in
    let rest = length-backwards a n d (transition_at a y.transition).target y.after ms f (h.2.same_size ∙ ly) h.3 in
    omega (arith, rest, ly, lp, length-append (backwards y.after ms f ++ y.leg.at_end) (y.leg.length_of ∷ p), length-append (backwards y.after ms f) y.leg.at_end)

backwards-mixed : (a : Automaton) (n : ℕ) (k m d c : ℤ) (l j : ℕ) (p u : List ℤ) (ms ns : List Move) (f g : Leg) → length p ≡ n → length u ≡ n → transitions ms ≡ transitions ns →
    LeadOn a d l p ms f → LeadOn a c j u ns g → backwards (mixed k m p u) (mixed_moves k m ms ns) (mixed_leg k m f g) ≡ mixed k m (backwards p ms f) (backwards u ns g)
backwards-mixed a n k m d c l j p u [] [] f g lp lu e h i = refl
backwards-mixed a n k m d c l j p u [] (z ∷ ns) f g lp lu e h i = absurd (let b : ⊥ = cc in b)
backwards-mixed a n k m d c l j p u (y ∷ ms) [] f g lp lu e h i = absurd (let b : ⊥ = cc in b)
backwards-mixed a n k m d c l j p u (y ∷ ms) (z ∷ ns) f g lp lu e h i =
    let t : transitions ms ≡ transitions ns = cc in
    let ly : length y.leg.at_end ≡ n = h.0.same_size ∙ lp in
    let lz : length z.leg.at_end ≡ n = i.0.same_size ∙ lu in
    let one = length-backwards a n d (transition_at a y.transition).target y.after ms f (h.2.same_size ∙ ly) h.3 in
    let two = length-backwards a n c (transition_at a z.transition).target z.after ns g (i.2.same_size ∙ lz) i.3 in
    let same : length (backwards y.after ms f) ≡ length (backwards z.after ns g) = one ∙ size-same n ms ns t ∙ sym two in
    let rest = backwards-mixed a n k m d c (transition_at a y.transition).target (transition_at a z.transition).target y.after z.after ms ns f g (h.2.same_size ∙ ly) (i.2.same_size ∙ lz) t h.3 i.3 in
    ap (λ ns. ns ++ mixed k m y.leg.at_end z.leg.at_end ++ (y.leg.length_of *ℤ k +ℤ z.leg.length_of *ℤ m) ∷ mixed k m p u) rest
    ∙ ap (λ ns. ns ++ (y.leg.length_of *ℤ k +ℤ z.leg.length_of *ℤ m) ∷ mixed k m p u) (sym (mixed-append k m (backwards y.after ms f) (backwards z.after ns g) y.leg.at_end z.leg.at_end same))
    ∙ sym (mixed-append k m (backwards y.after ms f ++ y.leg.at_end) (backwards z.after ns g ++ z.leg.at_end) (y.leg.length_of ∷ p) (z.leg.length_of ∷ u)
    (omega (arith, same, ly, lz, length-append (backwards y.after ms f) y.leg.at_end, length-append (backwards z.after ns g) z.leg.at_end)))

-- ---- the numbers of a run

abbrev gap_back : GapRun → List ℤ
gap_back g = backwards g.start g.moves g.last

gap_back-long : (a : Automaton) (g h : GapRun) → IsAlike a g h → length (gap_back g) ≡ length (gap_back h)
gap_back-long a g h is =
    length-backwards a (width a) g.den g.start_loc g.start g.moves g.last is.first_start is.first_leads
    ∙ size-same (width a) g.moves h.moves is.path
    ∙ sym (length-backwards a (width a) h.den h.start_loc h.start h.moves h.last is.second_start is.second_leads)

gap_back-mixed : (a : Automaton) (w x : ℤ) (g h : GapRun) → IsAlike a g h →
    fractions (mixed_gap w x g h).den (gap_back (mixed_gap w x g h)) ≡ mids w x (fractions g.den (gap_back g)) (fractions h.den (gap_back h))
gap_back-mixed a w x g h is =
    ap (fractions (mixed_gap w x g h).den)
    (backwards-mixed a (width a) (w *ℤ h.den) (x *ℤ g.den) g.den h.den g.start_loc h.start_loc g.start h.start g.moves h.moves g.last h.last is.first_start is.second_start is.path is.first_leads is.second_leads)
    ∙ fractions-mixed w x g.den h.den (gap_back g) (gap_back h)

-- what is said of the numbers of two lists of gap runs
pub record AreNumbers (w x : ℤ) (ys zs mixes : List Fraction) : Type 0 where
  pub long : length ys ≡ length zs
  pub first : AllFractions ys
  pub second : AllFractions zs
  pub mix : mixes ≡ mids w x ys zs

pub before_numbers : (a : Automaton) (w x : ℤ) (gs hs : List GapRun) → AllZip (IsAlike a) gs hs → AreNumbers w x (numbers_before gs) (numbers_before hs) (numbers_before (mixed_gaps w x gs hs))
before_numbers a w x [] [] is = record { long = refl; first = tt; second = tt; mix = refl }
before_numbers a w x [] (h ∷ hs) is = absurd is
before_numbers a w x (g ∷ gs) [] is = absurd is
before_numbers a w x (g ∷ gs) (h ∷ hs) is =
    let r = before_numbers a w x gs hs is.1 in
    let l = gap_back-long a g h is.0 in
    record {
      long = omega (arith, r.long, l, length-append (numbers_before gs) (fractions g.den (gap_back g)), length-append (numbers_before hs) (fractions h.den (gap_back h)), length-fractions g.den (gap_back g), length-fractions h.den (gap_back h));
      first = all_both (numbers_before gs) (fractions g.den (gap_back g)) r.first (fractions_are g.den (gap_back g) is.0.first_den);
      second = all_both (numbers_before hs) (fractions h.den (gap_back h)) r.second (fractions_are h.den (gap_back h) is.0.second_den);
      mix = ap (λ ns. ns ++ fractions (mixed_gap w x g h).den (gap_back (mixed_gap w x g h))) r.mix
          ∙ ap (λ ns. mids w x (numbers_before gs) (numbers_before hs) ++ ns) (gap_back-mixed a w x g h is.0)
          ∙ sym (mids-append w x (numbers_before gs) (numbers_before hs) (fractions g.den (gap_back g)) (fractions h.den (gap_back h)) r.long);
    }

pub last_numbers : (a : Automaton) (w x : ℤ) (gs hs : List GapRun) → AllZip (IsAlike a) gs hs → AreNumbers w x (last_values gs) (last_values hs) (last_values (mixed_gaps w x gs hs))
last_numbers a w x [] [] is = record { long = refl; first = tt; second = tt; mix = refl }
last_numbers a w x [] (h ∷ hs) is = absurd is
last_numbers a w x (g ∷ gs) [] is = absurd is
last_numbers a w x (g ∷ []) (h ∷ []) is = record {
  long = omega (arith, length-fractions g.den g.last.at_end, length-fractions h.den h.last.at_end, is.0.first_end, is.0.second_end);
  first = fractions_are g.den g.last.at_end is.0.first_den;
  second = fractions_are h.den h.last.at_end is.0.second_den;
  mix = fractions-mixed w x g.den h.den g.last.at_end h.last.at_end;
}
last_numbers a w x (g ∷ []) (h ∷ h' ∷ hs) is = absurd is.1
last_numbers a w x (g ∷ g' ∷ gs) (h ∷ []) is = absurd is.1
last_numbers a w x (g ∷ g' ∷ gs) (h ∷ h' ∷ hs) is = last_numbers a w x (g' ∷ gs) (h' ∷ hs) is.1

pub picked_numbers : (a : Automaton) (w x : ℤ) (r s : Run) → AllZip (IsAlike a) r.gaps s.gaps → AreNumbers w x (picked r) (picked s) (picked (mixed_run w x r s))
picked_numbers a w x r s is =
    let l = last_numbers a w x r.gaps s.gaps is in
    let b = before_numbers a w x r.gaps s.gaps is in
    record {
      long = omega (arith, l.long, b.long, length-append (last_values r.gaps) (numbers_before r.gaps), length-append (last_values s.gaps) (numbers_before s.gaps));
      first = all_both (last_values r.gaps) (numbers_before r.gaps) l.first b.first;
      second = all_both (last_values s.gaps) (numbers_before s.gaps) l.second b.second;
      mix = ap (λ ns. ns ++ numbers_before (mixed_gaps w x r.gaps s.gaps)) l.mix ∙ ap (λ ns. mids w x (last_values r.gaps) (last_values s.gaps) ++ ns) b.mix
          ∙ sym (mids-append w x (last_values r.gaps) (last_values s.gaps) (numbers_before r.gaps) (numbers_before s.gaps) l.long);
    }

-- ---- the interval

-- the weights with which y stands between p and q
between_weights : (p q y : Fraction) →
    SameFraction (mid ((q.num *ℤ y.den -ℤ y.num *ℤ q.den) *ℤ p.den) ((y.num *ℤ p.den -ℤ p.num *ℤ y.den) *ℤ q.den) p q) y
between_weights p q y = go p.num p.den q.num q.den y.num y.den (q.num *ℤ y.den -ℤ y.num *ℤ q.den) (y.num *ℤ p.den -ℤ p.num *ℤ y.den) refl refl
  where
    spread : (a u b v y : ℤ) → (a *ℤ u +ℤ b *ℤ v) *ℤ y ≡ u *ℤ (a *ℤ y) +ℤ v *ℤ (b *ℤ y)
    spread a u b v y = simp expand (omega (arith, products))

    gather : (n d u c v : ℤ) → n *ℤ (d *ℤ u +ℤ c *ℤ v) ≡ u *ℤ (n *ℤ d) +ℤ v *ℤ (n *ℤ c)
    gather n d u c v = simp expand (omega (arith, products))

    apart : (u v f g h k : ℤ) → u *ℤ k ≡ v *ℤ h → u *ℤ (f -ℤ k) +ℤ v *ℤ (g +ℤ h) ≡ u *ℤ f +ℤ v *ℤ g
    apart u v f g h k e = simp expand (omega (arith, products, e))

    go : (a d b c n e h k : ℤ) → h ≡ b *ℤ e -ℤ n *ℤ c → k ≡ n *ℤ d -ℤ a *ℤ e →
        (a *ℤ ((h *ℤ d) *ℤ c) +ℤ b *ℤ ((k *ℤ c) *ℤ d)) *ℤ e ≡ n *ℤ (d *ℤ ((h *ℤ d) *ℤ c) +ℤ c *ℤ ((k *ℤ c) *ℤ d))
    go a d b c n e h k eh ek =
        let u : ℤ = (h *ℤ d) *ℤ c in
        let v : ℤ = (k *ℤ c) *ℤ d in
        let one : a *ℤ e ≡ n *ℤ d -ℤ k = omega (arith, ints, ek) in
        let two : b *ℤ e ≡ n *ℤ c +ℤ h = omega (arith, ints, eh) in
        let uk : ((h *ℤ d) *ℤ c) *ℤ k ≡ ((k *ℤ c) *ℤ d) *ℤ h = both h d c k in
        spread a u b v e ∙ ap (λ z. u *ℤ z +ℤ v *ℤ (b *ℤ e)) one ∙ ap (λ z. u *ℤ (n *ℤ d -ℤ k) +ℤ v *ℤ z) two
        ∙ apart u v (n *ℤ d) (n *ℤ c) h k uk ∙ sym (gather n d u c v)
      where
        -- both are h * k * d * c
        both : (h d c k : ℤ) → ((h *ℤ d) *ℤ c) *ℤ k ≡ ((k *ℤ c) *ℤ d) *ℤ h
        both h d c k =
            let one : ((h *ℤ d) *ℤ c) *ℤ k ≡ (h *ℤ d) *ℤ (k *ℤ c) = omega (arith, products) in
            let two : (h *ℤ d) *ℤ (k *ℤ c) ≡ ((k *ℤ c) *ℤ d) *ℤ h = swap h d (k *ℤ c) in one ∙ two
          where
            swap : (h d m : ℤ) → (h *ℤ d) *ℤ m ≡ (m *ℤ d) *ℤ h
            swap h d m = omega (arith, products)

pub left_interval : (a : Automaton) (k : ℕ) (ss : List Sample) (aim : Aim) (run : Run) (i : ℕ) → IsWellFormed a → IsAimedRun a k ss aim run → i < length (picked run) → IsInterval (IsLeft a k ss aim run i)
left_interval a k ss aim run i wf aimed hi = record { same = same; between = between }
  where
    -- what is known of a run that agrees with this one
    known : (other : Run) (v : Fraction) → Takes a k ss aim run i v other → AllFractions (picked other) × (length (picked other) ≡ length (picked run))
    known other v t = let n = picked_numbers a (pos 1) (pos 1) other run (runs_alike a k ss other run t.same_history t.aimed.run_of aimed.run_of) in (n.first, n.long)

    with_value : (other : Run) (x y : Fraction) → SameFraction (pick_at i other) y → Takes a k ss aim run i x other → Takes a k ss aim run i y other
    with_value other x y e t = record { aimed = t.aimed; same_history = t.same_history; same_numbers = t.same_numbers; value = e }

    same : (x y : Fraction) → IsFraction x → IsFraction y → SameFraction x y → IsLeft a k ss aim run i x → IsLeft a k ss aim run i y
    same x y hx hy e (other, t) =
        (other, with_value other x y (same-trans (pick_at i other) x y (fraction_at (picked other) i (known other x t).0) hx hy t.value e) t)

    strictly : (x y z : Fraction) (r s : Run) → IsFraction y → Takes a k ss aim run i x r → Takes a k ss aim run i z s → Below (pick_at i r) y → Below y (pick_at i s) → IsLeft a k ss aim run i y
    strictly x y z r s hy t u lo hi_ =
        let p : Fraction = pick_at i r in
        let q : Fraction = pick_at i s in
        let hp = fraction_at (picked r) i (known r x t).0 in
        let hq = fraction_at (picked s) i (known s z u).0 in
        let w : ℤ = (q.num *ℤ y.den -ℤ y.num *ℤ q.den) *ℤ p.den in
        let m : ℤ = (y.num *ℤ p.den -ℤ p.num *ℤ y.den) *ℤ q.den in
        let hw : pos 0 <ℤ w = product_positive (q.num *ℤ y.den -ℤ y.num *ℤ q.den) p.den (omega (arith, ints, hi_)) hp in
        let hm : pos 0 <ℤ m = product_positive (y.num *ℤ p.den -ℤ p.num *ℤ y.den) q.den (omega (arith, ints, lo)) hq in
        let history : history_of r ≡ history_of s = t.same_history ∙ sym u.same_history in
        let n = picked_numbers a w m r s (runs_alike a k ss r s history t.aimed.run_of u.aimed.run_of) in
        let fits : i < length (picked r) = subst (λ l. i < l) (sym (known r x t).1) hi in
        let value : pick_at i (mixed_run w m r s) ≡ mid w m p q = ap (λ ns. get_or ns i zero_fraction) n.mix ∙ mids-at w m (picked r) (picked s) i n.long fits in (
          mixed_run w m r s,
          record {
            aimed = aimed-mixed a k w m ss aim r s (record { first = hw; second = hm; locations = wf.each_location }) history t.aimed u.aimed;
            same_history = history-mixed w m r s history ∙ t.same_history;
            same_numbers = subst (λ ns. AllZip SameFraction (take i ns) (take i (picked run))) (sym n.mix)
                (same-mids w m i (picked r) (picked s) (picked run) hw hm n.first n.second run_fractions t.same_numbers u.same_numbers);
            value = subst (λ v. SameFraction v y) (sym value) (between_weights p q y);
          },
        )
      where
        run_fractions : AllFractions (picked run)
        run_fractions = (picked_numbers a (pos 1) (pos 1) run run (runs_alike a k ss run run refl aimed.run_of aimed.run_of)).first

    between : (x y z : Fraction) → IsFraction x → IsFraction y → IsFraction z → AtMost x y → AtMost y z → IsLeft a k ss aim run i x → IsLeft a k ss aim run i z → IsLeft a k ss aim run i y
    between x y z hx hy hz xy yz (r, t) (s, u) =
        let p : Fraction = pick_at i r in
        let q : Fraction = pick_at i s in
        let hp = fraction_at (picked r) i (known r x t).0 in
        let hq = fraction_at (picked s) i (known s z u).0 in
        let le : AtMost p y = AtMost-trans p x y hp hx hy (same-AtMost p x t.value).0 xy in
        let ge : AtMost y q = AtMost-trans y z q hy hz hq yz (same-AtMost q z u.value).1 in
        elim (either p y) [
          | inr back ↦ (r, with_value r x y (AtMost-same p y le back) t)
          | inl lo ↦ elim (either y q) [
            | inr back ↦ (s, with_value s z y (AtMost-same q y back ge) u)
            | inl up ↦ strictly x y z r s hy t u lo up
          ]
        ]
