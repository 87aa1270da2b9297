-- The numbers of paths: how many there are, their multiples, and the sum of the lengths.
use Rattle.std.proofs.Common.{◌≡◌, ℕ, suc, List, [], ◌∷◌, ◌++◌, length, length-append, append_assoc, refl, sym, ◌∙◌, ap, ap₂, subst, arith, ℤ, ◌+ℤ◌, ◌*ℤ◌}
use Rattle.std.proofs.lemmas.List.{length-map}
use Rattle.poly_specs.proofs.IntLemmas.{add_mul}
use Rattle.run_specs.proofs.FirstRunLemmas.{scaled-append, split_same}
use Rattle.run_specs.proofs.MixLemmas.{transitions}
use Rattle.run_specs.proofs.ScaledRuns.{scaled_leg, scaled_moves}
use Rattle.poly_specs.specs.Lists.{scaled, number_at}
use Rattle.poly_specs.specs.Rows.{over, SamePoint}
use Rattle.run_specs.specs.Automaton.{Automaton, transition_at}
use Rattle.run_specs.specs.Runs.{Leg, Move, LeadOn, total}
use Rattle.run_specs.specs.FirstRun.{backwards}

-- ---- the same path

pub none_first : (x : ℕ) (xs : List ℕ) → x ∷ xs ≡ [] → ⊥
none_first x xs e = cc

pub same_tail : (x y : ℕ) (xs ys : List ℕ) → x ∷ xs ≡ y ∷ ys → xs ≡ ys
same_tail x y xs ys e = cc

pub same_head : (x y : ℕ) (xs ys : List ℕ) → x ∷ xs ≡ y ∷ ys → x ≡ y
same_head x y xs ys e = cc

-- two ways along one path have equally many numbers
pub as_many : (a : Automaton) (n : ℕ) (d c : ℤ) (l j : ℕ) (p u : List ℤ) (ms ns : List Move) (f g : Leg) → length p ≡ n → length u ≡ n → transitions ms ≡ transitions ns →
    LeadOn a d l p ms f → LeadOn a c j u ns g → length (backwards p ms f) ≡ length (backwards u ns g)
as_many a n d c l j p u [] [] f g lp lu e h k = ap suc (lp ∙ sym lu)
as_many a n d c l j p u [] (z ∷ ns) f g lp lu e h k = absurd (none_first z.transition (transitions ns) (sym e))
as_many a n d c l j p u (y ∷ ms) [] f g lp lu e h k = absurd (none_first y.transition (transitions ms) e)
as_many a n d c l j p u (y ∷ ms) (z ∷ ns) f g lp lu e h k =
    let ly : length y.leg.at_end ≡ n = h.0.same_size ∙ lp in
    let lz : length z.leg.at_end ≡ n = k.0.same_size ∙ lu in
    let rest = as_many a n d c (transition_at a y.transition).target (transition_at a z.transition).target y.after z.after ms ns f g (h.2.same_size ∙ ly) (k.2.same_size ∙ lz)
    (same_tail y.transition z.transition (transitions ms) (transitions ns) e) h.3 k.3 in
    omega (
      arith,
      rest,
      ly,
      lz,
      lp,
      lu,
      length-append (backwards y.after ms f ++ y.leg.at_end) (y.leg.length_of ∷ p),
      length-append (backwards y.after ms f) y.leg.at_end,
      length-append (backwards z.after ns g ++ z.leg.at_end) (z.leg.length_of ∷ u),
      length-append (backwards z.after ns g) z.leg.at_end,
    )

-- ---- multiples

pub backwards_scaled : (k : ℤ) (p : List ℤ) (ms : List Move) (f : Leg) → backwards (scaled k p) (scaled_moves k ms) (scaled_leg k f) ≡ scaled k (backwards p ms f)
backwards_scaled k p [] f = refl
backwards_scaled k p (y ∷ ms) f =
    let b : List ℤ = backwards y.after ms f in
    let rest = backwards_scaled k y.after ms f in
    ap (λ ns. (ns ++ scaled k y.leg.at_end) ++ (y.leg.length_of *ℤ k) ∷ scaled k p) rest
    ∙ ap (λ ns. ns ++ (y.leg.length_of *ℤ k) ∷ scaled k p) (sym (scaled-append k b y.leg.at_end))
    ∙ sym (scaled-append k (b ++ y.leg.at_end) (y.leg.length_of ∷ p))

-- ---- what comes before the start values

abbrev pub ahead : List Move → Leg → List ℤ
ahead [] f = f.length_of ∷ []
ahead (y ∷ ms) f = (backwards y.after ms f ++ y.leg.at_end) ++ y.leg.length_of ∷ []

pub start_last : (p : List ℤ) (ms : List Move) (f : Leg) → backwards p ms f ≡ ahead ms f ++ p
start_last p [] f = refl
start_last p (y ∷ ms) f = sym (append_assoc (backwards y.after ms f ++ y.leg.at_end) (y.leg.length_of ∷ []) p)

-- ---- equal points part by part

pub parts_same : (d c : ℤ) (n : ℕ) (xs ys us vs : List ℤ) → length xs ≡ n → length ys ≡ n → SamePoint (over d (xs ++ us)) (over c (ys ++ vs)) →
    SamePoint (over d xs) (over c ys) × SamePoint (over d us) (over c vs)
parts_same d c n xs ys us vs lx ly e =
    split_same (scaled c xs) (scaled d ys) (scaled c us) (scaled d vs) (length-map xs (λ z. z *ℤ c) ∙ lx ∙ sym ly ∙ sym (length-map ys (λ z. z *ℤ d)))
    (sym (scaled-append c xs us) ∙ e ∙ scaled-append d ys vs)

pub parts_join : (d c : ℤ) (xs ys us vs : List ℤ) → SamePoint (over d xs) (over c ys) → SamePoint (over d us) (over c vs) → SamePoint (over d (xs ++ us)) (over c (ys ++ vs))
parts_join d c xs ys us vs e f = scaled-append c xs us ∙ ap₂ (λ (ms ns : List ℤ). ms ++ ns) e f ∙ sym (scaled-append d ys vs)

pub one_same : (d c x y : ℤ) → SamePoint (over d (x ∷ [])) (over c (y ∷ [])) → x *ℤ c ≡ y *ℤ d
one_same d c x y e = ap (number_at 0) e

pub same_one : (d c x y : ℤ) → x *ℤ c ≡ y *ℤ d → SamePoint (over d (x ∷ [])) (over c (y ∷ []))
same_one d c x y e = ap (λ z. z ∷ []) e

-- the start values of equal numbers are equal
pub start_same : (a : Automaton) (d c : ℤ) (n : ℕ) (l j : ℕ) (p u : List ℤ) (ms ns : List Move) (f g : Leg) → length p ≡ n → length u ≡ n → transitions ms ≡ transitions ns →
    LeadOn a d l p ms f → LeadOn a c j u ns g → SamePoint (over d (backwards p ms f)) (over c (backwards u ns g)) → SamePoint (over d p) (over c u)
start_same a d c n l j p u ms ns f g lp lu e h k same =
    let many = as_many a n d c l j p u ms ns f g lp lu e h k in
    let one = start_last p ms f in
    let two = start_last u ns g in
    let lengths : length (ahead ms f) ≡ length (ahead ns g) =
    omega (arith, many, ap length one, ap length two, length-append (ahead ms f) p, length-append (ahead ns g) u, lp, lu) in
    (parts_same d c (length (ahead ns g)) (ahead ms f) (ahead ns g) p u lengths refl
    (subst (λ xs. SamePoint (over d xs) (over c (ahead ns g ++ u))) one (subst (λ xs. SamePoint (over d (backwards p ms f)) (over c xs)) two same))).1

-- ---- the sum of the lengths

sum_same : (t s x y d c : ℤ) → t *ℤ c ≡ s *ℤ d → x *ℤ c ≡ y *ℤ d → (t +ℤ x) *ℤ c ≡ (s +ℤ y) *ℤ d
sum_same t s x y d c e f = add_mul t x c ∙ ap₂ (λ (u v : ℤ). u +ℤ v) e f ∙ sym (add_mul s y d)

-- equal numbers have equal sums of lengths
pub total_same : (a : Automaton) (n : ℕ) (d c : ℤ) (l j : ℕ) (p u : List ℤ) (ms ns : List Move) (f g : Leg) → length p ≡ n → length u ≡ n → transitions ms ≡ transitions ns →
    LeadOn a d l p ms f → LeadOn a c j u ns g → SamePoint (over d (backwards p ms f)) (over c (backwards u ns g)) → total ms f *ℤ c ≡ total ns g *ℤ d
total_same a n d c l j p u [] [] f g lp lu e h k same = ap (number_at 0) same
total_same a n d c l j p u [] (z ∷ ns) f g lp lu e h k same = absurd (none_first z.transition (transitions ns) (sym e))
total_same a n d c l j p u (y ∷ ms) [] f g lp lu e h k same = absurd (none_first y.transition (transitions ms) e)
total_same a n d c l j p u (y ∷ ms) (z ∷ ns) f g lp lu e h k same =
    let t = same_tail y.transition z.transition (transitions ms) (transitions ns) e in
    let ly : length y.leg.at_end ≡ n = h.0.same_size ∙ lp in
    let lz : length z.leg.at_end ≡ n = k.0.same_size ∙ lu in
    let lb : length (backwards y.after ms f) ≡ length (backwards z.after ns g) =
    as_many a n d c (transition_at a y.transition).target (transition_at a z.transition).target y.after z.after ms ns f g (h.2.same_size ∙ ly) (k.2.same_size ∙ lz) t h.3 k.3 in
    let b : List ℤ = backwards z.after ns g in
    let both : length (backwards y.after ms f ++ y.leg.at_end) ≡ length (b ++ z.leg.at_end) =
    omega (arith, lb, ly, lz, length-append (backwards y.after ms f) y.leg.at_end, length-append b z.leg.at_end) in
    let s = parts_same d c (length (b ++ z.leg.at_end)) (backwards y.after ms f ++ y.leg.at_end) (b ++ z.leg.at_end) (y.leg.length_of ∷ p) (z.leg.length_of ∷ u) both refl same in
    let s' = parts_same d c (length b) (backwards y.after ms f) b y.leg.at_end z.leg.at_end lb refl s.0 in
    let rest = total_same a n d c (transition_at a y.transition).target (transition_at a z.transition).target y.after z.after ms ns f g (h.2.same_size ∙ ly) (k.2.same_size ∙ lz) t h.3 k.3 s'.0 in
    sum_same y.leg.length_of z.leg.length_of (total ms f) (total ns g) d c (ap (number_at 0) s.1) rest
