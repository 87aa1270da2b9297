-- How fast the tank's level rises, and the logs that it rules out.
use Rattle.std.proofs.Common.{◌≡◌, ◌⊎◌, inl, inr, ℕ, zero, suc, List, [], ◌∷◌, length, refl, ◌∙◌, ap, subst, arith, ℤ, pos, negsuc, ◌+ℤ◌, ◌*ℤ◌, ◌≤ℤ◌, ◌<ℤ◌, lit<}
use Rattle.std.specs.Prelude.{IsSomeAnd}
use Rattle.std.proofs.lemmas.Int.{ints}
use Rattle.poly_specs.proofs.IntLemmas.{mul_le, le_cancel}
use Rattle.poly_specs.specs.Lists.{scaled}
use Rattle.poly_specs.specs.Fractions.{Fraction, DifferAtMost, zero_fraction}
use Rattle.poly_specs.specs.Rows.{over, coordinate, AllHold}
use Rattle.run_specs.specs.Automaton.{never, location_at, transition_at}
use Rattle.run_specs.specs.Logs.{Sample}
use Rattle.run_specs.specs.Runs.{Leg, Move, GapRun, Place, Run, IsLeg, IsJump, LeadOn, Continues, Follows, IsStart, IsRun, end_of, total}
use Rattle.example_specs.specs.Literals.{fraction, whole, row, observes}
use Rattle.example_specs.specs.Tanks.{tank, tank_within, steep, level, two_in_one}

-- ---- one number

pub one_number : (q : List ℤ) → length q ≡ 1 → (y : ℤ) × (q ≡ y ∷ [])
one_number [] e = absurd (omega arith)
one_number (y ∷ []) e = (y, refl)
one_number (y ∷ z ∷ q) e = absurd (omega arith)

pub same_number : (x y : ℤ) → y ∷ [] ≡ x ∷ [] → y ≡ x
same_number x y e = cc

pub zero_or_positive : (t : ℤ) → pos 0 ≤ℤ t → (t ≡ pos 0) ⊎ (pos 0 <ℤ t)
zero_or_positive (pos zero) h = inl refl
zero_or_positive (pos (suc n)) h = inr (omega (arith, ints))
zero_or_positive (negsuc n) h = absurd (omega (arith, ints))

-- ---- legs, jumps and gaps

-- in no location does x rise by more than 2 in a time of 1
leg_bound : (w : Fraction) (l : ℕ) (d x t y : ℤ) → pos 0 <ℤ d → IsLeg (location_at (tank_within w) l) d (x ∷ []) t (y ∷ []) → y ≤ℤ (x +ℤ pos 2 *ℤ t)
leg_bound w zero d x t y h leg = elim (zero_or_positive t leg.lasts) [
  | inl z ↦ (let e = same_number x y (leg.still z) in omega (arith, ints))
  | inr m ↦ (let r = leg.straight m 0 never (lit< tt) in omega (arith, ints))
]
leg_bound w (suc zero) d x t y h leg = elim (zero_or_positive t leg.lasts) [
  | inl z ↦ (let e = same_number x y (leg.still z) in omega (arith, ints))
  | inr m ↦ (let r = leg.straight m 0 never (lit< tt) in omega (arith, ints))
]
leg_bound w (suc (suc l)) d x t y h leg =
    absurd (let n = leg.inside_before 0 never (lit< tt) in omega (arith, ints))

-- a jump keeps x
jump_keeps : (w : Fraction) (e : ℕ) (d x y : ℤ) → pos 0 <ℤ d → IsJump (tank_within w) e d (x ∷ []) (y ∷ []) → y ≡ x
jump_keeps w zero d x y h jump = let a = jump.related 1 never (lit< tt) in let b = jump.related 2 never (lit< tt) in omega (arith, ints)
jump_keeps w (suc zero) d x y h jump = let a = jump.related 1 never (lit< tt) in let b = jump.related 2 never (lit< tt) in omega (arith, ints)
jump_keeps w (suc (suc e)) d x y h jump =
    absurd (let n = jump.related 0 never (lit< tt) in omega (arith, ints))

-- so x rises by at most 2 for each unit of a gap
gap_bound : (w : Fraction) (d : ℤ) (l : ℕ) (x : ℤ) (ms : List Move) (last : Leg) → pos 0 <ℤ d → LeadOn (tank_within w) d l (x ∷ []) ms last →
    (y : ℤ) × (last.at_end ≡ y ∷ []) × (y ≤ℤ (x +ℤ pos 2 *ℤ total ms last))
gap_bound w d l x [] last h leg =
    let q = one_number last.at_end leg.same_size in
    let b = leg_bound w l d x last.length_of q.0 h (subst (λ z. IsLeg (location_at (tank_within w) l) d (x ∷ []) last.length_of z) q.1 leg) in
    (q.0, q.1, b)
gap_bound w d l x (m ∷ ms) last h leads =
    let q = one_number m.leg.at_end leads.0.same_size in
    let b = leg_bound w l d x m.leg.length_of q.0 h (subst (λ z. IsLeg (location_at (tank_within w) l) d (x ∷ []) m.leg.length_of z) q.1 leads.0) in
    let j = subst (λ z. IsJump (tank_within w) m.transition d z m.after) q.1 leads.2 in
    let z = one_number m.after j.same_size in
    let k = jump_keeps w m.transition d q.0 z.0 h (subst (λ v. IsJump (tank_within w) m.transition d (q.0 ∷ []) v) z.1 j) in
    let r = gap_bound w d (transition_at (tank_within w) m.transition).target z.0 ms last h
    (subst (λ v. LeadOn (tank_within w) d (transition_at (tank_within w) m.transition).target v ms last) z.1 leads.3) in
    (r.0, r.1, omega (arith, ints, b, k, r.2))

-- ---- points

-- a point that is equal to one whose number is at most 0, has such a number
low_point : (ps : List ℤ) (d y e : ℤ) → pos 0 <ℤ d → pos 0 <ℤ e → y ≤ℤ pos 0 → scaled d ps ≡ scaled e (y ∷ []) → (x : ℤ) × (ps ≡ x ∷ []) × (x ≤ℤ pos 0)
low_point [] d y e h g le s = absurd (let l = ap length s in omega arith)
low_point (x ∷ []) d y e h g le s =
    let m : x *ℤ d ≡ y *ℤ e = cc in
    let n : (y *ℤ e) ≤ℤ pos 0 = below_zero y e g le in
    (x, refl, le_cancel d x (pos 0) h (omega (arith, ints, m, n)))
  where
    below_zero : (y e : ℤ) → pos 0 <ℤ e → y ≤ℤ pos 0 → (y *ℤ e) ≤ℤ pos 0
    below_zero y e g le = let m = mul_le e y (pos 0) g le in omega (arith, ints, m)
low_point (x ∷ z ∷ ps) d y e h g le s = absurd (let l = ap length s in omega arith)

-- a run starts at 0
start_low : (w : Fraction) (p : Place) → IsStart (tank_within w) p → (x : ℤ) × (p.point.num ≡ x ∷ []) × (x ≤ℤ pos 0)
start_low w p s = go p.loc p.point.num s.sized s.allowed
  where
    go : (l : ℕ) (ns : List ℤ) → length ns ≡ 1 → IsSomeAnd (location_at (tank_within w) l).init (λ init. AllHold init (over p.point.den ns)) → (x : ℤ) × (ns ≡ x ∷ []) × (x ≤ℤ pos 0)
    go zero ns e h =
        let q = one_number ns e in
        let r = subst (λ v. AllHold (row (pos 1 ∷ []) (pos 0) ∷ row (negsuc 0 ∷ []) (pos 0) ∷ []) (over p.point.den v)) q.1 h 0 never (lit< tt) in
        (q.0, q.1, omega (arith, ints, r))
    go (suc zero) ns e h = absurd h
    go (suc (suc l)) ns e h = absurd h

-- where a gap run from a point of at most 0 ends
record EndsLow (g : GapRun) (length_of y : ℤ) : Type 0 where
  end : g.last.at_end ≡ y ∷ []
  low : y ≤ℤ (pos 2 *ℤ length_of)

ends_low : (w : Fraction) (k : ℕ) (p : Place) (x : ℤ) (duration : Fraction) (s : Sample) (g : GapRun) → pos 0 <ℤ p.point.den → p.point.num ≡ x ∷ [] → x ≤ℤ pos 0 →
    Continues (tank_within w) k p duration s g → (y : ℤ) × EndsLow g (total g.moves g.last) y
ends_low w k p x duration s g hp e le c =
    let d = c.gap_run.positive in
    let z = low_point g.start p.point.den x g.den hp d le (c.same_point ∙ ap (scaled g.den) e) in
    let b = gap_bound w g.den g.start_loc z.0 g.moves g.last d (subst (λ v. LeadOn (tank_within w) g.den g.start_loc v g.moves g.last) z.1 c.gap_run.leads) in
    (b.0, record { end = b.1; low = omega (arith, ints, b.2, z.2) })

-- at time 0 the level is at most 0, and a time of 1 later at most 2
record IsLater (w v : Fraction) (d y : ℤ) : Type 0 where
  positive : pos 0 <ℤ d
  low : y ≤ℤ (pos 2 *ℤ d)
  near : DifferAtMost w v (record { num = y; den = d })

later : (w u v : Fraction) (run : Run) → IsRun (tank_within w) 2 (observes (whole 0) u ∷ observes (whole 1) v ∷ []) run → (d y : ℤ) × IsLater w v d y
later w u v run r = go run.gaps r.follows
  where
    go : (gs : List GapRun) → Follows (tank_within w) 2 run.start zero_fraction (observes (whole 0) u ∷ observes (whole 1) v ∷ []) gs → (d y : ℤ) × IsLater w v d y
    go [] h = absurd h
    go (g ∷ []) h = absurd h.1
    go (g ∷ k ∷ l ∷ gs) h = absurd h.1.1
    go (g ∷ k ∷ []) h =
        let start = start_low w run.start r.starts in
        let one = ends_low w 2 run.start start.0 (record { num = pos 0; den = pos 1 }) (observes (whole 0) u) g r.starts.positive start.1 start.2 h.0 in
        let still = h.0.gap_run.lasts in
        let low : one.0 ≤ℤ pos 0 = omega (arith, ints, one.1.low, still) in
        let two = ends_low w 2 (end_of (tank_within w) g) one.0 (record { num = pos 1; den = pos 1 }) (observes (whole 1) v) k h.0.gap_run.positive one.1.end low h.1.0 in
        let lasts = h.1.0.gap_run.lasts in
        let near = h.1.0.passes.near 0 v refl in (
          k.den,
          two.0,
          record {
            positive = h.1.0.gap_run.positive;
            low = omega (arith, ints, two.1.low, lasts);
            near = subst (λ ns. DifferAtMost w v (coordinate 0 (over k.den ns))) two.1.end near;
          },
        )

pub steep_has_none : (run : Run) → IsRun tank 2 steep run → ⊥
steep_has_none run r =
    let (d, y, x) = later zero_fraction (whole 0) (whole 3) run r in
    let a = x.near.0 in absurd (omega (arith, ints, a, x.low, x.positive))

pub three_has_none : (run : Run) → IsRun (tank_within (fraction 1 2)) 2 (observes (whole 0) (fraction 1 2) ∷ observes (whole 1) (whole 3) ∷ []) run → ⊥
three_has_none run r =
    let (d, y, x) = later (fraction 1 2) (fraction 1 2) (whole 3) run r in
    let a = x.near.0 in absurd (omega (arith, ints, a, x.low, x.positive))

pub two_are_too_many : IsRun tank 1 level two_in_one → ⊥
two_are_too_many r = let few = r.follows.1.0.few in absurd (omega (arith, few))
