-- The shutter's value stays above 0.
use Rattle.std.proofs.Common.{◌≡◌, inl, inr, ℕ, zero, suc, List, [], ◌∷◌, length, refl, ◌∙◌, ap, subst, arith, ℤ, pos, negsuc, ◌*ℤ◌, ◌<ℤ◌, lit<}
use Rattle.std.specs.Prelude.{IsSomeAnd}
use Rattle.std.proofs.lemmas.Int.{ints}
use Rattle.poly_specs.proofs.IntLemmas.{product_positive}
use Rattle.poly_specs.specs.Lists.{scaled}
use Rattle.poly_specs.specs.Fractions.{DifferAtMost, zero_fraction}
use Rattle.poly_specs.specs.Rows.{over, coordinate, AllHold}
use Rattle.run_specs.specs.Automaton.{never, location_at, transition_at}
use Rattle.run_specs.specs.Runs.{Leg, Move, GapRun, Place, Run, IsLeg, IsJump, LeadOn, Follows, IsStart, IsRun}
use Rattle.example_specs.proofs.TankBounds.{one_number, same_number, zero_or_positive}
use Rattle.example_specs.specs.Literals.{whole, observes}
use Rattle.example_specs.specs.Shutters.{shutter, strictly_inside}

-- a leg keeps x
pub leg_keeps : (l : ℕ) (d x t y : ℤ) → pos 0 <ℤ d → IsLeg (location_at shutter l) d (x ∷ []) t (y ∷ []) → y ≡ x
leg_keeps zero d x t y h leg = elim (zero_or_positive t leg.lasts) [
  | inl z ↦ same_number x y (leg.still z)
  | inr m ↦ (let r = leg.straight m 0 never (lit< tt) in let s = leg.straight m 1 never (lit< tt) in omega (arith, ints))
]
leg_keeps (suc zero) d x t y h leg = elim (zero_or_positive t leg.lasts) [
  | inl z ↦ same_number x y (leg.still z)
  | inr m ↦ (let r = leg.straight m 0 never (lit< tt) in let s = leg.straight m 1 never (lit< tt) in omega (arith, ints))
]
leg_keeps (suc (suc l)) d x t y h leg =
    absurd (let n = leg.inside_before 0 never (lit< tt) in omega (arith, ints))

-- and so does a jump
pub jump_keeps : (e : ℕ) (d x y : ℤ) → pos 0 <ℤ d → IsJump shutter e d (x ∷ []) (y ∷ []) → y ≡ x
jump_keeps zero d x y h jump = let a = jump.related 0 never (lit< tt) in let b = jump.related 1 never (lit< tt) in omega (arith, ints)
jump_keeps (suc e) d x y h jump =
    absurd (let n = jump.related 0 never (lit< tt) in omega (arith, ints))

gap_keeps : (d : ℤ) (l : ℕ) (x : ℤ) (ms : List Move) (last : Leg) → pos 0 <ℤ d → LeadOn shutter d l (x ∷ []) ms last → last.at_end ≡ x ∷ []
gap_keeps d l x [] last h leg =
    let q = one_number last.at_end leg.same_size in
    let k = leg_keeps l d x last.length_of q.0 h (subst (λ z. IsLeg (location_at shutter l) d (x ∷ []) last.length_of z) q.1 leg) in
    q.1 ∙ ap (λ z. z ∷ []) k
gap_keeps d l x (m ∷ ms) last h leads =
    let q = one_number m.leg.at_end leads.0.same_size in
    let k = leg_keeps l d x m.leg.length_of q.0 h (subst (λ z. IsLeg (location_at shutter l) d (x ∷ []) m.leg.length_of z) q.1 leads.0) in
    let here : m.leg.at_end ≡ x ∷ [] = q.1 ∙ ap (λ z. z ∷ []) k in
    let j = subst (λ z. IsJump shutter m.transition d z m.after) here leads.2 in
    let z = one_number m.after j.same_size in
    let n = jump_keeps m.transition d x z.0 h (subst (λ v. IsJump shutter m.transition d (x ∷ []) v) z.1 j) in
    let there : m.after ≡ x ∷ [] = z.1 ∙ ap (λ v. v ∷ []) n in
    gap_keeps d (transition_at shutter m.transition).target x ms last h (subst (λ v. LeadOn shutter d (transition_at shutter m.transition).target v ms last) there leads.3)

-- a point that is equal to one whose number is above 0, has such a number
high_point : (ps : List ℤ) (d y e : ℤ) → pos 0 <ℤ d → pos 0 <ℤ e → pos 0 <ℤ y → scaled d ps ≡ scaled e (y ∷ []) → (x : ℤ) × (ps ≡ x ∷ []) × (pos 0 <ℤ x)
high_point [] d y e h g up s = absurd (let l = ap length s in omega arith)
high_point (x ∷ []) d y e h g up s =
    let m : x *ℤ d ≡ y *ℤ e = cc in
    let n = product_positive y e up g in
    (x, refl, above x (omega (arith, ints, m, n)))
  where
    above : (x : ℤ) → pos 0 <ℤ (x *ℤ d) → pos 0 <ℤ x
    above (pos zero) p = absurd (omega (arith, ints, p))
    above (pos (suc n)) p = omega (arith, ints)
    above (negsuc n) p = absurd (let q = product_positive (pos (suc n)) d (omega (arith, ints)) h in omega (arith, ints, p, q))
high_point (x ∷ z ∷ ps) d y e h g up s = absurd (let l = ap length s in omega arith)

-- a run starts above 0
start_high : (p : Place) → IsStart shutter p → (x : ℤ) × (p.point.num ≡ x ∷ []) × (pos 0 <ℤ x)
start_high p s = go p.loc p.point.num s.sized s.allowed
  where
    go : (l : ℕ) (ns : List ℤ) → length ns ≡ 1 → IsSomeAnd (location_at shutter l).init (λ init. AllHold init (over p.point.den ns)) → (x : ℤ) × (ns ≡ x ∷ []) × (pos 0 <ℤ x)
    go zero ns e h =
        let q = one_number ns e in
        let r = subst (λ v. AllHold strictly_inside (over p.point.den v)) q.1 h 0 never (lit< tt) in
        (q.0, q.1, omega (arith, ints, r))
    go (suc zero) ns e h = absurd h
    go (suc (suc l)) ns e h = absurd h

pub zero_has_none : (run : Run) → IsRun shutter 1 (observes (whole 0) (whole 0) ∷ []) run → ⊥
zero_has_none run r = go run.gaps r.follows
  where
    go : (gs : List GapRun) → Follows shutter 1 run.start zero_fraction (observes (whole 0) (whole 0) ∷ []) gs → ⊥
    go [] h = h
    go (g ∷ k ∷ gs) h = h.1
    go (g ∷ []) h =
        let start = start_high run.start r.starts in
        let d = h.0.gap_run.positive in
        let z = high_point g.start run.start.point.den start.0 g.den r.starts.positive d start.2 (h.0.same_point ∙ ap (scaled g.den) start.1) in
        let end = gap_keeps g.den g.start_loc z.0 g.moves g.last d (subst (λ v. LeadOn shutter g.den g.start_loc v g.moves g.last) z.1 h.0.gap_run.leads) in
        let near = subst (λ ns. DifferAtMost zero_fraction (whole 0) (coordinate 0 (over g.den ns))) end (h.0.passes.near 0 (whole 0) refl) in
        let a = near.1 in absurd (omega (arith, ints, a, z.2))
