-- Sums of lengths, and the time between two samples.
use Rattle.std.proofs.Common.{◌≡◌, inl, inr, ◌↔◌, ℕ, ◌+◌, ◌<◌, ◌≤◌, List, [], ◌∷◌, length, drop, get_or, refl, sym, ◌∙◌, subst, arith, ℤ, pos, ◌+ℤ◌, ◌*ℤ◌, ◌<ℤ◌, Option, Some, None, SomeIff, Ok, Err}
use Rattle.std.proofs.lemmas.Int.{ints}
use Rattle.std.proofs.lemmas.List.{drop_more, drop_all}
use Rattle.poly_specs.specs.Bits.{FitsBits, NonePasses}
use Rattle.poly_specs.specs.Fractions.{Fraction, IsFraction, SameFraction, difference}
use Rattle.poly_specs.specs.Arithmetic.{lowest}
use Rattle.poly_specs.proofs.FractionLemmas.{same-trans}
use Rattle.poly_specs.proofs.IntLemmas.{product_positive}
use Rattle.poly_specs.proofs.LowestLemmas.{lowest-same, lowest-IsFraction}
use Rattle.replay_specs.specs.declared.checks.Stop.TheVariants.{Fails, Passes}
use Rattle.run_specs.specs.Runs.{Leg, Move, GapRun, total}
use Rattle.replay_specs.specs.RunChecks.{Answers, sums_from, length_steps}
use Rattle.run_check.proofs.StepLemmas.{some_passes_not}
use Rattle.lin_row.proofs.FitLemmas.{AllFit, none_passes, all_fit}

-- the sum so far, before these moves
pub record LengthsSoFar (sum : ℤ) (all : List Move) (last : Leg) (ms : List Move) : Type 0 where
  pub value : sum +ℤ total ms last ≡ total all last
  pub fits : AllFit (sums_from sum ms last) → AllFit (sums_from (pos 0) all last)
  pub rest : AllFit (sums_from (pos 0) all last) → AllFit (sums_from sum ms last)

pub no_lengths : (all : List Move) (last : Leg) → LengthsSoFar (pos 0) all last all
no_lengths all last = record { value = omega (arith, ints); fits = λ h. h; rest = λ h. h }

module _ (sum : ℤ) (all : List Move) (last : Leg) (ms : List Move) (i : ℕ) (m : Move) (lt : i < length ms) (is : m ≡ get_or ms i m)
    (so_far : LengthsSoFar sum all last (drop i ms)) where
  lengths_here : LengthsSoFar sum all last (m ∷ drop (i + 1) ms)
  lengths_here = subst (λ (x : Move). LengthsSoFar sum all last (x ∷ drop (i + 1) ms)) (sym is)
      (subst (LengthsSoFar sum all last) (drop_more ms i m lt) so_far)

  pub lengths_more : FitsBits (sum +ℤ m.leg.length_of) → LengthsSoFar (sum +ℤ m.leg.length_of) all last (drop (i + 1) ms)
  lengths_more h = record {
    value = let e = lengths_here.value in omega (arith, ints, e);
    fits = λ g. lengths_here.fits (h, g);
    rest = λ g. (lengths_here.rest g).1;
  }

  pub lengths_stop : (FitsBits (sum +ℤ m.leg.length_of) → ⊥) → NonePasses (sums_from (pos 0) all last) → ⊥
  lengths_stop h g = h (lengths_here.rest (all_fit (sums_from (pos 0) all last) g)).0

pub lengths_are : (sum : ℤ) (all : List Move) (last : Leg) (ms : List Move) (i : ℕ) (o : Option ℤ) → length ms ≤ i → LengthsSoFar sum all last (drop i ms) →
    SomeIff o (FitsBits (sum +ℤ last.length_of)) (sum +ℤ last.length_of) → SomeIff o (NonePasses (sums_from (pos 0) all last)) (total all last)
lengths_are sum all last ms i o le so_far h = go o (subst (LengthsSoFar sum all last) (drop_all i ms le) so_far) h
  where
    go : (o : Option ℤ) → LengthsSoFar sum all last [] → SomeIff o (FitsBits (sum +ℤ last.length_of)) (sum +ℤ last.length_of) →
        SomeIff o (NonePasses (sums_from (pos 0) all last)) (total all last)
    go None s k = λ g. k (s.rest (all_fit (sums_from (pos 0) all last) g)).0
    go (Some v) s k = (none_passes (sums_from (pos 0) all last) (s.fits (k.0, tt)), k.1 ∙ s.value)

-- ---- the step of the lengths

module _ (g : GapRun) (duration : Fraction) where
  abbrev whole : Fraction
  whole = record { num = total g.moves g.last; den = g.den }

  pub lengths_pass : (NonePasses (sums_from (pos 0) g.moves g.last) → ⊥) → Answers (length_steps duration g) (Err Passes)
  unfolding length_steps
  lengths_pass h = inl (some_passes_not (sums_from (pos 0) g.moves g.last) h, refl)

  pub lengths_differ : NonePasses (sums_from (pos 0) g.moves g.last) → (SameFraction whole duration → ⊥) → Answers (length_steps duration g) (Err Fails)
  unfolding length_steps
  lengths_differ h n = inr (h, inl (n, refl))

  pub lengths_met : NonePasses (sums_from (pos 0) g.moves g.last) → SameFraction whole duration → Answers (length_steps duration g) (Ok tt)
  unfolding length_steps
  lengths_met h s = inr (h, inr (s, refl))

-- a sum compares with the lowest terms of a length as with the length
pub same_lowest : (sum : ℤ) (g : GapRun) (duration l : Fraction) → pos 0 <ℤ g.den → IsFraction duration → l ≡ lowest duration → sum ≡ total g.moves g.last →
    (sum *ℤ l.den ≡ l.num *ℤ g.den) ↔ SameFraction (record { num = total g.moves g.last; den = g.den }) duration
same_lowest sum g duration l hg hd el es =
    let x : Fraction = record { num = sum; den = g.den } in
    let low : SameFraction l duration = subst (λ (f : Fraction). SameFraction f duration) (sym el) (lowest-same duration) in
    let hl : IsFraction l = subst IsFraction (sym el) (lowest-IsFraction duration hd) in
    let back : SameFraction duration l = sym low in (
      λ h. subst (λ (n : ℤ). n *ℤ duration.den ≡ duration.num *ℤ g.den) es (same-trans x l duration hg hl hd h low),
      λ h. same-trans x duration l hg hd hl (subst (λ (n : ℤ). n *ℤ duration.den ≡ duration.num *ℤ g.den) (sym es) h) back,
    )

-- the time between two numbers of a log is a fraction
pub difference-IsFraction : (x y : Fraction) → IsFraction x → IsFraction y → IsFraction (difference x y)
difference-IsFraction x y hx hy = product_positive x.den y.den hx hy

-- where no partial sum passes, the sum does not
pub total_fits : (so_far : ℤ) (ms : List Move) (last : Leg) → AllFit (sums_from so_far ms last) → FitsBits (so_far +ℤ total ms last)
total_fits so_far [] last h = h.0
total_fits so_far (m ∷ ms) last h =
    subst FitsBits (let e : (so_far +ℤ m.leg.length_of) +ℤ total ms last ≡ so_far +ℤ (m.leg.length_of +ℤ total ms last) = omega (arith, ints) in e)
    (total_fits (so_far +ℤ m.leg.length_of) ms last h.1)

pub sum_fits : (sum : ℤ) (ms : List Move) (last : Leg) → NonePasses (sums_from (pos 0) ms last) → sum ≡ total ms last → FitsBits sum
sum_fits sum ms last h e =
    subst FitsBits (let z : pos 0 +ℤ total ms last ≡ sum = omega (arith, ints, e) in z) (total_fits (pos 0) ms last (all_fit (sums_from (pos 0) ms last) h))
