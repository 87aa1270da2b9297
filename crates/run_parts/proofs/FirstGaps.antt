-- The gaps of a first run: how many there are, and what they are written over.
use Rattle.std.proofs.Common.{◌≡◌, inl, inr, ℕ, suc, ◌<◌, List, [], ◌∷◌, ◌++◌, length, refl, sym, ap, subst, arith, pos, ◌<ℤ◌}
use Rattle.run_specs.proofs.AimLemmas.{gaps_end}
use Rattle.run_specs.proofs.FirstRunExists.{all_in}
use Rattle.run_parts.proofs.LeastNumbers.{least_numbers}
use Rattle.poly_specs.specs.Lists.{In}
use Rattle.poly_specs.specs.Fractions.{Fraction, zero_fraction}
use Rattle.poly_specs.specs.Bits.{SomePasses}
use Rattle.poly_specs.specs.Denominators.{common_numbers}
use Rattle.run_specs.specs.Automaton.{Automaton}
use Rattle.run_specs.specs.Logs.{Sample}
use Rattle.run_specs.specs.Runs.{GapRun, Place, Run, Follows, end_of}
use Rattle.run_specs.specs.Aims.{Aim, IsAimedRun}
use Rattle.run_specs.specs.FirstRun.{backwards, IsReduced, IsFirstRun}
use Rattle.run_specs.specs.RunPasses.{gap_numbers, RunPasses}

one_for_each : (a : Automaton) (k : ℕ) (before : Place) (t : Fraction) (ss : List Sample) (gs : List GapRun) → Follows a k before t ss gs → length gs ≡ length ss
one_for_each a k before t [] [] f = refl
one_for_each a k before t [] (g ∷ gs) f = absurd f
one_for_each a k before t (s ∷ ss) [] f = absurd f
one_for_each a k before t (s ∷ ss) (g ∷ gs) f = ap suc (one_for_each a k (end_of a g) s.time ss gs f.1)

some_gap : (gs : List GapRun) → (gs ≡ [] → ⊥) → 0 < length gs
some_gap [] h = absurd (h refl)
some_gap (g ∷ gs) h = omega arith

pub gaps_of_aimed : (a : Automaton) (k : ℕ) (log : List Sample) (aim : Aim) (run : Run) → IsAimedRun a k log aim run → (length run.gaps ≡ length log) × (0 < length run.gaps)
gaps_of_aimed a k log aim run is = (one_for_each a k run.start zero_fraction log run.gaps is.run_of.follows, some_gap run.gaps (gaps_end aim.rows run.gaps is.meets.ends))

positive_in : (a : Automaton) (k : ℕ) (before : Place) (t : Fraction) (ss : List Sample) (gs : List GapRun) (x : GapRun) → Follows a k before t ss gs → In x gs → pos 0 <ℤ x.den
positive_in a k before t ss [] x f i = absurd i
positive_in a k before t [] (g ∷ gs) x f i = absurd f
positive_in a k before t (s ∷ ss) (g ∷ gs) x f (inl e) = subst (λ (y : GapRun). pos 0 <ℤ y.den) (sym e) f.0.gap_run.positive
positive_in a k before t (s ∷ ss) (g ∷ gs) x f (inr i) = positive_in a k (end_of a g) s.time ss gs x f.1 i

pub gap_common : (a : Automaton) (k : ℕ) (log : List Sample) (aim : Aim) (run : Run) (g : GapRun) → IsFirstRun a k log aim run → In g run.gaps →
    common_numbers (gap_numbers g) ≡ g.den ∷ (g.last.at_end ++ backwards g.start g.moves g.last)
gap_common a k log aim run g is i =
    least_numbers g.den (g.last.at_end ++ backwards g.start g.moves g.last) (positive_in a k run.start zero_fraction log run.gaps g is.aimed.run_of.follows i)
    (all_in IsReduced run.gaps is.reduced g i)

pub long_passes : (a : Automaton) (k : ℕ) (log : List Sample) (aim : Aim) (run : Run) (g : GapRun) → IsFirstRun a k log aim run → In g run.gaps →
    SomePasses (g.den ∷ (g.last.at_end ++ backwards g.start g.moves g.last)) → RunPasses a k log aim
long_passes a k log aim run g is i h = inr (run, is, inr (g, i, subst SomePasses (sym (gap_common a k log aim run g is i)) h))
