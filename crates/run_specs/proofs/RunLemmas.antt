-- Runs along a longer and a shorter log, and the replies to them.
use Rattle.std.proofs.Common.{◌≡◌, ◌≢◌, ℕ, List, [], ◌∷◌, ◌++◌, length, take, refl, sym, subst, append_assoc}
use Rattle.poly_specs.specs.Fractions.{Fraction, zero_fraction}
use Rattle.run_specs.specs.declared.Verdict.{Verdict}
use Rattle.run_specs.specs.declared.Verdict.TheVariants.{Alarm, Safe, Impossible, Overflow}
use Rattle.run_specs.specs.Automaton.{Automaton}
use Rattle.run_specs.specs.Logs.{Sample}
use Rattle.run_specs.specs.Runs.{GapRun, Place, Run, Follows, IsRun, end_of}
use Rattle.run_specs.specs.Passes.{LogPasses}
use Rattle.run_specs.proofs.PassesLemmas.{LogPasses-longer}
use Rattle.run_specs.specs.Verdicts.{IsLawful, AreLawfulAfter, NoOverflow}

-- a run of a log gives a run of each log that this one begins with
pub Follows-prefix : (a : Automaton) (k : ℕ) (before : Place) (t : Fraction) (ss ts : List Sample) (gs : List GapRun) →
    Follows a k before t (ss ++ ts) gs → Follows a k before t ss (take (length ss) gs)
Follows-prefix a k before t [] ts gs h = tt
Follows-prefix a k before t (s ∷ ss) ts [] h = h
Follows-prefix a k before t (s ∷ ss) ts (g ∷ gs) h = (h.0, Follows-prefix a k (end_of a g) s.time ss ts gs h.1)

pub IsRun-prefix : (a : Automaton) (k : ℕ) (ss ts : List Sample) (run : Run) →
    IsRun a k (ss ++ ts) run → IsRun a k ss (record run { gaps = take (length ss) run.gaps })
IsRun-prefix a k ss ts run r =
    record { starts = r.starts; follows = Follows-prefix a k run.start zero_fraction ss ts run.gaps r.follows }

-- two lawful replies to one log, neither an overflow, are equal
pub IsLawful-unique : (a : Automaton) (k : ℕ) (ss : List Sample) (v w : Verdict) → v ≢ Overflow → w ≢ Overflow → IsLawful a k ss v → IsLawful a k ss w → v ≡ w
IsLawful-unique a k ss Overflow w nv nw x y = absurd (nv refl)
IsLawful-unique a k ss Alarm Alarm nv nw x y = refl
IsLawful-unique a k ss Alarm Safe nv nw x y = absurd (y.1 x)
IsLawful-unique a k ss Alarm Impossible nv nw x y = absurd (y (x.0, x.1))
IsLawful-unique a k ss Alarm Overflow nv nw x y = absurd (nw refl)
IsLawful-unique a k ss Safe Alarm nv nw x y = absurd (x.1 y)
IsLawful-unique a k ss Safe Safe nv nw x y = refl
IsLawful-unique a k ss Safe Impossible nv nw x y = absurd (y x.0)
IsLawful-unique a k ss Safe Overflow nv nw x y = absurd (nw refl)
IsLawful-unique a k ss Impossible Alarm nv nw x y = absurd (x (y.0, y.1))
IsLawful-unique a k ss Impossible Safe nv nw x y = absurd (x y.0)
IsLawful-unique a k ss Impossible Impossible nv nw x y = refl
IsLawful-unique a k ss Impossible Overflow nv nw x y = absurd (nw refl)

replies_after : (a : Automaton) (k : ℕ) (before ss : List Sample) (vs ws : List Verdict) → NoOverflow vs → NoOverflow ws →
    AreLawfulAfter a k before ss vs → AreLawfulAfter a k before ss ws → vs ≡ ws
replies_after a k before [] [] [] nv nw x y = refl
replies_after a k before [] [] (w ∷ ws) nv nw x y = absurd y
replies_after a k before [] (v ∷ vs) ws nv nw x y = absurd x
replies_after a k before (s ∷ ss) [] ws nv nw x y = absurd x
replies_after a k before (s ∷ ss) (v ∷ vs) [] nv nw x y = absurd y
replies_after a k before (s ∷ ss) (v ∷ vs) (w ∷ ws) nv nw x y =
    let e = IsLawful-unique a k (before ++ s ∷ []) v w nv.0 nw.0 x.0 y.0 in
    let f = replies_after a k (before ++ s ∷ []) ss vs ws nv.1 nw.1 x.2 y.2 in cc

pub replies_unique : (a : Automaton) (k : ℕ) (ss : List Sample) (vs ws : List Verdict) → NoOverflow vs → NoOverflow ws →
    AreLawfulAfter a k [] ss vs → AreLawfulAfter a k [] ss ws → vs ≡ ws
replies_unique a k ss vs ws = replies_after a k [] ss vs ws

-- ---- a log that does not pass

not_overflow : (a : Automaton) (k : ℕ) (ss : List Sample) (v : Verdict) → (LogPasses a k ss → ⊥) → IsLawful a k ss v → v ≢ Overflow
not_overflow a k ss v fits x e = fits (subst (IsLawful a k ss) e x)

pub verdict_unique : (a : Automaton) (k : ℕ) (ss : List Sample) (v w : Verdict) → (LogPasses a k ss → ⊥) → IsLawful a k ss v → IsLawful a k ss w → v ≡ w
verdict_unique a k ss v w fits x y = IsLawful-unique a k ss v w (not_overflow a k ss v fits x) (not_overflow a k ss w fits y) x y

none_overflow : (a : Automaton) (k : ℕ) (before ss : List Sample) (vs : List Verdict) → (LogPasses a k (before ++ ss) → ⊥) → AreLawfulAfter a k before ss vs → NoOverflow vs
none_overflow a k before [] [] fits x = tt
none_overflow a k before [] (v ∷ vs) fits x = absurd x
none_overflow a k before (s ∷ ss) [] fits x = absurd x
none_overflow a k before (s ∷ ss) (v ∷ vs) fits x =
    let e : (before ++ s ∷ []) ++ ss ≡ before ++ s ∷ ss = append_assoc before (s ∷ []) ss in
    let after : LogPasses a k ((before ++ s ∷ []) ++ ss) → ⊥ = subst (λ log. LogPasses a k log → ⊥) (sym e) fits in (
      not_overflow a k (before ++ s ∷ []) v (λ p. after (LogPasses-longer a k (before ++ s ∷ []) ss p)) x.0,
      none_overflow a k (before ++ s ∷ []) ss vs after x.2,
    )

pub verdicts_unique : (a : Automaton) (k : ℕ) (ss : List Sample) (vs ws : List Verdict) → (LogPasses a k ss → ⊥) →
    AreLawfulAfter a k [] ss vs → AreLawfulAfter a k [] ss ws → vs ≡ ws
verdicts_unique a k ss vs ws fits x y = replies_unique a k ss vs ws (none_overflow a k [] ss vs fits x) (none_overflow a k [] ss ws fits y) x y
