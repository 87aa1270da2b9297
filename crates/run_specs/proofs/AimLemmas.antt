-- Runs that meet an aim.
use Rattle.std.proofs.Common.{◌≡◌, ◌↔◌, ℕ, zero, suc, ◌<◌, List, [], ◌∷◌, length, take, Some, refl, sym, ◌∙◌, ap, subst, arith, ℤ, pos, ◌<ℤ◌}
use Rattle.std.specs.Prelude.{IsSomeAnd, slice_get}
use Rattle.std.specs.List.{AllZip}
use Rattle.std.proofs.lemmas.Int.{ints}
use Rattle.std.proofs.lemmas.List.{take-map}
use Rattle.poly_specs.proofs.EliminationLemmas.{AllHold-from_in}
use Rattle.run_specs.proofs.StageLemmas.{holds_first}
use Rattle.run_specs.proofs.SampleLemmas.{at_most_holds, at_least_holds}
use Rattle.run_specs.proofs.HistorySystems.{take_here}
use Rattle.run_specs.proofs.RunEndLemmas.{all_same}
use Rattle.run_specs.proofs.PickedLemmas.{length-fractions}
use Rattle.run_specs.proofs.PickedValues.{zip_long, zip_at, zip_take}
use Rattle.run_specs.proofs.FirstRunLemmas.{scaled_same}
use Rattle.poly_specs.specs.Fractions.{Fraction, SameFraction, fractions, zero_fraction}
use Rattle.poly_specs.specs.Rows.{Point, Row, over, coordinate, SamePoint, AllHold}
use Rattle.run_specs.specs.Automaton.{Automaton, width}
use Rattle.run_specs.specs.Logs.{Sample}
use Rattle.run_specs.specs.Runs.{GapRun, Place, Run, Follows, IsRun, VisitsUnsafe, end_of, end_point}
use Rattle.run_specs.specs.Stages.{at_most, at_least}
use Rattle.run_specs.specs.Aims.{EndsWhere, Meets, to_alarm, to_value}
use Rattle.run_specs.specs.FirstRun.{numbers_before, last_values, picked}
use Rattle.run_specs.specs.StateHistories.{place_after}

-- ---- the last gap

pub gaps_end : (rows : List Row) (gs : List GapRun) → EndsWhere rows gs → gs ≡ [] → ⊥
gaps_end rows [] h e = h
gaps_end rows (g ∷ gs) h e = cc

pub some_gap : (a : Automaton) (k : ℕ) (before : Place) (t : Fraction) (log : List Sample) (gs : List GapRun) → (log ≡ [] → ⊥) → Follows a k before t log gs → gs ≡ [] → ⊥
some_gap a k before t [] gs some h none = some refl
some_gap a k before t (s ∷ ss) [] some h none = h
some_gap a k before t (s ∷ ss) (g ∷ gs) some h none = cc

-- g is the last of the gap runs
pub record IsLast (a : Automaton) (g : GapRun) (gs : List GapRun) : Type 0 where
  pub positive : pos 0 <ℤ g.den
  pub sized : length g.last.at_end ≡ width a
  pub values : last_values gs ≡ fractions g.den g.last.at_end
  pub ends : (rows : List Row) → EndsWhere rows gs ↔ AllHold rows (end_point g)
  pub place : (p : Place) → place_after a p gs ≡ end_of a g

pub last_of : (a : Automaton) (k : ℕ) (before : Place) (t : Fraction) (log : List Sample) (gs : List GapRun) → (gs ≡ [] → ⊥) → Follows a k before t log gs → (g : GapRun) × IsLast a g gs
last_of a k before t log [] some h = absurd (some refl)
last_of a k before t [] (g ∷ gs) some h = absurd h
last_of a k before t (s ∷ ss) (g ∷ []) some h =
    (g, record { positive = h.0.gap_run.positive; sized = h.0.passes.sized; values = refl; ends = λ rows. (λ x. x, λ x. x); place = λ p. refl })
last_of a k before t (s ∷ ss) (g ∷ g' ∷ gs) some h =
    let (l, is) = last_of a k (end_of a g) s.time ss (g' ∷ gs) (λ e. let b : ⊥ = cc in b) h.1 in
    (l, record { positive = is.positive; sized = is.sized; values = is.values; ends = is.ends; place = λ p. is.place (end_of a g) })

-- ---- the last values among the numbers of a run

pub zip_equal : (xs ys : List Fraction) → xs ≡ ys → AllZip SameFraction xs ys
zip_equal xs ys e = subst (AllZip SameFraction xs) e (itself xs)
  where
    itself : (xs : List Fraction) → AllZip SameFraction xs xs
    itself [] = tt
    itself (x ∷ xs) = (refl, itself xs)

pub zip_back : (xs ys : List Fraction) → AllZip SameFraction xs ys → AllZip SameFraction ys xs
zip_back [] [] e = tt
zip_back [] (y ∷ ys) e = absurd e
zip_back (x ∷ xs) [] e = absurd e
zip_back (x ∷ xs) (y ∷ ys) e = (sym e.0, zip_back xs ys e.1)

-- the rows hold at the last values of a run exactly where they hold at the first of its numbers, over a common denominator
pub ends_numbers : (a : Automaton) (k : ℕ) (log : List Sample) (run : Run) (rows : List Row) (d : ℤ) (ns : List ℤ) → (run.gaps ≡ [] → ⊥) → IsRun a k log run → pos 0 <ℤ d →
    AllZip SameFraction (picked run) (fractions d ns) → EndsWhere rows run.gaps ↔ AllHold rows (over d (take (width a) ns))
ends_numbers a k log run rows d ns some is hd same =
    let (g, l) = last_of a k run.start zero_fraction log run.gaps some is.follows in
    let m : ℕ = width a in
    let long : length (last_values run.gaps) ≡ m = ap length l.values ∙ length-fractions g.den g.last.at_end ∙ l.sized in
    let first : AllZip SameFraction (take m (picked run)) (take m (fractions d ns)) = zip_take m (picked run) (fractions d ns) (zip_long (picked run) (fractions d ns) same)
    (λ j a b. zip_at (picked run) (fractions d ns) j same) in
    let left : take m (picked run) ≡ fractions g.den g.last.at_end = take_here m (last_values run.gaps) (numbers_before run.gaps) long ∙ l.values in
    let there : AllZip SameFraction (fractions g.den g.last.at_end) (fractions d (take m ns)) =
    subst (λ ys. AllZip SameFraction (fractions g.den g.last.at_end) ys) (take-map (λ n. record { num = n; den = d }) m ns) (subst (λ xs. AllZip SameFraction xs (take m (fractions d ns))) left first) in
    let e : SamePoint (end_point g) (over d (take m ns)) = scaled_same g.den d g.last.at_end (take m ns) there in (
      λ h. all_same rows (end_point g) (over d (take m ns)) l.positive hd e ((l.ends rows).0 h),
      λ h. (l.ends rows).1 (all_same rows (over d (take m ns)) (end_point g) hd l.positive (sym e) h),
    )

-- ---- two aims

pub alarm_visit : (a : Automaton) (run : Run) → Meets a to_alarm run ↔ VisitsUnsafe a run
alarm_visit a run = (λ m. m.visits refl, λ v. record { visits = λ t. v; ends = anywhere run.gaps (visited v) })
  where
    visited : VisitsUnsafe a run → run.gaps ≡ [] → ⊥
    visited (i, g, h, e, u) none = let l = ap length none in omega (arith, h, l)

    anywhere : (gs : List GapRun) → (gs ≡ [] → ⊥) → EndsWhere [] gs
    anywhere [] some = some refl
    anywhere (g ∷ []) some = AllHold-from_in [] (end_point g) (λ r i. absurd i)
    anywhere (g ∷ h ∷ gs) some = anywhere (h ∷ gs) (λ e. let b : ⊥ = cc in b)

-- the last value of variable j, where there is a last gap
last_value : (d : ℤ) (ns : List ℤ) (j : ℕ) → j < length ns → slice_get (fractions d ns) j ≡ Some (coordinate j (over d ns))
last_value d [] j h = absurd (omega arith)
last_value d (n ∷ ns) zero h = refl
last_value d (n ∷ ns) (suc j) h = last_value d ns j (omega arith)

pub value_aim : (a : Automaton) (k : ℕ) (log : List Sample) (run : Run) (j : ℕ) (v : Fraction) → IsRun a k log run → j < width a →
    Meets a (to_value (width a) j v) run ↔ IsSomeAnd (slice_get (last_values run.gaps) j) (λ x. SameFraction x v)
value_aim a k log run j v is hj = (λ m. (go run.gaps is.follows).0 m.ends, λ h. record { visits = λ t. absurd (let b : ⊥ = cc in b); ends = (go run.gaps is.follows).1 h })
  where
    rows : List Row
    rows = at_most (width a) j v ∷ at_least (width a) j v ∷ []

    go : (gs : List GapRun) → Follows a k run.start zero_fraction log gs → EndsWhere rows gs ↔ IsSomeAnd (slice_get (last_values gs) j) (λ x. SameFraction x v)
    go [] h = (λ e. absurd e, λ e. absurd (nothing j e))
      where
        nothing : (j : ℕ) → IsSomeAnd (slice_get {X = Fraction} [] j) (λ x. SameFraction x v) → ⊥
        nothing zero e = e
        nothing (suc j) e = e
    go (g' ∷ gs) h =
        let (g, l) = last_of a k run.start zero_fraction log (g' ∷ gs) (λ e. let b : ⊥ = cc in b) h in
        let there : slice_get (last_values (g' ∷ gs)) j ≡ Some (coordinate j (end_point g)) =
        ap (λ fs. slice_get fs j) l.values ∙ last_value g.den g.last.at_end j (subst (λ n. j < n) (sym l.sized) hj) in
        let p : Point = end_point g in
        let up = at_most_holds (width a) j v p hj in
        let low = at_least_holds (width a) j v p hj in
        let b1 = holds_first (at_most (width a) j v) (at_least (width a) j v ∷ []) p in
        let b2 = holds_first (at_least (width a) j v) [] p in (
          λ e. subst (λ o. IsSomeAnd o (λ x. SameFraction x v)) (sym there)
              (let h = b1.0 ((l.ends rows).0 e) in let x = up.0 h.0 in let y = low.0 (b2.0 h.1).0 in omega (arith, ints, x, y)),
          λ e. (l.ends rows).1
              (let s = subst (λ o. IsSomeAnd o (λ x. SameFraction x v)) there e in
              b1.1 (up.1 (omega (arith, ints, s)), b2.1 (low.1 (omega (arith, ints, s)), AllHold-from_in [] p (λ r i. absurd i)))),
        )
