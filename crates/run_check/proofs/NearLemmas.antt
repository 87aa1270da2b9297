-- Values that are near what is observed.
use Rattle.std.proofs.Common.{◌≡◌, inl, inr, ◌↔◌, ℕ, zero, suc, ◌+◌, ◌<◌, Bool, List, ◌++◌, length, get_or, refl, sym, ◌∙◌, ap, subst, arith, add-one, ℤ, Option, Some, None, Result, Ok, Err, IsTrue}
use Rattle.std.specs.Prelude.{⊤}
use Rattle.std.proofs.lemmas.Bool.{cases_lt}
use Rattle.std.proofs.lemmas.List.{get_or_default}
use Rattle.poly_specs.specs.Lists.{number_at}
use Rattle.poly_specs.specs.Bits.{SomePasses, NonePasses}
use Rattle.poly_specs.specs.Fractions.{Fraction, IsFraction, AtMost, DifferAtMost, difference, sum_of, opposite, zero_fraction}
use Rattle.poly_specs.specs.Arithmetic.{lowest, least_sum, sum_numbers}
use Rattle.poly_specs.specs.Rows.{Point, coordinate}
use Rattle.poly_specs.proofs.LowestLemmas.{lowest-least_sum, least_sum-IsFraction, sum-opposite}
use Rattle.replay_specs.specs.declared.checks.Stop.{Stop}
use Rattle.replay_specs.specs.declared.checks.Stop.TheVariants.{Fails, Passes}
use Rattle.run_specs.specs.Automaton.{Automaton, tolerance_at}
use Rattle.run_specs.specs.Logs.{cell_at}
use Rattle.run_specs.specs.Stages.{near_sums}
use Rattle.replay_specs.specs.RunChecks.{Step, Answers, value_steps, near_steps}
use Rattle.replay_specs.proofs.CheckLemmas.{none_formed, answers_then, answers_stop}
use Rattle.run_specs.proofs.SampleLemmas.{sum_above, sum_below}
use Rattle.lin_row.proofs.FitLemmas.{none_passes, all_fit, AllFit-front, AllFit-back, AllFit-append}
use Rattle.run_check.proofs.NumberLemmas.{lowest_at_most}
use Rattle.run_check.proofs.StepLemmas.{some_passes_not}

-- ---- the numbers that are formed

module _ (v w : Fraction) where
  abbrev above : List ℤ
  above = sum_numbers v w

  abbrev below : List ℤ
  below = sum_numbers v (opposite w)

  pub sum_stops : (NonePasses above → ⊥) → SomePasses (near_sums w (Some v))
  sum_stops h = some_passes_not (above ++ below) (λ g. h (none_passes above (AllFit-front above below (all_fit (above ++ below) g))))

  pub difference_stops : (NonePasses below → ⊥) → SomePasses (near_sums w (Some v))
  difference_stops h = some_passes_not (above ++ below) (λ g. h (none_passes below (AllFit-back above below (all_fit (above ++ below) g))))

  pub both_fit : NonePasses above → NonePasses below → NonePasses (near_sums w (Some v))
  both_fit h g = none_passes (above ++ below) (AllFit-append above below (all_fit above h) (all_fit below g))

-- ---- a value

at_most_as : (p q p' q' : Fraction) → p ≡ p' → q ≡ q' → AtMost p q → AtMost p' q'
at_most_as p q p' q' e f h = subst (λ z. AtMost z q') e (subst (AtMost p) f h)

pub near_says : (v w x at least most : Fraction) (ok : Bool) → IsFraction v → IsFraction w → IsFraction x → at ≡ lowest x → least ≡ lowest (difference v w) →
    most ≡ lowest (sum_of v w) → IsTrue ok ↔ (AtMost least at × AtMost at most) → IsTrue ok ↔ DifferAtMost w v x
near_says v w x at least most ok hv hw hx ea el em said =
    let low : Fraction = least_sum v (opposite w) in
    let high : Fraction = least_sum v w in
    let hlow : IsFraction low = least_sum-IsFraction v (opposite w) hv hw in
    let hhigh : IsFraction high = least_sum-IsFraction v w hv hw in
    let el2 : least ≡ lowest low = el ∙ sym (ap lowest (sum-opposite v w)) ∙ sym (lowest-least_sum v (opposite w) hv hw) in
    let em2 : most ≡ lowest high = em ∙ sym (lowest-least_sum v w hv hw) in
    let one = lowest_at_most low x hlow hx in
    let two = lowest_at_most x high hx hhigh in
    let under = sum_below v w x hv hw in
    let over = sum_above v w x hv hw in (
      λ t. let b = said.0 t in
          (under.0 (one.0 (at_most_as least at (lowest low) (lowest x) el2 ea b.0)), over.0 (two.0 (at_most_as at most (lowest x) (lowest high) ea em2 b.1))),
      λ d. said.1 (
        at_most_as (lowest low) (lowest x) least at (sym el2) (sym ea) (one.1 (under.1 d.0)),
        at_most_as (lowest x) (lowest high) at most (sym ea) (sym em2) (two.1 (over.1 d.1)),
      ),
    )

pub near_blank : (w : Fraction) (cell : Option Fraction) (x : Fraction) → cell ≡ None → Answers (value_steps w cell x) (Ok tt)
unfolding value_steps
near_blank w None x e = inr (none_formed, inr (λ v f. absurd (let b : ⊥ = cc in b), refl))
near_blank w (Some v) x e = absurd (let b : ⊥ = cc in b)

module _ (w : Fraction) (cell : Option Fraction) (x v : Fraction) (is : cell ≡ Some v) where
  pub near_passes : SomePasses (near_sums w (Some v)) → Answers (value_steps w cell x) (Err Passes)
  unfolding value_steps
  near_passes h = inl (subst (λ c. SomePasses (near_sums w c)) (sym is) h, refl)

  pub near_fails : NonePasses (near_sums w (Some v)) → (DifferAtMost w v x → ⊥) → Answers (value_steps w cell x) (Err Fails)
  unfolding value_steps
  near_fails h far = inr (subst (λ c. NonePasses (near_sums w c)) (sym is) h, inl (λ near. far (near v is), refl))

  pub near_met : NonePasses (near_sums w (Some v)) → DifferAtMost w v x → Answers (value_steps w cell x) (Ok tt)
  unfolding value_steps
  near_met h d = inr (
    subst (λ c. NonePasses (near_sums w c)) (sym is) h,
    inr (λ u e. subst (λ y. DifferAtMost w y x) (let f : v ≡ u = cc in f) d, refl),
  )

-- ---- all variables

module _ (a : Automaton) (cells : List (Option Fraction)) (p : Point) where
  abbrev pub steps_at : ℕ → List Step
  steps_at j = value_steps (tolerance_at a j) (cell_at j cells) (coordinate j p)

  pub value_there : (j : ℕ) (w : Fraction) (cell : Option Fraction) (n : ℤ) (y : Result ⊤ Stop) → j < length a.obs → j < length cells →
      w ≡ get_or a.obs j w → cell ≡ get_or cells j cell → n ≡ number_at j p.num →
      Answers (value_steps w cell (record { num = n; den = p.den })) y → Answers (steps_at j) y
  value_there j w cell n y lo lc ew ec en h =
      let fw : w ≡ tolerance_at a j = ew ∙ get_or_default a.obs j w zero_fraction lo in
      let fc : cell ≡ cell_at j cells = ec ∙ get_or_default cells j cell None lc in
      subst (λ z. Answers (value_steps z (cell_at j cells) (coordinate j p)) y) fw
      (subst (λ z. Answers (value_steps w z (coordinate j p)) y) fc
      (subst (λ (z : ℤ). Answers (value_steps w cell (record { num = z; den = p.den })) y) en h))

  pub near_more : (j : ℕ) (y : Result ⊤ Stop) → Answers (near_steps a cells p j) (Ok tt) → y ≡ Ok tt → Answers (steps_at j) y →
      Answers (near_steps a cells p (j + 1)) (Ok tt)
  near_more j y h was g =
      subst (λ n. Answers (near_steps a cells p n) (Ok tt)) (sym (add-one j))
      (answers_then (near_steps a cells p j) (steps_at j) (Ok tt) h (subst (Answers (steps_at j)) was g))

  near_longer : (m j : ℕ) (how : Stop) → j < m → Answers (near_steps a cells p (suc j)) (Err how) → Answers (near_steps a cells p m) (Err how)
  near_longer zero j how lt h = absurd (omega arith)
  near_longer (suc m) j how lt h = elim (cases_lt j m) [
    | inl less ↦ answers_stop (near_steps a cells p m) (steps_at m) how (near_longer m j how less h)
    | inr ge ↦ subst (λ n. Answers (near_steps a cells p (suc n)) (Err how)) (let e : j ≡ m = omega arith in e) h
  ]

  pub near_stop : (m j : ℕ) (x y : Result ⊤ Stop) (how : Stop) → j < m → Answers (near_steps a cells p j) (Ok tt) → y ≡ Err how → x ≡ y →
      Answers (steps_at j) y → Answers (near_steps a cells p m) x
  near_stop m j x y how lt h was same g =
      subst (Answers (near_steps a cells p m)) (sym (same ∙ was))
      (near_longer m j how lt (answers_then (near_steps a cells p j) (steps_at j) (Err how) h (subst (Answers (steps_at j)) was g)))
