-- The checks of a gap, one after the other.
use Rattle.std.proofs.Common.{◌≡◌, ℕ, zero, suc, ◌-◌, ◌<◌, ◌≤◌, List, ◌++◌, length, get_or, refl, ◌∙◌, ap, arith, Option, Some, None, Ok, Err}
use Rattle.std.proofs.lemmas.List.{get_or_default}
use Rattle.poly_specs.specs.Fractions.{Fraction, difference, zero_fraction}
use Rattle.replay_specs.specs.declared.checks.Stop.TheVariants.{Fails}
use Rattle.run_specs.specs.Automaton.{Automaton, width}
use Rattle.run_specs.specs.Logs.{Sample}
use Rattle.run_specs.specs.Runs.{GapRun, end_point}
use Rattle.replay_specs.specs.RunChecks.{Step, Answers, IsInRange, join_steps, path_steps, length_steps, near_steps, gap_steps, gap_at, gap_before, sample_at, time_before, GapAnswers, no_gap, no_sample}
use Rattle.replay_specs.proofs.CheckLemmas.{answers_asked, answers_refused, met_asked}
use Rattle.replay_specs.proofs.RunCheckLemmas.{gap_asks}
use Rattle.run_check.proofs.StepLemmas.{Leads}

module _ (a : Automaton) (k : ℕ) (before : Option GapRun) (t : Fraction) (s : Sample) (g : GapRun) where
  abbrev pub path_of_gap : List Step
  path_of_gap = path_steps a g.den g.start_loc g.start g.moves g.last

  abbrev pub sample_of_gap : List Step
  sample_of_gap = near_steps a s.cells (end_point g) (width a)

  abbrev pub ends_of_gap : List Step
  ends_of_gap = length_steps (difference s.time t) g ++ sample_of_gap

  pub gap_leads : IsInRange a g × (length g.moves ≤ k) → Leads (join_steps a before g ++ (path_of_gap ++ ends_of_gap)) (gap_steps a k before t s g)
  unfolding gap_steps
  gap_leads h = record { leads = λ x r. answers_asked (IsInRange a g × (length g.moves ≤ k)) (join_steps a before g ++ (path_of_gap ++ ends_of_gap)) x h r }

  pub gap_refused : (IsInRange a g × (length g.moves ≤ k) → ⊥) → Answers (gap_steps a k before t s g) (Err Fails)
  unfolding gap_steps
  gap_refused h = answers_refused (IsInRange a g × (length g.moves ≤ k)) (join_steps a before g ++ (path_of_gap ++ ends_of_gap)) h

pub in_range_of : (a : Automaton) (k : ℕ) (ss : List Sample) (gs : List GapRun) (i : ℕ) → GapAnswers a k ss gs i (Ok tt) → IsInRange a (gap_at i gs)
in_range_of a k ss gs i h =
    (gap_asks a k (gap_before i gs) (time_before i ss) (sample_at i ss) (gap_at i gs)
    (met_asked (gap_steps a k (gap_before i gs) (time_before i ss) (sample_at i ss) (gap_at i gs)) h)).in_range

-- ---- by numbers

pub gap_there : (gs : List GapRun) (i : ℕ) (g : GapRun) → i < length gs → g ≡ get_or gs i g → g ≡ gap_at i gs
gap_there gs i g lt e = e ∙ get_or_default gs i g no_gap lt

pub sample_there : (ss : List Sample) (i : ℕ) (s : Sample) → i < length ss → s ≡ get_or ss i s → s ≡ sample_at i ss
sample_there ss i s lt e = e ∙ get_or_default ss i s no_sample lt

pub gap_before_later : (gs : List GapRun) (i : ℕ) → 0 < i → gap_before i gs ≡ Some (gap_at (i - 1) gs)
gap_before_later gs zero h = absurd (omega arith)
gap_before_later gs (suc i) h = ap (λ (n : ℕ). Some (gap_at n gs)) (let e : i ≡ suc i - 1 = omega arith in e)

pub time_before_later : (ss : List Sample) (i : ℕ) → 0 < i → time_before i ss ≡ (sample_at (i - 1) ss).time
time_before_later ss zero h = absurd (omega arith)
time_before_later ss (suc i) h = ap (λ (n : ℕ). (sample_at n ss).time) (let e : i ≡ suc i - 1 = omega arith in e)

pub gap_before_first : (gs : List GapRun) (i : ℕ) → i ≡ 0 → gap_before i gs ≡ None
gap_before_first gs zero e = refl
gap_before_first gs (suc i) e = absurd (omega arith)

pub time_before_first : (ss : List Sample) (i : ℕ) → i ≡ 0 → time_before i ss ≡ zero_fraction
time_before_first ss zero e = refl
time_before_first ss (suc i) e = absurd (omega arith)
