-- The system of a jump, and its stage.
use Rattle.std.proofs.Common.{◌≡◌, ℕ, ◌+◌, ◌*◌, ◌-◌, ◌<◌, List, [], length, sym, ◌∙◌, ap, subst, arith}
use Rattle.poly_specs.specs.Elimination.{columns_down}
use Rattle.poly_specs.specs.Rows.{Row, AllWide}
use Rattle.poly_specs.specs.Systems.{System}
use Rattle.run_specs.proofs.EndLemmas.{jump_wide}
use Rattle.run_specs.proofs.StageWidths.{location_is, transition_is}
use Rattle.run_specs.specs.Automaton.{Automaton, width, location_at, transition_at}
use Rattle.run_specs.specs.Stages.{Stage, jump_rows, jump_stage}
use Rattle.run_specs.specs.WellFormed.{IsWellFormed}
use Rattle.stage_rows.specs.Projecting.{projecting}

module _ (a : Automaton) (e : ℕ) (wf : IsWellFormed a) (known : e < length a.transitions) where
  pub relation_wide : AllWide (width a + width a) (transition_at a e).relation
  relation_wide = (transition_is a wf e known).relation

  pub target_wide : AllWide (width a) (location_at a (transition_at a e).target).invariant
  target_wide = (location_is a wf (transition_at a e).target (transition_is a wf e known).target).invariant

  pub wide_rows : (state rows : List Row) (w : ℕ) → AllWide (width a + 1) state → rows ≡ jump_rows a e state → w ≡ 2 * width a + 1 → AllWide w rows
  wide_rows state rows w wide f g =
      let h : width a + 1 + width a ≡ w = omega (arith, g) in
      subst (λ rs. AllWide w rs) (sym f) (subst (λ n. AllWide n (jump_rows a e state)) h (jump_wide a e state relation_wide target_wide wide))

pub stage_is : (a : Automaton) (e : ℕ) (state : List Row) (s : System) (first : ℕ) → s ≡ record { width = 2 * width a + 1; rows = jump_rows a e state } →
    first ≡ width a + 1 → projecting first s ≡ jump_stage a e state
stage_is a e state s first f g =
    let h : 2 * width a + 1 - (width a + 1) ≡ width a = omega arith in
    ap (λ n. projecting n s) g ∙ ap (projecting (width a + 1)) f
    ∙ ap (λ n. record { rows = jump_rows a e state; columns = columns_down (width a + 1) n; again = []; left = width a + 1; sums = [] }) h
