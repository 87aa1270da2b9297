-- The system of a leg, and its stage.
use Rattle.std.proofs.Common.{◌≡◌, ℕ, ◌+◌, ◌*◌, ◌-◌, List, [], refl, sym, ◌∙◌, ap, subst, arith}
use Rattle.std.specs.Prelude.{Result, IfOk, Ok, Err}
use Rattle.poly_specs.specs.Elimination.{columns_down}
use Rattle.poly_specs.specs.Rows.{Row, AllWide}
use Rattle.poly_specs.specs.Systems.{System}
use Rattle.run_specs.proofs.EndLemmas.{leg_wide}
use Rattle.run_specs.specs.Automaton.{Automaton, width, location_at}
use Rattle.run_specs.specs.Stages.{Stage, leg_rows, leg_stage}
use Rattle.run_specs.specs.WellFormed.{IsLocation}
use Rattle.stage_rows.specs.Projecting.{projecting}

pub wide_rows : (a : Automaton) (l : ℕ) (state rows : List Row) (w : ℕ) → IsLocation (width a) (location_at a l) → AllWide (width a + 1) state →
    rows ≡ leg_rows a l state → w ≡ 2 * width a + 2 → AllWide w rows
wide_rows a l state rows w is wide e f =
    let g : width a + 1 + (width a + 1) ≡ w = omega (arith, f) in
    subst (λ rs. AllWide w rs) (sym e) (subst (λ n. AllWide n (leg_rows a l state)) g (leg_wide a l state is wide))

pub stage_is : (a : Automaton) (l : ℕ) (state : List Row) (s : System) (first : ℕ) → s ≡ record { width = 2 * width a + 2; rows = leg_rows a l state } →
    first ≡ width a + 1 → projecting first s ≡ leg_stage a l state
stage_is a l state s first e f =
    let g : 2 * width a + 2 - (width a + 1) ≡ width a + 1 = omega arith in
    ap (λ n. projecting n s) f ∙ ap (projecting (width a + 1)) e
    ∙ ap (λ n. record { rows = leg_rows a l state; columns = columns_down (width a + 1) n; again = []; left = width a + 1; sums = [] }) g
