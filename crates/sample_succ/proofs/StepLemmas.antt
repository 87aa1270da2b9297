-- What is left after a leg, a jump and the sample.
use Rattle.std.proofs.Common.{◌≡◌, ◌↔◌, ℕ, ◌+◌, ◌<◌, List, length, subst, sym, ℤ, pos, ◌<ℤ◌}
use Rattle.poly_specs.specs.Bits.{SomePasses}
use Rattle.poly_specs.specs.Bounds.{emptiness_numbers}
use Rattle.poly_specs.specs.Lists.{IsAmong}
use Rattle.poly_specs.specs.Rows.{Row, over, AllHold, AllWide, HasPoint}
use Rattle.poly_specs.specs.Systems.{System}
use Rattle.run_specs.proofs.EndLemmas.{leg_ends, jump_ends}
use Rattle.run_specs.proofs.StageWidths.{location_is, transition_is}
use Rattle.run_specs.specs.Automaton.{Automaton, width, transition_at}
use Rattle.run_specs.specs.Ends.{SomeLegEnds, SomeJumpEnds}
use Rattle.run_specs.specs.Stages.{Stage, rows_after, stage_numbers, leg_stage, jump_stage}
use Rattle.run_specs.specs.WellFormed.{IsWellFormed}
use Rattle.sample_succ.specs.Plain.{IsPlain}
use Rattle.sample_succ.proofs.PlainLemmas.{test_pass}

-- a system that has no point
pub test_of : (s : Stage) (system : System) → system.width ≡ s.left → IsAmong system.rows (rows_after s) → SomePasses (emptiness_numbers system.width system.rows) → SomePasses (stage_numbers s)
test_of s system w among h = test_pass s system.rows among (subst (λ n. SomePasses (emptiness_numbers n system.rows)) w h)

pub no_point_of : (s : Stage) (system : System) → system.width ≡ s.left → IsPlain s.left system.rows (rows_after s) → (HasPoint system.width system.rows → ⊥) → HasPoint s.left (rows_after s) → ⊥
no_point_of s system w plain none (p, hp, lp, h) = none (subst (λ n. HasPoint n system.rows) (sym w) (p, hp, lp, (plain.same p hp lp).1 h))

pub leg_left : (a : Automaton) (l : ℕ) (before s : List Row) → IsWellFormed a → l < length a.locations → AllWide (width a + 1) before →
    ((d : ℤ) (end : List ℤ) → pos 0 <ℤ d → length end ≡ width a + 1 → AllHold s (over d end) ↔ SomeLegEnds a l before (over d end)) →
    IsAmong s (rows_after (leg_stage a l before)) → IsPlain (width a + 1) s (rows_after (leg_stage a l before))
leg_left a l before s wf hl wide exact among = record {
  among = among;
  same = λ p hp lp.
      let one = exact p.den p.num hp lp in
      let two = leg_ends a l before p.den p.num (location_is a wf l hl) wide hp lp in
      (λ h. two.1 (one.0 h), λ h. one.1 (two.0 h));
}

pub jump_left : (a : Automaton) (e : ℕ) (before s : List Row) → IsWellFormed a → e < length a.transitions → AllWide (width a + 1) before →
    ((d : ℤ) (end : List ℤ) → pos 0 <ℤ d → length end ≡ width a + 1 → AllHold s (over d end) ↔ SomeJumpEnds a e before (over d end)) →
    IsAmong s (rows_after (jump_stage a e before)) → IsPlain (width a + 1) s (rows_after (jump_stage a e before))
jump_left a e before s wf he wide exact among =
    let t = transition_is a wf e he in
    record {
      among = among;
      same = λ p hp lp.
          let one = exact p.den p.num hp lp in
          let two = jump_ends a e before p.den p.num t.relation (location_is a wf (transition_at a e).target t.target).invariant wide hp lp in
          (λ h. two.1 (one.0 h), λ h. one.1 (two.0 h));
    }
