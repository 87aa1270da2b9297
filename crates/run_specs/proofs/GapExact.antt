-- The rows after the plain stages of a gap hold exactly at the ends of its gap runs.
use Rattle.std.proofs.Common.{◌≡◌, ◌↔◌, ℕ, ◌<◌, List, length, pos, ◌<ℤ◌}
use Rattle.run_specs.specs.PlainHistories.{AllReached}
use Rattle.run_specs.proofs.GapEnds.{IsGapCase}
use Rattle.run_specs.proofs.OverflowLemmas.{key_case, end_there}
use Rattle.poly_specs.specs.Rows.{Point, AllHold}
use Rattle.run_specs.specs.Automaton.{Automaton, width}
use Rattle.run_specs.specs.Keys.{State, Key, IsState, IsKey, no_state, parent_at}
use Rattle.run_specs.specs.Outcomes.{MayTake, IsEnd}
use Rattle.run_specs.specs.Stages.{gap_stages, gap_rows}
use Rattle.run_specs.specs.WellFormed.{IsWellFormed}
use Rattle.run_specs.proofs.GapBack.{gap_back}

-- what the stages of a gap need, for a parent of a key
pub gap_case : (key : Key) (i : ℕ) → IsWellFormed key.automaton → IsKey key → i < length key.belief →
    IsGapCase key.automaton (parent_at key i).loc key.seen (parent_at key i).rows
gap_case key i wf is h =
    let state : IsState key.automaton (parent_at key i) = is.belief i no_state h in
    key_case key (parent_at key i).loc (parent_at key i).rows wf is state.loc state.wide

-- where a gap run ends, the gap's stages have points, and the rows after them hold
gap_reached : (key : Key) (i : ℕ) (path : List ℕ) (q : Point) → IsWellFormed key.automaton → IsKey key → MayTake key i path → IsEnd key i path q →
    AllReached (gap_stages key.automaton (parent_at key i).loc path key.gap key.seen (parent_at key i).rows)
    × AllHold (gap_rows key.automaton (parent_at key i).loc path key.gap key.seen (parent_at key i).rows) q
gap_reached key i path q wf is may e =
    let state : IsState key.automaton (parent_at key i) = is.belief i no_state may.parent in
    end_there key i path (parent_at key i).rows q wf is state.loc may.fits state.wide (λ p hp lp h. h) e

pub all_reached : (key : Key) (i : ℕ) (path : List ℕ) (q : Point) → IsWellFormed key.automaton → IsKey key → MayTake key i path → IsEnd key i path q →
    AllReached (gap_stages key.automaton (parent_at key i).loc path key.gap key.seen (parent_at key i).rows)
all_reached key i path q wf is may e = (gap_reached key i path q wf is may e).0

pub gap_exact : (key : Key) (i : ℕ) (path : List ℕ) (q : Point) → IsWellFormed key.automaton → IsKey key → MayTake key i path → pos 0 <ℤ q.den → length q.num ≡ width key.automaton →
    AllHold (gap_rows key.automaton (parent_at key i).loc path key.gap key.seen (parent_at key i).rows) q ↔ IsEnd key i path q
gap_exact key i path q wf is may hq lq =
    let a : Automaton = key.automaton in
    let p : State = parent_at key i in
    let case = gap_case key i wf is may.parent in (
      λ h. (
          let b = gap_back a wf p.loc path key.gap key.seen p.rows q.den q.num case is.gap.0.positive may.fits hq lq h in
          record {
            positive = hq;
            sized = lq;
            reached = (b.gap, record { same_loc = b.loc; sized = b.sized; allowed = b.starts; along = b.along; gap_run = b.gap_run; passes = b.passes; same_point = b.ends });
          }),
      λ e. (gap_reached key i path q wf is may e).1,
    )
