use Rattle.std.specs.Prelude.{ℕ, ◌<◌, slice_index_or}
use Rattle.poly_specs.specs.Systems.{System, IsKeptSystem}
use Rattle.fm_eliminate.proofs.by_level.see_kept.Given as goal

abbrev pub invariant-loop-system : goal.invariant-loop-system
invariant-loop-system l = (k : ℕ) (d : System) → k < l.system-index → IsKeptSystem (slice_index_or l.systems k d)
