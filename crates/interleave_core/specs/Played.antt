-- What it is to play events, and to stop before one.
use Rattle.std.specs.Prelude.{◌≡◌, ℕ, ◌<◌, ◌≤◌, List, length, take, Some, slice_get}
use Rattle.run_specs.specs.Worlds.{Event, IsAllowed, IsStep, LeadTo, Told}
use Rattle.interleave_core.specs.Views.{CountedWorld, after_event, totals_after}
use Rattle.interleave_core.specs.declared.faults.PlayFault.{PlayFault}
use Rattle.interleave_core.specs.declared.faults.PlayFault.TheVariants.{NotEnabled, Memory}

-- the event happened, and told these verdicts
pub record IsTaken (w v : CountedWorld) (event : Event) (told : List Told) : Type 0 where
  pub step : IsStep w.world event told v.world
  pub totals : v.totals ≡ after_event event w.totals

-- the events happened, and told these verdicts
pub record HasPlayed (w v : CountedWorld) (events : List Event) (told : List Told) : Type 0 where
  pub steps : LeadTo w.world events told v.world
  pub totals : v.totals ≡ totals_after events w.totals

-- the first n events happened, whatever they told
pub record HasBegun (w v : CountedWorld) (events : List Event) (n : ℕ) : Type 0 where
  pub told : List Told
  pub played : HasPlayed w v (take n events) told

-- the events before the place happened, and the one there is not allowed; or some first events happened, and memory was wanting
abbrev pub HasStopped : CountedWorld → CountedWorld → List Event → PlayFault → Type 0
HasStopped w v events (NotEnabled place) =
    (place < length events) × HasBegun w v events place × ((event : Event) → slice_get events place ≡ Some event → IsAllowed v.world event → ⊥)
HasStopped w v events Memory = (n : ℕ) × (n ≤ length events) × HasBegun w v events n
