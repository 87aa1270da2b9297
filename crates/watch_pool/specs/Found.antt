-- What a look under the lock found.
use Rattle.std.specs.Prelude.{◌≡◌, Option, Some, None, ⊤}
use Rattle.std.specs.Arc.{arc_value}
use Rattle.run_specs.specs.Keys.{Key}
use Rattle.gap_keys.specs.declared.outcomes.Outcome.{Outcome}
use Rattle.session_drive.specs.Remembered.{one_hit}
use Rattle.watch_pool.specs.declared.receipts.Looked.{Looked}
use Rattle.watch_pool.specs.declared.receipts.Looked.TheVariants.{Hit, Miss}

module _ {H F : Type 0} where
  -- the pair of a hit
  abbrev pub found_in : Looked H F → Option (Key × Outcome)
  found_in (Hit entry receipt) = Some (arc_value entry)
  found_in (Miss ticket pending) = None

  -- a hit is an entry of this key
  abbrev pub HasKey : Key → Looked H F → Type 0
  HasKey key (Hit entry receipt) = (arc_value entry).0 ≡ key
  HasKey key (Miss ticket pending) = ⊤

  -- a hit counts one look and one hit
  abbrev pub CountsHit : Looked H F → Type 0
  CountsHit (Hit entry receipt) = receipt.counts ≡ one_hit
  CountsHit (Miss ticket pending) = ⊤
