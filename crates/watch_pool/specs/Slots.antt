-- What a worker does to a slot.
use Rattle.std.specs.Prelude.{◌≡◌, ℕ, ◌≤◌, List, [], ◌∷◌, ◌++◌, length, take, map, None, IfSome, All, ⊤}
use Rattle.number_specs.specs.LogNumbers.{IsLogNumber}
use Rattle.run_specs.specs.declared.Verdict.{Verdict}
use Rattle.run_specs.specs.Logs.{Sample}
use Rattle.run_specs.specs.Sessions.{MonitorSession, Idle, MayBegin, accepted, wanted_for}
use Rattle.live_session.specs.Driven.{IsDriven}
use Rattle.watch_pool.specs.Counted.{looks_for}
use Rattle.watch_pool.specs.declared.receipts.Receipt.{Receipt}
use Rattle.watch_pool.specs.declared.slots.Slot.{Slot}

-- begin, given the samples one after the other, refuses none of them for its cells, its time or the limit
abbrev pub MayDrive : MonitorSession → List Sample → Type 0
MayDrive s [] = ⊤
MayDrive s (x ∷ xs) = MayBegin s x × MayDrive (record s { log = s.log ++ accepted s x ∷ [] }) xs

-- its numbers are those of a log
abbrev pub HasLogNumbers : Sample → Type 0
HasLogNumbers x = IsLogNumber x.time × All (λ cell. IfSome cell IsLogNumber) x.cells

module _ {H F : Type 0} where
  -- no sample is begun, and the pending ones may be driven
  pub record IsReady (slot : Slot H F) : Type 0 where
    pub idle : slot.session.phase ≡ Idle
    pub numbers : All HasLogNumbers slot.pending.items
    pub may_drive : MayDrive slot.session slot.pending.items

  -- the samples were driven one after the other, with these replies and receipts: a look is counted exactly where a key was wanted
  abbrev pub Drives : MonitorSession → List Sample → List (Verdict × Receipt H F) → MonitorSession → Type 0
  Drives s [] [] t = t ≡ s
  Drives s [] (d ∷ ds) t = ⊥
  Drives s (x ∷ xs) [] t = ⊥
  Drives s (x ∷ xs) (d ∷ ds) t =
      (m : MonitorSession) × IsDriven s m x d.0 × (d.1.counts.looks ≡ looks_for (wanted_for s x None)) × Drives m xs ds t

  -- the first n of the pending samples were, each with one reply and one receipt, and these stay pending
  pub record DrivesSome (n : ℕ) (old new : Slot H F) : Type 0 where
    pub done : List (Verdict × Receipt H F)
    pub some : n ≤ length old.pending.items
    pub driven : Drives old.session (take n old.pending.items) done new.session
    pub idle : new.session.phase ≡ Idle
    pub replies : new.replies.items ≡ old.replies.items ++ map (λ d. d.0) done
    pub receipts : new.receipts.items ≡ old.receipts.items ++ map (λ d. d.1) done
    pub pending : new.pending ≡ old.pending

  -- a prefix of them was
  abbrev pub DrivesPrefix : Slot H F → Slot H F → Type 0
  DrivesPrefix old new = (n : ℕ) × DrivesSome n old new

  -- all of them were
  abbrev pub DrivesAll : Slot H F → Slot H F → Type 0
  DrivesAll old new = DrivesSome (length old.pending.items) old new
