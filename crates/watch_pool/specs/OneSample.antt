-- One pending sample of a slot.
use Rattle.std.specs.Prelude.{◌≡◌, ℕ, [], ◌∷◌, ◌++◌, slice_get, None, Some}
use Rattle.run_specs.specs.declared.Verdict.{Verdict}
use Rattle.run_specs.specs.Logs.{Sample}
use Rattle.run_specs.specs.Sessions.{Idle, MayBegin, wanted_for}
use Rattle.live_session.specs.Driven.{IsDriven}
use Rattle.watch_pool.specs.Counted.{looks_for}
use Rattle.watch_pool.specs.Slots.{HasLogNumbers}
use Rattle.watch_pool.specs.declared.receipts.Receipt.{Receipt}
use Rattle.watch_pool.specs.declared.slots.Slot.{Slot}

module _ {H F : Type 0} where
  -- the pending sample of this number may be begun
  pub record IsReadyAt (i : ℕ) (slot : Slot H F) : Type 0 where
    pub sample : Sample
    pub here : slice_get slot.pending.items i ≡ Some sample
    pub idle : slot.session.phase ≡ Idle
    pub numbers : HasLogNumbers sample
    pub may_begin : MayBegin slot.session sample

  -- it was driven
  pub record DrivesOne (i : ℕ) (old new : Slot H F) : Type 0 where
    pub sample : Sample
    pub reply : Verdict
    pub receipt : Receipt H F
    pub here : slice_get old.pending.items i ≡ Some sample
    pub driven : IsDriven old.session new.session sample reply
    pub looks : receipt.counts.looks ≡ looks_for (wanted_for old.session sample None)
    pub replies : new.replies.items ≡ old.replies.items ++ reply ∷ []
    pub receipts : new.receipts.items ≡ old.receipts.items ++ receipt ∷ []
    pub pending : new.pending ≡ old.pending

  -- nothing happened
  pub record DrivesNone (old new : Slot H F) : Type 0 where
    pub session : new.session ≡ old.session
    pub replies : new.replies.items ≡ old.replies.items
    pub receipts : new.receipts.items ≡ old.receipts.items
    pub pending : new.pending ≡ old.pending
