-- What a stored cache keeps, and that a memo keeps it.
use Rattle.std.proofs.Common.{◌≡◌, ℕ, ◌-◌, ◌<◌, ◌≤◌, Bool, [], length, Option, Some, None, ◌^◌, arith}
use Rattle.std.specs.Option.{unwrap_or}
use Rattle.std.specs.declared.sync.Arc.{Arc}
use Rattle.std.specs.Arc.{arc_value}
use Rattle.std.specs.declared.num.NonZeroUsize.{NonZeroUsize}
use Rattle.std.specs.List.{IsDistinct}
use Rattle.std.proofs.lemmas.List.{length-map}
use Rattle.std.proofs.lemmas.List.Elements.{All-nil, All-map}
use Rattle.lru.specs.LruCache.{IsValid, lru_cache, promoted}
use Rattle.succ_memo.specs.declared.memo.Totals.{Totals}
use Rattle.succ_memo.specs.Memo.{IsMemo, IsWithin, memo_of}
use Rattle.succ_memo.specs.Stored.{Cache, bound_of, shown_pairs, cache_pairs, IsStored, IsStoredIn}
use Rattle.succ_memo.proofs.CacheEntries.{All-promoted}
use Rattle.succ_memo.proofs.ShownPairs.{keys_of-shown}

module _ {K V A : Type 0} where
  abbrev held : Arc (K × V) A → K × V
  held entry = arc_value entry

  -- an entry moved to the front leaves a stored cache
  pub promoted_stored : (eq : K → K → Bool) (holds : K → V → Type 0) (most : Option NonZeroUsize) (test : K → Bool)
      (old new : Cache K V A) → new ≡ lru_cache (promoted test old.entries) old.cap → IsValid eq new → length new.entries < 2 ^ 63
      → IsStored eq holds most old → IsStored eq holds most new
  promoted_stored eq holds most test old new moved valid fits stored = record {
    keys = rw moved (All-promoted test (λ e. e.0 ≡ (held e.1).0) old.entries stored.keys);
    exact = rw moved (All-promoted test (λ e. holds e.0 (held e.1).1) old.entries stored.exact);
    room = rw moved stored.room;
    valid = valid;
    fits = fits;
  }

module _ (K V : Type 0) where
  within_none : (most : Option ℕ) → IsWithin {K = K} {V = V} most []
  within_none None = tt
  within_none (Some n) = omega arith

module _ {K V A : Type 0} where
  within_room : (most : Option ℕ) (c : Cache K V A) → c.cap ≡ unwrap_or most (2 ^ 64 - 1) → length c.entries ≤ c.cap → IsWithin most (shown_pairs c.entries)
  within_room None c room fits = tt
  within_room (Some n) c room fits = rw (length-map c.entries) (omega (arith, fits, room))

  -- a memo keeps what its cache keeps
  pub stored_memo : (eq : K → K → Bool) (holds : K → V → Type 0) (most : Option NonZeroUsize) (t : Totals) (o : Option (Cache K V A))
      → IsStoredIn eq holds most o → IsMemo eq holds (memo_of (cache_pairs o) (bound_of most) t)
  unfolding IsDistinct
  stored_memo eq holds most t None stored = record {
    distinct = tt;
    exact = All-nil (λ e. holds e.0 e.1);
    within = within_none K V (bound_of most);
  }
  stored_memo eq holds most t (Some c) stored = record {
    distinct = rw (keys_of-shown c.entries) stored.valid.0;
    exact = All-map (λ e. holds e.0 e.1) (λ e. (e.0, (held e.1).1)) c.entries stored.exact;
    within = within_room (bound_of most) c stored.room stored.valid.1;
  }
