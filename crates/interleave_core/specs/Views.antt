-- What a contract sees of a world: that of the definitions, and the counts of its memo.
use Rattle.std.specs.Prelude.{◌≡◌, ℕ, ◌+◌, ◌-◌, ◌^◌, ◌≤◌, false, List, [], ◌∷◌, map, length, min, None, is_some}
use Rattle.run_specs.specs.Keys.{Key}
use Rattle.run_specs.specs.SessionHistories.{Entry}
use Rattle.run_specs.specs.Sessions.{MonitorSession, Phase, Idle, Begun, Missed, Filled}
use Rattle.run_specs.specs.Worlds.{World, IsWorld, SameEntries, Event, Begin, LookHit, LookMiss, Fill, Put, Finish}
use Rattle.gap_keys.specs.declared.outcomes.Outcome.{Outcome}
use Rattle.live_session.specs.Entries.{entry_of}
use Rattle.succ_memo.specs.declared.memo.Totals.{Totals}
use Rattle.succ_memo.specs.Memo.{Memo, next_count, no_totals}

pub record CountedWorld : Type 0 where
  pub world : World
  pub totals : Totals

-- the entries of a memo
abbrev pub shown : Memo Key Outcome → List Entry
shown memo = map entry_of memo.entries

-- the same entries, in any order, and the same bound
pub record StaysAlike (before after : Memo Key Outcome) : Type 0 where
  pub bound : after.most ≡ before.most
  pub same : SameEntries (shown before) (shown after)

-- the world of a memo and sessions
abbrev pub world_of : Memo Key Outcome → List MonitorSession → World
world_of memo sessions = record { memo = shown memo; is_bounded = is_some memo.most; sessions = sessions }

abbrev pub counted_world : Memo Key Outcome → List MonitorSession → CountedWorld
counted_world memo sessions = record { world = world_of memo sessions; totals = memo.totals }

-- with an empty memo without a bound
abbrev pub new_world : List MonitorSession → CountedWorld
new_world sessions = record { world = record { memo = []; is_bounded = false; sessions = sessions }; totals = no_totals }

-- ---- what a world keeps

-- how many tickets a session holds
abbrev pub tickets_at : Phase → ℕ
tickets_at Idle = 0
tickets_at (Begun sample) = 0
tickets_at (Missed sample) = 1
tickets_at (Filled sample made) = 1

-- how many tickets they hold together
abbrev pub tickets_of : List MonitorSession → ℕ
tickets_of [] = 0
tickets_of (s ∷ ss) = tickets_at s.phase + tickets_of ss

-- the counts are within their type
pub record AreCounts (t : Totals) : Type 0 where
  pub looks : t.looks ≤ 2 ^ 64 - 1
  pub hits : t.hits ≤ 2 ^ 64 - 1
  pub puts : t.puts ≤ 2 ^ 64 - 1

-- the memo has no bound, there is a ticket for each that is held, and room for all sessions
pub record IsKept (memo : Memo Key Outcome) (sessions : List MonitorSession) (tickets : ℕ) (room : List MonitorSession) (most : ℕ) : Type 0 where
  pub world : IsWorld (world_of memo sessions)
  pub unbounded : memo.most ≡ None
  pub counts : AreCounts memo.totals
  pub tickets_are : tickets ≡ tickets_of sessions
  pub empty : room ≡ []
  pub room_for_all : length sessions ≤ most

-- ---- counts

-- after a look that found an entry, one that found none, and a put
abbrev pub after_hit : Totals → Totals
after_hit t = record t { looks = next_count t.looks; hits = next_count t.hits }

abbrev pub after_miss : Totals → Totals
after_miss t = record t { looks = next_count t.looks }

abbrev pub after_put : Totals → Totals
after_put t = record t { puts = next_count t.puts }

-- after this event
abbrev pub after_event : Event → Totals → Totals
after_event (Begin i sample) t = t
after_event (LookHit i) t = after_hit t
after_event (LookMiss i) t = after_miss t
after_event (Fill i) t = t
after_event (Put i) t = after_put t
after_event (Finish i) t = t

-- how many of the events look for an entry, find one, put one
abbrev pub looks_in : List Event → ℕ
looks_in [] = 0
looks_in (Begin i sample ∷ es) = looks_in es
looks_in (LookHit i ∷ es) = looks_in es + 1
looks_in (LookMiss i ∷ es) = looks_in es + 1
looks_in (Fill i ∷ es) = looks_in es
looks_in (Put i ∷ es) = looks_in es
looks_in (Finish i ∷ es) = looks_in es

abbrev pub hits_in : List Event → ℕ
hits_in [] = 0
hits_in (Begin i sample ∷ es) = hits_in es
hits_in (LookHit i ∷ es) = hits_in es + 1
hits_in (LookMiss i ∷ es) = hits_in es
hits_in (Fill i ∷ es) = hits_in es
hits_in (Put i ∷ es) = hits_in es
hits_in (Finish i ∷ es) = hits_in es

abbrev pub puts_in : List Event → ℕ
puts_in [] = 0
puts_in (Begin i sample ∷ es) = puts_in es
puts_in (LookHit i ∷ es) = puts_in es
puts_in (LookMiss i ∷ es) = puts_in es
puts_in (Fill i ∷ es) = puts_in es
puts_in (Put i ∷ es) = puts_in es + 1
puts_in (Finish i ∷ es) = puts_in es

-- n more, but no more than the type's last value
abbrev pub raised : ℕ → ℕ → ℕ
raised n count = min (count + n) (2 ^ 64 - 1)

-- the counts after these events
abbrev pub totals_after : List Event → Totals → Totals
totals_after events t =
    record { looks = raised (looks_in events) t.looks; hits = raised (hits_in events) t.hits; puts = raised (puts_in events) t.puts; given_up = t.given_up }
