-- What a memo has to do with the driving of a sample, and what is counted of it.
use Rattle.std.specs.Prelude.{◌≡◌, ◌≢◌, ◌⊎◌, Bool, Option, Some, None, MatchOption}
use Rattle.std.specs.Map.{lookup_entry}
use Rattle.run_specs.specs.declared.Verdict.{Verdict}
use Rattle.run_specs.specs.Logs.{Sample}
use Rattle.run_specs.specs.Keys.{Key}
use Rattle.run_specs.specs.SessionHistories.{Entry}
use Rattle.run_specs.specs.Sessions.{MonitorSession, MayBegin, wanted, wanted_for}
use Rattle.gap_keys.specs.declared.outcomes.Outcome.{Outcome}
use Rattle.succ_memo.specs.Memo.{Memo, memo_after_look, memo_after_put, memo_after_give_up, next_count}
use Rattle.live_session.specs.declared.refusals.SampleRefusal.TheVariants as refusal
use Rattle.live_session.specs.Driven.{IsGiven, IsDriven}
use Rattle.live_session.specs.Entries.{entry_of}
use Rattle.live_session.specs.Refusals.{IsRefused}
use Rattle.session_drive.specs.declared.counts.Counts.{Counts}
use Rattle.session_drive.specs.declared.counts.DriveFault.{DriveFault}
use Rattle.session_drive.specs.declared.counts.DriveFault.TheVariants.{Refused, Memory}

-- a memo of gaps: keys beside their outcomes
abbrev pub GapMemo : Type 0
GapMemo = Memo Key Outcome

-- ---- counts

abbrev pub no_look : Counts
no_look = record { looks = 0; hits = 0; fills = 0 }

abbrev pub one_hit : Counts
one_hit = record { looks = 1; hits = 1; fills = 0 }

abbrev pub one_fill : Counts
one_fill = record { looks = 1; hits = 0; fills = 1 }

-- ---- why a sample is not driven

-- the session refuses it, for a reason that is not want of memory; or else it might begin, and memory is wanting
abbrev pub IsUndriven : MonitorSession → Sample → DriveFault → Type 0
IsUndriven s sample (Refused why) = IsRefused s sample why × (why ≢ refusal.Memory)
IsUndriven s sample Memory = MayBegin s sample

-- ---- the memo

-- a look that found nothing is counted, and a ticket that was given up; entries and bound stay
abbrev pub ticket_given_up : GapMemo → GapMemo
ticket_given_up m = memo_after_give_up (record m { totals = record m.totals { looks = next_count m.totals.looks } })

module _ (equal : Key → Key → Bool) where
  -- one look for the key: the pair that it finds is given; where it finds none, the given pair was made, and one put adds it
  abbrev pub IsServed : Key → Key × Outcome → GapMemo → GapMemo → Counts → Type 0
  IsServed key given old new counts = MatchOption (lookup_entry (equal key) old.entries)
      ((new ≡ memo_after_put equal given (memo_after_look (equal key) None old)) × (counts ≡ one_fill))
      (λ found. (given ≡ found) × (new ≡ memo_after_look (equal key) (Some found) old) × (counts ≡ one_hit))

  -- the entry for the key that is wanted is served; where no key is wanted the memo stays, and nothing is counted
  abbrev pub Remembers : Option Key → Option Entry → GapMemo → GapMemo → Counts → Type 0
  Remembers None given old new counts = (new ≡ old) × (counts ≡ no_look)
  Remembers (Some key) given old new counts =
      (pair : Key × Outcome) × (given ≡ Some (entry_of pair)) × IsServed key pair old new counts

  -- a session is given what it wants, over the memo
  pub record IsGivenOver (s t : MonitorSession) (old new : GapMemo) (counts : Counts) : Type 0 where
    pub given : IsGiven s t
    pub remembered : Remembers (wanted s) given.given old new counts

  -- a session is driven by the sample, over the memo
  pub record IsDrivenOver (s t : MonitorSession) (sample : Sample) (old new : GapMemo) (v : Verdict) (counts : Counts) : Type 0 where
    pub driven : IsDriven s t sample v
    pub remembered : Remembers (wanted_for s sample None) driven.given old new counts

  -- a key was wanted, which has no entry, and its ticket was given up
  abbrev pub HasGivenUp : Option Key → GapMemo → GapMemo → Type 0
  HasGivenUp None old new = ⊥
  HasGivenUp (Some key) old new = (lookup_entry (equal key) old.entries ≡ None) × (new ≡ ticket_given_up old)

  -- the memo after want of memory: as it was, or with the ticket given up
  abbrev pub MayHaveGivenUp : Option Key → GapMemo → GapMemo → Type 0
  MayHaveGivenUp asked old new = (new ≡ old) ⊎ HasGivenUp asked old new

  -- the memo where the sample is not driven
  abbrev pub IsLeft : Option Key → DriveFault → GapMemo → GapMemo → Type 0
  IsLeft asked (Refused why) old new = new ≡ old
  IsLeft asked Memory old new = MayHaveGivenUp asked old new
