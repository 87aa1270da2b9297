-- How often each verdict stands among replies.
use Rattle.std.specs.Prelude.{ℕ, ◌+◌, List, [], ◌∷◌}
use Rattle.run_specs.specs.declared.Verdict.{Verdict}
use Rattle.run_specs.specs.declared.Verdict.TheVariants.{Alarm, Safe, Impossible, Overflow}
use Rattle.log_session.specs.declared.tally.Tally.{Tally}

-- of no reply
abbrev pub no_replies : Tally
no_replies = record { alarm = 0; safe = 0; impossible = 0; overflow = 0 }

-- with one reply more
abbrev pub with_reply : Tally → Verdict → Tally
with_reply t Alarm = record t { alarm = t.alarm + 1 }
with_reply t Safe = record t { safe = t.safe + 1 }
with_reply t Impossible = record t { impossible = t.impossible + 1 }
with_reply t Overflow = record t { overflow = t.overflow + 1 }

-- with these replies more
abbrev pub tally_after : Tally → List Verdict → Tally
tally_after t [] = t
tally_after t (v ∷ vs) = tally_after (with_reply t v) vs

-- of these replies
abbrev pub tally_of : List Verdict → Tally
tally_of replies = tally_after no_replies replies
