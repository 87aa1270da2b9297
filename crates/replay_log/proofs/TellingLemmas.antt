-- What the status of a replay says, by what was read and told.
use Rattle.std.proofs.Common.{◌≡◌, inl, inr, ℕ, ◌≤◌, List, [], ◌++◌, length, take, drop, Option, None, Some, refl, sym, subst}
use Rattle.std.proofs.lemmas.List.{append-nil, take-append-drop}
use Rattle.std.specs.Io.KnownBytes.{Appends, Keeps}
use Rattle.mon_io.specs.Faults.{Rose}
use Rattle.run_specs.specs.Automaton.{Automaton}
use Rattle.replay_reports.specs.declared.Finding.{Finding}
use Rattle.replay_reports.specs.declared.Finding.TheVariants.{Alarm, Safe, No, Passes, Text, Range}
use Rattle.replay_reports.specs.Findings.{Finds, line_of}
use Rattle.report_loop.specs.declared.status.Status.{Status}
use Rattle.report_loop.specs.Outcome.{Streams}
use Rattle.report_loop.proofs.WriteLemmas.{streams}
use Rattle.replay_log.specs.declared.reading.NoText.{NoText}
use Rattle.replay_log.specs.declared.reading.NoText.TheVariants as none
use Rattle.replay_log.specs.Replays.{TellsBut, SaysReplay, IsWholeText, IsLongText, IsTold, status_of, status_without, text_limit}

pub keeps_same : (o : Option (List ℕ)) → Keeps o o
keeps_same None = tt
keeps_same (Some xs) = refl

-- the whole line was told
says_all : (a : Automaton) (k : ℕ) (log : List ℕ) (before now : Streams) (finding : Finding) → TellsBut a k log before now [] finding → SaysReplay a k log before now (status_of finding)
says_all a k log before now Alarm t = (Alarm, t, refl)
says_all a k log before now Safe t = (Safe, t, refl)
says_all a k log before now (No place) t = (No place, t, refl)
says_all a k log before now (Passes place) t = (Passes place, t, refl)
says_all a k log before now (Text line) t = (Text line, t, refl)
says_all a k log before now (Range line) t = (Range line, t, refl)

-- a text was read, and something is found of it
module _ (a : Automaton) (k : ℕ) (log : List ℕ) (l m : Option (List ℕ)) (f g : ℕ) (o p : Option (List ℕ)) (w v : ℕ) (text : List ℕ) (finding : Finding) where
  tells_but : length log ≤ text_limit → IsWholeText l m text → Finds a k log text finding → (written rest : List ℕ) → line_of finding ≡ written ++ rest → Appends o p written →
      TellsBut a k log (streams l f o w) (streams m g p v) rest finding
  tells_but within whole finds written rest line taken = record {
    log_within = within;
    text = text;
    consumed = whole.consumed;
    ended = whole.ended;
    within = whole.within;
    finds = finds;
    written = written;
    line = line;
    taken = taken;
  }

  pub says_told : length log ≤ text_limit → IsWholeText l m text → Finds a k log text finding → (s : Status) → IsTold o p w v finding s →
      SaysReplay a k log (streams l f o w) (streams m g p v) s
  says_told within whole finds s (inl all) =
      let tells = tells_but within whole finds (line_of finding) [] (sym (append-nil (line_of finding))) all.1 in
      subst (λ z. SaysReplay a k log (streams l f o w) (streams m g p v) z) (sym all.0) (says_all a k log (streams l f o w) (streams m g p v) finding tells)
  says_told within whole finds s (inr (n, taken, why)) =
      let rest = drop n (line_of finding) in
      let tells = tells_but within whole finds (take n (line_of finding)) rest (sym (take-append-drop n (line_of finding))) taken in
      elim why [
        | inl failed ↦ subst (λ z. SaysReplay a k log (streams l f o w) (streams m g p v) z) (sym failed.0) ((finding, rest, tells), failed.1)
        | inr e ↦ subst (λ z. SaysReplay a k log (streams l f o w) (streams m g p v) z) (sym e) (inr (finding, rest, tells))
      ]

-- no text was had
pub says_without : (a : Automaton) (k : ℕ) (log : List ℕ) (l m : Option (List ℕ)) (f g : ℕ) (o : Option (List ℕ)) (w : ℕ) (why : NoText) →
    (why ≡ none.Failed → Rose f g) → (why ≡ none.Long → IsLongText l m) → SaysReplay a k log (streams l f o w) (streams m g o w) (status_without why)
says_without a k log l m f g o w none.Failed rose long = (keeps_same o, rose refl)
says_without a k log l m f g o w none.Long rose long = (keeps_same o, inr (long refl))
says_without a k log l m f g o w none.Memory rose long = inl (keeps_same o)
