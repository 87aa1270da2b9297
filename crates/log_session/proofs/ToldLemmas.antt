-- What a line does is told by a block that it may have.
use Rattle.std.proofs.Common.{◌≡◌, ℕ, List, [], ◌∷◌, ◌++◌, Bool, true, Option, refl, sym, ap, ◌∙◌, subst}
use Rattle.std.specs.Prelude.{codes, decimal}
use Rattle.std.proofs.lemmas.List.{append-nil, append_assoc}
use Rattle.run_specs.specs.Automaton.{Automaton}
use Rattle.run_specs.specs.declared.Verdict.{Verdict}
use Rattle.run_specs.specs.Verdicts.{IsLawful}
use Rattle.log_specs.specs.declared.LogForm.{LogForm}
use Rattle.log_specs.specs.declared.RunsMode.{RunsMode}
use Rattle.log_specs.specs.LogRows.{Cells}
use Rattle.log_specs.specs.LogSessions.{LogState, Judgement, passed_over, opened, closed, flushed, accepted, judge_opening, judge_closing, judge_sample, session_of}
use Rattle.log_specs.specs.Blocks.{Task, last_of, wants_run, IsRunPart, IsAnswered, subject, verdict_word}
use Rattle.alarm_report.specs.ReportLines.{spoken_of, verdict_line}
use Rattle.log_table.specs.declared.not_taken.NotTaken.{NotTaken}
use Rattle.log_table.specs.Refusals.{IsNotTaken}
use Rattle.log_table.specs.Tables.{Table, state_with, IsOpening, IsClosing, IsAccepted}
use Rattle.log_session.specs.declared.tally.Tally.{Tally}
use Rattle.log_session.specs.Tallies.{with_reply}
use Rattle.log_session.specs.Progress.{Progress, IsTaskOf, progress_after}
use Rattle.log_session.specs.Parts.{progress_of}
use Rattle.log_session.specs.Behind.{StandsBehind}
use Rattle.log_session.proofs.BehindLemmas.{run_part}
use Rattle.log_session.specs.Told.{Tells, TellsOpening, TellsClosing, TellsSample, IsToldBy}

-- the judgement is the same
pub told_as : (task : Task) (old new : Progress) (number : ℕ) (j i : Judgement) (before after : List ℕ) → j ≡ i →
    Tells task old new number i before after → Tells task old new number j before after
told_as task old new number j i before after e h = subst (λ x. Tells task old new number x before after) (sym e) h

-- the blocks before are the same
pub told_after : (task : Task) (old new : Progress) (number : ℕ) (j : Judgement) (before bytes after : List ℕ) → before ≡ bytes →
    Tells task old new number j before after → Tells task old new number j bytes after
told_after task old new number j before bytes after e h = subst (λ x. Tells task old new number j x after) e h

-- ---- a line that is passed over

no_reply : (p : Progress) → p ≡ progress_after p passed_over []
no_reply p = refl

pub passed_told : (task : Task) (p : Progress) (number : ℕ) (bytes : List ℕ) → Tells task p p number passed_over bytes bytes
passed_told task p number bytes =
    record { block = []; replies = []; grown = sym (append-nil bytes); is_block = (refl, refl); next = no_reply p }

-- ---- by the table

module _ (form : LogForm) (models : List Automaton) (runs : RunsMode) (t : Table) (b : Bool) where
  abbrev old : Tally → Progress
  old x = progress_of form models runs t b x

  abbrev new : Table → Tally → Progress
  new u x = progress_of form models runs u true x

  pub opening_told : (u : Table) (x : Tally) (number : ℕ) (name : List ℕ) (columns : List (List ℕ)) (a : Option Automaton) (bytes : List ℕ) → IsOpening t u name columns a →
      TellsOpening (old x) (new u x) number name columns a bytes bytes
  opening_told u x number name columns a bytes h = λ task is.
      told_as task (old x) (new u x) number (judge_opening (state_with b t) name columns a (session_of (state_with b t) name)) (opened h.session) bytes bytes (h.judged b)
      (record {
        block = [];
        replies = [];
        grown = sym (append-nil bytes);
        is_block = (refl, refl);
        next = let table = h.next in cc table;
      })

  pub closing_told : (u : Table) (x : Tally) (number : ℕ) (name bytes : List ℕ) → IsClosing t u name → TellsClosing (old x) (new u x) number name bytes bytes
  closing_told u x number name bytes h = λ task is.
      told_as task (old x) (new u x) number (judge_closing name (session_of (state_with b t) name)) (closed name) bytes bytes (h.judged b)
      (record {
        block = [];
        replies = [];
        grown = sym (append-nil bytes);
        is_block = (refl, refl);
        next = let table = h.next in cc table;
      })

  pub flush_told : (task : Task) (x : Tally) (number : ℕ) (bytes : List ℕ) → Tells task (old x) (new t x) number flushed bytes bytes
  flush_told task x number bytes = record {
    block = [];
    replies = [];
    grown = sym (append-nil bytes);
    is_block = (refl, refl);
    next = refl;
  }

  module _ (u : Table) (x : Tally) (number : ℕ) (name : List ℕ) (cells : Cells) (v : Verdict) (h : IsAccepted t u name cells v) (said : Option (List ℕ)) (says : spoken_of said ≡ subject form name)
      (counted : Tally) (is_one : counted ≡ with_reply x v)
      (wanted : Bool) (is_wanted : wanted ≡ wants_run runs (last_of t.replied name) v) (run : List ℕ) (stands : StandsBehind u name wanted run) where
    abbrev line : List ℕ
    line = verdict_line number said v ++ run

    spoken : (task : Task) → IsTaskOf task (old x) → line ≡ decimal number ++ subject task.form h.session.name ++ verdict_word v ++ codes "\n" ++ run
    spoken task is =
        let speaks : spoken_of said ≡ subject task.form h.session.name =
        says ∙ ap (subject form) (sym h.named) ∙ ap (λ f. subject f h.session.name) (sym is.form) in
        ap (λ z. decimal number ++ z ++ verdict_word v ++ codes "\n" ++ run) speaks

    wanted_so : (task : Task) → IsTaskOf task (old x) → wanted ≡ wants_run task.runs (last_of t.replied h.session.name) v
    wanted_so task is =
        is_wanted ∙ ap (λ n. wants_run runs (last_of t.replied n) v) (sym h.named) ∙ ap (λ m. wants_run m (last_of t.replied h.session.name) v) (sym is.runs)

    answered : (task : Task) → IsTaskOf task (old x) → IsAnswered task (last_of t.replied h.session.name) number h.session h.sample v line
    answered task is = record {
      lawful = subst (λ j. IsLawful h.session.automaton j (h.session.samples ++ h.sample ∷ []) v) (sym is.jumps) h.lawful;
      stays = h.stays;
      run_part = run;
      is_run_part = subst (λ w. IsRunPart h.session.automaton task.jumps (h.session.samples ++ h.sample ∷ []) w run) (wanted_so task is)
          (run_part t u b name cells v h wanted task.jumps run is.jumps stands);
      bytes = spoken task is;
    }

    pub sample_told : (before after : List ℕ) → after ≡ before ++ verdict_line number said v ++ run →
        TellsSample (old x) (new u counted) number name cells before after
    sample_told before after grown = λ task is.
        told_as task (old x) (new u counted) number (judge_sample (state_with b t) cells (session_of (state_with b t) name)) (accepted h.session h.sample) before after (h.judged b)
        (record {
          block = line;
          replies = v ∷ [];
          grown = grown ∙ append_assoc before (verdict_line number said v) run;
          is_block = (v, answered task is, refl);
          next = let table = h.next in cc (table, is_one);
        })

  -- what the table did not take was told of the log
  pub refused_told : (u : Table) (x : Tally) (p after_it : Progress) (number : ℕ) (why : NotTaken) (judged : LogState → Judgement) (before after : List ℕ) →
      old x ≡ p → u ≡ t → IsNotTaken (λ begun. judged (state_with begun t)) why → IsToldBy (progress_of form models runs u b x) after_it number why before after →
      (task : Task) → Tells task p after_it number (judged p.known.state) before after
  refused_told u x p after_it number why judged before after view same h told task =
      subst (λ (q : Progress). Tells task q after_it number (judged q.known.state) before after) view
      (subst (λ (z : Table). IsToldBy (progress_of form models runs z b x) after_it number why before after) same told task (λ begun. judged (state_with begun t)) h)
