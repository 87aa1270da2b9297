-- Laws of the samples that the text of a log accepts.
use Rattle.std.proofs.Common.{◌≡◌, ℕ, suc, List, [], ◌∷◌, Option, None, Some, Result, Ok, Err, if◌then◌else◌, refl, sym, ◌∙◌, ap, subst}
use Rattle.std.specs.Prelude.{All}
use Rattle.std.proofs.lemmas.List.Elements.{All-nil, All-head, All-push}
use Rattle.run_specs.specs.Automaton.{Automaton, width}
use Rattle.run_specs.specs.Logs.{Sample, IsLog, IsSample}
use Rattle.run_specs.specs.declared.Verdict.{Verdict}
use Rattle.report_specs.specs.Lines.{lines_of}
use Rattle.report_specs.specs.Report.{AreBlocks}
use Rattle.log_specs.specs.declared.LogForm.TheVariants.{Check}
use Rattle.log_specs.specs.declared.Refusal.{Refusal}
use Rattle.log_specs.specs.LogRows.{read_header, read_cells}
use Rattle.log_specs.specs.LogSessions.{LogSession, LogState, HasLogNumbers, no_lines, judge, judge_header, judge_cells, judge_opening, first_automaton, state_after}
use Rattle.log_specs.specs.Blocks.{Task}
use Rattle.log_specs.specs.LogReports.{Known, nothing_known, rules_of}
use Rattle.log_specs.proofs.SessionLemmas.{IsSound, AllSound, judged, kept, sound_keeps}
use Rattle.replay_reports.specs.LogSamples.{state_after_lines, first_samples, accepted_samples}

-- ---- the samples are a log

abbrev Is : Automaton → Automaton → Type 0
Is a b = b ≡ a

only : (a : Automaton) → All (Is a) (a ∷ [])
only a = All-push (Is a) [] a (All-nil (Is a)) refl

sound_after : (a : Automaton) (at : LogState) (lines : List (List ℕ)) → AllSound (Is a) at → AllSound (Is a) (state_after_lines a at lines)
sound_after a at [] h = h
sound_after a at (line ∷ lines) h =
    sound_after a (state_after at (judge Check (a ∷ []) at line)) lines
    (kept (Is a) at (judge Check (a ∷ []) at line) (judged (Is a) Check (a ∷ []) at line (only a) h) h)

first_is_log : (a : Automaton) (ss : List LogSession) → All (IsSound (Is a)) ss → IsLog (width a) (first_samples ss) × All HasLogNumbers (first_samples ss)
first_is_log a [] h = (record { each = All-nil (IsSample (width a)); rise = tt }, All-nil HasLogNumbers)
first_is_log a (s ∷ ss) h =
    let sound = All-head (IsSound (Is a)) s ss h in
    let keeps = sound_keeps (Is a) s sound in
    (subst (λ b. IsLog (width b) s.samples) sound.automaton keeps.log, keeps.numbers)

pub accepted_are_log : (a : Automaton) (text : List ℕ) → IsLog (width a) (accepted_samples a text) × All HasLogNumbers (accepted_samples a text)
accepted_are_log a text =
    first_is_log a (state_after_lines a no_lines (lines_of text)).open_sessions (sound_after a no_lines (lines_of text) (All-nil (IsSound (Is a))))

-- ---- a report accepts the same

same_header : (models : List Automaton) (a : Automaton) (at : LogState) (r : Result (List (List ℕ)) Refusal) → first_automaton models ≡ Some a →
    judge_header models at r ≡ judge_header (a ∷ []) at r
same_header models a at (Err e) first = refl
same_header models a at (Ok columns) first = ap (λ o. judge_opening at [] columns o None) first

same_judgement : (models : List Automaton) (a : Automaton) (at : LogState) (line : List ℕ) → first_automaton models ≡ Some a →
    judge Check models at line ≡ judge Check (a ∷ []) at line
same_judgement models a at [] first = refl
same_judgement models a at (b ∷ bytes) first =
    ap (λ j. if at.has_begun then judge_cells at (read_cells (b ∷ bytes)) else j) (same_header models a at (read_header (b ∷ bytes)) first)

state_of_report : (task : Task) (a : Automaton) (lines : List (List ℕ)) (known : Known) (at : LogState) (n : ℕ) (x : List ℕ) (rs : List Verdict) (after : Known) →
    task.form ≡ Check → first_automaton task.models ≡ Some a → known.state ≡ at →
    AreBlocks (rules_of task) known n lines x rs after → after.state ≡ state_after_lines a at lines
state_of_report task a [] known at n x rs after form first e p = ap (λ (k : Known). k.state) p.2 ∙ e
state_of_report task a (line ∷ lines) known at n x rs after form first e p =
    let next : p.4.state ≡ state_after at (judge Check (a ∷ []) at line) =
    ap (λ (k : Known). k.state) p.7.next
    ∙ ap (λ s. state_after s (judge task.form task.models s line)) e
    ∙ ap (λ f. state_after at (judge f task.models at line)) form
    ∙ ap (λ j. state_after at j) (same_judgement task.models a at line first) in
    state_of_report task a lines p.4 (state_after at (judge Check (a ∷ []) at line)) (suc n) p.1 p.3 after form first next p.8

pub report_accepts : (task : Task) (a : Automaton) (text x : List ℕ) (rs : List Verdict) (after : Known) → task.form ≡ Check → first_automaton task.models ≡ Some a →
    AreBlocks (rules_of task) nothing_known 1 (lines_of text) x rs after → first_samples after.state.open_sessions ≡ accepted_samples a text
report_accepts task a text x rs after form first p =
    ap (λ (s : LogState). first_samples s.open_sessions) (state_of_report task a (lines_of text) nothing_known no_lines 1 x rs after form first refl p)
