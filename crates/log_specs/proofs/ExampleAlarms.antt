-- Reports of a log with two alarms in a row, by which runs are printed.
use Rattle.std.proofs.Common.{◌≡◌, inl, ℕ, List, [], ◌∷◌, ◌++◌, Bool, true, false, ◌&&◌, not, Option, Some, None, codes, refl, sym, ◌∙◌, ap, subst, append_assoc, append-nil, drop, pos}
use Rattle.std.specs.Prelude.{All, ◌==◌}
use Rattle.std.specs.List.{list_all}
use Rattle.std.specs.Fmt.{digits}
use Rattle.std.specs.Str.{is_utf8, chars}
use Rattle.std.proofs.lemmas.List.Elements.{All-from_recursion}
use Rattle.csv.proofs.OnLiterals.{csv_on_literals}
use Rattle.poly_specs.specs.Elimination.{gcd}
use Rattle.run_specs.specs.WellFormed.{IsWellFormed}
use Rattle.run_specs.specs.Logs.{Sample}
use Rattle.run_specs.specs.Runs.{Run}
use Rattle.run_specs.specs.declared.Verdict.{Verdict}
use Rattle.run_specs.specs.declared.Verdict.TheVariants.{Alarm}
use Rattle.report_specs.specs.Lines.{lines_of}
use Rattle.report_specs.specs.Report.{AreBlocks, IsReport}
use Rattle.log_specs.specs.declared.LogForm.TheVariants.{Check}
use Rattle.log_specs.specs.declared.RunsMode.{RunsMode}
use Rattle.log_specs.specs.declared.RunsMode.TheVariants as mode
use Rattle.log_specs.specs.LogSessions.{LogSession, LogState, Judgement, opened, accepted, judge}
use Rattle.log_specs.specs.Blocks.{IsRunPart, IsAnswered, IsBlock, wants_run, printed_run}
use Rattle.log_specs.specs.LogReports.{Known, nothing_known, judgement, known_after, rules_of, HasNoOverflowWord}
use Rattle.log_specs.specs.AlarmExamples.{lamp, lamp_task, lamp_log, two_alarms, first_run, second_run, first_lines, second_lines, lamp_report, no_runs, one_run, both_runs}
use Rattle.log_specs.proofs.LampRuns.{lamp_is, at_time, first_alarmed, second_alarmed, first_is_first, second_is_first, first_is_writable, second_is_writable}
use Rattle.log_specs.proofs.ReportLemmas.{report_unique}

-- ---- what is known between the lines

abbrev session : List Sample → LogSession
session samples = record { name = []; automaton = lamp; columns = []; samples = samples }

abbrev at_start : Known
at_start = known_after nothing_known (opened (session [])) []

abbrev at_first : Known
at_first = known_after at_start (accepted (session []) (at_time 0)) (Alarm ∷ [])

abbrev at_second : Known
at_second = known_after at_first (accepted (session (at_time 0 ∷ [])) (at_time 1)) (Alarm ∷ [])

header_is : judge Check (lamp ∷ []) nothing_known.state (codes "time") ≡ opened (session [])
unfolding csv_on_literals is_utf8 chars lib.Utf8.encode
header_is = refl

first_is : judge Check (lamp ∷ []) at_start.state (codes "0") ≡ accepted (session []) (at_time 0)
unfolding csv_on_literals is_utf8 chars lib.Utf8.encode gcd
first_is = refl

second_is : judge Check (lamp ∷ []) at_first.state (codes "1") ≡ accepted (session (at_time 0 ∷ [])) (at_time 1)
unfolding csv_on_literals is_utf8 chars lib.Utf8.encode gcd
second_is = refl

-- ---- a report, with what stands behind each reply

first_answer : (m : RunsMode) (part : List ℕ) → IsRunPart lamp 2 (at_time 0 ∷ []) (wants_run m None Alarm) part →
    IsAnswered (lamp_task m) None 2 (session []) (at_time 0) Alarm (codes "2,alarm\n" ++ part)
unfolding digits
first_answer m part is = record { lawful = first_alarmed; stays = λ e. (let b : ⊥ = cc in absurd b); run_part = part; is_run_part = is; bytes = refl }

second_answer : (m : RunsMode) (part : List ℕ) → IsRunPart lamp 2 (at_time 0 ∷ at_time 1 ∷ []) (wants_run m (Some Alarm) Alarm) part →
    IsAnswered (lamp_task m) (Some Alarm) 3 (session (at_time 0 ∷ [])) (at_time 1) Alarm (codes "3,alarm\n" ++ part)
unfolding digits
second_answer m part is = record { lawful = second_alarmed; stays = λ e. (let b : ⊥ = cc in absurd b); run_part = part; is_run_part = is; bytes = refl }

report_of : (m : RunsMode) (first second bytes : List ℕ) → IsRunPart lamp 2 (at_time 0 ∷ []) (wants_run m None Alarm) first →
    IsRunPart lamp 2 (at_time 0 ∷ at_time 1 ∷ []) (wants_run m (Some Alarm) Alarm) second →
    bytes ≡ (codes "2,alarm\n" ++ first) ++ (codes "3,alarm\n" ++ second) → IsReport (rules_of (lamp_task m)) lamp_log bytes two_alarms
report_of m first second bytes is also e =
    let block : List ℕ = codes "2,alarm\n" ++ first in
    let after : List ℕ = codes "3,alarm\n" ++ second in (
      at_second,
      (
        [],
        bytes,
        [],
        two_alarms,
        at_start,
        refl,
        refl,
        record {
          is_block = subst (λ j. IsBlock (lamp_task m) nothing_known.replied 1 j [] []) (sym header_is) (refl, refl);
          next = ap (λ j. known_after nothing_known j []) (sym header_is);
        },
        (
          block,
          after,
          Alarm ∷ [],
          Alarm ∷ [],
          at_first,
          e,
          refl,
          record {
            is_block = subst (λ j. IsBlock (lamp_task m) at_start.replied 2 j block (Alarm ∷ [])) (sym first_is) (Alarm, first_answer m first is, refl);
            next = ap (λ j. known_after at_start j (Alarm ∷ [])) (sym first_is);
          },
          (
            after,
            [],
            Alarm ∷ [],
            [],
            at_second,
            sym (append-nil after),
            refl,
            record {
              is_block = subst (λ j. IsBlock (lamp_task m) at_first.replied 3 j after (Alarm ∷ [])) (sym second_is) (Alarm, second_answer m second also, refl);
              next = ap (λ j. known_after at_first j (Alarm ∷ [])) (sym second_is);
            },
            (refl, refl, refl),
          ),
        ),
      ),
    )

-- ---- the reports

first_part : IsRunPart lamp 2 (at_time 0 ∷ []) true (printed_run first_run)
first_part = inl (first_run, first_is_first, first_is_writable, refl)

second_part : IsRunPart lamp 2 (at_time 0 ∷ at_time 1 ∷ []) true (printed_run second_run)
second_part = inl (second_run, second_is_first, second_is_writable, refl)

none_text : no_runs ≡ (codes "2,alarm\n" ++ []) ++ (codes "3,alarm\n" ++ [])
none_text = refl

one_text : one_run ≡ (codes "2,alarm\n" ++ printed_run first_run) ++ (codes "3,alarm\n" ++ [])
unfolding digits
one_text = refl

both_text : both_runs ≡ (codes "2,alarm\n" ++ printed_run first_run) ++ (codes "3,alarm\n" ++ printed_run second_run)
unfolding digits
both_text = refl

pub none_is : IsReport (rules_of (lamp_task mode.None)) lamp_log no_runs two_alarms
none_is = report_of mode.None [] [] no_runs refl refl none_text

pub one_is : IsReport (rules_of (lamp_task mode.First)) lamp_log one_run two_alarms
one_is = report_of mode.First (printed_run first_run) [] one_run first_part refl one_text

pub both_are : IsReport (rules_of (lamp_task mode.All)) lamp_log both_runs two_alarms
both_are = report_of mode.All (printed_run first_run) (printed_run second_run) both_runs first_part second_part both_text

-- ---- no others

-- no byte of it is a `v`
abbrev has_no_v : List ℕ → Bool
has_no_v bytes = list_all (λ b. not (b == 118)) bytes

and_right : (a b : Bool) → a && b ≡ true → b ≡ true
and_right true b e = e
and_right false b e = absurd (let f : ⊥ = cc in f)

behind : (front rest : List ℕ) → has_no_v (front ++ rest) ≡ true → has_no_v rest ≡ true
behind [] rest e = e
behind (b ∷ front) rest e = behind front rest (and_right (not (b == 118)) (has_no_v (front ++ rest)) e)

no_word : (bytes : List ℕ) → has_no_v bytes ≡ true → HasNoOverflowWord bytes
no_word bytes none front back e =
    let word : has_no_v (codes "overflow\n" ++ back) ≡ true = behind front (codes "overflow\n" ++ back) (ap has_no_v (sym (e ∙ append_assoc front (codes "overflow\n") back)) ∙ none) in
    let b : ⊥ = cc in b

well_formed : All IsWellFormed (lamp ∷ [])
well_formed = All-from_recursion IsWellFormed (lamp ∷ []) (lamp_is, tt)

-- two reports differ in their length
apart : one_run ≡ both_runs → ⊥
apart e = let same : [] ≡ drop 60 both_runs = ap (drop 60) e in let b : ⊥ = cc in b

pub not_both : (replies : List Verdict) → IsReport (rules_of (lamp_task mode.First)) lamp_log both_runs replies → ⊥
not_both replies is =
    apart (report_unique (lamp_task mode.First) (lines_of lamp_log) one_run both_runs two_alarms replies well_formed (no_word one_run refl) (no_word both_runs refl) one_is is).0

pub not_one : (replies : List Verdict) → IsReport (rules_of (lamp_task mode.All)) lamp_log one_run replies → ⊥
not_one replies is =
    apart (report_unique (lamp_task mode.All) (lines_of lamp_log) one_run both_runs replies two_alarms well_formed (no_word one_run refl) (no_word both_runs refl) is both_are).0
