-- Reports of logs that are judged by an automaton of no location: each reply is `impossible`.
use Rattle.std.proofs.Common.{◌≡◌, ℕ, suc, List, [], ◌∷◌, ◌++◌, Bool, true, false, Option, Some, None, codes, decimal, refl, sym, ◌∙◌, ap, subst}
use Rattle.std.specs.Prelude.{IsSomeAnd, slice_index_or}
use Rattle.std.specs.Fmt.{digits}
use Rattle.std.specs.Str.{is_utf8, chars}
use Rattle.csv.proofs.OnLiterals.{csv_on_literals}
use Rattle.poly_specs.specs.Rows.{AllHold}
use Rattle.poly_specs.specs.Elimination.{gcd}
use Rattle.run_specs.specs.Automaton.{Automaton, Location, nowhere}
use Rattle.run_specs.specs.Logs.{Sample}
use Rattle.run_specs.specs.Verdicts.{IsPossible}
use Rattle.run_specs.specs.declared.Verdict.{Verdict}
use Rattle.run_specs.specs.declared.Verdict.TheVariants.{Alarm, Safe, Impossible, Overflow}
use Rattle.report_specs.specs.Lines.{lines_of}
use Rattle.report_specs.specs.Report.{AreBlocks, IsReport}
use Rattle.log_specs.specs.declared.LogForm.{LogForm}
use Rattle.log_specs.specs.declared.LogForm.TheVariants.{Check, Watch}
use Rattle.log_specs.specs.declared.Refusal.TheVariants as why
use Rattle.log_specs.specs.LogSessions.{LogSession, Judgement, passed_over, refused, opened, closed, flushed, accepted, judge}
use Rattle.log_specs.specs.Blocks.{LastReply, IsAnswered, IsBlock, refusal_word, subject, last_of}
use Rattle.log_specs.specs.LogReports.{Known, nothing_known, judgement, known_after, rules_of}
use Rattle.log_specs.specs.Examples.{task_in, empty_tank, crowded, doubled_log, doubled_report, refused_log, refused_report, reopened_log, reopened_report, headless_log, headless_report, timed_log, timed_report, number_log, number_report, all_impossible}

-- a block, or several, and the replies in it
record Part : Type 0 where
  bytes : List ℕ
  replies : List Verdict

abbrev nothing : Part
nothing = record { bytes = []; replies = [] }

-- the block of a sample where no run is possible
abbrev impossible : LogForm → ℕ → LogSession → Part
impossible form n s = record { bytes = decimal n ++ subject form s.name ++ codes "impossible" ++ codes "\n" ++ []; replies = Impossible ∷ [] }

abbrev was_overflow : Option Verdict → Bool
was_overflow None = false
was_overflow (Some Alarm) = false
was_overflow (Some Safe) = false
was_overflow (Some Impossible) = false
was_overflow (Some Overflow) = true

abbrev answered : LogForm → Bool → ℕ → LogSession → List Location → Option Part
answered form false n s [] = Some (impossible form n s)
answered form true n s [] = None
answered form b n s (l ∷ ls) = None

abbrev part_of : LogForm → List LastReply → ℕ → Judgement → Option Part
part_of form replied n passed_over = Some nothing
part_of form replied n (refused e) = Some (record { bytes = decimal n ++ codes ",refused," ++ refusal_word e ++ codes "\n"; replies = [] })
part_of form replied n (opened s) = Some nothing
part_of form replied n (closed name) = Some nothing
part_of form replied n flushed = Some nothing
part_of form replied n (accepted s sample) = answered form (was_overflow (last_of replied s.name)) n s s.automaton.locations

abbrev replies_in : Option Part → List Verdict
replies_in None = []
replies_in (Some p) = p.replies

abbrev joined : Option Part → Option Part → Option Part
joined (Some a) (Some b) = Some (record { bytes = a.bytes ++ b.bytes; replies = a.replies ++ b.replies })
joined (Some a) None = None
joined None o = None

-- the report of these lines, if no log has a run
abbrev parts_of : LogForm → Known → ℕ → List (List ℕ) → Option Part
parts_of form known n [] = Some nothing
parts_of form known n (line ∷ lines) =
    joined (part_of form known.replied n (judgement (task_in form) known line))
    (parts_of form (known_after known (judgement (task_in form) known line) (replies_in (part_of form known.replied n (judgement (task_in form) known line)))) (suc n) lines)

-- ---- it is a report

abbrev value_or : Option Part → Part
value_or None = nothing
value_or (Some p) = p

same : (x y : Part) → Some x ≡ Some y → x ≡ y
same x y e = ap value_or e

record AreJoined (x y : Option Part) (z : Part) : Type 0 where
  first : Part
  second : Part
  first_is : x ≡ Some first
  second_is : y ≡ Some second
  bytes : z.bytes ≡ first.bytes ++ second.bytes
  replies : z.replies ≡ first.replies ++ second.replies

join_some : (x y : Option Part) (z : Part) → joined x y ≡ Some z → AreJoined x y z
join_some (Some a) (Some b) z e =
    let is = same (record { bytes = a.bytes ++ b.bytes; replies = a.replies ++ b.replies }) z e in record {
      first = a;
      second = b;
      first_is = refl;
      second_is = refl;
      bytes = sym (ap (λ (p : Part). p.bytes) is);
      replies = sym (ap (λ (p : Part). p.replies) is);
    }
join_some (Some a) None z e = absurd (let b : ⊥ = cc in b)
join_some None o z e = absurd (let b : ⊥ = cc in b)

no_run : (a : Automaton) (k : ℕ) (samples : List Sample) → a.locations ≡ [] → IsPossible a k samples → ⊥
no_run a k samples e (run, is) =
    subst (λ (ls : List Location). IsSomeAnd (slice_index_or ls run.start.loc nowhere).init (λ init. AllHold init run.start.point)) e is.starts.allowed

answered_is : (form : LogForm) (last : Option Verdict) (n : ℕ) (s : LogSession) (sample : Sample) (b : Bool) (ls : List Location) (p : Part) → was_overflow last ≡ b →
    s.automaton.locations ≡ ls → answered form b n s ls ≡ Some p → (v : Verdict) × IsAnswered (task_in form) last n s sample v p.bytes × (p.replies ≡ v ∷ [])
answered_is form last n s sample false [] p o none e =
    let is = same (impossible form n s) p e in (
      Impossible,
      record {
        lawful = no_run s.automaton 2 (s.samples ++ sample ∷ []) none;
        stays = λ f. absurd (let b : true ≡ false = ap was_overflow (sym f) ∙ o in let c : ⊥ = cc in c);
        run_part = [];
        is_run_part = refl;
        bytes = sym (ap (λ (q : Part). q.bytes) is);
      },
      sym (ap (λ (q : Part). q.replies) is),
    )
answered_is form last n s sample true [] p o none e = absurd (let b : ⊥ = cc in b)
answered_is form last n s sample false (l ∷ ls) p o none e = absurd (let b : ⊥ = cc in b)
answered_is form last n s sample true (l ∷ ls) p o none e = absurd (let b : ⊥ = cc in b)

part_is : (form : LogForm) (replied : List LastReply) (n : ℕ) (j : Judgement) (p : Part) → part_of form replied n j ≡ Some p → IsBlock (task_in form) replied n j p.bytes p.replies
part_is form replied n passed_over p e = let is = same nothing p e in (sym (ap (λ (q : Part). q.bytes) is), sym (ap (λ (q : Part). q.replies) is))
part_is form replied n (refused w) p e =
    let is = same (record { bytes = decimal n ++ codes ",refused," ++ refusal_word w ++ codes "\n"; replies = [] }) p e in
    (sym (ap (λ (q : Part). q.bytes) is), sym (ap (λ (q : Part). q.replies) is))
part_is form replied n (opened s) p e = let is = same nothing p e in (sym (ap (λ (q : Part). q.bytes) is), sym (ap (λ (q : Part). q.replies) is))
part_is form replied n (closed name) p e = let is = same nothing p e in (sym (ap (λ (q : Part). q.bytes) is), sym (ap (λ (q : Part). q.replies) is))
part_is form replied n flushed p e = let is = same nothing p e in (sym (ap (λ (q : Part). q.bytes) is), sym (ap (λ (q : Part). q.replies) is))
part_is form replied n (accepted s sample) p e =
    answered_is form (last_of replied s.name) n s sample (was_overflow (last_of replied s.name)) s.automaton.locations p refl refl e

parts_are : (form : LogForm) (known : Known) (n : ℕ) (lines : List (List ℕ)) (p : Part) → parts_of form known n lines ≡ Some p →
    (after : Known) × AreBlocks (rules_of (task_in form)) known n lines p.bytes p.replies after
parts_are form known n [] p e = let is = same nothing p e in (known, (sym (ap (λ (q : Part). q.bytes) is), sym (ap (λ (q : Part). q.replies) is), refl))
parts_are form known n (line ∷ lines) p e =
    let j = judgement (task_in form) known line in
    let here = part_of form known.replied n j in
    let next = known_after known j (replies_in here) in
    let both = join_some here (parts_of form next (suc n) lines) p e in
    let rest = parts_are form next (suc n) lines both.second both.second_is in (
      rest.0,
      (
        both.first.bytes,
        both.second.bytes,
        both.first.replies,
        both.second.replies,
        next,
        both.bytes,
        both.replies,
        record {
          is_block = part_is form known.replied n j both.first both.first_is;
          next = ap (λ o. known_after known j (replies_in o)) both.first_is;
        },
        rest.1,
      ),
    )

-- ---- the examples

refused_parts : parts_of Watch nothing_known 1 (lines_of refused_log) ≡ Some (record { bytes = refused_report; replies = [] })
unfolding csv_on_literals is_utf8 chars lib.Utf8.encode digits gcd
refused_parts = refl

timed_parts : parts_of Check nothing_known 1 (lines_of timed_log) ≡ Some (record { bytes = timed_report; replies = all_impossible 3 })
unfolding csv_on_literals is_utf8 chars lib.Utf8.encode digits gcd
timed_parts = refl

number_parts : parts_of Check nothing_known 1 (lines_of number_log) ≡ Some (record { bytes = number_report; replies = all_impossible 3 })
unfolding csv_on_literals is_utf8 chars lib.Utf8.encode digits gcd
number_parts = refl

pub refused_is : IsReport (rules_of (task_in Watch)) refused_log refused_report []
refused_is = parts_are Watch nothing_known 1 (lines_of refused_log) (record { bytes = refused_report; replies = [] }) refused_parts

pub timed_is : IsReport (rules_of (task_in Check)) timed_log timed_report (all_impossible 3)
timed_is = parts_are Check nothing_known 1 (lines_of timed_log) (record { bytes = timed_report; replies = all_impossible 3 }) timed_parts

pub numbers_are : IsReport (rules_of (task_in Check)) number_log number_report (all_impossible 3)
numbers_are = parts_are Check nothing_known 1 (lines_of number_log) (record { bytes = number_report; replies = all_impossible 3 }) number_parts

reopened_parts : parts_of Watch nothing_known 1 (lines_of reopened_log) ≡ Some (record { bytes = reopened_report; replies = all_impossible 2 })
unfolding csv_on_literals is_utf8 chars lib.Utf8.encode digits gcd
reopened_parts = refl

headless_parts : parts_of Check nothing_known 1 (lines_of headless_log) ≡ Some (record { bytes = headless_report; replies = [] })
unfolding csv_on_literals is_utf8 chars lib.Utf8.encode digits gcd
headless_parts = refl

pub reopened_is : IsReport (rules_of (task_in Watch)) reopened_log reopened_report (all_impossible 2)
reopened_is = parts_are Watch nothing_known 1 (lines_of reopened_log) (record { bytes = reopened_report; replies = all_impossible 2 }) reopened_parts

pub headless_is : IsReport (rules_of (task_in Check)) headless_log headless_report []
headless_is = parts_are Check nothing_known 1 (lines_of headless_log) (record { bytes = headless_report; replies = [] }) headless_parts

doubled_parts : parts_of Watch nothing_known 1 (lines_of doubled_log) ≡ Some (record { bytes = doubled_report; replies = all_impossible 1 })
unfolding csv_on_literals is_utf8 chars lib.Utf8.encode digits gcd
doubled_parts = refl

pub doubled_is : IsReport (rules_of (task_in Watch)) doubled_log doubled_report (all_impossible 1)
doubled_is = parts_are Watch nothing_known 1 (lines_of doubled_log) (record { bytes = doubled_report; replies = all_impossible 1 }) doubled_parts

pub limits_are : (judge Watch (empty_tank ∷ []) (crowded 1000 0) (codes "open,r,T,y") ≡ refused why.Column)
    × (judge Watch (empty_tank ∷ []) (crowded 1000 0) (codes "open,r,T,x") ≡ refused why.Limit)
    × (judge Watch (empty_tank ∷ []) (crowded 999 0) (codes "open,r,T,x")
    ≡ opened (record { name = codes "r"; automaton = empty_tank; columns = codes "x" ∷ []; samples = [] }))
    × (judge Watch (empty_tank ∷ []) (crowded 1 200000) (codes "at,s,5,0") ≡ refused why.Time)
    × (judge Watch (empty_tank ∷ []) (crowded 1 200000) (codes "at,s,6,0") ≡ refused why.Limit)
unfolding csv_on_literals is_utf8 chars lib.Utf8.encode digits gcd
limits_are = (refl, refl, refl, refl, refl)
