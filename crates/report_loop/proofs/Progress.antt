-- A report grows line by line.
use Rattle.std.proofs.Common.{◌≡◌, ◌↔◌, inl, ℕ, ◌+◌, ◌<◌, ◌≤◌, List, [], ◌∷◌, ◌++◌, length, append_assoc, Bool, true, false, Option, None, Some, Result, Ok, Err, IsTrue, refl, sym, ◌∙◌, ap, subst, arith}
use Rattle.std.specs.Prelude.{Contains, nat_le, if◌then◌else◌}
use Rattle.std.proofs.lemmas.Bool.{le-leb, leb-true}
use Rattle.std.proofs.lemmas.List.{append-nil, length-append}
use Rattle.std.specs.Io.KnownBytes.{Appends}
use Rattle.mon_io.specs.Faults.{Rose}
use Rattle.mon_io.specs.declared.sink.SinkFault.{SinkFault}
use Rattle.run_specs.specs.Automaton.{Automaton}
use Rattle.run_specs.specs.declared.Verdict.{Verdict}
use Rattle.run_specs.specs.declared.Verdict.TheVariants as verdict
use Rattle.report_specs.specs.Lines.{HasNoFeed, unmarked}
use Rattle.report_specs.specs.Report.{AreBlocks}
use Rattle.report_specs.proofs.ReportLemmas.{blocks_join}
use Rattle.log_specs.specs.declared.LogForm.{LogForm}
use Rattle.log_specs.specs.Blocks.{Task}
use Rattle.log_specs.specs.LogSessions.{Judgement}
use Rattle.log_specs.specs.LogReports.{nothing_known, judgement, rules_of}
use Rattle.log_reader.specs.declared.line.Line.{Line}
use Rattle.log_reader.specs.declared.line.Line.TheVariants.{Text, Long, End}
use Rattle.log_reader.specs.declared.reader.ReadFault.{ReadFault}
use Rattle.log_reader.specs.declared.reader.ReadFault.TheVariants as fault
use Rattle.log_reader.specs.Reading.{Reading, Stored, IsOf, Moves, Gets, Gives, GivesNext, Fails, HasNext}
use Rattle.log_reader.proofs.MoveLemmas.{is_own}
use Rattle.log_reader.proofs.FillLemmas.{Consumes-more, Consumes-nothing}
use Rattle.log_reader.proofs.GivenLemmas.{given_line, given_end, given_whole}
use Rattle.log_specs.specs.declared.RunsMode.{RunsMode}
use Rattle.log_session.specs.Tallies.{tally_of}
use Rattle.log_session.specs.Progress.{Progress, at_start, IsTaskOf, progress_after, AddsLine}
use Rattle.report_loop.specs.declared.status.Status.{Status}
use Rattle.report_loop.specs.declared.status.Status.TheVariants as status
use Rattle.report_loop.specs.Tasks.{log_task}
use Rattle.report_loop.specs.Outcome.{Streams, Wrote, HasEnded, CoversAll, CoversWhole, CoversSome, AllTold, SomeAlarm, OnlyOverflow, Says, SaysBut, WriteSays, log_limit}
use Rattle.report_loop.specs.Turns.{AddsBlock, is_line, IsReporting, IsReportingAt, GivesOne, FlushSays, status_at_end, status_for, write_status_for}
use Rattle.report_loop.proofs.TallyLemmas.{tally_more, alarm_told, overflow_told}
use Rattle.report_loop.proofs.StreamLemmas.{counted, ends_by, below_by, first_given}
use Rattle.report_loop.proofs.WriteLemmas.{streams, rose_before, Appends-more, write_failed}

-- ---- how a reading ends

-- neither a line feed nor the end is there: a report of the whole lines
stops_whole : (task : Task) (before : Streams) (l k o : Option (List ℕ)) (f h w : ℕ) (r new : Reading) (p : Progress) (pending got : List ℕ) (P : List ℕ → Type 0) →
    (i : IsReportingAt task before (streams l f o w) r p pending) → Gets l k r new got → HasNoFeed (r.held ++ got) → new.has_ended ≡ false → P (i.read ++ got) →
    Wrote (rules_of task) before (streams k h o w) pending (CoversWhole P)
stops_whole task before l k o f h w r new p pending got P i g none open_end why = record {
  read = i.read ++ got;
  consumed = Consumes-more before.log l k i.read got i.consumed g.consumed;
  lines = i.lines;
  replies = i.replies;
  written = i.written;
  report = (p.known, i.blocks);
  taken = i.taken;
  covers = record { whole = sym (given_whole l k i.read r new got i.lines i.given g none open_end); why = why };
}

-- a report of the first lines
stops_some : (task : Task) (before : Streams) (l k o : Option (List ℕ)) (f h w : ℕ) (r new : Reading) (p : Progress) (pending got : List ℕ) →
    IsReportingAt task before (streams l f o w) r p pending → Gets l k r new got →
    Wrote (rules_of task) before (streams k h o w) pending (CoversSome (HasEnded before (streams k h o w)))
stops_some task before l k o f h w r new p pending got i g = record {
  read = i.read ++ got;
  consumed = Consumes-more before.log l k i.read got i.consumed g.consumed;
  lines = i.lines;
  replies = i.replies;
  written = i.written;
  report = (p.known, i.blocks);
  taken = i.taken;
  covers =
      first_given (HasEnded before (streams k h o w)) l k i.read r new got i.lines i.given g
      (λ n. ends_by before.log l k i.read r new got r.has_ended refl i.consumed g n i.end);
}

-- the end: a report of all
ends_all : (task : Task) (before : Streams) (l k o : Option (List ℕ)) (f h w : ℕ) (r new : Reading) (p : Progress) (pending got : List ℕ) (P : List Verdict → Type 0) →
    (i : IsReportingAt task before (streams l f o w) r p pending) → Gets l k r new got → HasNoFeed (r.held ++ got) → unmarked r.given (r.held ++ got) ≡ [] → new.has_ended ≡ true →
    P i.replies → Wrote (rules_of task) before (streams k h o w) pending (CoversAll (HasEnded before (streams k h o w)) P)
ends_all task before l k o f h w r new p pending got P i g none nothing over said = record {
  read = i.read ++ got;
  consumed = Consumes-more before.log l k i.read got i.consumed g.consumed;
  lines = i.lines;
  replies = i.replies;
  written = i.written;
  report = (p.known, i.blocks);
  taken = i.taken;
  covers = record {
    all = sym (given_end l k i.read r new got i.lines i.given g none nothing);
    ended = ends_by before.log l k i.read r new got r.has_ended refl i.consumed g over i.end;
    below =
        let c = counted l k r new i.read got g i.counted in
        let b = below_by l k r new got r.has_ended refl g over i.below in
        let e = g.most ∙ i.most in
        subst (λ n. n < log_limit) c (subst (λ n. new.taken < n) e b);
    said = said;
  };
}

-- no reply is this one, where none is counted
no_reply : (count : ℕ) (replies : List Verdict) (v : Verdict) → nat_le 1 count ≡ false → (Contains replies v → 1 ≤ count) → Contains replies v → ⊥
no_reply count replies v e h c = let no : false ≡ true = sym e ∙ le-leb 1 count (h c) in cc

-- the status of all that was replied, by the tally
end_status : (task : Task) (before : Streams) (l k o : Option (List ℕ)) (f h w : ℕ) (r new : Reading) (p : Progress) (pending got : List ℕ) (a b : Bool) →
    nat_le 1 p.tally.alarm ≡ a → nat_le 1 p.tally.overflow ≡ b → (i : IsReportingAt task before (streams l f o w) r p pending) → Gets l k r new got → HasNoFeed (r.held ++ got) →
    unmarked r.given (r.held ++ got) ≡ [] → new.has_ended ≡ true → SaysBut (rules_of task) before (streams k h o w) pending (if a then status.Alarm else if b then status.Overflow else status.Clean)
end_status task before l k o f h w r new p pending got true b alarm overflow i g none nothing over =
    ends_all task before l k o f h w r new p pending got SomeAlarm i g none nothing over ((alarm_told p.tally i.replies i.tallied).0 (leb-true 1 p.tally.alarm alarm))
end_status task before l k o f h w r new p pending got false true alarm overflow i g none nothing over =
    ends_all task before l k o f h w r new p pending got OnlyOverflow i g none nothing over (
      no_reply p.tally.alarm i.replies verdict.Alarm alarm (alarm_told p.tally i.replies i.tallied).1,
      (overflow_told p.tally i.replies i.tallied).0 (leb-true 1 p.tally.overflow overflow),
    )
end_status task before l k o f h w r new p pending got false false alarm overflow i g none nothing over =
    ends_all task before l k o f h w r new p pending got AllTold i g none nothing over (
      no_reply p.tally.alarm i.replies verdict.Alarm alarm (alarm_told p.tally i.replies i.tallied).1,
      no_reply p.tally.overflow i.replies verdict.Overflow overflow (overflow_told p.tally i.replies i.tallied).1,
    )

-- the reading failed
pub fails : (task : Task) (before : Streams) (l k o : Option (List ℕ)) (f h w : ℕ) (r new : Reading) (p : Progress) (pending got : List ℕ) (x : ReadFault) →
    IsReportingAt task before (streams l f o w) r p pending → Gets l k r new got → Fails (r.held ++ got) r new x → (x ≡ fault.Failed → Rose f h) →
    SaysBut (rules_of task) before (streams k h o w) pending (status_for x)
fails task before l k o f h w r new p pending got fault.Failed i g why cause =
    stops_whole task before l k o f h w r new p pending got (λ _. Rose before.log_faults h) i g why.2 why.3 (rose_before before.log_faults f h i.log_faults (cause refl))
fails task before l k o f h w r new p pending got fault.Limit i g why cause =
    stops_whole task before l k o f h w r new p pending got (λ read. length read ≡ log_limit) i g why.2 why.3
    (sym (counted l k r new i.read got g i.counted) ∙ why.4 ∙ g.most ∙ i.most)
fails task before l k o f h w r new p pending got fault.Memory i g why cause = stops_some task before l k o f h w r new p pending got i g

-- a line was read, and there was no memory for its block
pub wants_memory : (task : Task) (before : Streams) (l k o : Option (List ℕ)) (f h w : ℕ) (r new : Reading) (p : Progress) (pending after got : List ℕ) →
    IsReportingAt task before (streams l f o w) r p pending → Gets l k r new got → after ≡ pending → SaysBut (rules_of task) before (streams k h o w) after status.Memory
wants_memory task before l k o f h w r new p pending after got i g e =
    subst (λ z. SaysBut (rules_of task) before (streams k h o w) z status.Memory) (sym e) (stops_some task before l k o f h w r new p pending got i g)

-- ---- one line more

-- the line that was given, and the block that was added for it
line_and_block : (task : Task) (bytes old after : List ℕ) (r new : Reading) (line : Line) (p q : Progress) →
    Gives bytes r new line → AddsBlock task line p q old after → is_line line ≡ true →
    (text : List ℕ) × (new.given ≡ r.given + 1) × HasNext bytes r new text × AddsLine task p q (r.given + 1) text old after
line_and_block task bytes old after r new (Text n line) p q g b some =
    (line.items, g.1 ∙ g.0, g.3, subst (λ k. AddsLine task p q k line.items old after) g.0 b)
line_and_block task bytes old after r new (Long n) p q g b some =
    (g.2.0, g.1 ∙ g.0, g.2.2, subst (λ k. AddsLine task p q k g.2.0 old after) g.0 (b g.2.0 g.2.1))
line_and_block task bytes old after r new End p q g b some = let no : false ≡ true = some in cc

one_block : (task : Task) (p q : Progress) (number : ℕ) (line old after : List ℕ) (a : AddsLine task p q number line old after) →
    AreBlocks (rules_of task) p.known number (line ∷ []) a.block a.replies q.known
one_block task p q number line old after a = (
  a.block,
  [],
  a.replies,
  [],
  q.known,
  sym (append-nil a.block),
  sym (append-nil a.replies),
  record { is_block = a.is_block; next = ap (λ (z : Progress). z.known) a.next },
  (refl, refl, refl),
)

still_task : (task : Task) (p q : Progress) (j : Judgement) (here : List Verdict) → q ≡ progress_after p j here → IsTaskOf task p → IsTaskOf task q
still_task task p q j here e t = subst (λ z. IsTaskOf task z) (sym e) (record { form = t.form; models = t.models; jumps = t.jumps; runs = t.runs })

pub goes_on : (task : Task) (before : Streams) (l k o : Option (List ℕ)) (f h w : ℕ) (r new : Reading) (p q : Progress) (pending after got : List ℕ) (line : Line) →
    (i : IsReportingAt task before (streams l f o w) r p pending) → Gets l k r new got → Gives (r.held ++ got) r new line →
    AddsBlock task line p q pending after → is_line line ≡ true → f ≤ h → IsReportingAt task before (streams k h o w) new q after
goes_on task before l k o f h w r new p q pending after got line i g gives adds some reads =
    let a = line_and_block task (r.held ++ got) pending after r new line p q gives adds some in
    let first = i.log_faults in
    let number : 1 + length i.lines ≡ r.given + 1 = (let c = i.count in omega (arith, c)) in
    let block = subst (λ n. AreBlocks (rules_of task) p.known n (a.0 ∷ []) a.3.block a.3.replies q.known) (sym number) (one_block task p q (r.given + 1) a.0 pending after a.3) in
    let all = blocks_join (rules_of task) i.lines (a.0 ∷ []) nothing_known p.known q.known 1 (i.written ++ pending) a.3.block i.replies a.3.replies i.blocks block in
    let bytes : (i.written ++ pending) ++ a.3.block ≡ i.written ++ after = append_assoc i.written pending a.3.block ∙ ap (λ z. i.written ++ z) (sym a.3.grown) in
    let j : Judgement = judgement task p.known a.0 in
    record {
      read = i.read ++ got;
      consumed = Consumes-more before.log l k i.read got i.consumed g.consumed;
      counted = counted l k r new i.read got g i.counted;
      most = g.most ∙ i.most;
      end = λ n. ends_by before.log l k i.read r new got r.has_ended refl i.consumed g n i.end;
      below = λ n. below_by l k r new got r.has_ended refl g n i.below;
      lines = i.lines ++ a.0 ∷ [];
      given = given_line l k i.read r new got a.0 i.lines i.given g a.1 a.2;
      count = a.1 ∙ ap (λ n. n + 1) i.count ∙ omega (arith, length-append i.lines (a.0 ∷ []));
      replies = i.replies ++ a.3.replies;
      written = i.written;
      blocks = subst (λ z. AreBlocks (rules_of task) nothing_known 1 (i.lines ++ a.0 ∷ []) z (i.replies ++ a.3.replies) q.known) bytes all;
      taken = i.taken;
      is_task = still_task task p q j a.3.replies a.3.next i.is_task;
      tallied = ap (λ (z : Progress). z.tally) a.3.next ∙ tally_more p.tally i.replies a.3.replies i.tallied;
      log_faults = omega (arith, first, reads);
      out_faults = i.out_faults;
    }

-- the end of the log
pub ends : (task : Task) (before : Streams) (l k o : Option (List ℕ)) (f h w : ℕ) (r new : Reading) (p q : Progress) (pending after got : List ℕ) (line : Line) (ended : Status) →
    (i : IsReportingAt task before (streams l f o w) r p pending) → Gets l k r new got → Gives (r.held ++ got) r new line →
    AddsBlock task line p q pending after → is_line line ≡ false → ended ≡ status_at_end q.tally → SaysBut (rules_of task) before (streams k h o w) after ended
ends task before l k o f h w r new p q pending after got (Text n line) ended i g gives adds none is = let no : true ≡ false = none in cc
ends task before l k o f h w r new p q pending after got (Long n) ended i g gives adds none is = let no : true ≡ false = none in cc
ends task before l k o f h w r new p q pending after got End ended i g gives adds none is =
    let same : ended ≡ status_at_end p.tally = is ∙ ap (λ (z : Progress). status_at_end z.tally) adds.1 in
    let P : List ℕ → Status → Type 0 = λ z x. SaysBut (rules_of task) before (streams k h o w) z x in
    subst (λ z. P z ended) (sym adds.0)
    (subst (λ x. P pending x) (sym same) (end_status task before l k o f h w r new p pending got (nat_le 1 p.tally.alarm) (nat_le 1 p.tally.overflow) refl refl i g gives.2 gives.3 gives.1))

-- ---- between two lines

gets_nothing : (l : Option (List ℕ)) (r : Reading) → Gets l l r r []
gets_nothing l r = record {
  consumed = Consumes-nothing l;
  counted = omega arith;
  most = refl;
  end = λ e f. absurd (no_both (sym f ∙ e));
  below = λ e f. absurd (no_both (sym f ∙ e));
  ended = λ e. (e, refl);
}
  where
    no_both : true ≡ false → ⊥
    no_both n = cc

-- a report in the making, as one of the first lines
so_far : (task : Task) (before : Streams) (l o : Option (List ℕ)) (f w : ℕ) (r : Reading) (p : Progress) (pending : List ℕ) →
    IsReportingAt task before (streams l f o w) r p pending → SaysBut (rules_of task) before (streams l f o w) pending status.Memory
so_far task before l o f w r p pending i = stops_some task before l l o f f w r r p pending [] i (gets_nothing l r)

-- the pending blocks were written
pub flushed : (task : Task) (before : Streams) (l o x : Option (List ℕ)) (f w v : ℕ) (r : Reading) (p : Progress) (pending after : List ℕ) (u : Unit) →
    IsReportingAt task before (streams l f o w) r p pending → WriteSays o x w v pending after (Ok u) → IsReportingAt task before (streams l f x v) r p after
flushed task before l o x f w v r p pending after u i wrote =
    let first = i.out_faults in
    let later = wrote.2 in
    record {
      read = i.read;
      consumed = i.consumed;
      counted = i.counted;
      most = i.most;
      end = i.end;
      below = i.below;
      lines = i.lines;
      given = i.given;
      count = i.count;
      replies = i.replies;
      written = i.written ++ pending;
      blocks =
          subst (λ z. AreBlocks (rules_of task) nothing_known 1 i.lines z i.replies p.known)
          (sym (append-nil (i.written ++ pending)) ∙ ap (λ z. (i.written ++ pending) ++ z) (sym wrote.1)) i.blocks;
      taken = Appends-more before.out o x i.written pending i.taken wrote.0;
      is_task = i.is_task;
      tallied = i.tallied;
      log_faults = i.log_faults;
      out_faults = omega (arith, first, later);
    }

pub flush_failed : (task : Task) (before : Streams) (l o x : Option (List ℕ)) (f w v : ℕ) (r : Reading) (p : Progress) (pending after : List ℕ) (why : SinkFault) →
    IsReportingAt task before (streams l f o w) r p pending → WriteSays o x w v pending after (Err why) → Says (rules_of task) before (streams l f x v) (write_status_for why)
flush_failed task before l o x f w v r p pending after why i wrote =
    write_failed (rules_of task) before l o x f w v pending after status.Memory why i.out_faults (so_far task before l o f w r p pending i) wrote

pub flush_says : (task : Task) (before : Streams) (l o x : Option (List ℕ)) (f w v : ℕ) (k : Stored) (p : Progress) (pending after : List ℕ) (wrote : Result Unit SinkFault) →
    IsReporting task before (streams l f o w) k p pending → WriteSays o x w v pending after wrote → FlushSays task before (streams l f x v) k p after wrote
flush_says task before l o x f w v k p pending after (Ok u) i wrote = (i.0, i.1, flushed task before l o x f w v i.0 p pending after u i.2 wrote)
flush_says task before l o x f w v k p pending after (Err why) i wrote = flush_failed task before l o x f w v i.0 p pending after why i.2 wrote

-- ---- the reader gave one line

given_after : (k n : Stored) (r s : Reading) → IsOf k r → IsOf n s → s.given ≡ r.given + 1 → s.most ≡ r.most → GivesOne k n
given_after k n r s i j given most = record {
  given = sym (ap (λ (z : Reading). z.given) j.same) ∙ given ∙ ap (λ (z : Reading). z.given + 1) i.same;
  most = sym (ap (λ (z : Reading). z.most) j.same) ∙ most ∙ ap (λ (z : Reading). z.most) i.same;
}

pub gives_one : (a b : Option (List ℕ)) (k n : Stored) (line : Line) → (r : Reading) × IsOf k r → Moves (GivesNext a b line) k n → is_line line ≡ true → GivesOne k n
gives_one a b k n (Text number line) r moves some =
    let x = moves r.0 r.1 in given_after k n r.0 x.0 r.1 x.1 (x.2.2.1 ∙ x.2.2.0) x.2.1.most
gives_one a b k n (Long number) r moves some =
    let x = moves r.0 r.1 in given_after k n r.0 x.0 r.1 x.1 (x.2.2.1 ∙ x.2.2.0) x.2.1.most
gives_one a b k n End r moves some = let no : false ≡ true = some in cc

-- ---- before the first line

Appends-nothing : (old : Option (List ℕ)) → Appends old old []
Appends-nothing None = tt
Appends-nothing (Some xs) = sym (append-nil xs)

started_at : (task : Task) (l o : Option (List ℕ)) (f w : ℕ) (r : Reading) (form : LogForm) (models : List Automaton) (jumps : ℕ) (runs : RunsMode) (pending : List ℕ) →
    r ≡ record { held = []; given = 0; taken = 0; most = log_limit; has_ended = false } → IsTaskOf task (at_start form models jumps runs) → pending ≡ [] →
    IsReportingAt task (streams l f o w) (streams l f o w) r (at_start form models jumps runs) pending
started_at task l o f w r form models jumps runs pending is fits none = record {
  read = [];
  consumed = Consumes-nothing l;
  counted = ap (λ (z : Reading). z.taken) is;
  most = ap (λ (z : Reading). z.most) is;
  end = λ e. absurd (open_yet e);
  below = λ e. absurd (open_yet e);
  lines = [];
  given = inl ([], record { split = sym (ap (λ (z : Reading). z.held) is); no_feeds = tt; given = ap (λ (z : Reading). z.given) is }, refl);
  count = ap (λ (z : Reading). z.given) is;
  replies = [];
  written = [];
  blocks = (none, refl, refl);
  taken = Appends-nothing o;
  is_task = fits;
  tallied = refl;
  log_faults = omega arith;
  out_faults = omega arith;
}
  where
    no_both_true : true ≡ false → ⊥
    no_both_true n = cc

    open_yet : r.has_ended ≡ true → ⊥
    open_yet e = no_both_true (sym e ∙ ap (λ (z : Reading). z.has_ended) is)

pub started : (task : Task) (l o : Option (List ℕ)) (f w : ℕ) (k : Stored) (p : Progress) (form : LogForm) (models : List Automaton) (jumps : ℕ) (runs : RunsMode) (pending : List ℕ) →
    k ≡ record { reading = record { held = []; given = 0; taken = 0; most = log_limit; has_ended = false }; dropped = 0 } → p ≡ at_start form models jumps runs → IsTaskOf task (at_start form models jumps runs) → pending ≡ [] →
    IsReporting task (streams l f o w) (streams l f o w) k p pending
started task l o f w k p form models jumps runs pending is start fits none = (
  k.reading,
  is_own k (ap (λ (z : Stored). z.dropped) is),
  subst (λ z. IsReportingAt task (streams l f o w) (streams l f o w) k.reading z pending) (sym start)
      (started_at task l o f w k.reading form models jumps runs pending (ap (λ (z : Stored). z.reading) is) fits none),
)

-- the task of a log is one of its progress
pub task_fits : (form : LogForm) (automata : List Automaton) (jumps : ℕ) (runs : RunsMode) → IsTaskOf (log_task form automata jumps runs) (at_start form automata jumps runs)
task_fits form automata jumps runs = record { form = refl; models = refl; jumps = refl; runs = refl }

-- nothing was read, and nothing written
pub nothing_done : (task : Task) (l o : Option (List ℕ)) (f w : ℕ) → Says (rules_of task) (streams l f o w) (streams l f o w) status.Memory
nothing_done task l o f w = (
  [],
  record {
    read = [];
    consumed = Consumes-nothing l;
    lines = [];
    replies = [];
    written = [];
    report = (nothing_known, (refl, refl, refl));
    taken = Appends-nothing o;
    covers = inl ([], refl);
  },
)
