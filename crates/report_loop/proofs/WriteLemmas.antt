-- What is written of a report, at once or in part.
use Rattle.std.proofs.Common.{◌≡◌, inl, inr, ℕ, ◌+◌, ◌-◌, ◌≤◌, List, [], ◌++◌, length, take, drop, append_assoc, Option, None, Some, Err, sym, ◌∙◌, ap, subst, arith}
use Rattle.std.proofs.Math.Seq.{take-add}
use Rattle.std.proofs.lemmas.List.{append-nil, take-append-drop, take_rest}
use Rattle.std.specs.Io.KnownBytes.{Appends}
use Rattle.mon_io.specs.Faults.{Rose}
use Rattle.mon_io.specs.declared.sink.SinkFault.{SinkFault}
use Rattle.mon_io.specs.declared.sink.SinkFault.TheVariants as sink
use Rattle.run_specs.specs.declared.Verdict.{Verdict}
use Rattle.report_specs.specs.Report.{Rules, AreBlocks}
use Rattle.report_loop.specs.declared.status.Status.{Status}
use Rattle.report_loop.specs.declared.status.Status.TheVariants as status
use Rattle.report_loop.specs.Outcome.{Streams, Wrote, HasEnded, CoversAll, CoversWhole, CoversSome, AllTold, SomeAlarm, OnlyOverflow, ReportsSome, Says, SaysBut, WriteSays, log_limit}
use Rattle.report_loop.specs.Turns.{write_status_for}

abbrev pub streams : Option (List ℕ) → ℕ → Option (List ℕ) → ℕ → Streams
streams l f o w = record { log = l; log_faults = f; out = o; out_faults = w }

pub rose_before : (a b c : ℕ) → a ≤ b → Rose b c → Rose a c
rose_before a b c l r = omega (arith, l, r)

pub Appends-more : (old mid new : Option (List ℕ)) (xs ys : List ℕ) → Appends old mid xs → Appends mid new ys → Appends old new (xs ++ ys)
Appends-more None mid new xs ys a b = tt
Appends-more (Some os) None new xs ys a b = absurd a
Appends-more (Some os) (Some ms) None xs ys a b = absurd b
Appends-more (Some os) (Some ms) (Some ns) xs ys a b = b ∙ ap (λ zs. zs ++ ys) a ∙ append_assoc os xs ys

pub wrote_more : (old mid new : Option (List ℕ)) (at n : ℕ) (bytes : List ℕ) → Appends old mid (take at bytes) → Appends mid new (take n (take (length bytes - at) (drop at bytes))) → Appends old new (take (at + n) bytes)
wrote_more old mid new at n bytes a b =
    subst (λ z. Appends old new z) (ap (λ z. take at bytes ++ take n z) (take_rest bytes at) ∙ sym (take-add at n bytes))
    (Appends-more old mid new (take at bytes) (take n (take (length bytes - at) (drop at bytes))) a b)

-- all of the rest was written
wrote_rest : {K : Type 0} (rules : Rules K) (before : Streams) (l o p : Option (List ℕ)) (f w v : ℕ) (rest : List ℕ) (Covers : List ℕ → List (List ℕ) → List Verdict → Type 0) →
    Wrote rules before (streams l f o w) rest Covers → Appends o p rest → Wrote rules before (streams l f p v) [] Covers
wrote_rest rules before l o p f w v rest Covers i wrote = record {
  read = i.read;
  consumed = i.consumed;
  lines = i.lines;
  replies = i.replies;
  written = i.written ++ rest;
  report = (i.report.0, subst (λ z. AreBlocks rules rules.start 1 i.lines z i.replies i.report.0) (sym (append-nil (i.written ++ rest))) i.report.1);
  taken = Appends-more before.out o p i.written rest i.taken wrote;
  covers = i.covers;
}

-- the first bytes of the rest were written
wrote_some : {K : Type 0} (rules : Rules K) (before : Streams) (l o p : Option (List ℕ)) (f w v n : ℕ) (rest : List ℕ) (Covers : List ℕ → List (List ℕ) → List Verdict → Type 0) →
    Wrote rules before (streams l f o w) rest Covers → Appends o p (take n rest) → Wrote rules before (streams l f p v) (drop n rest) Covers
wrote_some rules before l o p f w v n rest Covers i wrote = record {
  read = i.read;
  consumed = i.consumed;
  lines = i.lines;
  replies = i.replies;
  written = i.written ++ take n rest;
  report = (
    i.report.0,
    subst (λ z. AreBlocks rules rules.start 1 i.lines z i.replies i.report.0)
        (ap (λ z. i.written ++ z) (sym (take-append-drop n rest)) ∙ sym (append_assoc i.written (take n rest) (drop n rest))) i.report.1,
  );
  taken = Appends-more before.out o p i.written (take n rest) i.taken wrote;
  covers = i.covers;
}

-- what covers lines also covers first lines
pub covers_map : {K : Type 0} (rules : Rules K) (before now : Streams) (rest : List ℕ) (C D : List ℕ → List (List ℕ) → List Verdict → Type 0) →
    ((read : List ℕ) (lines : List (List ℕ)) (replies : List Verdict) → C read lines replies → D read lines replies) → Wrote rules before now rest C → Wrote rules before now rest D
covers_map rules before now rest C D f i = record {
  read = i.read;
  consumed = i.consumed;
  lines = i.lines;
  replies = i.replies;
  written = i.written;
  report = i.report;
  taken = i.taken;
  covers = f i.read i.lines i.replies i.covers;
}

pub all_some : (Ended : Type 0) (P : List Verdict → Type 0) (read : List ℕ) (lines : List (List ℕ)) (replies : List Verdict) → CoversAll Ended P read lines replies → CoversSome Ended read lines replies
all_some Ended P read lines replies c = inr (c.ended, c.all)

pub whole_some : (Ended : Type 0) (P : List ℕ → Type 0) (read : List ℕ) (lines : List (List ℕ)) (replies : List Verdict) → CoversWhole P read lines replies → CoversSome Ended read lines replies
whole_some Ended P read lines replies c = inl ([], sym c.whole ∙ sym (append-nil lines))

-- however the reading ended, a part of the rest leaves a beginning of the report
pub cut_short : {K : Type 0} (rules : Rules K) (before : Streams) (l o p : Option (List ℕ)) (f w v n : ℕ) (rest : List ℕ) (s : Status) →
    SaysBut rules before (streams l f o w) rest s → Appends o p (take n rest) → ReportsSome rules before (streams l f p v)
cut_short rules before l o p f w v n rest status.Clean i wrote =
    (drop n rest, wrote_some rules before l o p f w v n rest _ (covers_map rules before _ rest _ _ (all_some (HasEnded before (streams l f o w)) AllTold) i) wrote)
cut_short rules before l o p f w v n rest status.Alarm i wrote =
    (drop n rest, wrote_some rules before l o p f w v n rest _ (covers_map rules before _ rest _ _ (all_some (HasEnded before (streams l f o w)) SomeAlarm) i) wrote)
cut_short rules before l o p f w v n rest status.Overflow i wrote =
    (drop n rest, wrote_some rules before l o p f w v n rest _ (covers_map rules before _ rest _ _ (all_some (HasEnded before (streams l f o w)) OnlyOverflow) i) wrote)
cut_short rules before l o p f w v n rest status.ReadFault i wrote =
    (drop n rest, wrote_some rules before l o p f w v n rest _ (covers_map rules before _ rest _ _ (whole_some (HasEnded before (streams l f o w)) (λ _. Rose before.log_faults f)) i) wrote)
cut_short rules before l o p f w v n rest status.Limit i wrote =
    (drop n rest, wrote_some rules before l o p f w v n rest _ (covers_map rules before _ rest _ _ (whole_some (HasEnded before (streams l f o w)) (λ read. length read ≡ log_limit)) i) wrote)
cut_short rules before l o p f w v n rest status.Memory i wrote = (drop n rest, wrote_some rules before l o p f w v n rest _ i wrote)
cut_short rules before l o p f w v n rest _ i wrote = absurd i

-- all of the rest was written: the status says what it says
pub all_written : {K : Type 0} (rules : Rules K) (before : Streams) (l o p : Option (List ℕ)) (f w v : ℕ) (rest : List ℕ) (s : Status) →
    SaysBut rules before (streams l f o w) rest s → Appends o p rest → Says rules before (streams l f p v) s
all_written rules before l o p f w v rest status.Clean i wrote = wrote_rest rules before l o p f w v rest _ i wrote
all_written rules before l o p f w v rest status.Alarm i wrote = wrote_rest rules before l o p f w v rest _ i wrote
all_written rules before l o p f w v rest status.Overflow i wrote = wrote_rest rules before l o p f w v rest _ i wrote
all_written rules before l o p f w v rest status.ReadFault i wrote = wrote_rest rules before l o p f w v rest _ i wrote
all_written rules before l o p f w v rest status.Limit i wrote = wrote_rest rules before l o p f w v rest _ i wrote
all_written rules before l o p f w v rest status.Memory i wrote = ([], wrote_rest rules before l o p f w v rest _ i wrote)
all_written rules before l o p f w v rest _ i wrote = absurd i

pub write_failed : {K : Type 0} (rules : Rules K) (before : Streams) (l o p : Option (List ℕ)) (f w v : ℕ) (rest after : List ℕ) (s : Status) (x : SinkFault) → before.out_faults ≤ w →
    SaysBut rules before (streams l f o w) rest s → WriteSays o p w v rest after (Err x) → Says rules before (streams l f p v) (write_status_for x)
write_failed rules before l o p f w v rest after s sink.Failed le i wrote =
    (cut_short rules before l o p f w v wrote.0.0 rest s i wrote.0.1, rose_before before.out_faults w v le wrote.1)
write_failed rules before l o p f w v rest after s sink.Memory le i wrote = cut_short rules before l o p f w v wrote.0 rest s i wrote.1
