-- The replies to an open session are lawful for its samples.
use Rattle.std.proofs.Common.{◌≡◌, ℕ, suc, List, [], ◌∷◌, ◌++◌, length, Bool, true, false, not, ◌==◌, cond, if◌then◌else◌, Option, Some, None, Result, Ok, Err, refl, sym, ◌∙◌, ap, subst, append_assoc}
use Rattle.std.specs.Prelude.{All, ⊤, find, filter, map, nat_le, bytes_eq, option_and_then}
use Rattle.std.proofs.lemmas.Slice.Eq.{bytes_eq-Decides}
use Rattle.std.proofs.lemmas.List.Elements.{All-nil, All-head, All-tail, All-push}
use Rattle.run_specs.specs.Automaton.{Automaton}
use Rattle.run_specs.specs.Logs.{Sample}
use Rattle.run_specs.specs.declared.Verdict.{Verdict}
use Rattle.run_specs.specs.declared.Verdict.TheVariants.{Alarm, Safe, Impossible, Overflow}
use Rattle.run_specs.specs.Verdicts.{IsLawful, StaysOverflow, AreLawfulAfter, AreLawful}
use Rattle.report_specs.specs.Report.{AreBlocks}
use Rattle.log_specs.specs.declared.LogForm.{LogForm}
use Rattle.log_specs.specs.declared.LogForm.TheVariants.{Check, Watch}
use Rattle.log_specs.specs.declared.Refusal.{Refusal}
use Rattle.log_specs.specs.declared.Refusal.TheVariants as why
use Rattle.log_specs.specs.LogRows.{WatchRow, Cells, read_row, read_header, read_cells}
use Rattle.log_specs.specs.LogRows as row
use Rattle.log_specs.specs.LogSessions.{LogSession, LogState, Judgement, passed_over, refused, opened, closed, flushed, accepted, has_name, session_of, automaton_of, are_columns, sample_in, may_follow, judge_opening, judge_sample, judge_closing, judge_row, first_automaton, judge_header, judge_cells, judge, with_sample, state_after}
use Rattle.log_specs.specs.Blocks.{Task, LastReply, last_of, latest, with_replies, replied_after, IsBlock}
use Rattle.log_specs.specs.LogReports.{Known, nothing_known, judgement, rules_of, WasReplied}

-- ---- one reply more

latest_more : (o : Option Verdict) (vs : List Verdict) (v : Verdict) → latest o (vs ++ v ∷ []) ≡ Some v
latest_more o [] v = refl
latest_more o (w ∷ vs) v = latest_more (Some w) vs v

all_overflow : (vs : List Verdict) (x : Verdict) → x ≡ Overflow → All (λ v. v ≡ Overflow) vs → latest (Some x) vs ≡ Some Overflow
all_overflow [] x e h = ap (λ (v : Verdict). Some v) e
all_overflow (v ∷ vs) x e h = all_overflow vs v (All-head (λ v. v ≡ Overflow) v vs h) (All-tail (λ v. v ≡ Overflow) v vs h)

stays_none : (v : Verdict) → StaysOverflow v []
stays_none Overflow = All-nil (λ v. v ≡ Overflow)
stays_none Alarm = tt
stays_none Safe = tt
stays_none Impossible = tt

stays_more : (w : Verdict) (vs : List Verdict) (v : Verdict) → StaysOverflow w vs → (latest (Some w) vs ≡ Some Overflow → v ≡ Overflow) → StaysOverflow w (vs ++ v ∷ [])
stays_more Overflow vs v h c = All-push (λ v. v ≡ Overflow) vs v h (c (all_overflow vs Overflow refl h))
stays_more Alarm vs v h c = tt
stays_more Safe vs v h c = tt
stays_more Impossible vs v h c = tt

later_too : (w : Verdict) (vs : List Verdict) (v : Verdict) → (latest (Some w) vs ≡ Some Overflow → v ≡ Overflow) → latest None vs ≡ Some Overflow → v ≡ Overflow
later_too w [] v c e = absurd (let b : ⊥ = cc in b)
later_too w (x ∷ vs) v c e = c e

lawful_more : (a : Automaton) (k : ℕ) (before ss : List Sample) (vs : List Verdict) (s : Sample) (v : Verdict) → AreLawfulAfter a k before ss vs →
    IsLawful a k (before ++ (ss ++ s ∷ [])) v → (latest None vs ≡ Some Overflow → v ≡ Overflow) → AreLawfulAfter a k before (ss ++ s ∷ []) (vs ++ v ∷ [])
lawful_more a k before [] [] s v h l c = (l, stays_none v, tt)
lawful_more a k before [] (w ∷ vs) s v h l c = absurd h
lawful_more a k before (t ∷ ss) [] s v h l c = absurd h
lawful_more a k before (t ∷ ss) (w ∷ vs) s v h l c = (
  h.0,
  stays_more w vs v h.1 c,
  lawful_more a k (before ++ t ∷ []) ss vs s v h.2 (subst (λ z. IsLawful a k z v) (sym (append_assoc before (t ∷ []) (ss ++ s ∷ []))) l) (later_too w vs v c),
)

-- ---- which session a line speaks of

-- an opened session has no sample yet, and one that is given a sample is the first of its name
abbrev Comes : LogState → Judgement → Type 0
Comes at passed_over = ⊤
Comes at (refused e) = ⊤
Comes at (opened s) = s.samples ≡ []
Comes at (closed name) = ⊤
Comes at flushed = ⊤
Comes at (accepted s sample) = session_of at s.name ≡ Some s

either : (at : LogState) (b : Bool) (j k : Judgement) → Comes at j → Comes at k → Comes at (if b then j else k)
either at true j k p q = p
either at false j k p q = q

find_holds : (p : LogSession → Bool) (xs : List LogSession) (s : LogSession) → find p xs ≡ Some s → p s ≡ true
find_holds p [] s e = absurd (let b : ⊥ = cc in b)
find_holds p (x ∷ xs) s e = one (p x) refl e (λ f. find_holds p xs s f)
  where
    one : (b : Bool) → p x ≡ b → cond b (Some x) (find p xs) ≡ Some s → (find p xs ≡ Some s → p s ≡ true) → p s ≡ true
    one true is f h = let same : x ≡ s = cc in ap p (sym same) ∙ is
    one false is f h = h f

named : (at : LogState) (name : List ℕ) (s : LogSession) → session_of at name ≡ Some s → session_of at s.name ≡ Some s
named at name s e =
    let same : name ≡ s.name = (bytes_eq-Decides name s.name).0 (find_holds (has_name name) at.open_sessions s e) in
    subst (λ n. session_of at n ≡ Some s) same e

opening_comes : (at : LogState) (name : List ℕ) (columns : List (List ℕ)) (a : Option Automaton) (s : Option LogSession) → Comes at (judge_opening at name columns a s)
opening_comes at name columns a (Some s) = tt
opening_comes at name columns None None = tt
opening_comes at name columns (Some a) None =
    let s : LogSession = record { name = name; automaton = a; columns = columns; samples = [] } in
    let inner : Judgement = if nat_le 1000 (length at.open_sessions) then refused why.Limit else opened s in
    either at (not (are_columns a.variables columns)) (refused why.Column) inner tt
    (either at (nat_le 1000 (length at.open_sessions)) (refused why.Limit) (opened s) tt refl)

sample_comes : (at : LogState) (name : List ℕ) (c : Cells) (s : Option LogSession) → session_of at name ≡ s → Comes at (judge_sample at c s)
sample_comes at name c None e = tt
sample_comes at name c (Some s) e =
    let last : Judgement = if nat_le 200000 at.accepted then refused why.Limit else accepted s (sample_in s c) in
    let second : Judgement = if not (may_follow s.samples c.time) then refused why.Time else last in
    either at (not (length c.cells == length s.columns)) (refused why.Cells) second tt
    (either at (not (may_follow s.samples c.time)) (refused why.Time) last tt
    (either at (nat_le 200000 at.accepted) (refused why.Limit) (accepted s (sample_in s c)) tt (named at name s e)))

closing_comes : (at : LogState) (name : List ℕ) (s : Option LogSession) → Comes at (judge_closing name s)
closing_comes at name None = tt
closing_comes at name (Some s) = tt

row_comes : (models : List Automaton) (at : LogState) (r : Result WatchRow Refusal) → Comes at (judge_row models at r)
row_comes models at (Err e) = tt
row_comes models at (Ok (row.opening name automaton columns)) = opening_comes at name columns (automaton_of models automaton) (session_of at name)
row_comes models at (Ok (row.sample name time cells)) = sample_comes at name (record { time = time; cells = cells }) (session_of at name) refl
row_comes models at (Ok (row.closing name)) = closing_comes at name (session_of at name)
row_comes models at (Ok row.flush) = tt

header_comes : (models : List Automaton) (at : LogState) (r : Result (List (List ℕ)) Refusal) → Comes at (judge_header models at r)
header_comes models at (Err e) = tt
header_comes models at (Ok columns) = opening_comes at [] columns (first_automaton models) None

cells_come : (at : LogState) (r : Result Cells Refusal) → Comes at (judge_cells at r)
cells_come at (Err e) = tt
cells_come at (Ok c) = sample_comes at [] c (session_of at []) refl

comes : (form : LogForm) (models : List Automaton) (at : LogState) (line : List ℕ) → Comes at (judge form models at line)
comes form models at [] = tt
comes Watch models at (b ∷ bytes) = row_comes models at (read_row (b ∷ bytes))
comes Check models at (b ∷ bytes) =
    either at at.has_begun (judge_cells at (read_cells (b ∷ bytes))) (judge_header models at (read_header (b ∷ bytes)))
    (cells_come at (read_cells (b ∷ bytes))) (header_comes models at (read_header (b ∷ bytes)))

-- ---- sessions and their last replies, side by side

-- the last reply is the last of some that are lawful for the session's samples
record Fits (k : ℕ) (s : LogSession) (r : LastReply) : Type 0 where
  name : r.session ≡ s.name
  replies : List Verdict
  lawful : AreLawful s.automaton k s.samples replies
  last : r.reply ≡ latest None replies

abbrev AllFit : ℕ → List LogSession → List LastReply → Type 0
AllFit k [] [] = ⊤
AllFit k (s ∷ ss) (r ∷ rs) = Fits k s r × AllFit k ss rs
AllFit k [] (r ∷ rs) = ⊥
AllFit k (s ∷ ss) [] = ⊥

fit_more : (k : ℕ) (ss : List LogSession) (rs : List LastReply) (s : LogSession) (r : LastReply) → AllFit k ss rs → Fits k s r → AllFit k (ss ++ s ∷ []) (rs ++ r ∷ [])
fit_more k [] [] s r h f = (f, tt)
fit_more k [] (q ∷ rs) s r h f = absurd h
fit_more k (t ∷ ss) [] s r h f = absurd h
fit_more k (t ∷ ss) (q ∷ rs) s r h f = (h.0, fit_more k ss rs s r h.1 f)

fit_kept : (k : ℕ) (name : List ℕ) (ss : List LogSession) (rs : List LastReply) → AllFit k ss rs →
    AllFit k (filter (λ s. not (has_name name s)) ss) (filter (λ r. not (bytes_eq name r.session)) rs)
fit_kept k name [] [] h = tt
fit_kept k name [] (r ∷ rs) h = absurd h
fit_kept k name (s ∷ ss) [] h = absurd h
fit_kept k name (s ∷ ss) (r ∷ rs) h =
    one (not (bytes_eq name s.name)) (not (bytes_eq name r.session)) (ap (λ n. not (bytes_eq name n)) h.0.name) (fit_kept k name ss rs h.1)
  where
    one : (b c : Bool) → c ≡ b → AllFit k (filter (λ s. not (has_name name s)) ss) (filter (λ r. not (bytes_eq name r.session)) rs) →
        AllFit k (cond b (s ∷ filter (λ s. not (has_name name s)) ss) (filter (λ s. not (has_name name s)) ss))
        (cond c (r ∷ filter (λ r. not (bytes_eq name r.session)) rs) (filter (λ r. not (bytes_eq name r.session)) rs))
    one true true e f = (h.0, f)
    one false false e f = f
    one true false e f = absurd (let b : ⊥ = cc in b)
    one false true e f = absurd (let b : ⊥ = cc in b)

record Given (k : ℕ) (s : LogSession) (last : Option Verdict) : Type 0 where
  replies : List Verdict
  lawful : AreLawful s.automaton k s.samples replies
  last_is : last ≡ latest None replies

-- what the last reply to the first session of a name is the last of
given : (k : ℕ) (name : List ℕ) (ss : List LogSession) (rs : List LastReply) (s : LogSession) → AllFit k ss rs → find (has_name name) ss ≡ Some s → Given k s (last_of rs name)
given k name [] rs s h e = absurd (let b : ⊥ = cc in b)
given k name (t ∷ ss) [] s h e = absurd h
given k name (t ∷ ss) (r ∷ rs) s h e =
    one (bytes_eq name t.name) (bytes_eq name r.session) (ap (λ n. bytes_eq name n) h.0.name) e (λ f. given k name ss rs s h.1 f)
  where
    one : (b c : Bool) → c ≡ b → cond b (Some t) (find (has_name name) ss) ≡ Some s → (find (has_name name) ss ≡ Some s → Given k s (last_of rs name)) →
        Given k s (option_and_then (λ r. r.reply) (cond c (Some r) (find (λ r. bytes_eq name r.session) rs)))
    one true true e f g =
        let same : t ≡ s = cc in
        subst (λ (x : LogSession). Given k x r.reply) same (record { replies = h.0.replies; lawful = h.0.lawful; last_is = h.0.last })
    one false false e f g = g f
    one true false e f g = absurd (let b : ⊥ = cc in b)
    one false true e f g = absurd (let b : ⊥ = cc in b)

fit_given : (k : ℕ) (s : LogSession) (sample : Sample) (v : Verdict) (vs : List Verdict) → AreLawful s.automaton k (s.samples ++ sample ∷ []) (vs ++ v ∷ []) →
    (ss : List LogSession) (rs : List LastReply) → AllFit k ss rs → AllFit k (map (with_sample s sample) ss) (map (with_replies s.name (v ∷ [])) rs)
fit_given k s sample v vs l [] [] h = tt
fit_given k s sample v vs l [] (r ∷ rs) h = absurd h
fit_given k s sample v vs l (t ∷ ss) [] h = absurd h
fit_given k s sample v vs l (t ∷ ss) (r ∷ rs) h =
    (one (bytes_eq s.name t.name) (bytes_eq s.name r.session) refl (ap (λ n. bytes_eq s.name n) h.0.name), fit_given k s sample v vs l ss rs h.1)
  where
    one : (b c : Bool) → bytes_eq s.name t.name ≡ b → c ≡ b →
        Fits k (if b then record s { samples = s.samples ++ sample ∷ [] } else t) (if c then record r { reply = latest r.reply (v ∷ []) } else r)
    one true true n e = record {
      name = h.0.name ∙ sym ((bytes_eq-Decides s.name t.name).0 n);
      replies = vs ++ v ∷ [];
      lawful = l;
      last = sym (latest_more None vs v);
    }
    one false false n e = h.0
    one true false n e = absurd (let b : ⊥ = cc in b)
    one false true n e = absurd (let b : ⊥ = cc in b)

-- ---- lines

fit_after : (task : Task) (known : Known) (n : ℕ) (j : Judgement) (block : List ℕ) (rs : List Verdict) → Comes known.state j → IsBlock task known.replied n j block rs →
    AllFit task.jumps known.state.open_sessions known.replied → AllFit task.jumps (state_after known.state j).open_sessions (replied_after known.replied j rs)
fit_after task known n passed_over block rs c b h = h
fit_after task known n (refused e) block rs c b h = h
fit_after task known n (opened s) block rs c b h =
    fit_more task.jumps known.state.open_sessions known.replied s (record { session = s.name; reply = None }) h
    (record { name = refl; replies = []; lawful = subst (λ ss. AreLawful s.automaton task.jumps ss []) (sym c) tt; last = refl })
fit_after task known n (closed name) block rs c b h = fit_kept task.jumps name known.state.open_sessions known.replied h
fit_after task known n flushed block rs c b h = h
fit_after task known n (accepted s sample) block rs c (v, is, e) h =
    let g = given task.jumps s.name known.state.open_sessions known.replied s h c in
    let more = lawful_more s.automaton task.jumps [] s.samples g.replies sample v g.lawful is.lawful (λ f. is.stays (g.last_is ∙ f)) in
    subst (λ vs. AllFit task.jumps (map (with_sample s sample) known.state.open_sessions) (map (with_replies s.name vs) known.replied)) (sym e)
    (fit_given task.jumps s sample v g.replies more known.state.open_sessions known.replied h)

all_fit : (task : Task) (lines : List (List ℕ)) (known : Known) (n : ℕ) (x : List ℕ) (rs : List Verdict) (after : Known) →
    AllFit task.jumps known.state.open_sessions known.replied → AreBlocks (rules_of task) known n lines x rs after →
    AllFit task.jumps after.state.open_sessions after.replied
all_fit task [] known n x rs after h p = subst (λ (k : Known). AllFit task.jumps k.state.open_sessions k.replied) (sym p.2) h
all_fit task (line ∷ lines) known n x rs after h p =
    let j = judgement task known line in
    let here = fit_after task known n j p.0 p.2 (comes task.form task.models known.state line) p.7.is_block h in
    all_fit task lines p.4 (suc n) p.1 p.3 after (subst (λ (k : Known). AllFit task.jumps k.state.open_sessions k.replied) (sym p.7.next) here) p.8

pub replies_are : (task : Task) (lines : List (List ℕ)) (x : List ℕ) (rs : List Verdict) (after : Known) (name : List ℕ) (s : LogSession) →
    AreBlocks (rules_of task) nothing_known 1 lines x rs after → session_of after.state name ≡ Some s →
    (replies : List Verdict) × WasReplied task s (last_of after.replied name) replies
replies_are task lines x rs after name s p e =
    let g = given task.jumps name after.state.open_sessions after.replied s (all_fit task lines nothing_known 1 x rs after tt p) e in
    (g.replies, record { lawful = g.lawful; ends = g.last_is })
