-- Laws of the reports of a log.
use Rattle.std.proofs.Common.{◌≡◌, inl, inr, ℕ, suc, List, [], ◌∷◌, ◌++◌, Bool, true, false, Option, sym, ◌∙◌, ap, subst, append_assoc, codes, decimal}
use Rattle.std.specs.Prelude.{All, ⊤}
use Rattle.std.proofs.lemmas.List.Elements.{All-nil, All-weaker}
use Rattle.run_specs.specs.declared.Verdict.{Verdict}
use Rattle.run_specs.specs.declared.Verdict.TheVariants.{Overflow}
use Rattle.run_specs.specs.Automaton.{Automaton}
use Rattle.run_specs.specs.WellFormed.{IsWellFormed}
use Rattle.run_specs.specs.Logs.{Sample}
use Rattle.run_specs.specs.Aims.{to_alarm}
use Rattle.run_specs.specs.Runs.{GapRun}
use Rattle.run_specs.proofs.RunLemmas.{IsLawful-unique}
use Rattle.run_specs.proofs.FirstRunLemmas.{one_first_run}
use Rattle.report_specs.specs.Report.{AreBlocks, IsReportOf}
use Rattle.log_specs.specs.LogSessions.{LogSession, KeepsLog, Judgement, passed_over, refused, opened, closed, flushed, accepted, judge, state_after}
use Rattle.log_specs.specs.Blocks.{Task, LastReply, IsRunPart, IsAnswered, IsBlock, last_of, wants_run, printed_run, subject, verdict_word}
use Rattle.log_specs.specs.LogReports.{Known, nothing_known, judgement, known_after, rules_of, HasNoOverflowWord}
use Rattle.log_specs.proofs.SessionLemmas.{IsSound, Suits, AllSound, judged, kept, sound_keeps}

-- each automaton is one
abbrev Any : Automaton → Type 0
Any a = ⊤

-- ---- the sessions after a report

pub same_state : (task : Task) (lines : List (List ℕ)) (known other : Known) (n : ℕ) (x y : List ℕ) (rs qs : List Verdict) (a b : Known) → known.state ≡ other.state →
    AreBlocks (rules_of task) known n lines x rs a → AreBlocks (rules_of task) other n lines y qs b → a.state ≡ b.state
same_state task [] known other n x y rs qs a b e p q = ap (λ (k : Known). k.state) p.2 ∙ e ∙ sym (ap (λ (k : Known). k.state) q.2)
same_state task (line ∷ lines) known other n x y rs qs a b e p q =
    let next : p.4.state ≡ q.4.state =
    ap (λ (k : Known). k.state) p.7.next ∙ ap (λ s. state_after s (judge task.form task.models s line)) e ∙ sym (ap (λ (k : Known). k.state) q.7.next) in
    same_state task lines p.4 q.4 (suc n) p.1 q.1 p.3 q.3 a b next p.8 q.8

-- ---- the samples after a report

all_sound : (task : Task) (lines : List (List ℕ)) (known : Known) (n : ℕ) (x : List ℕ) (rs : List Verdict) (after : Known) → AllSound Any known.state →
    AreBlocks (rules_of task) known n lines x rs after → AllSound Any after.state
all_sound task [] known n x rs after ok p = subst (λ (k : Known). AllSound Any k.state) (sym p.2) ok
all_sound task (line ∷ lines) known n x rs after ok p =
    let suits = judged Any task.form task.models known.state line (λ k d lt. tt) ok in
    let next : AllSound Any p.4.state = subst (λ (k : Known). AllSound Any k.state) (sym p.7.next) (kept Any known.state (judgement task known line) suits ok) in
    all_sound task lines p.4 (suc n) p.1 p.3 after next p.8

pub all_keep : (task : Task) (lines : List (List ℕ)) (x : List ℕ) (rs : List Verdict) (after : Known) →
    AreBlocks (rules_of task) nothing_known 1 lines x rs after → All KeepsLog after.state.open_sessions
all_keep task lines x rs after p =
    All-weaker (IsSound Any) KeepsLog (sound_keeps Any) after.state.open_sessions
    (all_sound task lines nothing_known 1 x rs after (All-nil (IsSound Any)) p)

-- ---- the word `overflow`

no_word_front : (x y : List ℕ) → HasNoOverflowWord (x ++ y) → HasNoOverflowWord x
no_word_front x y h front back e = h front (back ++ y) (ap (λ z. z ++ y) e ∙ append_assoc (front ++ codes "overflow\n") back y)

no_word_back : (x y : List ℕ) → HasNoOverflowWord (x ++ y) → HasNoOverflowWord y
no_word_back x y h front back e =
    h (x ++ front) back
    (ap (λ z. x ++ z) e ∙ sym (append_assoc x (front ++ codes "overflow\n") back) ∙ ap (λ z. z ++ back) (sym (append_assoc x front (codes "overflow\n"))))

-- ---- one report

run_part_unique : (a : Automaton) (k : ℕ) (log : List Sample) (w : Bool) (x y : List ℕ) → IsWellFormed a → HasNoOverflowWord x → HasNoOverflowWord y →
    IsRunPart a k log w x → IsRunPart a k log w y → x ≡ y
run_part_unique a k log false x y wf nx ny p q = p ∙ sym q
run_part_unique a k log true x y wf nx ny (inr p) q = absurd (nx (codes "+ ") [] p.1)
run_part_unique a k log true x y wf nx ny (inl p) (inr q) = absurd (ny (codes "+ ") [] q.1)
run_part_unique a k log true x y wf nx ny (inl p) (inl q) =
    p.3 ∙ ap (λ (gaps : List GapRun). printed_run (record { start = p.0.start; gaps = gaps })) (one_first_run a k log to_alarm p.0 q.0 wf p.1 q.1).0 ∙ sym q.3

no_overflow : (task : Task) (last : Option Verdict) (n : ℕ) (s : LogSession) (sample : Sample) (v : Verdict) (x : List ℕ) → HasNoOverflowWord x →
    IsAnswered task last n s sample v x → v ≡ Overflow → ⊥
no_overflow task last n s sample v x h p e =
    let who : List ℕ = subject task.form s.name in
    h (decimal n ++ who) p.run_part
    (p.bytes ∙ ap (λ z. decimal n ++ who ++ verdict_word z ++ codes "\n" ++ p.run_part) e ∙ ap (λ z. z ++ p.run_part) (append_assoc (decimal n ++ who) (codes "overflow") (codes "\n")))

no_word_in_run : (task : Task) (last : Option Verdict) (n : ℕ) (s : LogSession) (sample : Sample) (v : Verdict) (x : List ℕ) → HasNoOverflowWord x →
    (p : IsAnswered task last n s sample v x) → HasNoOverflowWord p.run_part
no_word_in_run task last n s sample v x h p =
    no_word_back (decimal n ++ subject task.form s.name ++ verdict_word v ++ codes "\n") p.run_part (subst HasNoOverflowWord p.bytes h)

answered_unique : (task : Task) (last : Option Verdict) (n : ℕ) (s : LogSession) (sample : Sample) (v w : Verdict) (x y : List ℕ) → IsWellFormed s.automaton →
    HasNoOverflowWord x → HasNoOverflowWord y → IsAnswered task last n s sample v x → IsAnswered task last n s sample w y → (x ≡ y) × (v ≡ w)
answered_unique task last n s sample v w x y wf nx ny p q =
    let log : List Sample = s.samples ++ sample ∷ [] in
    let same : v ≡ w = IsLawful-unique s.automaton task.jumps log v w
    (no_overflow task last n s sample v x nx p) (no_overflow task last n s sample w y ny q) p.lawful q.lawful in
    let P : Verdict → Type 0 = λ z. IsRunPart s.automaton task.jumps log (wants_run task.runs last z) p.run_part in
    let part : p.run_part ≡ q.run_part = run_part_unique s.automaton task.jumps log (wants_run task.runs last w) p.run_part q.run_part wf
    (no_word_in_run task last n s sample v x nx p) (no_word_in_run task last n s sample w y ny q) (subst P same p.is_run_part) q.is_run_part in (
      p.bytes
          ∙ ap (λ z. decimal n ++ subject task.form s.name ++ verdict_word z ++ codes "\n" ++ p.run_part) same
          ∙ ap (λ z. decimal n ++ subject task.form s.name ++ verdict_word w ++ codes "\n" ++ z) part
          ∙ sym q.bytes,
      same,
    )

block_unique : (task : Task) (replied : List LastReply) (n : ℕ) (j : Judgement) (x y : List ℕ) (rs qs : List Verdict) → Suits IsWellFormed j →
    HasNoOverflowWord x → HasNoOverflowWord y → IsBlock task replied n j x rs → IsBlock task replied n j y qs → (x ≡ y) × (rs ≡ qs)
block_unique task replied n passed_over x y rs qs ok nx ny p q = (p.0 ∙ sym q.0, p.1 ∙ sym q.1)
block_unique task replied n (refused e) x y rs qs ok nx ny p q = (p.0 ∙ sym q.0, p.1 ∙ sym q.1)
block_unique task replied n (opened s) x y rs qs ok nx ny p q = (p.0 ∙ sym q.0, p.1 ∙ sym q.1)
block_unique task replied n (closed m) x y rs qs ok nx ny p q = (p.0 ∙ sym q.0, p.1 ∙ sym q.1)
block_unique task replied n flushed x y rs qs ok nx ny p q = (p.0 ∙ sym q.0, p.1 ∙ sym q.1)
block_unique task replied n (accepted s sample) x y rs qs ok nx ny p q =
    let both = answered_unique task (last_of replied s.name) n s sample p.0 q.0 x y ok.automaton nx ny p.1 q.1 in
    (both.0, p.2 ∙ ap (λ v. v ∷ []) both.1 ∙ sym q.2)

blocks_unique : (task : Task) (lines : List (List ℕ)) (known : Known) (n : ℕ) (x y : List ℕ) (rs qs : List Verdict) (a b : Known) →
    All IsWellFormed task.models → AllSound IsWellFormed known.state → HasNoOverflowWord x → HasNoOverflowWord y →
    AreBlocks (rules_of task) known n lines x rs a → AreBlocks (rules_of task) known n lines y qs b → (x ≡ y) × (rs ≡ qs)
blocks_unique task [] known n x y rs qs a b wf ok nx ny p q = (p.0 ∙ sym q.0, p.1 ∙ sym q.1)
blocks_unique task (line ∷ lines) known n x y rs qs a b wf ok nx ny p q =
    let j = judgement task known line in
    let suits = judged IsWellFormed task.form task.models known.state line wf ok in
    let nx' = subst HasNoOverflowWord p.5 nx in
    let ny' = subst HasNoOverflowWord q.5 ny in
    let here = block_unique task known.replied n j p.0 q.0 p.2 q.2 suits (no_word_front p.0 p.1 nx') (no_word_front q.0 q.1 ny') p.7.is_block q.7.is_block in
    let same : p.4 ≡ q.4 = p.7.next ∙ ap (λ zs. known_after known j zs) here.1 ∙ sym q.7.next in
    let later : AllSound IsWellFormed q.4.state = subst (λ (k : Known). AllSound IsWellFormed k.state) (sym q.7.next) (kept IsWellFormed known.state j suits ok) in
    let more = blocks_unique task lines q.4 (suc n) p.1 q.1 p.3 q.3 a b wf later (no_word_back p.0 p.1 nx') (no_word_back q.0 q.1 ny')
    (subst (λ k. AreBlocks (rules_of task) k (suc n) lines p.1 p.3 a) same p.8) q.8 in (
      p.5 ∙ ap (λ z. z ++ p.1) here.0 ∙ ap (λ z. q.0 ++ z) more.0 ∙ sym q.5,
      p.6 ∙ ap (λ z. z ++ p.3) here.1 ∙ ap (λ z. q.2 ++ z) more.1 ∙ sym q.6,
    )

pub report_unique : (task : Task) (lines : List (List ℕ)) (x y : List ℕ) (rs qs : List Verdict) → All IsWellFormed task.models →
    HasNoOverflowWord x → HasNoOverflowWord y → IsReportOf (rules_of task) lines x rs → IsReportOf (rules_of task) lines y qs → (x ≡ y) × (rs ≡ qs)
report_unique task lines x y rs qs wf nx ny p q =
    blocks_unique task lines nothing_known 1 x y rs qs p.0 q.0 wf (All-nil (IsSound IsWellFormed)) nx ny p.1 q.1
