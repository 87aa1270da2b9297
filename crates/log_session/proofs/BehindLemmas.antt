-- The run behind an accepted sample is that of the samples up to it.
use Rattle.std.proofs.Common.{◌≡◌, inl, inr, ℕ, List, [], ◌∷◌, ◌++◌, map, length, Bool, true, false, not, ◌==◌, cond, find, Option, Some, None, refl, sym, ap, ◌∙◌, subst, bytes_eq}
use Rattle.std.specs.Prelude.{if◌then◌else◌, nat_le}
use Rattle.std.proofs.lemmas.Bool.{and_parts}
use Rattle.replay_specs.specs.RunTexts.{IsWritable}
use Rattle.run_specs.specs.Aims.{to_alarm}
use Rattle.run_specs.specs.FirstRun.{IsFirstRun}
use Rattle.run_specs.specs.Logs.{Sample}
use Rattle.run_specs.specs.RunPasses.{RunPasses}
use Rattle.run_specs.specs.declared.Verdict.{Verdict}
use Rattle.run_specs.specs.declared.Verdict.TheVariants.{Alarm, Safe, Impossible, Overflow}
use Rattle.log_specs.specs.declared.Refusal.TheVariants as why
use Rattle.log_specs.specs.declared.RunsMode.{RunsMode}
use Rattle.log_specs.specs.declared.RunsMode.TheVariants as mode
use Rattle.log_specs.specs.Blocks.{is_alarm, was_alarm, wants_run, IsRunPart}
use Rattle.log_specs.specs.LogRows.{Cells}
use Rattle.log_specs.specs.LogSessions.{LogSession, LogState, Judgement, refused, accepted, has_name, session_of, sample_in, may_follow, judge_sample, with_sample}
use Rattle.alarm_report.specs.RunLines.{lines_of_run}
use Rattle.log_table.specs.Tables.{Table, state_with, IsAccepted}
use Rattle.log_session.specs.Behind.{StandsBehind}

-- ---- where a run is wanted

an_alarm : (v : Verdict) → is_alarm v ≡ true → v ≡ Alarm
an_alarm Alarm e = refl
an_alarm Safe e = absurd (let f : ⊥ = cc in f)
an_alarm Impossible e = absurd (let f : ⊥ = cc in f)
an_alarm Overflow e = absurd (let f : ⊥ = cc in f)

pub alarm_wanted : (m : RunsMode) (last : Option Verdict) (v : Verdict) → wants_run m last v ≡ true → v ≡ Alarm
alarm_wanted mode.None last v e = absurd (let f : ⊥ = cc in f)
alarm_wanted mode.First last v e = an_alarm v (and_parts (is_alarm v) (not (was_alarm last)) e).0
alarm_wanted mode.All last v e = an_alarm v e

-- ---- the session with one sample more

-- a sample is accepted of the session that is open
accepted_of : (at : LogState) (c : Cells) (o : Option LogSession) (s : LogSession) (x : Sample) → judge_sample at c o ≡ accepted s x → o ≡ Some s
accepted_of at c None s x e = absurd (let f : ⊥ = cc in f)
accepted_of at c (Some q) s x e = by (not (length c.cells == length q.columns)) (not (may_follow q.samples c.time)) (nat_le 200000 at.accepted) e
  where
    by : (i j k : Bool) → ◌≡◌ {A = Judgement} (if i then refused why.Cells else if j then refused why.Time else if k then refused why.Limit else accepted q (sample_in q c)) (accepted s x) → Some q ≡ Some s
    by true j k f = absurd (let g : ⊥ = cc in g)
    by false true k f = absurd (let g : ⊥ = cc in g)
    by false false true f = absurd (let g : ⊥ = cc in g)
    by false false false f = let g : q ≡ s = cc in ap Some g

abbrev longer : LogSession → Sample → LogSession
longer s x = record s { samples = s.samples ++ x ∷ [] }

found_longer : (name : List ℕ) (s : LogSession) (x : Sample) → s.name ≡ name → (ss : List LogSession) → find (has_name name) ss ≡ Some s →
    find (has_name name) (map (with_sample s x) ss) ≡ Some (longer s x)
found_longer name s x e [] f = absurd (let g : ⊥ = cc in g)
found_longer name s x e (q ∷ ss) f = by (bytes_eq name q.name) refl (found_longer name s x e ss)
  where
    by : (b : Bool) → bytes_eq name q.name ≡ b → (find (has_name name) ss ≡ Some s → find (has_name name) (map (with_sample s x) ss) ≡ Some (longer s x)) →
        find (has_name name) (map (with_sample s x) (q ∷ ss)) ≡ Some (longer s x)
    by true t go =
        let value : ◌≡◌ {A = Option LogSession} (Some q) (Some s) = sym (ap (λ c. cond c (Some q) (find (has_name name) ss)) t) ∙ f in
        let is : q ≡ s = cc (value) in
        let here : bytes_eq name s.name ≡ true = ap (λ (z : LogSession). bytes_eq name z.name) (sym is) ∙ t in
        let own : bytes_eq s.name q.name ≡ true = ap (λ z. bytes_eq z q.name) e ∙ t in
        ap (λ c. find (has_name name) ((if c then longer s x else q) ∷ map (with_sample s x) ss)) own
        ∙ ap (λ c. cond c (Some (longer s x)) (find (has_name name) (map (with_sample s x) ss))) here
    by false t go =
        let own : bytes_eq s.name q.name ≡ false = ap (λ z. bytes_eq z q.name) e ∙ t in
        let rest = go (sym (ap (λ c. cond c (Some q) (find (has_name name) ss)) t) ∙ f) in
        cc (own, t, rest)

-- ---- the run behind it

module _ (t u : Table) (begun : Bool) (name : List ℕ) (cells : Cells) (v : Verdict) (h : IsAccepted t u name cells v) where
  session_after : session_of (state_with true u) name ≡ Some (longer h.session h.sample)
  session_after =
      ap (λ (z : Table). session_of (state_with true z) name) h.next
      ∙ found_longer name h.session h.sample h.named t.sessions
      (accepted_of (state_with begun t) cells (session_of (state_with begun t) name) h.session h.sample (h.judged begun))

  is_session : (s : LogSession) → session_of (state_with true u) name ≡ Some s → s ≡ longer h.session h.sample
  is_session s e = let f : ◌≡◌ {A = Option LogSession} (Some s) (Some (longer h.session h.sample)) = sym e ∙ session_after in cc (f)

  same_jumps : (k : ℕ) → k ≡ t.jumps → u.jumps ≡ k
  same_jumps k e = ap (λ (z : Table). z.jumps) h.next ∙ sym e

  pub run_part : (w : Bool) (k : ℕ) (bytes : List ℕ) → k ≡ t.jumps → StandsBehind u name w bytes →
      IsRunPart h.session.automaton k (h.session.samples ++ h.sample ∷ []) w bytes
  run_part false k bytes e b = b
  run_part true k bytes e (inl (gaps, f, same)) = inl (
    f.run,
    subst (λ (s : LogSession). IsFirstRun s.automaton k s.samples to_alarm f.run) (is_session f.session f.open_one)
        (subst (λ j. IsFirstRun f.session.automaton j f.session.samples to_alarm f.run) (same_jumps k e) f.first),
    subst IsWritable (sym f.same) f.writable,
    same ∙ ap (λ gs. lines_of_run (Some gs)) (sym f.same),
  )
  run_part true k bytes e (inr (p, same)) = inr (
    subst (λ (s : LogSession). RunPasses s.automaton k s.samples to_alarm) (is_session p.session p.open_one)
        (subst (λ j. RunPasses p.session.automaton j p.session.samples to_alarm) (same_jumps k e) p.passes),
    same,
  )
