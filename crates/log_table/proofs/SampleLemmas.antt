-- How a sample of an open session is judged.
use Rattle.std.proofs.Common.{◌≡◌, inl, inr, ℕ, suc, ◌+◌, ◌≤◌, ◌<◌, List, [], ◌∷◌, ◌++◌, length, Bool, true, false, not, ◌==◌, Some, refl, sym, ap, ◌∙◌, subst, arith, bytes_eq}
use Rattle.std.specs.Prelude.{All, if◌then◌else◌, nat_le, IfSome}
use Rattle.std.specs.List.{IsDistinct}
use Rattle.std.specs.Map.{keys_of, lookup, set_value}
use Rattle.std.proofs.lemmas.Bool.{eq-eqb, ne_eqb, le-leb, leb-false}
use Rattle.std.proofs.lemmas.List.{length-map, length_push}
use Rattle.run_specs.specs.Automaton.{Automaton, width}
use Rattle.run_specs.specs.Logs.{Sample}
use Rattle.run_specs.specs.declared.Verdict.{Verdict}
use Rattle.run_specs.specs.declared.Verdict.TheVariants.{Overflow}
use Rattle.run_specs.specs.SessionHistories.{verdict_at}
use Rattle.run_specs.specs.Sessions.{MonitorSession, IsMonitorSession, AreColumns, MayBegin, accepted}
use Rattle.run_specs.specs.Verdicts.{IsLawful}
use Rattle.log_specs.specs.declared.Refusal.{Refusal}
use Rattle.log_specs.specs.declared.Refusal.TheVariants as why
use Rattle.log_specs.specs.LogSessions.{LogSession, Judgement, refused, sample_in, may_follow, judge_sample, session_of}
use Rattle.log_specs.specs.LogSessions as sessions
use Rattle.live_session.specs.Driven.{IsDriven}
use Rattle.live_session.proofs.DrivenLemmas.{driven_log, driven_columns, driven_automaton, driven_jumps, driven_idle}
use Rattle.log_table.specs.declared.not_taken.NotTaken.{NotTaken}
use Rattle.log_table.specs.declared.not_taken.NotTaken.TheVariants as not_taken
use Rattle.log_table.specs.Refusals.{IsNotTaken, IsRefusedBy, IsSampleRefused}
use Rattle.log_table.specs.Tables.{Table, state_with, cells_in, name_at, IsAccepted}
use Rattle.log_table.specs.Parts.{Opened, log_session_of, table_of, IsOpen, IsKept}
use Rattle.log_table.proofs.CellLemmas.{placed_under}
use Rattle.log_table.proofs.TimeLemmas.{follows, never_follows}
use Rattle.log_table.proofs.EntryLemmas.{found, last_found, has_one, written_sessions, written_replies, written_there, unwritten, all_written}

abbrev Entries : Type 0
Entries = List (List ℕ × Opened)

-- ---- the refusals, in their order

module _ (t : Table) (begun : Bool) (name : List ℕ) (s : MonitorSession) (sample : Sample) where
  last_of_all : Bool → Judgement
  last_of_all full = if full then refused why.Limit else sessions.accepted (log_session_of name s) (sample_in (log_session_of name s) (cells_in sample))

  from_time : Bool → Bool → Judgement
  from_time follows full = if not follows then refused why.Time else last_of_all full

  all_three : Bool → Bool → Bool → Judgement
  all_three as_many follows full = if not as_many then refused why.Cells else from_time follows full

  abbrev of_session : Judgement
  of_session = judge_sample (state_with begun t) (cells_in sample) (Some (log_session_of name s))

  judged : of_session ≡ all_three (length sample.cells == length (log_session_of name s).columns) (may_follow s.log sample.time) (nat_le 200000 t.accepted)
  unfolding last_of_all from_time all_three
  judged = refl

  by_tests : (x y z : Bool) → (length sample.cells == length (log_session_of name s).columns) ≡ x → may_follow s.log sample.time ≡ y → nat_le 200000 t.accepted ≡ z →
      of_session ≡ all_three x y z
  by_tests x y z e f g = judged ∙ cc (e, f, g)

  columns_kept : length (log_session_of name s).columns ≡ length s.columns
  columns_kept = length-map s.columns (name_at s.history.automaton.variables)

  as_many_cells : length sample.cells ≡ length s.columns → (length sample.cells == length (log_session_of name s).columns) ≡ true
  as_many_cells e = eq-eqb (length sample.cells) (length (log_session_of name s).columns) (e ∙ sym columns_kept)

  refused_so : (full : Bool) → full ≡ nat_le 200000 t.accepted → length s.log ≤ t.accepted → (e : Refusal) → IsRefusedBy full s sample e → of_session ≡ refused e
  unfolding all_three from_time last_of_all
  refused_so full is few why.Cells n =
      by_tests false (may_follow s.log sample.time) (nat_le 200000 t.accepted)
      (ne_eqb (length sample.cells) (length (log_session_of name s).columns) (λ e. n (e ∙ columns_kept))) refl refl
  refused_so full is few why.Time h =
      by_tests true false (nat_le 200000 t.accepted) (as_many_cells h.0) (never_follows s.log sample.time h.1) refl
  refused_so full is few why.Limit h =
      let limit : nat_le 200000 t.accepted ≡ true = elim h.2 [
        | inl e ↦ sym is ∙ e
        | inr le ↦ le-leb 200000 t.accepted (omega (arith, le, few))
      ] in
      by_tests true true true (as_many_cells h.0) (follows s.log sample.time h.1) limit
  refused_so full is few why.Long h = absurd h
  refused_so full is few why.Text h = absurd h
  refused_so full is few why.Fields h = absurd h
  refused_so full is few why.Name h = absurd h
  refused_so full is few why.Number h = absurd h
  refused_so full is few why.Again h = absurd h
  refused_so full is few why.Unknown h = absurd h
  refused_so full is few why.Column h = absurd h

  -- the cells by the columns' names are those by the columns
  same_sample : AreColumns (width s.history.automaton) s.columns → IsDistinct bytes_eq s.history.automaton.variables →
      sample_in (log_session_of name s) (cells_in sample) ≡ accepted s sample
  same_sample columns distinct =
      let cells = placed_under s.history.automaton.variables s.columns sample.cells distinct columns in cc (cells)

  accepted_so : nat_le 200000 t.accepted ≡ false → AreColumns (width s.history.automaton) s.columns → IsDistinct bytes_eq s.history.automaton.variables → MayBegin s sample →
      of_session ≡ sessions.accepted (log_session_of name s) (accepted s sample)
  unfolding all_three from_time last_of_all
  accepted_so room columns distinct may =
      by_tests true true false (as_many_cells may.cells) (follows s.log sample.time may.time) room
      ∙ ap (sessions.accepted (log_session_of name s)) (same_sample columns distinct)

-- ---- a refused sample

module _ (k n : ℕ) (es : Entries) (t : Table) (view : table_of k es n ≡ t) (kept : IsKept k es n) (name key : List ℕ) (is : key ≡ name) (o : Opened)
    (there : lookup (bytes_eq key) es ≡ Some o) (sample : Sample) (full : Bool) (limit : full ≡ nat_le 200000 n) where
  there_by_name : lookup (bytes_eq name) es ≡ Some o
  there_by_name = subst (λ (q : List ℕ). lookup (bytes_eq q) es ≡ Some o) is there

  pub is_open : IsOpen k n o
  is_open = has_one key (IsOpen k n) es o there kept.opened

  open_session : (begun : Bool) → session_of (state_with begun t) name ≡ Some (log_session_of name o.session)
  open_session begun = subst (λ (u : Table). session_of (state_with begun u) name ≡ Some (log_session_of name o.session)) view (found name es o there_by_name)

  by_session : (begun : Bool) → judge_sample (state_with begun t) (cells_in sample) (session_of (state_with begun t) name) ≡ of_session t begun name o.session sample
  by_session begun = ap (judge_sample (state_with begun t) (cells_in sample)) (open_session begun)

  same_count : t.accepted ≡ n
  same_count = sym (ap (λ (u : Table). u.accepted) view)

  pub sample_refused : (e : NotTaken) → IsSampleRefused full o.session sample e →
      IsNotTaken (λ begun. judge_sample (state_with begun t) (cells_in sample) (session_of (state_with begun t) name)) e
  sample_refused not_taken.Memory h = tt
  sample_refused (not_taken.Refused e) h = λ begun.
      by_session begun
      ∙ refused_so t begun name o.session sample full (limit ∙ ap (nat_le 200000) (sym same_count)) (subst (λ m. length o.session.log ≤ m) (sym same_count) is_open.few) e h

  -- what is written after a refusal is what was there
  pub as_before : (w : Opened) → w ≡ o → (after : Entries) → after ≡ set_value (bytes_eq key) es w → after ≡ es
  as_before w e after f = f ∙ ap (set_value (bytes_eq key) es) e ∙ unwritten key es o there

  -- ---- an accepted sample

  module _ (w : Opened) (v : Verdict) (room : full ≡ false) (driven : IsDriven o.session w.session sample v) (last : w.last ≡ Some v) (monitor : IsMonitorSession o.session) where
    abbrev written : Entries
    written = set_value (bytes_eq name) es w

    grows : (x : Opened) → IsOpen k n x → IsOpen k (n + 1) x
    grows x h = record {
      idle = h.idle;
      jumps = h.jumps;
      few = let few = h.few in omega (arith, few);
      distinct = h.distinct;
      told = h.told;
    }

    open_after : IsOpen k (n + 1) w
    open_after = record {
      idle = driven_idle o.session w.session sample v driven;
      jumps = driven_jumps o.session w.session sample v driven ∙ is_open.jumps;
      few =
          let count : length w.session.log ≡ length o.session.log + 1 = ap length (driven_log o.session w.session sample v driven) ∙ length_push o.session.log (accepted o.session sample) in
          let few = is_open.few in
          omega (arith, count, few);
      distinct = subst (λ (a : Automaton). IsDistinct bytes_eq a.variables) (sym (driven_automaton o.session w.session sample v driven)) is_open.distinct;
      told =
          let count : suc (length o.session.log) ≡ length w.session.log =
          let log = ap length (driven_log o.session w.session sample v driven) ∙ length_push o.session.log (accepted o.session sample) in
          omega (arith, log) in
          subst (λ l. IfSome l (λ u. (i : ℕ) × (suc i ≡ length w.session.log) × (verdict_at w.session.history i ≡ Some u))) (sym last) (length o.session.log, count, driven.tells);
    }

    pub kept_writing : (after : Entries) → after ≡ set_value (bytes_eq key) es w → IsDistinct bytes_eq (keys_of after) → length after ≡ length es → IsKept k after (n + 1)
    kept_writing after e distinct len = record {
      few_jumps = kept.few_jumps;
      distinct = distinct;
      opened = subst (λ (xs : Entries). All (λ x. IsOpen k (n + 1) x.1) xs) (sym e) (all_written key (IsOpen k n) (IsOpen k (n + 1)) grows w open_after es kept.opened);
      few = let few = kept.few in omega (arith, few, len);
      limited =
          let below : n < 200000 = leb-false 200000 n (sym limit ∙ room) in
          omega (arith, below);
    }

    session_after : log_session_of name w.session ≡ record (log_session_of name o.session) { samples = o.session.log ++ accepted o.session sample ∷ [] }
    session_after =
        let log = driven_log o.session w.session sample v driven in
        let columns = driven_columns o.session w.session sample v driven in
        let automaton = driven_automaton o.session w.session sample v driven in
        cc (log, columns, automaton)

    stays_so : o.last ≡ Some Overflow → v ≡ Overflow
    stays_so e =
        let told : (i : ℕ) × (suc i ≡ length o.session.log) × (verdict_at o.session.history i ≡ Some Overflow) =
        subst (λ l. IfSome l (λ u. (i : ℕ) × (suc i ≡ length o.session.log) × (verdict_at o.session.history i ≡ Some u))) e is_open.told in
        driven.stays told.0 told.2

    accepted_named : IsAccepted (table_of k es n) (table_of k written (n + 1)) name (cells_in sample) v
    accepted_named = record {
      session = log_session_of name o.session;
      sample = accepted o.session sample;
      judged = λ begun.
          ap (judge_sample (state_with begun (table_of k es n)) (cells_in sample)) (found name es o there_by_name)
          ∙ accepted_so (table_of k es n) begun name o.session sample (sym limit ∙ room) monitor.columns is_open.distinct driven.may_begin;
      named = refl;
      lawful = subst (λ j. IsLawful o.session.history.automaton j (o.session.log ++ accepted o.session sample ∷ []) v) is_open.jumps driven.lawful;
      stays = λ e. stays_so (sym (last_found name es o there_by_name) ∙ e);
      next =
          let sessions = written_sessions name o w (accepted o.session sample) session_after es kept.distinct there_by_name in
          let replies = written_replies name o w v last es kept.distinct there_by_name in
          cc (sessions, replies);
      told = last_found name written w (written_there name o w es there_by_name) ∙ last;
    }

    pub sample_accepted : (after : Entries) → after ≡ set_value (bytes_eq key) es w → IsAccepted t (table_of k after (n + 1)) name (cells_in sample) v
    sample_accepted after e =
        subst (λ (u : Table). IsAccepted u (table_of k after (n + 1)) name (cells_in sample) v) view
        (subst (λ (xs : Entries). IsAccepted (table_of k es n) (table_of k xs (n + 1)) name (cells_in sample) v)
        (sym (e ∙ ap (λ (q : List ℕ). set_value (bytes_eq q) es w) is)) accepted_named)
