-- What a stored session keeps, through its calls.
use Rattle.std.proofs.Common.{◌≡◌, ℕ, suc, ◌≤◌, ◌^◌, Bool, List, [], ◌∷◌, ◌++◌, length, length-append, Option, Some, None, IfSome, refl, sym, ◌∙◌, ap, subst, arith, one-mul}
use Rattle.std.specs.Int.{◌∣◌}
use Rattle.std.proofs.Math.Nat.{dvd-mul_right}
use Rattle.std.proofs.lemmas.List.{take_all}
use Rattle.number_specs.specs.LogNumbers.{IsLogNumber}
use Rattle.run_specs.proofs.ReplyLemmas.{session_all_lawful}
use Rattle.poly_specs.specs.Elimination.{gcd}
use Rattle.poly_specs.specs.Fractions.{zero_fraction}
use Rattle.run_specs.specs.declared.Verdict.{Verdict}
use Rattle.run_specs.specs.declared.Verdict.TheVariants.{Overflow}
use Rattle.run_specs.specs.Automaton.{Automaton, width}
use Rattle.run_specs.specs.WellFormed.{IsWellFormed}
use Rattle.run_specs.specs.Logs.{Sample, IsSample}
use Rattle.gap_keys.specs.Views.{StateView, AreWide, states_of}
use Rattle.run_specs.specs.Openings.{IsOpening}
use Rattle.run_specs.specs.Verdicts.{IsLawful}
use Rattle.run_specs.specs.SessionHistories.{Entry, IsEntry, SessionHistory, opening_states, verdict_at}
use Rattle.run_specs.specs.Sessions.{MonitorSession, IsMonitorSession, Idle, Begun, PhaseHolds, AreColumns, MayBegin, accepted, last_time, wanted}
use Rattle.run_specs.specs.Worlds.{joined, IsBegin, IsFinish}
use Rattle.live_session.specs.declared.prepared.Prepared.{Prepared}
use Rattle.live_session.specs.Entries.{opening_of, history_of, with_given, verdict_with}
use Rattle.live_session.specs.Parts.{phase_of, session_of, IsPrepared, IsReady, IsStored}
use Rattle.live_session.proofs.StepLemmas.{begun_keeps, given_keeps, finished_keeps, idle_keeps}
use Rattle.live_session.proofs.VerdictLemmas.{verdict_told, told_overflowed, overflow_stays}

-- ---- a new session

zero_is : IsLogNumber zero_fraction
unfolding gcd
zero_is = record {
  lowest_terms = record { positive = record { lt = tt }; lowest_terms = refl };
  small = omega arith;
  few_decimals = subst (λ k. 1 ∣ k) (one-mul (10 ^ 18)) (dvd-mul_right 1 (10 ^ 18));
}

new_is : (a : Automaton) (jumps : ℕ) (columns : List ℕ) (opened : Bool) (belief : List StateView) (X Y : Type 0) → IsWellFormed a → jumps ≤ 6 → AreColumns (width a) columns →
    IsOpening a (opening_of opened (states_of belief)) → states_of belief ≡ opening_states (history_of a 0 opened belief []) → AreWide (width a) belief →
    IsStored (session_of (history_of a jumps opened belief []) columns [] None None) belief None X Y
new_is a jumps columns opened belief X Y wf few are opening same wide = record {
  session = record {
    columns = are;
    log = record { each = λ k d h. absurd (omega (arith, h)); rise = tt };
    room = omega arith;
    history = record {
      automaton = wf;
      jumps = few;
      opening = opening;
      not_opened = λ n. refl;
      linked = tt;
      later_gaps = tt;
    };
    entries = tt;
    told = λ i h. absurd (omega (arith, h));
    phase = tt;
  };
  opening = same;
  wide = wide;
  time = zero_is;
  ready = tt;
}

pub new_by : (a : Automaton) (jumps : ℕ) (columns : List ℕ) (opened : Bool) (belief : List StateView) (gaps : List Entry) (log : List Sample) (X Y : Type 0) → gaps ≡ [] → log ≡ [] → IsWellFormed a →
    jumps ≤ 6 → AreColumns (width a) columns → IsOpening a (opening_of opened (states_of belief)) → states_of belief ≡ opening_states (history_of a 0 opened belief []) → AreWide (width a) belief →
    IsStored (session_of (history_of a jumps opened belief gaps) columns log None None) belief None X Y
new_by a jumps columns opened belief gaps log X Y eg el wf few are opening same wide = rw (eg, el) (new_is a jumps columns opened belief X Y wf few are opening same wide)

-- ---- phases

pub not_begun : (begun : Option Prepared) → phase_of begun ≡ Idle → begun ≡ None
not_begun None e = refl
not_begun (Some b) e = absurd (let x : ⊥ = cc in x)

pub is_begun : (begun : Option Prepared) (sample : Sample) → phase_of begun ≡ Begun sample → (b : Prepared) × (begun ≡ Some b) × (b.sample ≡ sample)
is_begun None sample e = absurd (let x : ⊥ = cc in x)
is_begun (Some b) sample e = (b, refl, let f : b.sample ≡ sample = cc in f)

idle_given : (s : MonitorSession) (g : Option Entry) → PhaseHolds s Idle g → g ≡ None
idle_given s None h = refl
idle_given s (Some e) h = absurd h

-- what is prepared stays so, where only the phase and the given entry differ
ready_there : (s t : MonitorSession) (X Y : Type 0) (begun : Option Prepared) → ((b : Prepared) → IsPrepared s b → IsPrepared t b) → IfSome begun (IsReady s X Y) → IfSome begun (IsReady t X Y)
ready_there s t X Y None f h = tt
ready_there s t X Y (Some b) f h = record { prepared = f b h.prepared; log = h.log; gaps = h.gaps }

prepared_there : (h : SessionHistory) (columns : List ℕ) (log : List Sample) (g f : Option Entry) (begun later : Option Prepared) (b : Prepared) →
    IsPrepared (session_of h columns log g begun) b → IsPrepared (session_of h columns log f later) b
prepared_there h columns log g f begun later b p = record { placed = p.placed; key = p.key; time = p.time }

-- ---- the calls

pub wants_key : (h : SessionHistory) (columns : List ℕ) (log : List Sample) (b : Prepared) (belief : List StateView) (X Y : Type 0) →
    IsStored (session_of h columns log None (Some b)) belief (Some b) X Y → b.key ≡ wanted (session_of h columns log None (Some b))
wants_key h columns log b belief X Y is = is.ready.prepared.key

pub given_stored : (h : SessionHistory) (columns : List ℕ) (log : List Sample) (g : Option Entry) (e : Entry) (begun : Option Prepared) (belief : List StateView) (X Y : Type 0) →
    IsStored (session_of h columns log g begun) belief begun X Y → IsEntry e → wanted (session_of h columns log g begun) ≡ Some e.key →
    IsStored (session_of h columns log (Some e) begun) belief begun X Y
given_stored h columns log g e begun belief X Y is entry wants = record {
  session = given_keeps (session_of h columns log g begun) e is.session entry wants;
  opening = is.opening;
  wide = is.wide;
  time = is.time;
  ready = ready_there (session_of h columns log g begun) (session_of h columns log (Some e) begun) X Y begun (prepared_there h columns log g (Some e) begun begun) is.ready;
}

pub idle_stored : (h : SessionHistory) (columns : List ℕ) (log : List Sample) (g : Option Entry) (begun : Option Prepared) (belief : List StateView) (X Y X' Y' : Type 0) →
    IsStored (session_of h columns log g begun) belief begun X Y → IsStored (session_of h columns log None None) belief None X' Y'
idle_stored h columns log g begun belief X Y X' Y' is =
    record { session = idle_keeps (session_of h columns log g begun) is.session; opening = is.opening; wide = is.wide; time = is.time; ready = tt }

-- more room, where no sample is begun
still_stored : (s : MonitorSession) (begun : Option Prepared) (belief : List StateView) (X Y X' Y' : Type 0) → phase_of begun ≡ Idle → IsStored s belief begun X Y →
    IsStored s belief begun X' Y'
still_stored s begun belief X Y X' Y' idle is =
    record { session = is.session; opening = is.opening; wide = is.wide; time = is.time; ready = rw (not_begun begun idle) tt }

pub still_by : (h later : SessionHistory) (columns : List ℕ) (log longer : List Sample) (g : Option Entry) (begun : Option Prepared) (belief : List StateView) (s : MonitorSession) (X Y X' Y' : Type 0) →
    IsStored (session_of h columns log g begun) belief begun X Y → session_of h columns log g begun ≡ s → s.phase ≡ Idle → later ≡ h → longer ≡ log →
    IsStored (session_of later columns longer g begun) belief begun X' Y'
still_by h later columns log longer g begun belief s X Y X' Y' is view idle eh el =
    rw (eh, el) (still_stored (session_of h columns log g begun) begun belief X Y X' Y' (subst (λ (z : MonitorSession). z.phase ≡ Idle) (sym view) idle) is)

-- the stored session with the begun sample, and that this is a step
pub record HasBegun (s t : MonitorSession) (b : Prepared) (belief : List StateView) (X Y : Type 0) : Type 0 where
  pub stored : IsStored t belief (Some b) X Y
  pub step : IsBegin b.sample s t

pub begun_stored : (h : SessionHistory) (columns : List ℕ) (log : List Sample) (g : Option Entry) (begun : Option Prepared) (b : Prepared) (belief : List StateView) (X Y X' Y' : Type 0) →
    IsStored (session_of h columns log g begun) belief begun X Y → phase_of begun ≡ Idle → MayBegin (session_of h columns log g begun) b.sample → IsSample (length b.sample.cells) b.sample →
    IsPrepared (session_of h columns log g begun) b → X' → Y' → HasBegun (session_of h columns log g begun) (session_of h columns log g (Some b)) b belief X' Y'
begun_stored h columns log g (Some p) b belief X Y X' Y' is idle may sized prepared x y = absurd (let f : ⊥ = cc in f)
begun_stored h columns log (Some e) None b belief X Y X' Y' is idle may sized prepared x y = absurd is.session.phase
begun_stored h columns log None None b belief X Y X' Y' is idle may sized prepared x y =
    let s : MonitorSession = session_of h columns log None None in
    let t : MonitorSession = session_of h columns log None (Some b) in
    let step : IsBegin b.sample s t = record { idle = refl; may_begin = may; after = refl } in
    record {
      stored = record {
        session = begun_keeps s t b.sample is.session sized step;
        opening = is.opening;
        wide = is.wide;
        time = is.time;
        ready = record { prepared = prepared_there h columns log None None None (Some b) b prepared; log = x; gaps = y };
      };
      step = step;
    }

-- ---- a finished sample

last_time_push : (ss : List Sample) (x : Sample) → last_time (ss ++ x ∷ []) ≡ x.time
last_time_push [] x = refl
last_time_push (s ∷ ss) x = next ss (last_time_push ss x)
  where
    next : (ss : List Sample) → last_time (ss ++ x ∷ []) ≡ x.time → last_time (s ∷ (ss ++ x ∷ [])) ≡ x.time
    next [] e = e
    next (t ∷ ss) e = e

-- the stored session without the sample, that this is a step, and what its verdict is
pub record HasFinished (s t : MonitorSession) (b : Prepared) (belief : List StateView) (v : Verdict) (X Y : Type 0) : Type 0 where
  pub stored : IsStored t belief None X Y
  pub step : IsFinish b.sample v s t
  pub lawful : IsLawful t.history.automaton t.history.jumps t.log v
  pub stays : (i : ℕ) → verdict_at s.history i ≡ Some Overflow → v ≡ Overflow

module _ (a : Automaton) (k : ℕ) (opened : Bool) (belief : List StateView) (gaps : List Entry) (columns : List ℕ) (log : List Sample) (g : Option Entry) (b : Prepared) (X Y X' Y' : Type 0) where
  abbrev before : MonitorSession
  before = session_of (history_of a k opened belief gaps) columns log g (Some b)

  abbrev after : MonitorSession
  after = session_of (history_of a k opened belief (with_given gaps g)) columns (log ++ b.placed ∷ []) None None

  joined_parts : (f : Option Entry) → joined (history_of a k opened belief gaps) f ≡ history_of a k opened belief (with_given gaps f)
  joined_parts None = refl
  joined_parts (Some e) = refl

  pub finished_stored : IsStored before belief (Some b) X Y → wanted before ≡ None → HasFinished before after b belief (verdict_with opened gaps g) X' Y'
  finished_stored is nothing = record { stored = stored; step = step; lawful = lawful; stays = λ i e. overflow_stays before b.sample opened (states_of belief) is.session refl refl (told_overflowed before.history i e) }
    where
      v : Verdict
      v = verdict_with opened gaps g

      placed_is : b.placed ≡ accepted before b.sample
      placed_is = is.ready.prepared.placed

      tells : verdict_at (joined before.history g) (length log) ≡ Some v
      tells = verdict_told before b.sample opened (states_of belief) is.session refl nothing refl

      step : IsFinish b.sample v before after
      step = record {
        begun = refl;
        nothing_wanted = nothing;
        tells = tells;
        after = ap (λ x. session_of (history_of a k opened belief (with_given gaps g)) columns (log ++ x ∷ []) None None) placed_is
            ∙ ap (λ h. session_of h columns (log ++ accepted before b.sample ∷ []) None None) (sym (joined_parts g));
      }

      session : IsMonitorSession after
      session = finished_keeps before after b.sample v is.session step

      stored : IsStored after belief None X' Y'
      stored = record {
        session = session;
        opening = is.opening;
        wide = is.wide;
        time = subst IsLogNumber (sym (last_time_push log b.placed ∙ ap (λ (x : Sample). x.time) placed_is)) is.ready.prepared.time;
        ready = tt;
      }

      longer : length (log ++ b.placed ∷ []) ≡ suc (length log)
      longer = omega (arith, length-append log (b.placed ∷ []))

      lawful : IsLawful a k (log ++ b.placed ∷ []) v
      lawful =
          subst (λ ss. IsLawful a k ss v) (take_all (suc (length log)) (log ++ b.placed ∷ []) (omega (arith, longer)))
          (session_all_lawful after (length log) v session (omega (arith, longer)) (ap (λ h. verdict_at h (length log)) (sym (joined_parts g)) ∙ tells))

-- ---- by equations: from the fields before a call to those after it

-- the session afterwards is stored, and the call is a step
pub record Begins (s t : MonitorSession) (sample : Sample) (b : Prepared) (belief : List StateView) (X Y : Type 0) : Type 0 where
  pub stored : IsStored t belief (Some b) X Y
  pub step : IsBegin sample s t

pub begin_by : (h later : SessionHistory) (columns : List ℕ) (log longer : List Sample) (g : Option Entry) (begun : Option Prepared) (b : Prepared) (sample : Sample) (belief : List StateView)
    (s : MonitorSession) (X Y X' Y' : Type 0) → IsStored (session_of h columns log g begun) belief begun X Y → session_of h columns log g begun ≡ s → s.phase ≡ Idle → MayBegin s sample →
    IsSample (length sample.cells) sample → IsPrepared s b → b.sample ≡ sample → later ≡ h → longer ≡ log → X' → Y' →
    Begins s (session_of later columns longer g (Some b)) sample b belief X' Y'
begin_by h later columns log longer g begun b sample belief s X Y X' Y' is view idle may sized prepared same eh el x y =
    rw (eh, el) (record { stored = r.stored; step = subst (λ z. IsBegin z s (session_of h columns log g (Some b))) same (subst (λ z. IsBegin b.sample z (session_of h columns log g (Some b))) view r.step) })
  where
    r : HasBegun (session_of h columns log g begun) (session_of h columns log g (Some b)) b belief X' Y'
    r = begun_stored h columns log g begun b belief X Y X' Y' is (subst (λ (z : MonitorSession). z.phase ≡ Idle) (sym view) idle)
        (subst (λ z. MayBegin (session_of h columns log g begun) z) (sym same) (subst (λ z. MayBegin z sample) (sym view) may))
        (subst (λ (z : Sample). IsSample (length z.cells) z) (sym same) sized) (subst (λ z. IsPrepared z b) (sym view) prepared) x y

-- the session afterwards is stored, and the call is a step that tells a verdict
pub record Finishes (s t : MonitorSession) (belief : List StateView) (later : Option Prepared) (v : Verdict) (X Y : Type 0) : Type 0 where
  pub stored : IsStored t belief later X Y
  pub step : (sample : Sample) → s.phase ≡ Begun sample → IsFinish sample v s t
  pub lawful : IsLawful t.history.automaton t.history.jumps t.log v
  pub stays : (i : ℕ) → verdict_at s.history i ≡ Some Overflow → v ≡ Overflow

pub finish_by : (a : Automaton) (k : ℕ) (opened : Bool) (belief : List StateView) (gaps more : List Entry) (columns : List ℕ) (log longer : List Sample) (g left : Option Entry)
    (begun later : Option Prepared) (b : Prepared) (v : Verdict) (s : MonitorSession) (X Y X' Y' : Type 0) →
    IsStored (session_of (history_of a k opened belief gaps) columns log g begun) belief begun X Y → session_of (history_of a k opened belief gaps) columns log g begun ≡ s →
    begun ≡ Some b → wanted s ≡ None → more ≡ with_given gaps g → longer ≡ log ++ b.placed ∷ [] → v ≡ verdict_with opened gaps g → left ≡ None → later ≡ None →
    Finishes s (session_of (history_of a k opened belief more) columns longer left later) belief later v X' Y'
finish_by a k opened belief gaps more columns log longer g left begun later b v s X Y X' Y' is view has nothing em el ev none no_more =
    rw (em, el, ev, none, no_more) (subst (λ z. Finishes z new belief None (verdict_with opened gaps g) X' Y') same done)
  where
    old : MonitorSession
    old = before a k opened belief gaps columns log g b X Y X' Y'

    new : MonitorSession
    new = after a k opened belief gaps columns log g b X Y X' Y'

    same : old ≡ s
    same = ap (λ z. session_of (history_of a k opened belief gaps) columns log g z) (sym has) ∙ view

    r : HasFinished old new b belief (verdict_with opened gaps g) X' Y'
    r = finished_stored a k opened belief gaps columns log g b X Y X' Y'
        (subst (λ z. IsStored (session_of (history_of a k opened belief gaps) columns log g z) belief z X Y) has is) (subst (λ z. wanted z ≡ None) (sym same) nothing)

    done : Finishes old new belief None (verdict_with opened gaps g) X' Y'
    done = record {
      stored = r.stored;
      step = λ sample e. subst (λ z. IsFinish z (verdict_with opened gaps g) old new) (let f : b.sample ≡ sample = cc in f) r.step;
      lawful = r.lawful;
      stays = r.stays;
    }
