-- A session at its stage.
use Rattle.std.proofs.Common.{◌≡◌, Some, refl, sym, ◌∙◌, ap, subst}
use Rattle.run_specs.specs.Logs.{Sample}
use Rattle.run_specs.specs.declared.Verdict.{Verdict}
use Rattle.run_specs.specs.SessionHistories.{Entry, IsEntry}
use Rattle.run_specs.specs.Sessions as sessions
use Rattle.run_specs.specs.Sessions.{MonitorSession, key_for, wanted}
use Rattle.run_specs.specs.Worlds.{IsFill, IsFinish}
use Rattle.interleave_core.specs.declared.seats.Stage.{Stage}
use Rattle.interleave_core.specs.declared.seats.Stage.TheVariants.{Idle, Begun, Missed, Filled}
use Rattle.interleave_core.specs.Seats.{moved, seated, Fits}

-- one that is not idle has begun a sample
pub begun_else : (s : MonitorSession) (stage : Stage) → Fits s stage → (stage ≡ Idle → ⊥) → (sample : Sample) × (s.phase ≡ sessions.Begun sample)
begun_else s Idle h n = absurd (n refl)
begun_else s Begun h n = h
begun_else s Missed h n = (h.0, h.1)
begun_else s (Filled made) h n = (h.0, h.1)

pub begun_if : (s : MonitorSession) (stage : Stage) → Fits s stage → stage ≡ Begun → (sample : Sample) × (s.phase ≡ sessions.Begun sample)
begun_if s stage h e = subst (λ x. Fits s x) e h

pub missed_if : (s : MonitorSession) (stage : Stage) → Fits s stage → stage ≡ Missed → (sample : Sample) × (s.phase ≡ sessions.Begun sample) × (wanted s ≡ Some (key_for s sample))
missed_if s stage h e = subst (λ x. Fits s x) e h

-- a finished sample, of one that has begun it
pub finish_is : (s old t : MonitorSession) (stage : Stage) (v : Verdict) → seated s stage ≡ old → Fits s stage → stage ≡ Begun →
    ((x : Sample) → s.phase ≡ sessions.Begun x → IsFinish x v s t) → (x : Sample) × IsFinish x v old t
finish_is s old t stage v view h e f =
    let begun = begun_if s stage h e in
    let same : s ≡ old = sym (ap (λ x. seated s x) e) ∙ view in
    (begun.0, subst (λ y. IsFinish begun.0 v y t) same (f begun.0 begun.1))

pub finished_idle : (s t : MonitorSession) (stage : Stage) (v : Verdict) → Fits s stage → stage ≡ Begun → ((x : Sample) → s.phase ≡ sessions.Begun x → IsFinish x v s t) → t.phase ≡ sessions.Idle
finished_idle s t stage v h e f =
    let begun = begun_if s stage h e in ap (λ (y : MonitorSession). y.phase) (f begun.0 begun.1).after

-- an entry made for one that missed it
pub fill_is : (s old : MonitorSession) (stage : Stage) (made : Entry) → seated s stage ≡ old → Fits s stage → stage ≡ Missed → wanted s ≡ Some made.key → IsEntry made →
    (x : Sample) × (y : Entry) × IsFill x y old (record s { phase = moved (λ sample. sessions.Filled sample made) s.phase })
fill_is s old stage made view h e wants entry =
    let missed = missed_if s stage h e in
    let x = missed.0 in
    let turned : record s { phase = sessions.Missed x } ≡ old =
    ap (λ p. record s { phase = moved sessions.Missed p }) (sym missed.1) ∙ sym (ap (λ y. seated s y) e) ∙ view in
    let keys : Some made.key ≡ Some (key_for s x) = sym wants ∙ missed.2 in
    let key : made.key ≡ key_for s x = cc in (
      x,
      made,
      subst (λ y. IsFill x made y (record s { phase = moved (λ sample. sessions.Filled sample made) s.phase })) turned (record {
        missed = refl;
        key = key;
        entry = entry;
        after = ap (λ p. record s { phase = moved (λ sample. sessions.Filled sample made) p }) missed.1;
      }),
    )
