-- What the report of a log says, by its status.
use Rattle.std.proofs.Common.{◌≡◌, ◌≢◌, inl, inr, ℕ, [], length, refl, subst, arith}
use Rattle.mon_io.specs.Faults.{Rose}
use Rattle.report_specs.specs.Report.{Rules}
use Rattle.report_loop.specs.declared.status.Status.{Status}
use Rattle.report_loop.specs.declared.status.Status.TheVariants as status
use Rattle.report_loop.specs.Outcome.{Streams, HasEnded, AllTold, SomeAlarm, OnlyOverflow, ReportsSome, Says, log_limit}
use Rattle.report_loop.proofs.WriteLemmas.{covers_map, all_some, whole_some}
use Rattle.hamon_engine.specs.Outside.{Outside}
use Rattle.hamon_engine.specs.Runs.{IsUndisturbed, IsComplete, HasLogCause}
use Rattle.hamon_engine.specs.Telling.{IsToldAlone}

pub says_no_words : {K : Type 0} (rules : Rules K) (before now : Streams) (x : Status) → Says rules before now x → x ≢ status.Words
says_no_words rules before now x says e = let none : Says rules before now status.Words = subst (λ z. Says rules before now z) e says in absurd none

-- no text has to tell the cause of a status that comes of a log
pub says_alone : {K : Type 0} (rules : Rules K) (before now : Streams) (x : Status) → Says rules before now x → IsToldAlone x
says_alone rules before now status.Model says = says
says_alone rules before now status.SavedText says = says
says_alone rules before now _ says = tt

pub says_cause : {K : Type 0} (rules : Rules K) (before now : Outside) (x : Status) → Says rules before.streams now.streams x → HasLogCause before now x
says_cause rules before now status.Clean says = says.covers.ended
says_cause rules before now status.Alarm says = says.covers.ended
says_cause rules before now status.Overflow says = says.covers.ended
says_cause rules before now status.Limit says = record { read = says.read; consumed = says.consumed; most = says.covers.why }
says_cause rules before now status.Memory says = tt
says_cause rules before now status.ReadFault says = inl says.covers.why
says_cause rules before now status.WriteFault says = says.1
says_cause rules before now _ says = absurd says

-- want of memory after the report
pub says_memory : {K : Type 0} (rules : Rules K) (before now : Streams) (x : Status) → Says rules before now x → Says rules before now status.Memory
says_memory rules before now status.Clean i = ([], covers_map rules before now [] _ _ (all_some (HasEnded before now) AllTold) i)
says_memory rules before now status.Alarm i = ([], covers_map rules before now [] _ _ (all_some (HasEnded before now) SomeAlarm) i)
says_memory rules before now status.Overflow i = ([], covers_map rules before now [] _ _ (all_some (HasEnded before now) OnlyOverflow) i)
says_memory rules before now status.ReadFault i = ([], covers_map rules before now [] _ _ (whole_some (HasEnded before now) (λ _. Rose before.log_faults now.log_faults)) i)
says_memory rules before now status.Limit i = ([], covers_map rules before now [] _ _ (whole_some (HasEnded before now) (λ read. length read ≡ log_limit)) i)
says_memory rules before now status.WriteFault i = i.0
says_memory rules before now status.Memory i = i
says_memory rules before now _ i = absurd i

-- ---- completeness

pub says_complete : {K : Type 0} (rules : Rules K) (before now : Outside) (x : Status) → IsUndisturbed before now → Says rules before.streams now.streams x → IsComplete x
says_complete rules before now status.Clean u says = inl refl
says_complete rules before now status.Alarm u says = inr (inl refl)
says_complete rules before now status.Overflow u says = inr (inr (inl refl))
says_complete rules before now status.Memory u says = inr (inr (inr refl))
says_complete rules before now status.ReadFault u says = absurd (u.log says.covers.why)
says_complete rules before now status.WriteFault u says = absurd (u.out says.1)
says_complete rules before now status.Limit u says =
    let below = u.below says.read says.consumed in
    let full = says.covers.why in
    absurd (omega (arith, below, full))
says_complete rules before now _ u says = absurd says
