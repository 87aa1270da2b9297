use Rattle.std.proofs.Common.{◌≡◌, ◌-◌, length, sym, ap, subst}
use Rattle.std.specs.Prelude.{IfOk}
use Rattle.std.proofs.lemmas.Result.{IfOk-weaker}
use Rattle.log_table.specs.FirstRuns.{EndsInAlarm, IsSessionRun, SessionRunPasses}
use Rattle.alarm_run.specs.Alarms.{IsAlarmRun}
use Rattle.log_table.specs.Parts.{Opened}
use Rattle.log_table.proofs.RunLemmas.{alarm_read, run_read, passes_read}
use Rattle.log_table.proofs.opened.OpenSession.first_run.Goals as goal

pub alarm_run-requires : goal.alarm_run-requires
alarm_run-requires c =
    let same : c.self.inside.session ≡ c.args.self.now.session = ap (λ (o : Opened). o.session) c.self.view_is in
    record { alarm = alarm_read c.self.inside.session c.log.ensures.kept c.history.result c.log.result.now c.history.ensures.value c.log.ensures.value (subst EndsInAlarm (sym same) c.requires.alarm) }

pub returns-clause-ok : goal.returns-clause-ok
returns-clause-ok c =
    let same : c.self.inside.session ≡ c.args.self.now.session = ap (λ (o : Opened). o.session) c.self.view_is in
    subst (λ s. IfOk c.alarm_run.result (IsSessionRun s)) same
    (IfOk-weaker c.alarm_run.result (IsAlarmRun c.history.result (length c.log.result.now - 1)) (IsSessionRun c.self.inside.session)
    (run_read c.self.inside.session c.log.ensures.kept c.history.result c.log.result.now c.history.ensures.value c.log.ensures.value (subst EndsInAlarm (sym same) c.requires.alarm))
    c.alarm_run.ensures.ok)

pub returns-clause-passes : goal.returns-clause-passes
returns-clause-passes c =
    let same : c.self.inside.session ≡ c.args.self.now.session = ap (λ (o : Opened). o.session) c.self.view_is in
    λ e. subst SessionRunPasses same
    (passes_read c.self.inside.session c.log.ensures.kept c.history.result c.log.result.now c.history.ensures.value c.log.ensures.value (subst EndsInAlarm (sym same) c.requires.alarm)
    (c.alarm_run.ensures.passes e))
