use Rattle.std.proofs.Common.{sym}
use Rattle.std.proofs.lemmas.Result.{IfOk-weaker}
use Rattle.log_table.specs.FirstRuns.{IsSessionRun, IsFirstRunOf}
use Rattle.log_table.proofs.RunLemmas.{alarm_told, run_told, passes_told}
use Rattle.log_table.proofs.table.LogTable.first_run.Goals as goal

pub first_run-requires : goal.first_run-requires
first_run-requires c =
    let i = c.self.inside in
    record {
      alarm = alarm_told i.jumps i.accepted i.sessions.entries c.args.self.now c.self.view_is c.self.invariant c.args.name.now c.of.result c.of.ensures c.in-Some.opened.now
          (sym c.in-Some.ensures.value) c.requires.alarm;
    }

pub returns-in-Some-clause-ok : goal.returns-in-Some-clause-ok
returns-in-Some-clause-ok c =
    let i = c.self.inside in
    IfOk-weaker c.first_run.result (IsSessionRun c.in-Some.opened.now.session) (IsFirstRunOf c.args.self.now c.args.name.now)
    (run_told i.jumps i.accepted i.sessions.entries c.args.self.now c.self.view_is c.self.invariant c.args.name.now c.of.result c.of.ensures c.in-Some.opened.now (sym c.in-Some.ensures.value))
    c.first_run.ensures.ok

pub returns-in-Some-clause-passes : goal.returns-in-Some-clause-passes
returns-in-Some-clause-passes c =
    let i = c.self.inside in
    λ e. passes_told i.jumps i.accepted i.sessions.entries c.args.self.now c.self.view_is c.self.invariant c.args.name.now c.of.result c.of.ensures c.in-Some.opened.now (sym c.in-Some.ensures.value)
    (c.first_run.ensures.passes e)
