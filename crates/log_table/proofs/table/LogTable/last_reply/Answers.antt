use Rattle.std.proofs.Common.{sym, ◌∙◌}
use Rattle.log_table.proofs.RunLemmas.{last_none, last_told}
use Rattle.log_table.proofs.table.LogTable.last_reply.Goals as goal

pub returns-in_err-get : goal.returns-in_err-get
returns-in_err-get c =
    let i = c.self.inside in
    c.from_residual.ensures ∙ sym (last_none i.jumps i.accepted i.sessions.entries c.args.self.now c.self.view_is c.self.invariant c.args.name.now c.of.result c.of.ensures (sym c.in_err-get.ensures.value))

pub returns : goal.returns
returns c =
    let i = c.self.inside in
    c.last.ensures ∙ sym (last_told i.jumps i.accepted i.sessions.entries c.args.self.now c.self.view_is c.self.invariant c.args.name.now c.of.result c.of.ensures c.in_ok-get.field-0.now (sym c.in_ok-get.ensures.value))
