use Rattle.std.proofs.Common.{sym, arith}
use Rattle.log_table.proofs.TableLemmas.{unknown_closing, closes, kept_closing}
use Rattle.log_table.proofs.table.LogTable.close.Goals as goal

pub invariant_of-self : goal.invariant_of-self
invariant_of-self c =
    let i = c.self.inside in
    let len = c.shift_remove-2.ensures.len in
    kept_closing i.jumps i.accepted i.sessions.entries c.shift_remove-2.new.self.entries c.of.result c.self.invariant c.shift_remove-2.ensures.entries (omega (arith, len))
    c.shift_remove-2.ensures.unique

pub returns-in-Some-clause-ok : goal.returns-in-Some-clause-ok
returns-in-Some-clause-ok c =
    let i = c.self.inside in
    closes i.jumps i.accepted i.sessions.entries c.args.self.now c.self.view_is c.args.name.now c.of.result c.of.ensures c.shift_remove-2.new.self.entries c.in-Some.field-0
    c.self.invariant.distinct (sym c.in-Some.ensures.value) c.shift_remove-2.ensures.entries

pub returns-clause-refusal : goal.returns-clause-refusal
returns-clause-refusal c =
    let i = c.self.inside in
    unknown_closing i.jumps i.accepted i.sessions.entries c.args.self.now c.self.view_is c.args.name.now c.of.result c.of.ensures (sym c.in-None.ensures.value)
