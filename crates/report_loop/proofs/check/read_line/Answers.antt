use Rattle.std.proofs.Common.{◌∙◌, ap, sym, subst, Err}
use Rattle.log_specs.specs.LogReports.{rules_of}
use Rattle.report_loop.specs.Outcome.{SaysBut}
use Rattle.report_loop.proofs.Progress.{fails, wants_memory, goes_on, ends, gives_one}
use Rattle.report_loop.proofs.check.read_line.Goals as goal

pub returns-in-Err-clause-says : goal.returns-in-Err-clause-says
returns-in-Err-clause-says g c task before out writes i =
    let x = c.in-Err.ensures.fails i.0 i.1 in
    let k = x.2 in
    subst (λ q. SaysBut (rules_of task) before (record { log = g.L.Source.told c.next_line.new.source; log_faults = g.L.Source.faults c.next_line.new.source; out = out; out_faults = writes }) c.args.pending.now.items q) (sym c.fault_status.ensures)
    (fails task before _ _ out _ _ writes i.0 x.0 c.args.judged.now c.args.pending.now.items k.0 c.in-Err.fault
    i.2 k.1 k.2 (λ e. c.in-Err.ensures.cause (ap (λ z. Err z) e)))

pub returns-in-Ok-true-clause-says : goal.returns-in-Ok-true-clause-says
returns-in-Ok-true-clause-says g c task before out writes i =
    let x = c.in-Ok.ensures.gives i.0 i.1 in
    let k = x.2 in
    let adds = c.in-Ok-true.ensures.ok task i.2.is_task in (
      x.0,
      x.1,
      goes_on task before _ _ out _ _ writes i.0 x.0 c.args.judged.now c.add_block.new.judged
          c.args.pending.now.items c.add_block.new.pending.items k.0 c.in-Ok.line i.2 k.1 k.2 adds (sym c.in-Ok-true.ensures.more ∙ c.in-Ok-true.field-0-test) c.next_line.ensures.later,
    )

pub returns-in-Ok-true-clause-given : goal.returns-in-Ok-true-clause-given
returns-in-Ok-true-clause-given g c =
    gives_one _ _ c.args.reader.now c.next_line.new.self c.in-Ok.line c.next_line.ensures.stands c.in-Ok.ensures.gives (sym c.in-Ok-true.ensures.more ∙ c.in-Ok-true.field-0-test)

pub returns-in-Ok-false-clause-says : goal.returns-in-Ok-false-clause-says
returns-in-Ok-false-clause-says g c task before out writes i =
    let x = c.in-Ok.ensures.gives i.0 i.1 in
    let k = x.2 in
    let adds = c.in-Ok-false.ensures.ok task i.2.is_task in
    ends task before _ _ out _ _ writes i.0 x.0 c.args.judged.now c.add_block.new.judged c.args.pending.now.items
    c.add_block.new.pending.items k.0 c.in-Ok.line c.status_of.result i.2 k.1 k.2 adds (sym c.in-Ok-false.ensures.more ∙ c.in-Ok-false.field-0-test) c.status_of.ensures

pub returns-in-Err-add_block-clause-says : goal.returns-in-Err-add_block-clause-says
returns-in-Err-add_block-clause-says g c task before out writes i =
    let x = c.in-Ok.ensures.gives i.0 i.1 in
    let k = x.2 in
    wants_memory task before _ _ out _ _ writes i.0 x.0 c.args.judged.now c.args.pending.now.items
    c.add_block.new.pending.items k.0 i.2 k.1 c.in-Err-add_block.ensures.err
