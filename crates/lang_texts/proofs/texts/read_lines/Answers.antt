use Rattle.std.proofs.Common.{[], ◌∷◌}
use Rattle.std.proofs.lemmas.Result.{err_from_is_err_and, IfOk-weaker, IfErr-weaker}
use Rattle.lang_specs.specs.Lines.{end_of_text}
use Rattle.lang_specs.specs.FirstFault.{IsSpelling}
use Rattle.lang_texts.specs.Reading.{FailsAt, Spells, IsTextFault}
use Rattle.lang_texts.proofs.ReadingLemmas.{begin, at_line, go_on, at_end}
use Rattle.lang_texts.proofs.texts.read_lines.Goals as goal

pub loop-first-init : goal.loop-first-init
loop-first-init c = begin c.args.text.now

pub returns-in_err-state-clause-fault : goal.returns-in_err-state-clause-fault
returns-in_err-state-clause-fault c =
    let p = err_from_is_err_and c.from_residual.result c.from_residual.ensures.1 in
    rw (p.1, p.2) (c.in_err-state.ensures.fault c.args.text.now _
    (at_line c.args.text.now c.loop-first.rest.now c.in-Some.first.now c.in-Some.behind.now c.loop-first.line c.loop-first.state c.loop-first.invariant c.in-Some.ensures.0))

pub loop-first-preserved : goal.loop-first-preserved
loop-first-preserved c =
    go_on c.args.text.now c.loop-first.rest.now c.in-Some.first.now c.in-Some.behind.now c.loop-first.line c.loop-first.state c.in_ok-state.state
    c.loop-first.invariant c.in-Some.ensures.0 c.in-Some.ensures.2 c.in_ok-state.ensures.ok

pub returns-clause-ok : goal.returns-clause-ok
returns-clause-ok c =
    let text = c.args.text.now in
    let ended = at_end text c.loop-first.rest.now c.loop-first.line c.loop-first.state c.loop-first.invariant c.in_default.ensures in
    IfOk-weaker c.finish.result (λ v. Spells (end_of_text c.loop-first.line ∷ []) c.loop-first.state v.items) (λ v. IsSpelling text v.items) (λ v h. h text ended) c.finish.ensures.ok

pub returns-clause-fault : goal.returns-clause-fault
returns-clause-fault c =
    let text = c.args.text.now in
    let ended = at_end text c.loop-first.rest.now c.loop-first.line c.loop-first.state c.loop-first.invariant c.in_default.ensures in
    IfErr-weaker c.finish.result (FailsAt (end_of_text c.loop-first.line ∷ []) c.loop-first.state) (IsTextFault text) (λ e h. h text [] ended) c.finish.ensures.fault
