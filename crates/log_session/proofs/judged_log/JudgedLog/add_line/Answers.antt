use Rattle.std.proofs.Common.{◌≡◌, [], length, true, false, sym, ap, ◌∙◌}
use Rattle.std.proofs.lemmas.Bool.{eqb-true, eqb-false}
use Rattle.std.proofs.lemmas.List.{nil_from_length}
use Rattle.std.proofs.lemmas.Result.{on_ok_weaker}
use Rattle.log_specs.specs.LogSessions.{judge_header, judge_cells, judge_row}
use Rattle.log_specs.specs.LogRows.{read_header, read_cells, read_row}
use Rattle.log_session.specs.Progress.{Progress}
use Rattle.log_session.proofs.LineLemmas.{adds_nothing, adds_header, adds_cells, adds_row}
use Rattle.log_session.proofs.ToldLemmas.{told_after}
use Rattle.log_session.proofs.judged_log.JudgedLog.add_line.Goals as goal

pub returns-then-is_empty-clause-ok : goal.returns-then-is_empty-clause-ok
returns-then-is_empty-clause-ok g c = λ task is.
    adds_nothing task c.args.self.now c.args.number c.args.line.now c.args.blocks.now.items
    (nil_from_length c.args.line.now (eqb-true (length c.args.line.now) 0 (sym c.is_empty.ensures ∙ c.if-is_empty.true)))

pub returns-in-Watch-clause-ok : goal.returns-in-Watch-clause-ok
returns-in-Watch-clause-ok g c =
    let some : c.args.line.now ≡ [] → ⊥ = λ e. eqb-false (length c.args.line.now) 0 (sym c.is_empty.ensures ∙ c.if-is_empty.false) (ap length e) in
    let form = sym (ap (λ (p : Progress). p.form) c.self.view_is) ∙ c.in-Watch.is in
    on_ok_weaker c.add_row.result
    (λ told. adds_row c.args.self.now c.add_row.new.self c.args.number c.args.line.now c.args.blocks.now.items c.add_row.new.blocks.items some form
    (λ task is.
    told_after task c.args.self.now c.add_row.new.self c.args.number (judge_row task.models c.args.self.now.known.state (read_row c.args.line.now)) c.reserve_line.new.blocks.items
    c.args.blocks.now.items c.add_row.new.blocks.items c.reserve_line.ensures.items (told task is)))
    c.add_row.ensures.ok

pub returns-in-Check-clause-ok : goal.returns-in-Check-clause-ok
returns-in-Check-clause-ok g c =
    let some : c.args.line.now ≡ [] → ⊥ = λ e. eqb-false (length c.args.line.now) 0 (sym c.is_empty.ensures ∙ c.if-is_empty.false) (ap length e) in
    let form = sym (ap (λ (p : Progress). p.form) c.self.view_is) ∙ c.in-Check.is in
    let begun : c.args.self.now.known.state.has_begun ≡ true = sym (ap (λ (p : Progress). p.known.state.has_begun) c.self.view_is) ∙ c.if-self.true in
    on_ok_weaker c.add_cells.result
    (λ told. adds_cells c.args.self.now c.add_cells.new.self c.args.number c.args.line.now c.args.blocks.now.items c.add_cells.new.blocks.items some form begun
    (λ task is.
    told_after task c.args.self.now c.add_cells.new.self c.args.number (judge_cells c.args.self.now.known.state (read_cells c.args.line.now)) c.reserve_line.new.blocks.items
    c.args.blocks.now.items c.add_cells.new.blocks.items c.reserve_line.ensures.items (told task is)))
    c.add_cells.ensures.ok

pub returns-in-Check-2-clause-ok : goal.returns-in-Check-2-clause-ok
returns-in-Check-2-clause-ok g c =
    let some : c.args.line.now ≡ [] → ⊥ = λ e. eqb-false (length c.args.line.now) 0 (sym c.is_empty.ensures ∙ c.if-is_empty.false) (ap length e) in
    let form = sym (ap (λ (p : Progress). p.form) c.self.view_is) ∙ c.in-Check-2.is in
    let begun : c.args.self.now.known.state.has_begun ≡ false = sym (ap (λ (p : Progress). p.known.state.has_begun) c.self.view_is) ∙ c.if-self.false in
    on_ok_weaker c.add_header.result
    (λ told. adds_header c.args.self.now c.add_header.new.self c.args.number c.args.line.now c.args.blocks.now.items c.add_header.new.blocks.items some form begun
    (λ task is.
    told_after task c.args.self.now c.add_header.new.self c.args.number (judge_header task.models c.args.self.now.known.state (read_header c.args.line.now)) c.reserve_line.new.blocks.items
    c.args.blocks.now.items c.add_header.new.blocks.items c.reserve_line.ensures.items (told task is)))
    c.add_header.ensures.ok
