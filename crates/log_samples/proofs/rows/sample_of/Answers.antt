use Rattle.std.proofs.Common.{length, sym, ap, ◌∙◌}
use Rattle.log_reader.specs.Rows.{cells_said}
use Rattle.log_samples.specs.Rows.{is_accepted}
use Rattle.log_samples.proofs.RowLemmas.{refused_cells, not_accepted}
use Rattle.log_samples.proofs.rows.sample_of.Goals as goal

pub returns-in-Err-clause-sample : goal.returns-in-Err-clause-sample
returns-in-Err-clause-sample c = refused_cells c.args.automaton.now c.args.columns.now c.args.samples.now c.in-Err.refusal _ c.in_ok-tell_memory-in-Err.ensures c.in-Err.ensures.refusal

pub returns-then-not-is_accepted-clause-sample : goal.returns-then-not-is_accepted-clause-sample
returns-then-not-is_accepted-clause-sample c =
    not_accepted c.args.automaton.now c.args.columns.now c.args.samples.now _ (cells_said c.in-Ok.row) c.in-Ok.ensures.cells
    (ap (λ cells. is_accepted (length c.args.columns.now) c.args.samples.now (record { time = c.in-Ok.row.0; cells = cells })) (sym c.deref.ensures.value)
    ∙ sym c.is_accepted.ensures ∙ c.if-not-is_accepted.true)
