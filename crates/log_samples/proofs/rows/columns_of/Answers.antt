use Rattle.std.proofs.Common.{sym, ap, ◌∙◌}
use Rattle.log_specs.specs.LogSessions.{are_columns}
use Rattle.log_samples.proofs.RowLemmas.{columns_refused, refused_header}
use Rattle.log_samples.proofs.rows.columns_of.Goals as goal

pub returns-else-are_columns : goal.returns-else-are_columns
returns-else-are_columns c =
    columns_refused c.args.automaton.now _ c.in-Ok.names.items c.in-Ok.ensures.columns
    (ap (λ vs. are_columns vs c.in-Ok.names.items) (sym c.vars.ensures.value) ∙ ap (λ ns. are_columns c.vars.result.now ns) (sym c.deref.ensures.value)
    ∙ sym c.are_columns.ensures ∙ c.if-are_columns.false)

pub returns-in_ok-tell_memory-in-Err : goal.returns-in_ok-tell_memory-in-Err
returns-in_ok-tell_memory-in-Err c = refused_header c.args.automaton.now c.in-Err.refusal _ c.in_ok-tell_memory-in-Err.ensures c.in-Err.ensures.refusal
