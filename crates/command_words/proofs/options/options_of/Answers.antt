use Rattle.std.proofs.Common.{◌∙◌, ap, sym}
use Rattle.clap.specs.Words.{found_of, rows_of}
use Rattle.command_words.specs.CommandLine.{number_or, runs_of}
use Rattle.command_words.proofs.OptionLemmas.{no_jumps, no_workers, no_window, no_memo, no_runs, all_options}
use Rattle.command_words.proofs.options.options_of.Goals as goal

pub returns-in_err-jumps-clause-value : goal.returns-in_err-jumps-clause-value
returns-in_err-jumps-clause-value c =
    c.from_residual.ensures ∙ no_jumps (rows_of (found_of c.args.matches.now)) (ap (number_or 0 6 2) (sym c.value_of.ensures) ∙ (sym c.number_or.ensures.value ∙ c.in_err-jumps.was))

pub returns-in_err-workers-clause-value : goal.returns-in_err-workers-clause-value
returns-in_err-workers-clause-value c =
    c.from_residual-in_err-workers.ensures
    ∙ no_workers (rows_of (found_of c.args.matches.now)) (ap (number_or 1 32 4) (sym c.value_of-2.ensures) ∙ (sym c.number_or-2.ensures.value ∙ c.in_err-workers.was))

pub returns-in_err-window-clause-value : goal.returns-in_err-window-clause-value
returns-in_err-window-clause-value c =
    c.from_residual-in_err-window.ensures
    ∙ no_window (rows_of (found_of c.args.matches.now)) (ap (number_or 1 1024 64) (sym c.value_of-3.ensures) ∙ (sym c.number_or-3.ensures.value ∙ c.in_err-window.was))

pub returns-in_err-memo-clause-value : goal.returns-in_err-memo-clause-value
returns-in_err-memo-clause-value c =
    c.from_residual-in_err-memo.ensures
    ∙ no_memo (rows_of (found_of c.args.matches.now)) (ap (number_or 1 100000 10000) (sym c.value_of-4.ensures) ∙ (sym c.number_or-4.ensures.value ∙ c.in_err-memo.was))

pub returns-in_err-runs-clause-value : goal.returns-in_err-runs-clause-value
returns-in_err-runs-clause-value c =
    c.from_residual-in_err-runs.ensures
    ∙ no_runs (rows_of (found_of c.args.matches.now)) (ap runs_of (sym c.value_of-5.ensures) ∙ (sym c.runs_of.ensures ∙ c.in_err-runs.was))

pub returns-clause-value : goal.returns-clause-value
returns-clause-value c = all_options (rows_of (found_of c.args.matches.now)) _ _ _ _ _
    (ap (number_or 0 6 2) (sym c.value_of.ensures) ∙ (sym c.number_or.ensures.value ∙ c.in_ok-jumps.was))
    (ap (number_or 1 32 4) (sym c.value_of-2.ensures) ∙ (sym c.number_or-2.ensures.value ∙ c.in_ok-workers.was))
    (ap (number_or 1 1024 64) (sym c.value_of-3.ensures) ∙ (sym c.number_or-3.ensures.value ∙ c.in_ok-window.was))
    (ap (number_or 1 100000 10000) (sym c.value_of-4.ensures) ∙ (sym c.number_or-4.ensures.value ∙ c.in_ok-memo.was))
    (ap runs_of (sym c.value_of-5.ensures) ∙ (sym c.runs_of.ensures ∙ c.in_ok-runs.was))
