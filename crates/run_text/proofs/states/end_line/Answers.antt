use Rattle.std.proofs.Common.{sym, subst, ◌≡◌, ◌∙◌, ap, ℤ}
use Rattle.std.specs.Prelude.{Ok}
use Rattle.run_specs.specs.Runs as runs
use Rattle.run_text.specs.States.{Goes}
use Rattle.run_text.specs.declared.states.State.TheVariants.{Staying, Ended}
use Rattle.run_text.proofs.LineLemmas.{fits_stays}
use Rattle.run_text.proofs.StateLemmas.{end_goes}
use Rattle.run_text.proofs.states.end_line.Goals as goal

pub returns : goal.returns
returns c =
    let values = c.in_ok-at_end.ensures.ok in
    let leg : runs.Leg = record { length_of = c.args.time; at_end = c.in_ok-at_end.at_end.items } in
    let is : c.new.result ≡ leg = c.new.ensures ∙ ap (λ (t : ℤ). record { length_of = t; at_end = c.in_ok-at_end.at_end.items }) (fits_stays c.args.time c.requires.time) in
    subst (λ l. Goes (Staying c.args.part c.args.time) c.args.line.now (Ok (Ended c.args.part l))) (sym is)
    (end_goes c.args.part leg c.args.line.now c.requires.part c.requires.time values.1 values.0)
