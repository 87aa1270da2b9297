use Rattle.std.proofs.Common.{sym, subst, ◌∙◌}
use Rattle.std.specs.Prelude.{Ok}
use Rattle.run_text.specs.Reading.{Finishes}
use Rattle.run_text.specs.States.{IsReading}
use Rattle.run_text.proofs.ReadingLemmas.{finishes}
use Rattle.run_text.proofs.read.finish.Goals as goal

pub returns : goal.returns
returns c =
    let parts = subst IsReading c.in-Ended.is c.requires in
    subst (λ s. Finishes s (Ok c.new.result)) (sym c.in-Ended.is)
    (finishes c.in-Ended.part c.in-Ended.leg c.new.result parts.0 parts.1 (sym c.if-has_later.ensures) (c.new.ensures ∙ c.in_ok-whole.ensures.ok.1))
