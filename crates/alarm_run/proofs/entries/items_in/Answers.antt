use Rattle.std.proofs.Common.{◌≡◌, ◌∙◌, List, sym, subst}
use Rattle.gap_keys.specs.Answering.{IsOutcomeWide}
use Rattle.gap_keys.specs.Views.{ItemView, AreItemsWide}
use Rattle.gap_keys.specs.declared.outcomes.Outcome.TheVariants.{Next}
use Rattle.run_specs.specs.Automaton.{width}
use Rattle.alarm_run.proofs.entries.items_in.Goals as goal

pub returns-clause-wide : goal.returns-clause-wide
returns-clause-wide c =
    let held = c.args.entry.now in
    let m = width held.0.automaton in
    let same : held.1 ≡ Next c.in-Next.next = sym c.val.ensures.value ∙ c.in-Next.is in
    subst (λ (xs : List ItemView). AreItemsWide m xs) (sym c.items.ensures) (subst (IsOutcomeWide m) same c.val.ensures.holds.wide)
