use Rattle.run_specs.specs.declared.Verdict.{Verdict}
use Rattle.std.proofs.Common.{ℕ, ◌∷◌, [], ◌++◌, map, sym, ap, ◌∙◌, subst}
use Rattle.std.proofs.lemmas.List.{map_push}
use Rattle.interleave_core.specs.Events.{event_of, HasLogNumbers, told_to}
use Rattle.interleave_core.specs.Played.{IsTaken}
use Rattle.interleave_core.proofs.world.World.step.Goals as goal

pub begin-requires : goal.begin-requires
begin-requires c = record { numbers = subst HasLogNumbers c.in-Begin.is c.requires }

pub returns-in_ok-verdict-in-Finish-clause-ok : goal.returns-in_ok-verdict-in-Finish-clause-ok
returns-in_ok-verdict-in-Finish-clause-ok c =
    let pair : ℕ × Verdict = (c.in-Finish.session, c.in_ok-verdict-in-Finish.verdict) in (
      told_to pair ∷ [],
      subst (λ e. IsTaken c.args.self.now c.finish.new.self (event_of e) (told_to pair ∷ [])) (sym c.in-Finish.is) c.in_ok-verdict-in-Finish.ensures.ok,
      ap (λ xs. map told_to xs) c.push_reserved.ensures.items ∙ map_push told_to c.reserve.new.self.items pair ∙ ap (λ xs. map told_to xs ++ told_to pair ∷ []) c.reserve.ensures.items,
    )
