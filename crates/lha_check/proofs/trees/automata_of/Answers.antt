use Rattle.std.proofs.Common.{◌∷◌, [], ◌++◌, map, length, sym, ap, ◌∙◌, subst}
use Rattle.std.specs.Arc.{arc_value}
use Rattle.std.proofs.lemmas.List.{map_push, map-id}
use Rattle.std.proofs.lemmas.Iterator.Adapters.{YieldsList-from_vec}
use Rattle.std.proofs.lemmas.Iterator.Consumers.{YieldsList-turn, YieldsList-end}
use Rattle.run_specs.specs.WellFormed.{IsWellFormed}
use Rattle.lha_check.proofs.trees.automata_of.Goals as goal

pub shared-requires : goal.shared-requires
shared-requires c =
    let turn = YieldsList-turn (YieldsList-from_vec c.args.found.items (cc) (cc)) c.loop-parts.yielded c.loop-parts.parts-iterator c.loop-parts.yielded_by c.next.result c.next.new.self c.in-Some.parts c.in-Some.is c.next.ensures.steps in
    subst IsWellFormed (sym turn.1) (c.requires (length c.loop-parts.yielded) c.in-Some.parts turn.0)

pub loop-parts-preserved : goal.loop-parts-preserved
loop-parts-preserved c =
    ap (map (λ a. arc_value a)) c.in_ok-push.ensures ∙ map_push (λ a. arc_value a) c.loop-parts.made.items c.in_ok-automaton.automaton
    ∙ ap (λ ys. ys ++ arc_value c.in_ok-automaton.automaton ∷ []) c.loop-parts.invariant ∙ ap (λ p. c.loop-parts.yielded ++ p ∷ []) c.in_ok-automaton.ensures

pub returns : goal.returns
returns c =
    let seen = YieldsList-end (YieldsList-from_vec c.args.found.items (cc) (cc)) c.loop-parts.yielded c.loop-parts.parts-iterator c.loop-parts.yielded_by c.next.result c.next.new.self c.in-None.is c.next.ensures.steps in
    c.loop-parts.invariant ∙ sym (map-id c.loop-parts.yielded) ∙ seen.0
