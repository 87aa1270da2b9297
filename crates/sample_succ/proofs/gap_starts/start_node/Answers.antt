use Rattle.std.proofs.Common.{◌≡◌, ◌<◌, ◌∙◌, ◌||◌, length, ap, sym, subst}
use Rattle.run_specs.specs.Automaton.{location_at}
use Rattle.run_specs.specs.Keys.{parent_at}
use Rattle.sample_succ.proofs.GapStartLemmas.{node_is}
use Rattle.sample_succ.proofs.gap_starts.start_node.Goals as goal

pub is_unsafe-requires : goal.is_unsafe-requires
is_unsafe-requires c =
    subst (λ l. l < length c.args.key.now.automaton.locations) (sym (c.loc-loc.ensures ∙ ap (λ s. s.loc) c.parent_of-state.ensures.value)) c.parent_of-state.ensures.kept.loc

pub returns-clause-node : goal.returns-clause-node
returns-clause-node c =
    let key = c.args.key.now in
    let loc = c.loc-loc.ensures ∙ ap (λ s. s.loc) c.parent_of-state.ensures.value in
    let mark : c.either-seen_unsafe.result ≡ ((parent_at key c.args.parent).seen_unsafe || (location_at key.automaton c.loc-loc.result).is_unsafe) =
    c.either-seen_unsafe.ensures ∙ ap (λ b. b || c.is_unsafe.result) (c.seen_unsafe.ensures ∙ ap (λ s. s.seen_unsafe) c.parent_of-state.ensures.value)
    ∙ ap (λ b. (parent_at key c.args.parent).seen_unsafe || b) c.is_unsafe.ensures in
    let is = node_is key c.args.parent c.new-path.result.items c.loc-loc.result c.either-seen_unsafe.result c.in_ok-before.before c.requires.known c.new-path.ensures.items loc mark c.in_ok-before.ensures in
    record { loc = is.0; mark = is.1; at = is.2 }
