use Rattle.std.proofs.Common.{◌≡◌, ◌<◌, length, sym, ◌∙◌, ap, subst}
use Rattle.std.specs.Prelude.{All}
use Rattle.std.specs.Arc.{arc_value}
use Rattle.run_specs.specs.Automaton.{Automaton, width}
use Rattle.run_specs.specs.Sessions.{MonitorSession}
use Rattle.live_session.specs.Entries.{entries_of, given_of, history_of}
use Rattle.live_session.specs.Parts.{IsPrepared}
use Rattle.live_session.proofs.KeyLemmas.{placed_by}
use Rattle.live_session.proofs.PlacingLemmas.{columns_below, sample_is}
use Rattle.live_session.proofs.session.Session.prepare.Goals as goal

pub placed_sample-requires-clause-columns : goal.placed_sample-requires-clause-columns
placed_sample-requires-clause-columns c =
    let i = c.self.inside in
    let m : length c.vars-width.result.now ≡ width (arc_value i.automaton) = ap length (c.vars-width.ensures.value ∙ ap (λ (a : Automaton). a.variables) c.deref.ensures) in
    subst (λ xs. All (λ x. x < length c.vars-width.result.now) xs) (sym c.as_slice.ensures.value)
    (subst (λ n. All (λ x. x < n) i.columns.items) (sym m) (columns_below (width (arc_value i.automaton)) i.columns.items c.self.invariant.session.columns))

pub placed_sample-requires-clause-cells : goal.placed_sample-requires-clause-cells
placed_sample-requires-clause-cells c =
    c.requires.may_begin.cells ∙ ap length (sym (c.as_slice.ensures.value ∙ ap (λ (z : MonitorSession). z.columns) c.self.view_is))

pub key_for-requires-clause-sample : goal.key_for-requires-clause-sample
key_for-requires-clause-sample c = sample_is (length c.args.self.now.columns) c.args.sample.now c.requires.may_begin.cells c.requires.time c.requires.cells

pub key_for-requires-clause-placed : goal.key_for-requires-clause-placed
key_for-requires-clause-placed c =
    let i = c.self.inside in
    placed_by (history_of (arc_value i.automaton) i.jumps i.opened i.opening (entries_of i.gaps.items)) i.columns.items i.log.items (given_of i.given) i.begun c.args.self.now c.args.sample.now
    c.in_ok-placed.placed (length c.vars-width.result.now) c.as_slice.result.now c.self.view_is (ap length (c.vars-width.ensures.value ∙ ap (λ (a : Automaton). a.variables) c.deref.ensures))
    c.as_slice.ensures.value c.in_ok-placed.ensures

pub returns-clause-prepared : goal.returns-clause-prepared
returns-clause-prepared c =
    let i = c.self.inside in
    subst (λ z. IsPrepared c.args.self.now (record { sample = z; placed = c.in_ok-placed.placed; key = c.in_ok-key.key })) (sym c.in_ok-sample.ensures) (record {
      placed = placed_by (history_of (arc_value i.automaton) i.jumps i.opened i.opening (entries_of i.gaps.items)) i.columns.items i.log.items (given_of i.given) i.begun c.args.self.now c.args.sample.now
          c.in_ok-placed.placed (length c.vars-width.result.now) c.as_slice.result.now c.self.view_is (ap length (c.vars-width.ensures.value ∙ ap (λ (a : Automaton). a.variables) c.deref.ensures))
          c.as_slice.ensures.value c.in_ok-placed.ensures;
      key = c.in_ok-key.ensures;
      time = c.requires.time;
    })
