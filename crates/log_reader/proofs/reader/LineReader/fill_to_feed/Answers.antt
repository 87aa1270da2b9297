use Rattle.std.proofs.Common.{arith, subst, sym, ◌∙◌}
use Rattle.log_reader.specs.Reading.{Moves, Fills}
use Rattle.log_reader.proofs.MoveLemmas.{moves_on}
use Rattle.log_reader.proofs.reader.LineReader.fill_to_feed.Goals as goal

pub returns-in-Some-clause-fills : goal.returns-in-Some-clause-fills
returns-in-Some-clause-fills g c =
    subst (λ z. Moves (λ r s. Fills (g.L.Source.told c.args.source.now) (g.L.Source.told c.loop-at.source) r s) c.args.self.now z) (sym c.find_feed.ensures.same) c.loop-at.invariant.fills

pub returns-then-is_over-clause-fills : goal.returns-then-is_over-clause-fills
returns-then-is_over-clause-fills g c =
    subst (λ z. Moves (λ r s. Fills (g.L.Source.told c.args.source.now) (g.L.Source.told c.loop-at.source) r s) c.args.self.now z) (sym c.find_feed.ensures.same) c.loop-at.invariant.fills

pub returns-then-is_full-clause-fills : goal.returns-then-is_full-clause-fills
returns-then-is_full-clause-fills g c =
    subst (λ z. Moves (λ r s. Fills (g.L.Source.told c.args.source.now) (g.L.Source.told c.loop-at.source) r s) c.args.self.now z) (sym c.find_feed.ensures.same) c.loop-at.invariant.fills

pub loop-at-preserved : goal.loop-at-preserved
loop-at-preserved g c =
    let before = c.loop-at.invariant.later in
    let now = c.fill.ensures.later in
    let first = subst (λ z. Moves (λ r s. Fills (g.L.Source.told c.args.source.now) (g.L.Source.told c.loop-at.source) r s) c.args.self.now z) (sym c.find_feed.ensures.same) c.loop-at.invariant.fills in
    record {
      fills = moves_on _ _ _ c.args.self.now c.find_feed.new.self c.drop_long.new.self c.fill.new.self (sym c.is_over.ensures ∙ c.if-is_over.false) first c.drop_long.ensures.drops c.fill.ensures.fills c.fill.ensures.dropped;
      later = omega (arith, before, now);
    }

pub returns-in_err-fill-clause-fills : goal.returns-in_err-fill-clause-fills
returns-in_err-fill-clause-fills g c =
    let first = subst (λ z. Moves (λ r s. Fills (g.L.Source.told c.args.source.now) (g.L.Source.told c.loop-at.source) r s) c.args.self.now z) (sym c.find_feed.ensures.same) c.loop-at.invariant.fills in
    moves_on _ _ _ c.args.self.now c.find_feed.new.self c.drop_long.new.self c.fill.new.self (sym c.is_over.ensures ∙ c.if-is_over.false) first c.drop_long.ensures.drops c.fill.ensures.fills c.fill.ensures.dropped
