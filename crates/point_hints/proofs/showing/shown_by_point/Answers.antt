use Rattle.std.proofs.Common.{◌≡◌, ◌∙◌, ap, sym, length}
use Rattle.point_hints.proofs.SumLemmas.{held_has_point, some_true}
use Rattle.point_hints.proofs.showing.shown_by_point.Goals as goal

pub returns-then-eq : goal.returns-then-eq
returns-then-eq c =
    let sized : length c.args.point.now.num ≡ c.args.system.now.width =
    ap length (sym c.num.ensures.value) ∙ c.if-num-width.true ∙ c.width.ensures.value in
    held_has_point c.args.system.now.width c.args.system.now.rows c.args.point.now c.holds.result c.num.ensures.kept.positive sized
    (some_true c.holds.result (sym c.if-eq.ensures)) c.holds.ensures
