use Rattle.std.proofs.Common.{◌≡◌, ◌+◌, ◌∷◌, [], ◌++◌, List, length, take, refl, sym, ◌∙◌, ap, subst, arith}
use Rattle.std.proofs.Math.Seq.{take-length}
use Rattle.std.proofs.lemmas.List.{take_more}
use Rattle.fm_eliminate.proofs.LeavingLemmas.{in_get_or}
use Rattle.poly_specs.specs.Lists.{In}
use Rattle.poly_specs.specs.Rows.{Row}
use Rattle.column_pick.specs.Ranges.{IsRangeOf}
use Rattle.column_pick.proofs.ranges.range_at.Goals as goal

pub returns-in_err-range-clause-none : goal.returns-in_err-range-clause-none
returns-in_err-range-clause-none c e = (
  c.row-item.result,
  subst (λ (r : Row). In r c.args.rows.now) (sym c.row-item.is) (in_get_or c.args.rows.now c.loop-row.row-index c.row-item.result (omega arith)),
  c.in_err-range.ensures.none refl,
)

pub loop-row-preserved : goal.loop-row-preserved
loop-row-preserved c =
    let more : take (c.loop-row.row-index + 1) c.args.rows.now ≡ take c.loop-row.row-index c.args.rows.now ++ c.row-item.result ∷ [] =
    take_more c.args.rows.now c.loop-row.row-index c.row-item.result (omega arith)
    ∙ ap (λ (r : Row). take c.loop-row.row-index c.args.rows.now ++ r ∷ []) (sym c.row-item.is) in
    subst (λ (rows : List Row). IsRangeOf c.args.x c.args.point.now rows c.in_ok-range.range) (sym more)
    (c.in_ok-range.ensures.some (take c.loop-row.row-index c.args.rows.now) c.loop-row.invariant)

pub returns-clause-some : goal.returns-clause-some
returns-clause-some c =
    let end : c.loop-row.row-index ≡ length c.args.rows.now = omega arith in
    let whole : take c.loop-row.row-index c.args.rows.now ≡ c.args.rows.now = ap (λ n. take n c.args.rows.now) end ∙ take-length c.args.rows.now in
    subst (λ (rows : List Row). IsRangeOf c.args.x c.args.point.now rows c.loop-row.range) whole c.loop-row.invariant
