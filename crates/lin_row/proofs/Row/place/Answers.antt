use Rattle.std.proofs.Common.{◌≡◌, ◌∙◌, sym, ap, subst, SFits, rules, replicate, length, pos}
use Rattle.std.specs.Int.{w128}
use Rattle.std.proofs.lemmas.Int.{to_z-of_z}
use Rattle.lin_row.proofs.ColumnLemmas.{placed-IsKept}
use Rattle.poly_specs.specs.Columns.{put_at}
use Rattle.poly_specs.specs.KeptRows.{IsKeptRow}
use Rattle.poly_specs.specs.Rows.{Row}
use Rattle.lin_row.proofs.Row.place.Goals as goal

pub invariant_of-result : goal.invariant_of-result
invariant_of-result c =
    let r : Row = record { coef = c.self.inside.coef.items; cst = c.self.inside.cst; strict = c.self.inside.strict } in
    let same : r ≡ c.args.self.now = c.self.view_is in
    let f : SFits w128 c.self.inside.cst = search rules in
    let items : c.put.result.items ≡ put_at c.args.to.now r.coef (replicate c.args.width (pos 0)) =
    c.put.ensures.items ∙ ap (λ cs. put_at c.args.to.now cs (replicate c.args.width (pos 0))) c.as_slice.ensures in
    let sized : length c.args.to.now ≡ length r.coef = subst (λ (s : Row). length c.args.to.now ≡ length s.coef) (sym same) c.requires.sized in
    let kept : IsKeptRow r = c.self.invariant.0 in
    let whole = placed-IsKept c.args.to.now c.args.width r c.requires.distinct c.requires.within sized c.requires.few kept in
    (simp (to_z-of_z, f) (rw items whole), c.put.ensures.inline)
