use Rattle.std.proofs.Common.{◌≡◌, ◌∙◌, ◌≤◌, sym, ap, subst, SFits, rules, take, drop, length, pos, All}
use Rattle.std.specs.Int.{w128}
use Rattle.std.proofs.lemmas.Int.{to_z-of_z}
use Rattle.lin_row.proofs.ColumnLemmas.{cut-IsKept}
use Rattle.poly_specs.specs.KeptRows.{IsKeptRow}
use Rattle.poly_specs.specs.Rows.{Row}
use Rattle.lin_row.proofs.Row.cut.Goals as goal

pub invariant_of-result : goal.invariant_of-result
invariant_of-result c =
    let r : Row = record { coef = c.self.inside.coef.items; cst = c.self.inside.cst; strict = c.self.inside.strict } in
    let same : r ≡ c.args.self.now = c.self.view_is in
    let f : SFits w128 c.self.inside.cst = search rules in
    let items : c.inline_copy.result.items ≡ take c.args.width r.coef = c.inline_copy.ensures.items ∙ ap (take c.args.width) c.as_slice.ensures in
    let le : c.args.width ≤ length r.coef = subst (λ (s : Row). c.args.width ≤ length s.coef) (sym same) c.requires.within in
    let zeros : All (λ z. z ≡ pos 0) (drop c.args.width r.coef) = subst (λ (s : Row). All (λ z. z ≡ pos 0) (drop c.args.width s.coef)) (sym same) c.requires.zeros in
    let kept : IsKeptRow r = c.self.invariant.0 in
    let whole = cut-IsKept c.args.width r le zeros kept in
    (simp (to_z-of_z, f) (rw items whole), c.inline_copy.ensures.inline)
