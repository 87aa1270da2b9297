use Rattle.std.proofs.Common.{◌++◌, ◌∷◌, [], List, sym, subst, ap, ◌∙◌}
use Rattle.std.specs.Prelude.{Any, MatchBool}
use Rattle.poly_specs.specs.Bounds.{Entails}
use Rattle.poly_specs.specs.Columns.{IsDominated}
use Rattle.poly_specs.specs.Rows.{Row}
use Rattle.poly_decide.specs.Pruned.{IsThinned}
use Rattle.poly_decide.proofs.PruneLemmas.{thinned_dropped, thinned_kept}
use Rattle.poly_decide.proofs.pruning.add_needed.Goals as goal

pub returns-then-branch : goal.returns-then-branch
returns-then-branch c rows f =
    let told = subst (λ b. MatchBool b (Entails c.args.width c.as_slice.result.now c.args.row.now) (Any (λ other. IsDominated c.args.row.now other) c.as_slice.result.now → ⊥))
    c.if-branch.true c.in_ok-is_found_implied.ensures in
    let implied = subst (λ (left : List Row). Entails c.args.width left c.args.row.now) c.as_slice.ensures.value told in
    thinned_dropped c.args.width rows c.args.left.now.items c.args.row.now f implied

pub returns : goal.returns
returns c rows f =
    let more = c.in_ok-push.ensures.items ∙ ap (λ (r : Row). c.args.left.now.items ++ r ∷ []) c.copy.ensures in
    subst (IsThinned c.args.width (rows ++ c.args.row.now ∷ [])) (sym more) (thinned_kept c.args.width rows c.args.left.now.items c.args.row.now f)
