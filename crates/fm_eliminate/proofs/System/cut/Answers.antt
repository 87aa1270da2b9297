use Rattle.std.proofs.Common.{◌≡◌, ◌≤◌, length, sym, subst, arith}
use Rattle.std.proofs.lemmas.List.Elements.{All-weaker}
use Rattle.poly_specs.specs.Rows.{AllWide}
use Rattle.fm_eliminate.proofs.ColumnLemmas.{cut_wide}
use Rattle.fm_eliminate.proofs.System.cut.Goals as goal

pub of_rows-requires-clause-wide : goal.of_rows-requires-clause-wide
of_rows-requires-clause-wide c =
    let wide = subst (λ rows. AllWide c.args.self.now.width rows) (sym c.rows.ensures.value) c.rows.ensures.kept.wide in
    subst (λ rows. AllWide c.args.width rows) (sym c.in_ok-rows.ensures.items)
    (cut_wide c.args.width c.rows.result.now (All-weaker (λ r. length r.coef ≡ c.args.self.now.width) (λ r. c.args.width ≤ length r.coef) (λ r e. omega arith) c.rows.result.now wide))
