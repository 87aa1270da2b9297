use Rattle.std.proofs.Common.{◌≡◌, ℕ, List, ◌+◌, ◌-◌, Err, ap, sym, subst, arith, rules}
use Rattle.poly_specs.specs.Bits.{SomePasses}
use Rattle.poly_specs.specs.Bounds.{with_sum, bound_numbers}
use Rattle.poly_specs.specs.Elimination.{formed_each, columns_down}
use Rattle.poly_specs.specs.Rows.{Row}
use Rattle.poly_specs.specs.Systems.{System, IsLevel}
use Rattle.fm_eliminate.specs.declared.RowFault.TheVariants.{Passes}
use Rattle.poly_decide.specs.Pruned.{IsLevelOf}
use Rattle.poly_decide.proofs.bounds.sup.Goals as goal

-- what the elimination of all columns forms
abbrev AllPass : System → Type 0
AllPass t = SomePasses (formed_each (columns_down 0 (t.width - 0)) t.rows)

bound_passes : (n : ℕ) (r : Row) (rows : List Row) (t : System) → t ≡ record { width = n + 1; rows = with_sum r rows } → AllPass t → SomePasses (bound_numbers n rows r)
bound_passes n r rows t e passes =
    let all : n + 1 - 0 ≡ n + 1 = omega arith in
    subst (λ k. SomePasses (formed_each (columns_down 0 k) (with_sum r rows))) all (subst AllPass e passes)

pub returns-in_err-first-clause-passes : goal.returns-in_err-first-clause-passes
returns-in_err-first-clause-passes c e =
    let same : c.in_err-first.field-0.0 ≡ Passes = search rules in
    bound_passes c.args.s.now.width c.args.row.now c.args.s.now.rows c.in_ok-system.system c.in_ok-system.ensures
    (c.in_err-first.ensures.passes (ap (λ f. Err f) same) 0 (omega arith))

pub returns-in_err-none-clause-passes : goal.returns-in_err-none-clause-passes
returns-in_err-none-clause-passes c e =
    let same : c.in_err-none.field-0.0 ≡ Passes = search rules in
    bound_passes c.args.s.now.width c.args.row.now c.args.s.now.rows c.in_ok-system.system c.in_ok-system.ensures
    (c.in_err-none.ensures.passes (ap (λ f. Err f) same) 0 (omega arith))

pub returns-clause-ok : goal.returns-clause-ok
returns-clause-ok c =
    let wider : System = record { width = c.args.s.now.width + 1; rows = with_sum c.args.row.now c.args.s.now.rows } in
    let none = subst (λ (t : System). IsLevelOf t 0 c.in_ok-none.none) c.in_ok-system.ensures c.in_ok-none.ensures.ok in
    let first = subst (λ (t : System). IsLevelOf t 1 c.in_ok-first.first) c.in_ok-system.ensures c.in_ok-first.ensures.ok in
    c.bound_of.ensures c.args.s.now.width c.args.s.now.rows c.args.row.now
    (subst (λ (rs : List Row). IsLevel wider.width 0 wider.rows rs) (sym c.rows.ensures.value) none.level)
    (subst (λ (rs : List Row). IsLevel wider.width 1 wider.rows rs) (sym c.rows-2.ensures.value) first.level)
