use Rattle.std.proofs.Common.{◌≡◌, ◌∙◌, sym, ap, ap₂, subst, refl, rules, SFits, All, true≢false, false, ◌||◌, ℤ, List, length, ◌≤◌, to_z, of_z}
use Rattle.std.specs.Int.{w128}
use Rattle.std.proofs.lemmas.Int.{to_z-of_z}
use Rattle.poly_specs.proofs.CombinationLemmas.{combination_sound}
use Rattle.poly_specs.proofs.RowLemmas.{combination-free}
use Rattle.poly_specs.specs.Bits.{FitsBits, NonePasses}
use Rattle.poly_specs.specs.Elimination.{combination, divided, pair_numbers, raw_combination}
use Rattle.poly_specs.specs.KeptRows.{IsKeptRow}
use Rattle.poly_specs.specs.Rows.{Row, Holds, coef_at}
use Rattle.lin_row.proofs.DivisorLemmas.{divided_fields, divided-IsKept}
use Rattle.lin_row.proofs.FitLemmas.{some_passes, none_passes}
use Rattle.lin_row.proofs.MixLemmas.{raw_fits}
use Rattle.lin_row.proofs.Row.combine.Goals as goal
use Rattle.lin_row.proofs.Row.combine.Goals.{After-either-strict}

pub returns-in_default-clause-passes : goal.returns-in_default-clause-passes
returns-in_default-clause-passes c =
    let ns = pair_numbers c.args.x c.args.lower.now c.args.upper.now in
    some_passes ns (λ fit. true≢false (sym (c.in_default.ensures.kept.1 (none_passes ns fit))))

pub reduce-cst-requires-clause-coef_fits : goal.reduce-cst-requires-clause-coef_fits
reduce-cst-requires-clause-coef_fits c =
    let fits = raw_fits c.args.x c.args.lower.now c.args.upper.now c.requires.widths (c.in-Some.ensures.kept.0 refl) in
    subst (All FitsBits) (sym c.in-Some.ensures.coef) fits.0

pub reduce-cst-requires-clause-cst_fits : goal.reduce-cst-requires-clause-cst_fits
reduce-cst-requires-clause-cst_fits c =
    let fits = raw_fits c.args.x c.args.lower.now c.args.upper.now c.requires.widths (c.in-Some.ensures.kept.0 refl) in
    let f : SFits w128 c.in-Some.raw = search rules in
    simp (to_z-of_z, f) (subst FitsBits (sym c.in-Some.ensures.cst) fits.1)

module _ (c : After-either-strict) where
  abbrev raw : Row
  raw = raw_combination c.args.x c.args.lower.now c.args.upper.now

  abbrev unmarked : List ℤ → ℤ → Row
  unmarked cs z = record { coef = cs; cst = z; strict = false }

  raw_cst_fits : SFits w128 c.in-Some.raw
  raw_cst_fits = search rules

  cst_fits : SFits w128 c.reduce-cst.result
  cst_fits = search rules

  coef_is : c.reduce-cst.new.coef.items ≡ (divided (unmarked raw.coef raw.cst)).coef
  coef_is =
      let said : c.reduce-cst.new.coef.items ≡ (divided (unmarked c.raw_combination.new.coef.items c.in-Some.raw)).coef = simp (to_z-of_z, raw_cst_fits) at c.reduce-cst.ensures.coef in
      said ∙ ap₂ (λ cs z. (divided (unmarked cs z)).coef) c.in-Some.ensures.coef c.in-Some.ensures.cst

  cst_is : c.reduce-cst.result ≡ (divided (unmarked raw.coef raw.cst)).cst
  cst_is =
      let said : c.reduce-cst.result ≡ (divided (unmarked c.raw_combination.new.coef.items c.in-Some.raw)).cst = simp (to_z-of_z, raw_cst_fits) at c.reduce-cst.ensures.cst in
      said ∙ ap₂ (λ cs z. (divided (unmarked cs z)).cst) c.in-Some.ensures.coef c.in-Some.ensures.cst

  strict_is : c.either-strict.result ≡ raw.strict
  strict_is = c.either-strict.ensures ∙ ap₂ (λ (l u : Row). l.strict || u.strict) c.lower.view_is c.upper.view_is

  same : ◌≡◌ {A = Row} (record { coef = c.reduce-cst.new.coef.items; cst = c.reduce-cst.result; strict = c.either-strict.result }) (combination c.args.x c.args.lower.now c.args.upper.now)
  same =
      divided_fields raw.coef raw.cst c.either-strict.result c.reduce-cst.new.coef.items c.reduce-cst.result coef_is cst_is
      ∙ ap (λ s. divided (record { coef = raw.coef; cst = raw.cst; strict = s })) strict_is

  fits : NonePasses (pair_numbers c.args.x c.args.lower.now c.args.upper.now)
  fits = c.in-Some.ensures.kept.0 refl

  kept : IsKeptRow (record { coef = c.reduce-cst.new.coef.items; cst = c.reduce-cst.result; strict = c.either-strict.result })
  kept =
      let fit = raw_fits c.args.x c.args.lower.now c.args.upper.now c.requires.widths fits in
      let few = subst (λ cs. length cs ≤ 14) c.in-Some.ensures.coef c.in-Some.ensures.few in
      subst IsKeptRow (sym same) (divided-IsKept raw few fit.0 fit.1)

  -- as the row is read
  made : ◌≡◌ {A = Row} (record { coef = c.reduce-cst.new.coef.items; cst = to_z w128 (of_z w128 c.reduce-cst.result); strict = c.either-strict.result })
      (combination c.args.x c.args.lower.now c.args.upper.now)
  made = ap (λ z. record { coef = c.reduce-cst.new.coef.items; cst = z; strict = c.either-strict.result }) (to_z-of_z w128 c.reduce-cst.result cst_fits) ∙ same

pub invariant_of-result : goal.invariant_of-result
invariant_of-result c = let f = cst_fits c in (simp (to_z-of_z, f) (kept c), c.reduce-cst.ensures.inline)

pub returns-clause-ok : goal.returns-clause-ok
returns-clause-ok c = (made c, fits c)

pub returns-clause-implied : goal.returns-clause-implied
returns-clause-implied c p h g =
    subst (λ (r : Row). Holds r p) (sym (made c)) (combination_sound c.args.x c.args.lower.now c.args.upper.now p c.requires.widths c.requires.lower c.requires.upper h g)

pub returns-clause-free : goal.returns-clause-free
returns-clause-free c =
    ap (λ (r : Row). coef_at c.args.x r) (made c) ∙ combination-free c.args.x c.args.lower.now c.args.upper.now c.requires.widths c.requires.lower c.requires.upper
