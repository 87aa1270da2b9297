use Rattle.std.proofs.Common.{◌≡◌, ◌∙◌, ap, sym, subst, SFits, false, rules}
use Rattle.std.specs.Int.{w128}
use Rattle.std.proofs.lemmas.Int.{to_z-of_z}
use Rattle.lin_row.proofs.DivisorLemmas.{divided_fields, divided-IsKept}
use Rattle.poly_specs.specs.Elimination.{divided}
use Rattle.poly_specs.specs.KeptRows.{IsKeptRow}
use Rattle.poly_specs.specs.Rows.{Row}
use Rattle.lin_row.proofs.Row.make_as.Goals as goal

module _ (c : goal.After-reduce-cst) where
  cst_fits : SFits w128 c.reduce-cst.result
  cst_fits = search rules

  coef_is : c.reduce-cst.new.coef.items ≡ (divided (record { coef = c.args.coef.now; cst = c.args.cst; strict = false })).coef
  coef_is =
      let said : c.reduce-cst.new.coef.items ≡ (divided (record { coef = c.inline_copy-divided.result.items; cst = c.args.cst; strict = false })).coef =
      simp (to_z-of_z, c.ranges.cst) at c.reduce-cst.ensures.coef in
      said ∙ ap (λ cs. (divided (record { coef = cs; cst = c.args.cst; strict = false })).coef) c.inline_copy-divided.ensures.items

  cst_is : c.reduce-cst.result ≡ (divided (record { coef = c.args.coef.now; cst = c.args.cst; strict = false })).cst
  cst_is =
      let said : c.reduce-cst.result ≡ (divided (record { coef = c.inline_copy-divided.result.items; cst = c.args.cst; strict = false })).cst =
      simp (to_z-of_z, c.ranges.cst) at c.reduce-cst.ensures.cst in
      said ∙ ap (λ cs. (divided (record { coef = cs; cst = c.args.cst; strict = false })).cst) c.inline_copy-divided.ensures.items

  same : ◌≡◌ {A = Row} (record { coef = c.reduce-cst.new.coef.items; cst = c.reduce-cst.result; strict = c.args.strict })
      (divided (record { coef = c.args.coef.now; cst = c.args.cst; strict = c.args.strict }))
  same = divided_fields c.args.coef.now c.args.cst c.args.strict c.reduce-cst.new.coef.items c.reduce-cst.result coef_is cst_is

  kept : IsKeptRow (record { coef = c.reduce-cst.new.coef.items; cst = c.reduce-cst.result; strict = c.args.strict })
  kept = subst IsKeptRow (sym same) (divided-IsKept (record { coef = c.args.coef.now; cst = c.args.cst; strict = c.args.strict }) c.requires.few c.requires.coef_fits c.requires.cst_fits)

pub invariant_of-result : goal.invariant_of-result
invariant_of-result c = let f = cst_fits c in (simp (to_z-of_z, f) (kept c), c.reduce-cst.ensures.inline)

pub returns : goal.returns
returns c = let f = cst_fits c in simp (to_z-of_z, f) (same c)
