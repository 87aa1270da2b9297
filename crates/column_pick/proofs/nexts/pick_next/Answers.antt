use Rattle.std.proofs.Common.{◌∙◌, ◌+◌, ℕ, List, length, sym, ap, subst}
use Rattle.poly_specs.specs.Rows.{Row}
use Rattle.poly_specs.specs.Systems.{IsLevel}
use Rattle.column_pick.specs.Fixed.{fixed_point}
use Rattle.column_pick.specs.Nexts.{whole_of}
use Rattle.column_pick.proofs.ColumnLemmas.{AtColumn, column_some, column_ok, column_passes}
use Rattle.column_pick.proofs.nexts.pick_next.Goals as goal

before : (c : goal.After-point-2-1) → AtColumn (whole_of c.args.levels.now) c.args.numbers.now c.rows.result.now c.in_ok-point.point
before c = record {
  fractions = λ k d h. (c.in_ok-point.ensures.kept k d h).positive;
  within = c.requires.within;
  is_level = subst (λ (rs : List Row). IsLevel (whole_of c.args.levels.now).width (length c.args.numbers.now + 1) (whole_of c.args.levels.now).rows rs) (sym c.rows.ensures.value) c.level_at-level.ensures.level;
  some = c.requires.some;
  point_is = c.in_ok-point.ensures.ok ∙ ap (λ (w : ℕ). fixed_point w c.args.numbers.now) (c.width.ensures.value ∙ c.level_at-level.ensures.width);
}

pub pick_over-requires-clause-some : goal.pick_over-requires-clause-some
pick_over-requires-clause-some c = column_some (whole_of c.args.levels.now) c.args.numbers.now c.rows.result.now c.in_ok-point.point (before c)

after : (c : goal.After-drop-point-inside) → AtColumn (whole_of c.args.levels.now) c.args.numbers.now c.rows.result.now c.in_ok-point.point
after c = record {
  fractions = λ k d h. (c.in_ok-point.ensures.kept k d h).positive;
  within = c.requires.within;
  is_level = subst (λ (rs : List Row). IsLevel (whole_of c.args.levels.now).width (length c.args.numbers.now + 1) (whole_of c.args.levels.now).rows rs) (sym c.rows.ensures.value) c.level_at-level.ensures.level;
  some = c.requires.some;
  point_is = c.in_ok-point.ensures.ok ∙ ap (λ (w : ℕ). fixed_point w c.args.numbers.now) (c.width.ensures.value ∙ c.level_at-level.ensures.width);
}

pub returns-clause-ok : goal.returns-clause-ok
returns-clause-ok c =
    column_ok (whole_of c.args.levels.now) c.args.numbers.now c.rows.result.now c.in_ok-point.point (after c) c.pick_over.result c.pick_over.ensures.ok

pub returns-clause-passes : goal.returns-clause-passes
returns-clause-passes c e =
    column_passes (whole_of c.args.levels.now) c.args.numbers.now c.rows.result.now c.in_ok-point.point (after c) (c.pick_over.ensures.passes e)
