use Rattle.std.proofs.Common.{◌++◌, subst, sym}
use Rattle.std.specs.List.{flat_map}
use Rattle.poly_specs.specs.Elimination.{free_of, lowers}
use Rattle.poly_specs.specs.Systems.{IsProjection}
use Rattle.fm_eliminate.specs.Leaving.{IsLeft, combinations}
use Rattle.fm_eliminate.proofs.ProjectionLemmas.{left_plain, pairs_projection}
use Rattle.fm_eliminate.proofs.System.left_of_pairs.Goals as goal

pub returns-clause-ok : goal.returns-clause-ok
returns-clause-ok c =
    let free = subst (λ items. IsLeft (items ++ free_of c.args.x c.rows-2.result.now) c.add_free.new.kept) c.in_ok-kept.ensures c.in_ok-add_free.ensures in
    let first = subst (λ rows. IsLeft (free_of c.args.x rows) c.add_free.new.kept) c.rows-2.ensures.value free in
    let pairs = subst (λ rows. IsLeft (c.add_free.new.kept ++ flat_map (combinations c.args.x rows) (lowers c.args.x rows)) c.add_pairs.new.kept)
    c.rows-3.ensures.value c.in_ok-add_pairs.ensures.ok in
    subst (IsProjection c.args.self.now.width c.args.x c.args.self.now.rows) (sym c.into_rows.ensures)
    (pairs_projection c.args.self.now.width c.args.x c.args.self.now.rows c.add_pairs.new.kept c.requires c.rows-2.ensures.kept.wide
    (left_plain c.args.x c.args.self.now.rows c.add_free.new.kept c.add_pairs.new.kept first pairs))
