use Rattle.std.proofs.Common.{◌≡◌, length}
use Rattle.std.specs.Prelude.{All}
use Rattle.poly_specs.specs.LowestTerms.{IsLowest}
use Rattle.column_pick.specs.Nexts.{whole_of}
use Rattle.column_pick.specs.Picked.{ArePickedSoFar}
use Rattle.column_pick.proofs.picking.add_numbers.Given as goal

abbrev pub invariant-loop : goal.invariant-loop
invariant-loop l =
    (length l.numbers.items ≡ l.counter) × All IsLowest l.numbers.items × ArePickedSoFar (whole_of l.fn.levels) l.fn.numbers.items l.numbers.items
