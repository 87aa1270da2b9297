use Rattle.poly_specs.proofs.PickingLemmas.{some_numbers}
use Rattle.poly_specs.proofs.pickings.some_numbers_are_picked.Goals as goal

pub returns : goal.returns
returns c n rows given q wide fractions within point agrees = some_numbers n rows given q wide fractions within point agrees
