use Rattle.poly_specs.proofs.InclusionLemmas.{among_eliminated_each, among_formed_each}
use Rattle.poly_specs.proofs.fewer_rows.Goals as goal

pub returns : goal.returns
returns c columns rows more h = (among_eliminated_each columns rows more h, among_formed_each columns rows more h)
