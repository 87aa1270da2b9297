use Rattle.std.proofs.Common.{Some, sym, ap, ◌∙◌, arith, bytes_eq}
use Rattle.lang_specs.specs.Trees.{LocTree}
use Rattle.model_specs.specs.Faults as faults
use Rattle.lha_check.proofs.NameLemmas.{place_is, found_place, no_place, known_at, unknown_at}
use Rattle.lha_check.proofs.RowLemmas.{one_alone}
use Rattle.lha_check.proofs.transitions.known_place.Goals as goal

pub returns-in-Some-clause-value : goal.returns-in-Some-clause-value
returns-in-Some-clause-value c =
    let there = found_place (λ (l : LocTree). bytes_eq l.name c.args.name.now) c.args.locs.now c.in-Some.place (sym c.in-Some.ensures) in
    let within = there.2 in
    let few = c.requires in
    let same = there.1 ∙ sym (place_is (λ (l : LocTree). l.name) c.args.locs.now c.args.name.now) in
    omega (arith, same, within, few)

pub returns-in-Some-clause-none : goal.returns-in-Some-clause-none
returns-in-Some-clause-none c = known_at (λ (l : LocTree). l.name) c.args.locs.now c.args.name.now c.args.line (found_place (λ (l : LocTree). bytes_eq l.name c.args.name.now) c.args.locs.now c.in-Some.place (sym c.in-Some.ensures)).0

pub returns-in-None-clause-fault : goal.returns-in-None-clause-fault
returns-in-None-clause-fault c =
    one_alone _ (faults.UnknownName c.args.line c.args.name.now) _
    (unknown_at (λ (l : LocTree). l.name) c.args.locs.now c.args.name.now c.args.line (no_place (λ (l : LocTree). bytes_eq l.name c.args.name.now) c.args.locs.now (sym c.in-None.ensures)))
    (ap (λ n. Some (faults.UnknownName c.args.line n)) c.copy.ensures)
