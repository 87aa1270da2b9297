use Rattle.std.specs.List.{AllWithin}
use Rattle.std.specs.Prelude.{IsTrue}
use Rattle.run_specs.specs.Names.{is_name}
use Rattle.lha_model.proofs.automata.show_names.Given as goal

abbrev pub invariant-loop-name : goal.invariant-loop-name
invariant-loop-name l = AllWithin (λ x. IsTrue (is_name x)) l.names 0 l.name-index
