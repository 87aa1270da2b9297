use Rattle.std.proofs.Common.{◌≡◌, ◌++◌, IsTrue, map, length}
use Rattle.std.specs.List.{list_all}
use Rattle.run_specs.specs.Names.{is_name}
use Rattle.log_reader.proofs.names.names_of.Given as goal

abbrev pub invariant-loop-rest : goal.invariant-loop-rest
invariant-loop-rest l = record {
  split : l.names.items ++ map (λ f. f.now) l.rest ≡ map (λ f. f.now) l.fn.fields;
  names : IsTrue (list_all is_name l.names.items);
}

abbrev pub decreases-loop-rest : goal.decreases-loop-rest
decreases-loop-rest l = length l.rest
