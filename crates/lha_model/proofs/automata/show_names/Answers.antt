use Rattle.std.specs.Prelude.{IsTrue}
use Rattle.std.proofs.lemmas.List.Elements.{AllWithin-more, at_read}
use Rattle.run_specs.specs.Names.{is_name}
use Rattle.lha_model.proofs.automata.show_names.Goals as goal

pub loop-name-preserved : goal.loop-name-preserved
loop-name-preserved c =
    AllWithin-more (λ x. IsTrue (is_name x)) c.args.names.now _ _ c.loop-name.invariant
    (at_read c.args.names.now (λ x. IsTrue (is_name x)) _ _ c.loop-name-test.true c.name-item.is c.bytes.ensures.kept)
