use Rattle.std.proofs.Common.{List, sym, subst}
use Rattle.std.proofs.lemmas.Result.{err_from_is_err_and}
use Rattle.lang_specs.specs.Trees.{Tree}
use Rattle.lang_specs.specs.FirstFault.{IsSpelling}
use Rattle.model_reader.proofs.FaultLemmas.{spelling_right, trees_right}
use Rattle.model_reader.proofs.texts.read_short.Goals as goal

pub returns-in_err-trees-clause-fault : goal.returns-in_err-trees-clause-fault
returns-in_err-trees-clause-fault c =
    let p = err_from_is_err_and c.from_residual.result c.from_residual.ensures.1 in
    rw (p.1, p.2) (spelling_right c.args.text.now c.in_err-trees.field-0.0 c.requires c.in_err-trees.ensures.fault)

pub returns-in_err-automata-clause-fault : goal.returns-in_err-automata-clause-fault
returns-in_err-automata-clause-fault c =
    let p = err_from_is_err_and c.from_residual-in_err-automata.result c.from_residual-in_err-automata.ensures.1 in
    let spelled = subst (λ (ts : List Tree). IsSpelling c.args.text.now ts) (sym c.deref.ensures.value) c.in_ok-trees.ensures.ok in
    rw (p.1, p.2) (trees_right c.args.text.now c.deref.result.now c.in_err-automata.field-0.0 c.requires spelled c.in_err-automata.ensures.fault)

pub returns-clause-automata : goal.returns-clause-automata
returns-clause-automata c = record {
  short = c.requires;
  trees = c.deref.result.now;
  spelled = subst (λ (ts : List Tree). IsSpelling c.args.text.now ts) (sym c.deref.ensures.value) c.in_ok-trees.ensures.ok;
  sound = c.in_ok-automata.ensures.none;
  made = c.in_ok-automata.ensures.automata;
}
