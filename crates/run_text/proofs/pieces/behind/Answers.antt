use Rattle.std.proofs.lemmas.Slice.Eq.{strip_prefix_is}
use Rattle.std.proofs.lemmas.Bool.Decides.{Decides-eqb}
use Rattle.run_text.proofs.PieceLemmas.{stripped, stripped_whole}
use Rattle.run_text.proofs.pieces.behind.Goals as goal

pub returns-clause-value : goal.returns-clause-value
returns-clause-value c = stripped c.args.word.now c.args.line.now _ (strip_prefix_is Decides-eqb c.args.line.now c.args.word.now _ c.strip_prefix.ensures.cases)

pub returns-clause-whole : goal.returns-clause-whole
returns-clause-whole c = stripped_whole c.args.word.now c.args.line.now _ (strip_prefix_is Decides-eqb c.args.line.now c.args.word.now _ c.strip_prefix.ensures.cases)
