use Rattle.lang_specs.proofs.ExampleTokens.{odd_lines}
use Rattle.lang_specs.proofs.examples.lines_that_nothing_allows.Goals as goal

pub returns : goal.returns
returns c = odd_lines
