use Rattle.command_words.proofs.NumberLemmas.{too_large}
use Rattle.command_words.proofs.numbers.number_of.Goals as goal

pub returns-in-Err-clause-large : goal.returns-in-Err-clause-large
returns-in-Err-clause-large c = too_large c.args.digits.now c.in-Err.field-0 c.requires (c.in-Err.ensures.value).0
