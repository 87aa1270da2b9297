use Rattle.log_reader.proofs.AsciiLemmas.{form_unless_text}
use Rattle.log_reader.proofs.numbers.number_of.Goals as goal

pub returns-in-Err : goal.returns-in-Err
returns-in-Err c = form_unless_text c.args.field.now c.in-Err.ensures.cases.0
