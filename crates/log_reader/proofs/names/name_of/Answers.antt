use Rattle.log_reader.proofs.AsciiLemmas.{no_name_unless_text}
use Rattle.log_reader.proofs.names.name_of.Goals as goal

pub returns-in-Err : goal.returns-in-Err
returns-in-Err c = no_name_unless_text c.args.field.now c.in-Err.ensures.cases.0
