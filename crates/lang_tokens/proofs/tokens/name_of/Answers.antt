use Rattle.lang_tokens.proofs.AsciiText.{no_name_unless_text}
use Rattle.lang_tokens.proofs.tokens.name_of.Goals as goal

pub returns-in-Err : goal.returns-in-Err
returns-in-Err c = no_name_unless_text c.args.text.now c.in-Err.ensures.cases.0
