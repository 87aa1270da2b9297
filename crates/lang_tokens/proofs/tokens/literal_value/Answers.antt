use Rattle.lang_tokens.proofs.AsciiText.{form_unless_text}
use Rattle.lang_tokens.proofs.tokens.literal_value.Goals as goal

pub returns-in-Err : goal.returns-in-Err
returns-in-Err c = form_unless_text c.args.text.now c.in-Err.ensures.cases.0
