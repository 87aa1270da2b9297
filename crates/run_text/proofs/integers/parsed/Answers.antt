use Rattle.run_text.proofs.IntegerReading.{integer_is_utf8, refused_passes}
use Rattle.run_text.proofs.integers.parsed.Goals as goal

pub returns-in_err-utf8 : goal.returns-in_err-utf8
returns-in_err-utf8 c = absurd (c.in_err-utf8.ensures (integer_is_utf8 c.args.text.now c.requires))

pub returns-in-Err : goal.returns-in-Err
returns-in-Err c fits =
    let read = rw c.in_ok-utf8.ensures at c.parse.ensures.value.0 in
    refused_passes c.args.text.now c.parse.result c.in-Err.field-0 c.requires c.in-Err.is read fits
