use Rattle.std.proofs.Common.{sym, ◌∙◌}
use Rattle.log_reader.proofs.CommaLemmas.{plain_fields, no_return}
use Rattle.log_reader.proofs.fields.Record.read.Goals as goal

pub returns-then-is_plain-clause-read : goal.returns-then-is_plain-clause-read
returns-then-is_plain-clause-read c =
    let text = sym c.is_text.ensures ∙ c.if-not-is_text.false in
    record {
      short = sym c.is_long.ensures ∙ c.if-is_long.false;
      text = text;
      fields = plain_fields c.args.line.now (c.is_plain.ensures.mark c.if-is_plain.true) (c.is_plain.ensures.quote c.if-is_plain.true) (no_return c.args.line.now text) c.requires;
    }
