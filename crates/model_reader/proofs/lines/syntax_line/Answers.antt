use Rattle.std.proofs.Common.{ℕ, Vec, Global, ap, append_assoc, ◌∙◌}
use Rattle.model_reader.proofs.lines.syntax_line.Goals as goal

pub returns : goal.returns
returns c = simp append_assoc (ap (λ (v : Vec ℕ Global). v.items) c.into_bytes.ensures.value ∙ c.in_ok-told.ensures.ok)
