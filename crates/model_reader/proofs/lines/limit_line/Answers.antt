use Rattle.std.proofs.Common.{ℕ, Vec, Global, ap, append_assoc, ◌∙◌}
use Rattle.model_reader.proofs.lines.limit_line.Goals as goal

pub returns : goal.returns
returns c =
    let written = rw c.limit_word-word.ensures at c.in_ok-told.ensures.ok in
    simp append_assoc (ap (λ (v : Vec ℕ Global). v.items) c.into_bytes.ensures.value ∙ written)
