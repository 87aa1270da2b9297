use Rattle.std.proofs.Common.{ℕ, List, [], ◌∷◌, ◌++◌, Vec, Global, ap, append_assoc, ◌∙◌}
use Rattle.model_reader.proofs.lines.named_line.Goals as goal

pub returns : goal.returns
returns c =
    let front = ap (λ (v : Vec ℕ Global). v.items) c.into_bytes-bytes.ensures.value ∙ c.in_ok-told.ensures.ok in
    let name = c.in_ok-extend_from_slice.ensures.items ∙ ap (λ (xs : List ℕ). c.into_bytes-bytes.result.items ++ xs) c.bytes.ensures.value
    ∙ ap (λ (xs : List ℕ). xs ++ c.args.name.now) front in
    simp append_assoc (c.in_ok-push.ensures.items ∙ ap (λ (xs : List ℕ). xs ++ 10 ∷ []) name ∙ simp append_assoc)
