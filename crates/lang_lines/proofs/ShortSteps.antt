-- What a token writes in a short line.
use Rattle.std.proofs.Common.{◌≡◌, ℕ, ◌&&◌, if◌then◌else◌, List, [], refl}
use Rattle.std.specs.Prelude.{bytes_eq}
use Rattle.lang_specs.specs.declared.Kind.{Kind}
use Rattle.lang_specs.specs.declared.Kind.TheVariants.{Number}
use Rattle.lang_specs.specs.Marks.{has_text}
use Rattle.lang_tokens.specs.Kinds.{same_kind}

-- a literal keeps its text
pub number_text : (k : Kind) (text other : List ℕ) →
    (same_kind k Number && bytes_eq (if has_text k then text else []) other) ≡ (same_kind k Number && bytes_eq text other)
number_text Number text other = refl
number_text k text other = refl
