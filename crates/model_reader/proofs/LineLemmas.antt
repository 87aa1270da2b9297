-- The bytes of lines.
use Rattle.std.proofs.Common.{◌≡◌, ℕ, List, ◌++◌, Some, Vec, Global, codes, sym, ap, ◌∙◌, append_assoc}
use Rattle.std.specs.Prelude.{decimal, option_map}
use Rattle.text_specs.specs.ModelTexts.{fault_line}
use Rattle.model_reader.specs.declared.faults.ModelFault.{ModelFault}
use Rattle.model_reader.specs.Told.{told_of}

-- the line of a fault with a name
pub name_told : (line : ℕ) (word name : List ℕ) →
    codes "hamon: model: " ++ decimal line ++ codes " " ++ word ++ codes " " ++ name ++ codes "\n"
    ≡ codes "hamon: model: " ++ (decimal line ++ (codes " " ++ word ++ codes " ") ++ name) ++ codes "\n"
name_told line word name = simp append_assoc

pub syntax_told : (line column : ℕ) →
    codes "hamon: model: " ++ decimal line ++ codes ":" ++ decimal column ++ codes " syntax\n"
    ≡ codes "hamon: model: " ++ (decimal line ++ codes ":" ++ decimal column ++ codes " syntax") ++ codes "\n"
syntax_told line column = simp append_assoc

pub limit_told : (line : ℕ) (word : List ℕ) →
    codes "hamon: model: " ++ decimal line ++ codes " limit " ++ word ++ codes "\n"
    ≡ codes "hamon: model: " ++ (decimal line ++ codes " limit " ++ word) ++ codes "\n"
limit_told line word = simp append_assoc

-- a line of this fault, from the bytes that were written for the other, which it is
pub told_as : (e f : ModelFault) (line made : Vec ℕ Global) (bytes : List ℕ) → e ≡ f → line ≡ made → made.items ≡ bytes →
    Some bytes ≡ option_map fault_line (told_of f) → Some line.items ≡ option_map fault_line (told_of e)
told_as e f line made bytes same is written told =
    ap (λ (v : Vec ℕ Global). Some v.items) is ∙ ap Some written ∙ told ∙ ap (λ g. option_map fault_line (told_of g)) (sym same)
