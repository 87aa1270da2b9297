-- Blanks at the end of a field.
use Rattle.std.proofs.Common.{◌≡◌, ℕ, List, [], ◌∷◌, ◌++◌, true, false, cond, refl, sym, ◌∙◌, ap}
use Rattle.log_specs.specs.Fields.{is_blank, before, up_to_blanks}

pub blank_dropped : (xs : List ℕ) (b : ℕ) → is_blank b ≡ true → up_to_blanks (xs ++ b ∷ []) ≡ up_to_blanks xs
blank_dropped [] b e = ap (λ t. cond t [] (b ∷ [])) e
blank_dropped (x ∷ xs) b e = ap (λ ys. before x ys) (blank_dropped xs b e)

before_some : (x : ℕ) (xs : List ℕ) (b : ℕ) → before x (xs ++ b ∷ []) ≡ x ∷ (xs ++ b ∷ [])
before_some x [] b = refl
before_some x (y ∷ xs) b = refl

pub byte_kept : (xs : List ℕ) (b : ℕ) → is_blank b ≡ false → up_to_blanks (xs ++ b ∷ []) ≡ xs ++ b ∷ []
byte_kept [] b e = ap (λ t. cond t [] (b ∷ [])) e
byte_kept (x ∷ xs) b e = ap (λ ys. before x ys) (byte_kept xs b e) ∙ before_some x xs b

pub dropped_by : (xs left : List ℕ) (b : ℕ) → left ≡ xs ++ b ∷ [] → is_blank b ≡ true → up_to_blanks xs ≡ up_to_blanks left
dropped_by xs left b is e = sym (blank_dropped xs b e) ∙ ap up_to_blanks (sym is)

pub kept_by : (xs left : List ℕ) (b : ℕ) → left ≡ xs ++ b ∷ [] → is_blank b ≡ false → left ≡ up_to_blanks left
kept_by xs left b is e = is ∙ sym (byte_kept xs b e) ∙ ap up_to_blanks (sym is)
