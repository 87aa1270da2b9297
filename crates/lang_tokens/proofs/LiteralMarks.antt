-- Marks of which each literal has a value.
use Rattle.std.proofs.Common.{◌≡◌, ◌⊎◌, inl, inr, ℕ, Result, Ok, Err, true, List, [], ◌∷◌, ◌++◌, refl}
use Rattle.poly_specs.specs.Fractions.{Fraction}
use Rattle.number_specs.specs.Literals.{ratio, read_literal}
use Rattle.number_specs.specs.declared.NumFault.{NumFault}
use Rattle.number_specs.specs.declared.NumFault.TheVariants.{Form, Range}
use Rattle.lang_specs.specs.Marks.{Mark, a_number}
use Rattle.lang_specs.specs.Expressions.{IsValue}
use Rattle.lang_tokens.specs.LineFaults.{is_value, is_literal, AreLiterals}

pub literals_front : (ms ns : List Mark) → AreLiterals (ms ++ ns) → AreLiterals ms
literals_front [] ns h = tt
literals_front (m ∷ ms) ns h = (h.0, literals_front ms ns h.1)

pub literals_rest : (ms ns : List Mark) → AreLiterals (ms ++ ns) → AreLiterals ns
literals_rest [] ns h = h
literals_rest (m ∷ ms) ns h = literals_rest ms ns h.1

pub literals_append : (ms ns : List Mark) → AreLiterals ms → AreLiterals ns → AreLiterals (ms ++ ns)
literals_append [] ns h k = k
literals_append (m ∷ ms) ns h k = (h.0, literals_append ms ns h.1 k)

-- the literal `0`
abbrev pub zero_text : List ℕ
zero_text = 48 ∷ []

abbrev pub nought : Mark
nought = a_number zero_text

value_of : (r : Result Fraction NumFault) → is_value r ≡ true → (v : Fraction) × ((r ≡ Ok v) ⊎ (r ≡ Err Range))
value_of (Ok v) h = (v, inl refl)
value_of (Err Range) h = (ratio 0 1, inr refl)
value_of (Err Form) h = absurd cc

-- a literal has a value, or too many digits
pub literal_value : (text : List ℕ) → is_literal (a_number text) ≡ true → (v : Fraction) × IsValue text v
literal_value text h = value_of (read_literal text) h
