-- The names of automata, variables, locations and transitions, as lists of bytes.
use Rattle.std.specs.Prelude.{ℕ, List, [], ◌∷◌, length, Bool, false, ◌&&◌, ◌||◌, not, ◌==◌, nat_le, codes, bytes_eq}
use Rattle.std.specs.List.{list_any, list_all}
use Rattle.number_specs.specs.Digits.{is_digit}

-- A to Z, or a to z
abbrev pub is_letter : ℕ → Bool
is_letter b = (nat_le 65 b && nat_le b 90) || (nat_le 97 b && nat_le b 122)

-- a letter, a digit or `_`
abbrev pub is_word_byte : ℕ → Bool
is_word_byte b = is_letter b || is_digit b || (b == 95)

-- a letter or `_` stands first
abbrev pub begins_as_name : List ℕ → Bool
begins_as_name [] = false
begins_as_name (b ∷ bytes) = is_letter b || (b == 95)

-- 1 to 32 bytes
abbrev pub has_name_length : List ℕ → Bool
has_name_length bytes = nat_le 1 (length bytes) && nat_le (length bytes) 32

-- the words of the model language
abbrev pub keywords : List (List ℕ)
keywords =
    codes "lha" ∷ codes "automaton" ∷ codes "var" ∷ codes "loc" ∷ codes "unsafe" ∷ codes "init" ∷ codes "inv" ∷ codes "flow" ∷ codes "in"
    ∷ codes "also" ∷ codes "trans" ∷ codes "as" ∷ codes "when" ∷ codes "set" ∷ codes "free" ∷ codes "end" ∷ codes "true" ∷ codes "obs" ∷ codes "within" ∷ []

-- a name: a letter or `_`, then letters, digits and `_`, at most 32 bytes, and no word of the language
abbrev pub is_name : List ℕ → Bool
is_name bytes = has_name_length bytes && begins_as_name bytes && list_all is_word_byte bytes && not (list_any (bytes_eq bytes) keywords)
