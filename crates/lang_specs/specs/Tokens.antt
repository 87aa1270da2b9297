-- How a line is cut into tokens.
use Rattle.std.specs.Prelude.{ℕ, zero, suc, ◌+◌, ◌-◌, max, Bool, false, ◌||◌, ◌==◌, if◌then◌else◌, List, [], ◌∷◌, length, take, drop, Result, Ok, Err}
use Rattle.std.specs.List.{prefix_len}
use Rattle.poly_specs.specs.Fractions.{Fraction}
use Rattle.number_specs.specs.Digits.{is_digit}
use Rattle.number_specs.specs.Literals.{read_literal}
use Rattle.number_specs.specs.declared.NumFault.{NumFault}
use Rattle.number_specs.specs.declared.NumFault.TheVariants.{Form, Range}
use Rattle.run_specs.specs.Names.{is_letter, is_word_byte}
use Rattle.lang_specs.specs.declared.Kind.{Kind}
use Rattle.lang_specs.specs.declared.Kind.TheVariants.{Number, EndLine, Other}
use Rattle.lang_specs.specs.Words.{spelled, word_kind, sign_kind}

-- a token: its line, the column of its first byte (both from 1), what it is, and its bytes
pub record Placed : Type 0 where
  pub line : ℕ
  pub column : ℕ
  pub kind : Kind
  pub text : List ℕ

-- ---- bytes

-- spaces and tabs separate tokens
abbrev pub is_blank : ℕ → Bool
is_blank b = (b == 32) || (b == 9)

-- from `#` on a line is comment
abbrev pub begins_comment : ℕ → Bool
begins_comment b = b == 35

abbrev pub carriage_return : ℕ
carriage_return = 13

-- a keyword or a name begins with a letter or `_`
abbrev pub begins_word : ℕ → Bool
begins_word b = is_letter b || (b == 95)

-- ---- the longest token

-- how many bytes at the front belong to one word
abbrev pub word_len : List ℕ → ℕ
word_len bytes = prefix_len is_word_byte bytes

-- how many digits stand at the front
abbrev pub digits_len : List ℕ → ℕ
digits_len bytes = prefix_len is_digit bytes

-- digits behind a `/` or a `.`, with that byte; 0 where no digit stands there
abbrev pub tail_len : List ℕ → ℕ
tail_len [] = 0
tail_len (b ∷ bytes) = if (b == 47) || (b == 46) then (if digits_len bytes == 0 then 0 else 1 + digits_len bytes) else 0

-- the longest literal at the front: digits, or digits, a `/` or a `.`, and digits
abbrev pub literal_len : List ℕ → ℕ
literal_len bytes = digits_len bytes + tail_len (drop (digits_len bytes) bytes)

-- nothing allows a literal with a denominator of 0, however many digits it has; too many digits pass a limit
abbrev pub kind_of_literal : Result Fraction NumFault → Kind
kind_of_literal (Ok value) = Number
kind_of_literal (Err Range) = Number
kind_of_literal (Err Form) = Other

-- what the literal is
abbrev pub literal_kind : List ℕ → Kind
literal_kind text = kind_of_literal (read_literal text)

-- what a token is, and how many bytes it takes
pub record Found : Type 0 where
  pub kind : Kind
  pub size : ℕ

-- a word; directly behind a literal nothing allows it
abbrev pub word_at : Bool → List ℕ → Found
word_at behind_literal bytes = record {
  kind = if behind_literal then Other else word_kind (take (word_len bytes) bytes);
  size = word_len bytes;
}

abbrev pub literal_at : List ℕ → Found
literal_at bytes = record { kind = literal_kind (take (literal_len bytes) bytes); size = literal_len bytes }

-- a sign, or one byte that no token begins with
abbrev pub sign_at : List ℕ → Found
sign_at bytes = record { kind = sign_kind bytes; size = max 1 (length (spelled (sign_kind bytes))) }

-- the longest token at the front of the bytes, of which the first is b
abbrev pub token_at : Bool → ℕ → List ℕ → Found
token_at behind_literal b bytes =
    if begins_word b then word_at behind_literal bytes else if is_digit b then literal_at bytes else sign_at bytes

-- ---- a line

-- the end of a line, which is a token of its own
abbrev pub end_of_line : ℕ → ℕ → Placed
end_of_line line column = record { line = line; column = column; kind = EndLine; text = [] }

-- the token that was found at the front of the bytes
abbrev pub placed : ℕ → ℕ → Found → List ℕ → Placed
placed line column found bytes = record { line = line; column = column; kind = found.kind; text = take found.size bytes }

-- the column behind a token that begins with b; a carriage return does not count
abbrev pub behind : ℕ → Found → ℕ → ℕ → ℕ
behind column found b last = if b == carriage_return then last else column + found.size

-- The tokens of the bytes from this column on, and the end of the line, which stands in the column `last` behind the last
-- byte that is no blank, no carriage return and no comment. The next `inside` bytes belong to the token before, which may
-- be a literal.
unfoldable pub cut : (line inside column last : ℕ) → Bool → List ℕ → List Placed
cut line inside column last behind_literal [] = end_of_line line last ∷ []
cut line (suc inside) column last behind_literal (b ∷ bytes) = cut line inside (column + 1) last behind_literal bytes
cut line zero column last behind_literal (b ∷ bytes) =
    if is_blank b then cut line 0 (column + 1) last false bytes
    else if begins_comment b then end_of_line line last ∷ []
    else (let found = token_at behind_literal b (b ∷ bytes) in
    placed line column found (b ∷ bytes) ∷ cut line (found.size - 1) (column + 1) (behind column found b last) (is_digit b) bytes)

-- the tokens of a line, and its end
abbrev pub line_tokens : ℕ → List ℕ → List Placed
line_tokens line bytes = cut line 0 1 1 false bytes
