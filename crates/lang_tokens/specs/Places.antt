-- Tokens of a line as the definitions see them.
use Rattle.std.specs.Prelude.{ℕ, ◌+◌, ◌==◌, if◌then◌else◌}
use Rattle.lang_specs.specs.Tokens.{Placed}
use Rattle.lang_tokens.specs.declared.tokens.Token.{Token}

-- the token, in this line
abbrev pub placed_of : ℕ → Token → Placed
placed_of line t = record { line = line; column = t.column; kind = t.kind; text = t.text.now }

-- the column behind a token of this size that begins with b; a carriage return does not count
abbrev pub behind_size : (column size b last : ℕ) → ℕ
behind_size column size b last = if b == 13 then last else column + size
