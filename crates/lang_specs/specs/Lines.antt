-- The lines of a text, and all its tokens.
use Rattle.std.specs.Prelude.{ℕ, ◌+◌, ◌==◌, if◌then◌else◌, List, [], ◌∷◌, ◌++◌}
use Rattle.lang_specs.specs.declared.Kind.TheVariants.{EndText}
use Rattle.lang_specs.specs.Tokens.{Placed, carriage_return, line_tokens}

abbrev pub line_feed : ℕ
line_feed = 10

-- a line that a line feed ends, without one carriage return before it
abbrev pub without_return : List ℕ → List ℕ
without_return [] = []
without_return (b ∷ []) = if b == carriage_return then [] else b ∷ []
without_return (b ∷ c ∷ bytes) = b ∷ without_return (c ∷ bytes)

-- what stands behind the last line feed is a line if it has a byte
abbrev pub last_line : List ℕ → List (List ℕ)
last_line [] = []
last_line (b ∷ bytes) = (b ∷ bytes) ∷ []

-- the lines of the bytes, the first of which has begun with these
unfoldable pub lines_from : List ℕ → List ℕ → List (List ℕ)
lines_from begun [] = last_line begun
lines_from begun (b ∷ bytes) = if b == line_feed then without_return begun ∷ lines_from [] bytes else lines_from (begun ++ b ∷ []) bytes

-- the lines of a text
abbrev pub lines_of : List ℕ → List (List ℕ)
lines_of text = lines_from [] text

-- a line with nothing but its end holds blanks and comment alone, and is passed over
abbrev pub unless_bare : List Placed → List Placed
unless_bare [] = []
unless_bare (t ∷ []) = []
unless_bare (t ∷ u ∷ ts) = t ∷ u ∷ ts

-- the end of the text, at the start of the line behind the last
abbrev pub end_of_text : ℕ → Placed
end_of_text line = record { line = line; column = 1; kind = EndText; text = [] }

-- the tokens of the lines, which are counted from this one on, and the end of the text
abbrev pub tokens_from : ℕ → List (List ℕ) → List Placed
tokens_from line [] = end_of_text line ∷ []
tokens_from line (l ∷ ls) = unless_bare (line_tokens line l) ++ tokens_from (line + 1) ls

-- the tokens of a text
abbrev pub text_tokens : List ℕ → List Placed
text_tokens text = tokens_from 1 (lines_of text)
