-- A text that is being printed, token by token.
use Rattle.std.specs.Prelude.{ℕ, Bool, true, ◌||◌, if◌then◌else◌, List, [], ◌∷◌, ◌++◌, codes}
use Rattle.lang_specs.specs.declared.Kind.{Kind}
use Rattle.lang_specs.specs.declared.Kind.TheVariants.{Name}
use Rattle.lang_specs.specs.Marks.{Mark}
use Rattle.lang_specs.specs.Canonical.{written, is_close_before, is_close_behind, leads}

-- what is written; the kind of the last token; and whether the next one stands right behind it, since that one leads a term
-- or none stands in this line
pub record Page : Type 0 where
  pub bytes : List ℕ
  pub before : Kind
  pub leading : Bool

-- the space before a token of this kind, or none
abbrev pub space_before : Page → Kind → List ℕ
space_before p k = if p.leading || is_close_behind p.before || is_close_before k then [] else codes " "

-- a token of this kind begins
abbrev pub with_begin : Page → Kind → Page
with_begin p k = record { bytes = p.bytes ++ space_before p k; before = k; leading = leads p.before k }

abbrev pub with_bytes : Page → List ℕ → Page
with_bytes p bytes = record p { bytes = p.bytes ++ bytes }

abbrev pub with_token : Page → Mark → Page
with_token p m = with_bytes (with_begin p m.kind) (written m)

abbrev pub with_tokens : Page → List Mark → Page
with_tokens p [] = p
with_tokens p (m ∷ ms) = with_tokens (with_token p m) ms

-- a page at the start of a line
abbrev pub at_line_start : List ℕ → Page
at_line_start bytes = record { bytes = bytes; before = Name; leading = true }

-- a line ends
abbrev pub with_end : Page → Page
with_end p = at_line_start (p.bytes ++ codes "\n")

abbrev pub with_line : Page → List Mark → Page
with_line p ms = with_end (with_tokens p ms)

abbrev pub with_lines : Page → List (List Mark) → Page
with_lines p [] = p
with_lines p (ms ∷ lines) = with_lines (with_line p ms) lines
