-- The lines of the bytes of a text that are not read yet.
use Rattle.std.specs.Prelude.{ℕ, List, ◌++◌, map}
use Rattle.report_specs.specs.Lines.{cut_of, without_return, last_line}

-- behind a mark, or after a line
abbrev pub lines_from : List ℕ → List (List ℕ)
lines_from bytes = map without_return (cut_of bytes).whole ++ last_line (cut_of bytes).rest
