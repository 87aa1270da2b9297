-- Runs as they stand in a report, each line behind `+ `, and as they stand alone.
use Rattle.std.specs.Prelude.{ℕ, List, [], ◌∷◌, ◌++◌, map, ◌&&◌, ◌==◌, if◌then◌else◌}
use Rattle.report_specs.specs.Lines.{cut_of}
use Rattle.replay_specs.specs.RunTexts.{ended_lines}

-- a line without one `+ ` at its beginning
abbrev pub without_plus : List ℕ → List ℕ
without_plus [] = []
without_plus (a ∷ []) = a ∷ []
without_plus (a ∷ b ∷ rest) = if (a == 43) && (b == 32) then rest else a ∷ b ∷ rest

-- a text whose lines are without it, the last one too, which has no line feed
abbrev pub without_plus_signs : List ℕ → List ℕ
without_plus_signs text = ended_lines (map without_plus (cut_of text).whole) ++ without_plus (cut_of text).rest
