-- Lines behind a prefix.
use Rattle.std.specs.Prelude.{ℕ, List, ◌++◌, map}
use Rattle.replay_specs.specs.RunTexts.{ended_lines}

-- each line behind the prefix, with a line feed behind it
abbrev pub lines_behind : List ℕ → List (List ℕ) → List ℕ
lines_behind prefix lines = ended_lines (map (λ line. prefix ++ line) lines)
