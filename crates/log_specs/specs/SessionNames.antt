-- The names of sessions, as lists of bytes.
use Rattle.std.specs.Prelude.{ℕ, List, Bool, ◌&&◌, ◌||◌, ◌==◌}
use Rattle.std.specs.List.{list_all}
use Rattle.run_specs.specs.Names.{is_word_byte, has_name_length}

-- a letter, a digit, `_`, `-` or `.`
abbrev pub is_session_byte : ℕ → Bool
is_session_byte b = is_word_byte b || (b == 45) || (b == 46)

-- a session's name: 1 to 32 such bytes
abbrev pub is_session_name : List ℕ → Bool
is_session_name bytes = has_name_length bytes && list_all is_session_byte bytes
