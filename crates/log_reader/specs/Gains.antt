-- Bytes that are got from a source.
use Rattle.std.specs.Prelude.{◌≡◌, ℕ, List, ◌++◌, length, Option}
use Rattle.std.specs.Io.KnownBytes.{Consumes}

-- so many bytes were got from the source, whose bytes left are those before and after, and stand behind the old ones
pub record Gains (before after : Option (List ℕ)) (old new : List ℕ) (count : ℕ) : Type 0 where
  pub got : List ℕ
  pub consumed : Consumes before after got
  pub grown : new ≡ old ++ got
  pub size : length got ≡ count
