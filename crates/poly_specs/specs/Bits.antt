-- Integers of 128 bits.
use Rattle.std.specs.Prelude.{◌^◌, ◌<◌, ◌≤◌, List, All, Any, ℤ, unsigned_abs}

-- the integer passes 128 bits: its absolute value is above 2^127 - 1
abbrev pub PassesBits : ℤ → Type 0
PassesBits z = 2 ^ 127 ≤ unsigned_abs z

-- one of the numbers passes
abbrev pub SomePasses : List ℤ → Type 0
SomePasses ns = Any PassesBits ns

-- it does not: the least value of the type is not kept
abbrev pub FitsBits : ℤ → Type 0
FitsBits z = unsigned_abs z < 2 ^ 127

-- none of the numbers passes
abbrev pub NonePasses : List ℤ → Type 0
NonePasses ns = All FitsBits ns
