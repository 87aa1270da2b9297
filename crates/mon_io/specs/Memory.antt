-- What the sources, sinks and shelves in memory hold, and what a call makes of it.
use Rattle.std.specs.Prelude.{ℕ, List, Option, find, bytes_eq, Contains, String, string_bytes, Vec}
use Rattle.std.specs.declared.alloc.Global.{Global}
use Rattle.mon_io.specs.Faults.{one_more}
use Rattle.std.specs.Option.{option_map}

-- the numbers of the calls that fail, counted from 1; how many calls were made, and how many failed
pub record Schedule : Type 0 where
  pub fails : List ℕ
  pub made : ℕ
  pub faults : ℕ

-- none was made
abbrev pub unused : List ℕ → Schedule
unused fails = record { fails = fails; made = 0; faults = 0 }

-- the next call is one of those that fail
abbrev pub IsToFail : Schedule → Type 0
IsToFail calls = Contains calls.fails (one_more calls.made)

-- one more call was made
abbrev pub after_call : Schedule → Schedule
after_call calls = record calls { made = one_more calls.made }

-- one more call was made, and failed
abbrev pub after_fault : Schedule → Schedule
after_fault calls = record calls { made = one_more calls.made; faults = one_more calls.faults }

-- a source: the bytes left, and how many of them a call gives at most
pub record Given : Type 0 where
  pub left : List ℕ
  pub per_call : ℕ
  pub calls : Schedule

-- a sink: the bytes taken, and how many more a call takes at most
pub record Taken : Type 0 where
  pub bytes : List ℕ
  pub per_call : ℕ
  pub calls : Schedule

-- a shelf: each text behind its name
pub record Kept : Type 0 where
  pub texts : List (List ℕ × List ℕ)
  pub calls : Schedule

-- the first text of this name
abbrev pub text_named : List (List ℕ × List ℕ) → List ℕ → Option (List ℕ)
text_named texts name = option_map (λ entry. entry.1) (find (λ entry. bytes_eq entry.0 name) texts)

-- what a shelf has of its texts
abbrev pub entry_of : String Global × Vec ℕ Global → List ℕ × List ℕ
entry_of entry = (string_bytes entry.0, entry.1.items)
