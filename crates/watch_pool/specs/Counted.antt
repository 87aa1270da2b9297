-- How often a call looks that drives a sample.
use Rattle.std.specs.Prelude.{ℕ, Option, Some, None}

-- once where a key is wanted, and else not
abbrev pub looks_for : {K : Type 0} → Option K → ℕ
looks_for None = 0
looks_for (Some key) = 1
