-- Six variables at most, and six bounds.
use Rattle.std.specs.Prelude.{ℕ, Bool, true, if◌then◌else◌, nat_le, List, length}
use Rattle.lang_specs.specs.declared.Which.{Which}
use Rattle.lang_specs.specs.declared.Which.TheVariants.{Variables}
use Rattle.lang_specs.specs.Limits.{has_at_most}
use Rattle.lang_tokens.specs.Machines.{Reading}
use Rattle.lang_tokens.specs.LineFaults.{Keeping}

-- where the line has not ended, one more is to come behind these
abbrev pub has_room : Bool → ℕ → Bool
has_room has_ended count = nat_le count (if has_ended then 6 else 5)

abbrev pub fits_six : {P X : Type 0} → Which → Reading P X → Bool
fits_six Variables r = has_room r.has_ended (length r.done)
fits_six which r = true

-- a list keeps to the limit
abbrev pub six_at_most : {X : Type 0} → Keeping (List X)
six_at_most Variables xs = has_at_most 6 xs
six_at_most which xs = true
