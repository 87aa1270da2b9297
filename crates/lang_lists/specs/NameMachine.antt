-- Reading a name in a list of variables.
use Rattle.std.specs.Prelude.{ℕ, if◌then◌else◌, List, Option, Some, None}
use Rattle.lang_specs.specs.declared.Kind.TheVariants.{Name}
use Rattle.lang_specs.specs.Marks.{Mark}
use Rattle.lang_tokens.specs.Kinds.{same_kind}
use Rattle.lang_tokens.specs.Machines.{Machine}
use Rattle.lang_lists.specs.SixAtMost.{fits_six}

-- a name is wanted, or stands before
pub data Place : Type 0 where
  at_name : Place
  behind : List ℕ → Place

unfoldable pub in_name : Place → Mark → Option Place
in_name at_name m = if same_kind m.kind Name then Some (behind m.text) else None
in_name (behind name) m = None

abbrev pub made : Place → Option (List ℕ)
made at_name = None
made (behind name) = Some name

abbrev pub names : Machine Place (List ℕ)
names = record { start = at_name; next = in_name; made = made; fits = fits_six }
