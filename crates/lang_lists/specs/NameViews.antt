-- What the reader of names holds, without where it lies in memory.
use Rattle.std.specs.Prelude.{ℕ, List, map, Option, Some, None}
use Rattle.std.specs.Borrow.{Bor}
use Rattle.lang_lists.specs.declared.names.NameReader.{NameReader}
use Rattle.lang_lists.specs.NameMachine as names
use Rattle.lang_tokens.specs.Machines.{Reading}

abbrev pub place_of : Option (Bor (List ℕ)) → names.Place
place_of None = names.at_name
place_of (Some name) = names.behind name.now

abbrev pub reading_of : NameReader → Reading names.Place (List ℕ)
reading_of r = record { done = map (λ x. x.now) r.done.items; place = place_of r.place; has_ended = r.has_ended }
