-- What the reader of bounds holds, without where it lies in memory.
use Rattle.std.specs.Prelude.{map}
use Rattle.lang_lists.specs.declared.bounds.BoundText.{BoundText}
use Rattle.lang_lists.specs.declared.bounds.BoundPlace.{BoundPlace}
use Rattle.lang_lists.specs.declared.bounds.BoundPlace.TheVariants as held
use Rattle.lang_lists.specs.declared.bounds.BoundReader.{BoundReader}
use Rattle.lang_lists.specs.BoundMachine as bounds
use Rattle.lang_tokens.specs.Machines.{Reading}

abbrev pub bound_of : BoundText → bounds.Bound
bound_of b = record { var = b.var.now; text = b.text.now }

abbrev pub place_of : BoundPlace → bounds.Place
place_of held.Var = bounds.at_var
place_of (held.Within v) = bounds.at_within v.now
place_of (held.Literal v) = bounds.at_literal v.now
place_of (held.Behind b) = bounds.behind (bound_of b)

abbrev pub reading_of : BoundReader → Reading bounds.Place bounds.Bound
reading_of r = record { done = map bound_of r.done.items; place = place_of r.place; has_ended = r.has_ended }
