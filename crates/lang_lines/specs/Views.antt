-- What the reader of a short line holds, without where it lies in memory.
use Rattle.lang_lines.specs.declared.short.Short.{Short}
use Rattle.lang_lines.specs.declared.short.Short.TheVariants as held
use Rattle.lang_lines.specs.declared.short.Place.{Place}
use Rattle.lang_lines.specs.declared.short.Place.TheVariants as places
use Rattle.lang_lines.specs.ShortMachine as machine

abbrev pub short_of : Short → machine.Short
short_of (held.Version second) = machine.version second
short_of (held.Automaton name) = machine.automaton name.now
short_of (held.Loc name unsafe_loc) = machine.loc name.now unsafe_loc
short_of held.End = machine.nothing

abbrev pub place_of : Place → machine.State
place_of places.Version = machine.at_version
place_of places.Name = machine.at_name
place_of places.Loc = machine.at_loc
place_of (places.Unsafe name) = machine.at_unsafe name.now
place_of (places.Behind s) = machine.behind (short_of s)
place_of (places.Ended s) = machine.ended (short_of s)
