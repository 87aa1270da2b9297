-- What the reader holds, without where it lies in memory.
use Rattle.std.specs.Prelude.{map}
use Rattle.lang_lists.specs.declared.boxes.NumText.{NumText}
use Rattle.lang_lists.specs.declared.boxes.BoxText.{BoxText}
use Rattle.lang_lists.specs.declared.boxes.BoxPlace.{BoxPlace}
use Rattle.lang_lists.specs.declared.boxes.BoxPlace.TheVariants as held
use Rattle.lang_lists.specs.declared.boxes.BoxReader.{BoxReader}
use Rattle.lang_lists.specs.BoxMachine as boxes
use Rattle.lang_tokens.specs.Machines.{Reading}

abbrev pub num_of : NumText → boxes.Num
num_of n = record { neg = n.neg; text = n.text.now }

abbrev pub box_of : BoxText → boxes.Box
box_of b = record { var = b.var.now; lo = num_of b.lo; hi = num_of b.hi }

abbrev pub place_of : BoxPlace → boxes.Place
place_of held.Var = boxes.at_var
place_of (held.In v) = boxes.at_in v.now
place_of (held.Open v) = boxes.at_open v.now
place_of (held.Lo v) = boxes.at_lo v.now
place_of (held.LoNumber v) = boxes.at_lo_number v.now
place_of (held.Comma v lo) = boxes.at_comma v.now (num_of lo)
place_of (held.Hi v lo) = boxes.at_hi v.now (num_of lo)
place_of (held.HiNumber v lo) = boxes.at_hi_number v.now (num_of lo)
place_of (held.Close v lo hi) = boxes.at_close v.now (num_of lo) (num_of hi)
place_of (held.Behind b) = boxes.behind (box_of b)

abbrev pub reading_of : BoxReader → Reading boxes.Place boxes.Box
reading_of r = record { done = map box_of r.done.items; place = place_of r.place; has_ended = r.has_ended }
