-- What the reader's answers say, in the words of the definitions of a text's faults.
use Rattle.std.specs.Prelude.{◌≡◌, ⊤}
use Rattle.replay_specs.specs.RunTextFaults.{Step, Refused, Outside}
use Rattle.run_text.specs.declared.lines.LineFault.{LineFault}
use Rattle.run_text.specs.declared.lines.LineFault.TheVariants.{Form, Range, Memory}

-- the fault of a line tells what the line is at its place
abbrev pub Tells : LineFault → Step → Type 0
Tells Form step = step ≡ Refused
Tells Range step = step ≡ Outside
Tells Memory step = ⊤
