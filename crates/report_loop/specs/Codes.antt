-- The exit statuses of the program, and the lines that tell them.
use Rattle.std.specs.Prelude.{ℕ, List, [], codes}
use Rattle.report_loop.specs.declared.status.Status.{Status}
use Rattle.report_loop.specs.declared.status.Status.TheVariants.{Clean, Alarm, Words, Model, ReadFault, WriteFault, Memory, Overflow, Limit, NotARun, NotACert, UnknownVar, SavedText}

-- the exit status
abbrev pub code_of : Status → ℕ
code_of Clean = 0
code_of Alarm = 1
code_of Words = 2
code_of Model = 3
code_of ReadFault = 4
code_of WriteFault = 5
code_of Memory = 6
code_of Overflow = 7
code_of Limit = 8
code_of NotARun = 9
code_of NotACert = 10
code_of UnknownVar = 11
code_of SavedText = 12

-- the line on standard error. No line tells a run that was read to its end, or an answer that stands in the output; of a refused model
-- and of a saved session the line tells what is wrong with the text
abbrev pub line_of : Status → List ℕ
line_of Clean = []
line_of Alarm = []
line_of Words = codes "hamon: words\n"
line_of Model = []
line_of ReadFault = codes "hamon: read fault\n"
line_of WriteFault = codes "hamon: write fault\n"
line_of Memory = codes "hamon: memory\n"
line_of Overflow = []
line_of Limit = codes "hamon: limit\n"
line_of NotARun = []
line_of NotACert = []
line_of UnknownVar = codes "hamon: range: unknown\n"
line_of SavedText = []
