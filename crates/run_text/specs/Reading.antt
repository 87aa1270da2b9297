-- What the reading of a text tells.
use Rattle.std.specs.Prelude.{◌≡◌, ⊤, ℕ, List, Result, Ok, Err, true, false}
use Rattle.run_specs.specs.Runs.{GapRun}
use Rattle.replay_specs.specs.RunTexts.{run_lines, IsWritable}
use Rattle.replay_specs.specs.RunTextFaults.{FormAt, RangeAt, IsFirstTextFault, is_end}
use Rattle.run_text.specs.States.{lines_of, place_of}
use Rattle.run_text.specs.declared.lines.LineFault as lines
use Rattle.run_text.specs.declared.lines.LineFault.TheVariants as line_faults
use Rattle.run_text.specs.declared.read.TextFault as texts
use Rattle.run_text.specs.declared.read.TextFault.TheVariants as text_faults
use Rattle.run_text.specs.declared.states.State.{State}

-- the fault of the line of this number
abbrev pub located : lines.LineFault → ℕ → texts.TextFault
located line_faults.Form n = text_faults.Form n
located line_faults.Range n = text_faults.Range n
located line_faults.Memory n = text_faults.Memory

-- the run of these lines, or they do not end here
abbrev pub Finishes : State → Result (List GapRun) lines.LineFault → Type 0
Finishes state (Ok run) = IsWritable run × (run_lines run ≡ lines_of state) × (is_end (place_of state) ≡ true)
Finishes state (Err line_faults.Form) = is_end (place_of state) ≡ false
Finishes state (Err line_faults.Range) = ⊥
Finishes state (Err line_faults.Memory) = ⊤

-- the fault tells the first one of the text, or that there was no memory
abbrev pub TellsFirst : List ℕ → texts.TextFault → Type 0
TellsFirst text (text_faults.Form n) = IsFirstTextFault text (FormAt n)
TellsFirst text (text_faults.Range n) = IsFirstTextFault text (RangeAt n)
TellsFirst text text_faults.Memory = ⊤
