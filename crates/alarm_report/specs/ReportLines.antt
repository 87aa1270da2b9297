-- The lines of a report, and the room that they take.
use Rattle.std.specs.Prelude.{ℕ, List, [], ◌++◌, Option, Some, None, codes, decimal}
use Rattle.run_specs.specs.declared.Verdict.{Verdict}
use Rattle.log_specs.specs.declared.LogForm.TheVariants.{Check, Watch}
use Rattle.log_specs.specs.declared.Refusal.{Refusal}
use Rattle.log_specs.specs.Blocks.{refusal_word, verdict_word, subject}

-- who a line speaks of: nobody, or a session
abbrev pub spoken_of : Option (List ℕ) → List ℕ
spoken_of None = subject Check []
spoken_of (Some name) = subject Watch name

-- `4,alarm`, or `4,pump,alarm`, with a line feed
abbrev pub verdict_line : ℕ → Option (List ℕ) → Verdict → List ℕ
verdict_line number session v = decimal number ++ spoken_of session ++ verdict_word v ++ codes "\n"

-- `4,refused,time`, with a line feed
abbrev pub refused_line : ℕ → Refusal → List ℕ
refused_line number why = decimal number ++ codes ",refused," ++ refusal_word why ++ codes "\n"

-- the most bytes of a line: 20 digits, a comma, a name of 32 bytes, a comma, a word of 10 bytes, and a line feed
abbrev pub most_bytes : ℕ
most_bytes = 65
