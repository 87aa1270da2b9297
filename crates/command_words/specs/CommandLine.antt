-- What the words of a command line ask for. Which words have the form is told in the words of clap's own specification.
use Rattle.std.specs.Prelude.{◌≤◌, ℕ, List, [], ◌∷◌, Bool, true, false, ◌&&◌, ◌==◌, nat_le, Option, Some, None, if◌then◌else◌, codes, bytes_eq}
use Rattle.std.specs.List.{list_all}
use Rattle.std.specs.Str.Parse.{digits_value}
use Rattle.clap.specs.Walk.{is_empty}
use Rattle.clap.specs.Simple.{on_top}
use Rattle.clap.specs.Words.{App, Kinds, Row, Rule, Text, fault_of, first_of, matches_of, new_app, new_rule}
use Rattle.number_specs.specs.Digits.{is_digit}
use Rattle.log_specs.specs.declared.RunsMode.{RunsMode}
use Rattle.log_specs.specs.declared.RunsMode.TheVariants as mode
use Rattle.command_words.specs.declared.options.Options.{Options}

-- a command, and the words after its own
pub data Command : Type 0 where
  -- a log is checked against the model of this name
  Check : Text → Command
  -- a log of many sessions is watched, by the automata of the model of this name
  Watch : Text → Command
  -- by the first automaton of the model of the first name, a run is replayed on the log of the second name
  Replay : Text → Text → Command

-- what words ask for
pub record Request : Type 0 where
  pub command : Command
  pub options : Options

-- ---- the form

-- the option `--name`, which takes a value
abbrev pub option_rule : Text → Rule
option_rule name = record (new_rule name) { long = Some name }

-- the command's word
abbrev pub command_rule : Rule
command_rule = record (new_rule (codes "command")) { required = true }

-- the command's word and at most two more, and the options
abbrev pub rules : List Rule
rules = command_rule ∷ new_rule (codes "first") ∷ new_rule (codes "second")
    ∷ option_rule (codes "jumps") ∷ option_rule (codes "workers") ∷ option_rule (codes "window") ∷ option_rule (codes "memo")
    ∷ option_rule (codes "runs") ∷ []

-- the form of a command line: the program's name is no word of it, and no option asks for help or a version
abbrev pub command_line : App
command_line = on_top (λ s. record s { rules = rules; no_binary_name = true; disable_help_flag = true; disable_version_flag = true })
    (new_app (codes "hamon"))

-- ---- values

-- digits without a leading zero; 0 is written `0`
abbrev pub is_plain_number : Text → Bool
is_plain_number [] = false
is_plain_number (d ∷ ds) = if d == 48 then is_empty ds else list_all is_digit (d ∷ ds)

-- the number that a word writes, if it is one from `least` to `most`
abbrev pub number_in : ℕ → ℕ → Text → Option ℕ
number_in least most word =
    if is_plain_number word && (nat_le least (digits_value 10 word) && nat_le (digits_value 10 word) most)
    then Some (digits_value 10 word)
    else None

-- the number of an option, by its value if it is given
abbrev pub number_or : ℕ → ℕ → ℕ → Option Text → Option ℕ
number_or least most default None = Some default
number_or least most default (Some word) = number_in least most word

-- at which alarms a run is printed
abbrev pub runs_named : Text → Option RunsMode
runs_named word =
    if bytes_eq word (codes "none") then Some mode.None
    else if bytes_eq word (codes "first") then Some mode.First
    else if bytes_eq word (codes "all") then Some mode.All
    else None

-- the same, by the value of `--runs` if it is given
abbrev pub runs_of : Option Text → Option RunsMode
runs_of None = Some mode.First
runs_of (Some word) = runs_named word

-- the options, where each value is in its range
abbrev pub options_by : Option ℕ → Option ℕ → Option ℕ → Option ℕ → Option RunsMode → Option Options
options_by (Some jumps) (Some workers) (Some window) (Some memo) (Some runs) =
    Some (record { jumps = jumps; workers = workers; window = window; memo = memo; runs = runs })
options_by _ _ _ _ _ = None

-- the options of words of the form, by the values that they give
abbrev pub options_of : List Row → Option Options
options_of rows = options_by
    (number_or 0 6 2 (first_of (codes "jumps") rows))
    (number_or 1 32 4 (first_of (codes "workers") rows))
    (number_or 1 1024 64 (first_of (codes "window") rows))
    (number_or 1 100000 10000 (first_of (codes "memo") rows))
    (runs_of (first_of (codes "runs") rows))

-- each number is in its range
pub record KeepsRanges (o : Options) : Type 0 where
  pub jumps : o.jumps ≤ 6
  pub workers : (1 ≤ o.workers) × (o.workers ≤ 32)
  pub window : (1 ≤ o.window) × (o.window ≤ 1024)
  pub memo : (1 ≤ o.memo) × (o.memo ≤ 100000)

-- the options where none is given
abbrev pub default_options : Options
default_options = record { jumps = 2; workers = 4; window = 64; memo = 10000; runs = mode.First }

-- ---- commands

-- the command of this word with a model's name
abbrev pub command_named : Text → Text → Option Command
command_named command model =
    if bytes_eq command (codes "check") then Some (Check model)
    else if bytes_eq command (codes "watch") then Some (Watch model)
    else None

-- the command of this word with the names of a model and a log
abbrev pub command_with_log : Text → Text → Text → Option Command
command_with_log command model log = if bytes_eq command (codes "replay") then Some (Replay model log) else None

-- the command of these words: `check` and `watch` take one more, `replay` two
abbrev pub command_by : Option Text → Option Text → Option Text → Option Command
command_by (Some command) (Some model) None = command_named command model
command_by (Some command) (Some model) (Some log) = command_with_log command model log
command_by _ _ _ = None

-- the command of words of the form
abbrev pub command_of : List Row → Option Command
command_of rows =
    command_by (first_of (codes "command") rows) (first_of (codes "first") rows) (first_of (codes "second") rows)

-- a command with its options
abbrev pub request_by : Option Command → Option Options → Option Request
request_by (Some command) (Some options) = Some (record { command = command; options = options })
request_by _ _ = None

-- what words of the form ask for, by the values that they give
abbrev pub request_in : List Row → Option Request
request_in rows = request_by (command_of rows) (options_of rows)

-- nothing where there is a fault
abbrev pub without_fault : Kinds → Option Request → Option Request
without_fault [] asked = asked
without_fault (fault ∷ faults) asked = None

-- what words ask for; None where they are refused
abbrev pub request_of : List Text → Option Request
request_of words = without_fault (fault_of command_line words) (request_in (matches_of command_line words))

-- a check against the model of this name, with no option given
abbrev pub plain_check : Text → Request
plain_check name = record { command = Check name; options = default_options }

-- a watch by the model of this name, with no option given
abbrev pub plain_watch : Text → Request
plain_watch name = record { command = Watch name; options = default_options }

-- a replay by the model of the first name, on the log of the second, with no option given
abbrev pub plain_replay : Text → Text → Request
plain_replay model log = record { command = Replay model log; options = default_options }
