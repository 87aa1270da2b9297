-- Small logs and their reports, and a run and its text.
use Rattle.std.specs.Prelude.{ℕ, List, [], ◌∷◌, true, replicate, codes, pos, negsuc, None}
use Rattle.poly_specs.specs.Fractions.{zero_fraction}
use Rattle.poly_specs.specs.Rows.{over}
use Rattle.run_specs.specs.Automaton.{Automaton}
use Rattle.run_specs.specs.Runs.{Leg, Run}
use Rattle.run_specs.specs.declared.Verdict.{Verdict}
use Rattle.run_specs.specs.declared.Verdict.TheVariants.{Impossible}
use Rattle.log_specs.specs.declared.LogForm.{LogForm}
use Rattle.log_specs.specs.declared.RunsMode.TheVariants.{First}
use Rattle.replay_specs.specs.RunTexts.{ended_lines}
use Rattle.log_specs.specs.LogSessions.{LogState}
use Rattle.log_specs.specs.Blocks.{Task}

-- an automaton of one variable and no location, so that no log has a run
abbrev pub empty_tank : Automaton
empty_tank = record { name = codes "T"; variables = codes "x" ∷ []; obs = zero_fraction ∷ []; locations = []; transitions = [] }

-- its logs, read in this form
abbrev pub task_in : LogForm → Task
task_in form = record { form = form; models = empty_tank ∷ []; jumps = 2; runs = First }

-- ---- a log of `watch`

-- no sample of it is accepted
abbrev pub refused_log : List ℕ
refused_log = ended_lines (
    codes "open,s,T,x" ∷ codes "open,s,T,x" ∷ codes "at,q,0,0" ∷ codes "open,r,T,y" ∷ codes "at,s,0" ∷ codes "at,s,0,0,0" ∷ codes "open,r,Z,x"
    ∷ codes "close,s" ∷ codes "at,s,0,0" ∷ codes "hello" ∷ codes "at,a b,0,0" ∷ codes "at,s,z,0" ∷ [])

-- its report: lines 1 and 8 open and close a session
abbrev pub refused_report : List ℕ
refused_report = ended_lines (
    codes "2,refused,again" ∷ codes "3,refused,unknown" ∷ codes "4,refused,column" ∷ codes "5,refused,cells" ∷ codes "6,refused,cells"
    ∷ codes "7,refused,unknown" ∷ codes "9,refused,unknown" ∷ codes "10,refused,fields" ∷ codes "11,refused,name" ∷ codes "12,refused,number" ∷ [])

-- rows that are refused for two causes
abbrev pub doubled_log : List ℕ
doubled_log = ended_lines (codes "open,s,T,x" ∷ codes "open,s,Z,x" ∷ codes "at,s,5,0" ∷ codes "at,s,3,0,0" ∷ codes "at,a b,z,0" ∷ [])

-- its report: a name that is open goes before an automaton that is none, the count of cells before the time, a name before a number
abbrev pub doubled_report : List ℕ
doubled_report = ended_lines (codes "2,refused,again" ∷ codes "3,s,impossible" ∷ codes "4,refused,cells" ∷ codes "5,refused,name" ∷ [])

-- so many sessions are open, with a sample at time 5, and so many samples were accepted
abbrev pub crowded : ℕ → ℕ → LogState
crowded sessions accepted = record {
  open_sessions = replicate sessions (record {
    name = codes "s";
    automaton = empty_tank;
    columns = codes "x" ∷ [];
    samples = record { time = record { num = pos 5; den = pos 1 }; cells = None ∷ [] } ∷ [];
  });
  accepted = accepted;
  has_begun = true;
}

-- a session that is closed and opened anew, and times that do not rise
abbrev pub reopened_log : List ℕ
reopened_log = ended_lines (
    codes "open,s,T,x" ∷ codes "at,s,5,0" ∷ codes "close,s" ∷ codes "open,s,T" ∷ codes "at,s,-1" ∷ codes "at,s,0" ∷ codes "flush" ∷ codes "at,s,0.0" ∷ [])

-- its report: the session that is opened anew begins anew, without columns
abbrev pub reopened_report : List ℕ
reopened_report = ended_lines (
    codes "2,s,impossible" ∷ codes "5,refused,time" ∷ codes "6,s,impossible" ∷ codes "8,refused,time" ∷ [])

-- ---- logs of `check`

-- a refused header, and lines after it: with a number, without one, with a carriage return inside, and not UTF-8
abbrev pub headless_log : List ℕ
headless_log = ended_lines ([] ∷ codes "Time,x" ∷ codes "0,0" ∷ codes "time,x" ∷ codes "0,\r0" ∷ (255 ∷ []) ∷ [])

-- its report: no session is open
abbrev pub headless_report : List ℕ
headless_report = ended_lines (
    codes "2,refused,fields" ∷ codes "3,refused,unknown" ∷ codes "4,refused,number" ∷ codes "5,refused,text" ∷ codes "6,refused,text" ∷ [])

-- a refused time does not become the last one
abbrev pub timed_log : List ℕ
timed_log = ended_lines (codes "time,x" ∷ codes "0,0" ∷ codes "4,6" ∷ codes "3,6" ∷ codes "4,6" ∷ codes "10,6" ∷ [])

-- its report
abbrev pub timed_report : List ℕ
timed_report = ended_lines (
    codes "2,impossible" ∷ codes "3,impossible" ∷ codes "4,refused,time" ∷ codes "5,refused,time" ∷ codes "6,impossible" ∷ [])

-- numbers with signs, points and exponents, and blanks
abbrev pub number_log : List ℕ
number_log = ended_lines (codes "time,x" ∷ codes "0,-0.0" ∷ codes "1e-05,0.00001" ∷ codes "1,1e15" ∷ codes "1,nan" ∷ codes "1, 1" ∷ [])

-- its report
abbrev pub number_report : List ℕ
number_report = ended_lines (
    codes "2,impossible" ∷ codes "3,impossible" ∷ codes "4,refused,number" ∷ codes "5,refused,number" ∷ codes "6,impossible" ∷ [])

-- so many replies
abbrev pub all_impossible : ℕ → List Verdict
all_impossible n = replicate n Impossible

-- ---- runs

-- a leg of so many thirds to the value 1
abbrev pub to_one : ℕ → Leg
to_one t = record { length_of = pos t; at_end = pos 3 ∷ [] }

-- over thirds: to 1 in a time of 1/3, a jump, and 2/3 more
abbrev pub thirds : Run
thirds = record {
  start = record { loc = 0; point = over (pos 1) (pos 0 ∷ []) };
  gaps = record {
    den = pos 3;
    start_loc = 0;
    start = pos 0 ∷ [];
    moves = record { leg = to_one 1; transition = 0; after = pos 3 ∷ [] } ∷ [];
    last = to_one 2;
  } ∷ [];
}

-- its text
abbrev pub thirds_text : List ℕ
thirds_text = ended_lines (
    codes "run 1" ∷ codes "gap 3 0" ∷ codes "at 0" ∷ codes "stay 1" ∷ codes "at 3" ∷ codes "jump 0" ∷ codes "at 3" ∷ codes "stay 2" ∷ codes "at 3" ∷ [])

-- two variables, one of them below 0, and no jump
abbrev pub below_zero : Run
below_zero = record {
  start = record { loc = 12; point = over (pos 1) (negsuc 4 ∷ pos 7 ∷ []) };
  gaps = record {
    den = pos 1;
    start_loc = 12;
    start = negsuc 4 ∷ pos 7 ∷ [];
    moves = [];
    last = record { length_of = pos 0; at_end = negsuc 4 ∷ pos 7 ∷ [] };
  } ∷ [];
}

-- its text
abbrev pub below_zero_text : List ℕ
below_zero_text = ended_lines (codes "run 1" ∷ codes "gap 1 12" ∷ codes "at -5 7" ∷ codes "stay 0" ∷ codes "at -5 7" ∷ [])
