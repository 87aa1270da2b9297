-- What the reader of a transition holds, without where it lies in memory.
use Rattle.std.specs.Prelude.{◌≡◌, ⊤, Bool, true, false, List}
use Rattle.std.specs.Option.{option_map}
use Rattle.lang_specs.specs.declared.Which.{Which}
use Rattle.lang_specs.specs.Trees.{Act}
use Rattle.lang_tokens.specs.Machines.{LineMachine, Reading, AllValues, listed}
use Rattle.lang_rows.specs.RowMachine as rows
use Rattle.lang_rows.specs.Views as guards
use Rattle.lang_transitions.specs.ActMachine as acts
use Rattle.lang_transitions.specs.ActViews.{reading_of, KnowsFew}
use Rattle.lang_transitions.specs.declared.transitions.NamesText.{NamesText}
use Rattle.lang_transitions.specs.declared.transitions.TransitionReader.{TransitionReader}
use Rattle.lang_transitions.specs.declared.transitions.TransitionReader.TheVariants as readers
use Rattle.lang_transitions.specs.TransitionMachine as machine

-- the states of guards, of acts and of transitions
abbrev pub Guard : Type 0
Guard = rows.State

abbrev pub Acts : Type 0
Acts = Reading acts.Place acts.Act

abbrev pub State : Type 0
State = machine.State Guard Acts

-- how a transition is read; `<` and `>` stand in its guard only if strict
abbrev pub transition : Bool → LineMachine State
transition strict = machine.transitions (rows.row_line strict) (listed acts.acts)

-- whether some continuation from a state keeps to a limit on counts, in either version
abbrev pub has_room : Which → State → Bool
has_room which s = (transition false).fits which s

-- the acts have ended, and say this
abbrev pub ActsEnd : Acts → List Act → Type 0
ActsEnd r ys = (r.has_ended ≡ true) × AllValues acts.IsActValue r.done ys

-- ---- what the reader holds

abbrev pub names_of : NamesText → machine.Names
names_of n = machine.names n.from.now n.to.now n.label.now

abbrev pub state_of : TransitionReader → State
state_of readers.From = machine.at_from
state_of (readers.Arrow f) = machine.at_arrow f.now
state_of (readers.To f) = machine.at_to f.now
state_of (readers.As f t) = machine.at_as f.now t.now
state_of (readers.Label f t) = machine.at_label f.now t.now
state_of (readers.BehindLabel n) = machine.behind_label (names_of n)
state_of (readers.Ended n) = machine.has_ended (names_of n)
state_of (readers.Guard n g) = machine.in_guard (names_of n) (guards.state_of g)
state_of (readers.Acts n g a) = machine.in_acts (names_of n) (option_map guards.state_of g) (reading_of a)

-- the reader of its acts knows whether those that are complete have few terms
abbrev pub Knows : TransitionReader → Type 0
Knows readers.From = ⊤
Knows (readers.Arrow f) = ⊤
Knows (readers.To f) = ⊤
Knows (readers.As f t) = ⊤
Knows (readers.Label f t) = ⊤
Knows (readers.BehindLabel n) = ⊤
Knows (readers.Ended n) = ⊤
Knows (readers.Guard n g) = ⊤
Knows (readers.Acts n g a) = KnowsFew a
