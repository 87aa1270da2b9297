-- Reading what a transition says, behind its first word.
use Rattle.std.specs.Prelude.{◌≡◌, ℕ, Bool, true, ◌&&◌, if◌then◌else◌, nat_le, List, [], Option, Some, None}
use Rattle.std.specs.List.{list_all, flat_map}
use Rattle.lang_specs.specs.declared.Which.{Which}
use Rattle.lang_specs.specs.declared.Which.TheVariants.{Rows, Terms}
use Rattle.lang_specs.specs.declared.Kind.TheVariants.{Name, As, When, Set, Arrow, EndLine}
use Rattle.lang_specs.specs.Marks.{Mark, the}
use Rattle.lang_specs.specs.Trees.{RowTree, Act, act_expressions, TransTree}
use Rattle.lang_specs.specs.Limits.{row_count, has_at_most}
use Rattle.lang_order.specs.Statements.{Trans, IsBody}
use Rattle.lang_tokens.specs.Kinds.{same_kind}
use Rattle.lang_tokens.specs.Machines.{LineMachine}
use Rattle.lang_tokens.specs.LineFaults.{Keeping}

-- ---- what such a line says

-- the marks say the transition, whatever its line; `<` and `>` stand in its guard only if strict
abbrev pub IsTransition : Bool → List Mark → TransTree → Type 0
IsTransition strict ms t = IsBody strict ms (Trans t.from t.to t.label t.guard t.acts)

-- twelve rows at most in the guard, and fourteen terms in each expression of the guard and of the acts
abbrev pub transition_limits : Keeping TransTree
transition_limits Rows t = nat_le (row_count t.guard) 12
transition_limits Terms t =
    list_all (λ r. has_at_most 14 r.left && has_at_most 14 r.right) t.guard && list_all (has_at_most 14) (flat_map act_expressions t.acts)
transition_limits which t = true

-- ---- reading it

-- the locations that a transition leaves and enters, and its label
pub record Names : Type 0 where
  pub from : List ℕ
  pub to : List ℕ
  pub label : List ℕ

-- What the line wants next, with the names before it. Behind the label it may end; or else its guard is read, in the states of
-- a line of constraints, or its acts, in those of a line of acts, behind the state that a guard has ended in, if there is one.
pub data State (G A : Type 0) : Type 0 where
  at_from : State G A
  at_arrow : List ℕ → State G A
  at_to : List ℕ → State G A
  at_as : List ℕ → List ℕ → State G A
  at_label : List ℕ → List ℕ → State G A
  behind_label : Names → State G A
  has_ended : Names → State G A
  in_guard : Names → G → State G A
  in_acts : Names → Option G → A → State G A

abbrev pub names : List ℕ → List ℕ → List ℕ → Names
names from to label = record { from = from; to = to; label = label }

-- behind the label stands a guard, or acts, or the end of the line
abbrev pub next_behind : {G A : Type 0} → G → A → Names → Mark → Option (State G A)
next_behind guard acts n m =
    if same_kind m.kind When then Some (in_guard n guard)
    else if same_kind m.kind Set then Some (in_acts n None acts)
    else if same_kind m.kind EndLine then Some (has_ended n)
    else None

abbrev pub in_guard_if : {G A : Type 0} → Names → Option G → Option (State G A)
in_guard_if n None = None
in_guard_if n (Some g) = Some (in_guard n g)

-- the acts begin where the guard may end
abbrev pub begins_acts : {G A : Type 0} → LineMachine A → Names → Option G → Option (State G A)
begins_acts acts n None = None
begins_acts acts n (Some g) = Some (in_acts n (Some g) acts.start)

abbrev pub in_acts_if : {G A : Type 0} → Names → Option G → Option A → Option (State G A)
in_acts_if n g None = None
in_acts_if n g (Some a) = Some (in_acts n g a)

-- the state behind a token; `set` ends the guard as the end of a line of constraints does
unfoldable pub next_state : {G A : Type 0} → LineMachine G → LineMachine A → State G A → Mark → Option (State G A)
next_state rows acts at_from m = if same_kind m.kind Name then Some (at_arrow m.text) else None
next_state rows acts (at_arrow f) m = if same_kind m.kind Arrow then Some (at_to f) else None
next_state rows acts (at_to f) m = if same_kind m.kind Name then Some (at_as f m.text) else None
next_state rows acts (at_as f t) m = if same_kind m.kind As then Some (at_label f t) else None
next_state rows acts (at_label f t) m = if same_kind m.kind Name then Some (behind_label (names f t m.text)) else None
next_state rows acts (behind_label n) m = next_behind rows.start acts.start n m
next_state rows acts (has_ended n) m = None
next_state rows acts (in_guard n g) m =
    if same_kind m.kind Set then begins_acts acts n (rows.next g (the EndLine)) else in_guard_if n (rows.next g m)
next_state rows acts (in_acts n g a) m = in_acts_if n g (acts.next a m)

abbrev pub guard_fits : {G : Type 0} → LineMachine G → Which → Option G → Bool
guard_fits rows which None = true
guard_fits rows which (Some g) = rows.fits which g

abbrev pub fits_so : {G A : Type 0} → LineMachine G → LineMachine A → Which → State G A → Bool
fits_so rows acts which at_from = true
fits_so rows acts which (at_arrow f) = true
fits_so rows acts which (at_to f) = true
fits_so rows acts which (at_as f t) = true
fits_so rows acts which (at_label f t) = true
fits_so rows acts which (behind_label n) = true
fits_so rows acts which (has_ended n) = true
fits_so rows acts which (in_guard n g) = rows.fits which g
fits_so rows acts which (in_acts n g a) = guard_fits rows which g && acts.fits which a

-- the line, from those of its guard and of its acts
abbrev pub transitions : {G A : Type 0} → LineMachine G → LineMachine A → LineMachine (State G A)
transitions rows acts = record { start = at_from; next = next_state rows acts; fits = fits_so rows acts }

-- ---- what was read

abbrev pub names_of : TransTree → Names
names_of t = names t.from t.to t.label

-- without a guard there are no rows
abbrev pub GuardSays : {G : Type 0} → (G → List RowTree → Type 0) → Option G → List RowTree → Type 0
GuardSays Guard None ys = ys ≡ []
GuardSays Guard (Some g) ys = Guard g ys

-- the line has ended, and says this: the rows and the acts that the states of its guard and its acts say
abbrev pub Says : {G A : Type 0} → (G → List RowTree → Type 0) → (A → List Act → Type 0) → State G A → TransTree → Type 0
Says Guard Acts at_from t = ⊥
Says Guard Acts (at_arrow f) t = ⊥
Says Guard Acts (at_to f) t = ⊥
Says Guard Acts (at_as f l) t = ⊥
Says Guard Acts (at_label f l) t = ⊥
Says Guard Acts (behind_label n) t = ⊥
Says Guard Acts (has_ended n) t = (names_of t ≡ n) × (t.guard ≡ []) × (t.acts ≡ [])
Says Guard Acts (in_guard n g) t = (names_of t ≡ n) × Guard g t.guard × (t.acts ≡ [])
Says Guard Acts (in_acts n g a) t = (names_of t ≡ n) × GuardSays Guard g t.guard × Acts a t.acts
