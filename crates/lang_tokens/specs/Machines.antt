-- Reading a line a token at a time.
use Rattle.std.specs.Prelude.{⊤, Bool, true, false, not, ◌&&◌, ◌||◌, if◌then◌else◌, List, [], ◌∷◌, ◌++◌, Option, Some, None, Result, Ok, Err}
use Rattle.std.specs.List.{find}
use Rattle.lang_specs.specs.declared.Which.{Which}
use Rattle.lang_specs.specs.declared.Which.TheVariants.{Automata, Variables, Locations, Transitions, Rows, Terms, NameBytes, Digits}
use Rattle.lang_specs.specs.declared.Kind.TheVariants.{Comma, EndLine}
use Rattle.lang_specs.specs.Tokens.{Placed}
use Rattle.lang_specs.specs.Marks.{Mark, mark}
use Rattle.lang_specs.specs.Limits.{has_few_bytes, has_few_digits}
use Rattle.lang_specs.specs.FirstFault.{is_joint}
use Rattle.lang_tokens.specs.Kinds.{same_kind}
use Rattle.lang_tokens.specs.declared.faults.Stop.{Stop}
use Rattle.lang_tokens.specs.declared.faults.Stop.TheVariants.{Syntax, Limit}

-- ---- a line

-- how a line is read: the state before its first token, the state behind a token, if something allows it there, and whether
-- some continuation from a state keeps to a limit on counts
pub record LineMachine (S : Type 0) : Type 0 where
  pub start : S
  pub next : S → Mark → Option S
  pub fits : Which → S → Bool

-- the token by itself keeps to the limit: of a name that of bytes, of a literal that of digits
abbrev pub token_keeps : Which → Mark → Bool
token_keeps NameBytes m = has_few_bytes m.kind m.text
token_keeps Digits m = has_few_digits m.kind m.text
token_keeps which m = true

-- a limit is kept from one state to the next; a sign that joins a next item to those before passes none
abbrev pub fits_on : Bool → Bool → Mark → Bool
fits_on before behind m = behind || (is_joint m.kind && before)

-- the token between these states passes the limit
abbrev pub is_passed : {S : Type 0} → LineMachine S → S → S → Mark → Which → Bool
is_passed machine s u m which = not (fits_on (machine.fits which s) (machine.fits which u) m && token_keeps which m)

-- the limits, in the order in which they are told
abbrev pub limits : List Which
limits = Automata ∷ Variables ∷ Locations ∷ Transitions ∷ Rows ∷ Terms ∷ NameBytes ∷ Digits ∷ []

-- the limit that is told of the token between these states
abbrev pub passed : {S : Type 0} → LineMachine S → S → S → Mark → Option Which
passed machine s u m = find (λ which. is_passed machine s u m which) limits

abbrev pub unless : {S : Type 0} → Option Which → S → Result S Stop
unless (Some which) s = Err (Limit which)
unless None s = Ok s

abbrev pub allowed : {S : Type 0} → LineMachine S → S → Mark → Option S → Result S Stop
allowed machine s m None = Err Syntax
allowed machine s m (Some u) = unless (passed machine s u m) u

-- the state behind a token, or what is wrong with it
abbrev pub step : {S : Type 0} → LineMachine S → S → Placed → Result S Stop
step machine s t = allowed machine s (mark t) (machine.next s (mark t))

-- where reading stops, and why
pub record Stopped : Type 0 where
  pub token : Placed
  pub why : Stop

abbrev pub and_then : {S : Type 0} → Placed → Result S Stop → (S → Result S Stopped) → Result S Stopped
and_then t (Ok s) f = f s
and_then t (Err e) f = Err (record { token = t; why = e })

-- the state behind these tokens, or the first that is wrong
unfoldable pub run : {S : Type 0} → LineMachine S → S → List Placed → Result S Stopped
run machine s [] = Ok s
run machine s (t ∷ ts) = and_then t (step machine s t) (λ u. run machine u ts)

-- the limit that a name or a literal passes by itself
abbrev pub passed_alone : Mark → Option Which
passed_alone m = if not (has_few_bytes m.kind m.text) then Some NameBytes else if not (has_few_digits m.kind m.text) then Some Digits else None

-- ---- items with commas between

-- items that are complete, the place in the next one, and whether the line has ended, which completes the last item
pub record Reading (P X : Type 0) : Type 0 where
  pub done : List X
  pub place : P
  pub has_ended : Bool

-- how one item is read: where reading begins, the place behind a token, if something allows it there, and the item that is
-- complete at a place; and whether some continuation of the list keeps to a limit on counts
pub record Machine (P X : Type 0) : Type 0 where
  pub start : P
  pub next : P → Mark → Option P
  pub made : P → Option X
  pub fits : Which → Reading P X → Bool

abbrev pub start_of : {P X : Type 0} → Machine P X → Reading P X
start_of machine = record { done = []; place = machine.start; has_ended = false }

-- behind a complete item stands a comma or the end of the line
abbrev pub behind_item : {P X : Type 0} → Machine P X → List X → Mark → Option X → Option (Reading P X)
behind_item machine done m None = None
behind_item machine done m (Some x) =
    if same_kind m.kind Comma then Some (record { done = done ++ x ∷ []; place = machine.start; has_ended = false })
    else if same_kind m.kind EndLine then Some (record { done = done ++ x ∷ []; place = machine.start; has_ended = true })
    else None

-- a token goes on with the item, or else it stands behind it
abbrev pub in_item : {P X : Type 0} → Machine P X → Reading P X → Mark → Option P → Option (Reading P X)
in_item machine s m (Some p) = Some (record { done = s.done; place = p; has_ended = false })
in_item machine s m None = behind_item machine s.done m (machine.made s.place)

-- the state behind a token, if something allows it
abbrev pub next : {P X : Type 0} → Machine P X → Reading P X → Mark → Option (Reading P X)
next machine s m = if s.has_ended then None else in_item machine s m (machine.next s.place m)

-- items with commas between, up to the end of the line
abbrev pub listed : {P X : Type 0} → Machine P X → LineMachine (Reading P X)
listed machine = record { start = start_of machine; next = next machine; fits = machine.fits }

-- each item says what stands at its place
abbrev pub AllValues : {X Y : Type 0} → (X → Y → Type 0) → List X → List Y → Type 0
AllValues Value [] [] = ⊤
AllValues Value [] (y ∷ ys) = ⊥
AllValues Value (x ∷ xs) [] = ⊥
AllValues Value (x ∷ xs) (y ∷ ys) = Value x y × AllValues Value xs ys
