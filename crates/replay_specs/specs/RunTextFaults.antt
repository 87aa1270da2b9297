-- Where a text is first seen to be no text of a run.
use Rattle.std.specs.Prelude.{◌≡◌, ℕ, zero, suc, ◌^◌, List, [], ◌∷◌, length, Bool, true, false, ◌&&◌, ◌||◌, not, ◌==◌, nat_lt, nat_le, if◌then◌else◌, ℤ, pos, negsuc, unsigned_abs, Option, Some, None, codes, bytes_eq}
use Rattle.std.specs.List.{list_all, slice_split}
use Rattle.std.specs.Str.Parse.{signed_digits_value}
use Rattle.number_specs.specs.Digits.{is_digit}

-- ---- integers of any size

-- digits, and the first is no `0`
abbrev pub is_counting : List ℕ → Bool
is_counting [] = false
is_counting (b ∷ bytes) = list_all is_digit (b ∷ bytes) && not (b == 48)

-- an integer has neither a leading zero nor a `+`, and 0 has no `-`
abbrev pub is_integer : List ℕ → Bool
is_integer [] = false
is_integer (b ∷ bytes) = if b == 45 then is_counting bytes else is_counting (b ∷ bytes) || bytes_eq (b ∷ bytes) (codes "0")

-- the integer that is written so
unfoldable pub integer_of : List ℕ → Option ℤ
integer_of text = if is_integer text then Some (signed_digits_value 10 text) else None

-- ---- the integers of a line

-- what follows this beginning of a line
abbrev pub behind : List ℕ → List ℕ → Option (List ℕ)
behind [] line = Some line
behind (w ∷ word) [] = None
behind (w ∷ word) (b ∷ line) = if w == b then behind word line else None

-- one integer more in front
abbrev pub with_integer : Option ℤ → Option (List ℤ) → Option (List ℤ)
with_integer None zs = None
with_integer (Some z) None = None
with_integer (Some z) (Some zs) = Some (z ∷ zs)

-- the integers that all of the fields write
abbrev pub integers_of : List (List ℕ) → Option (List ℤ)
integers_of [] = Some []
integers_of (field ∷ fields) = with_integer (integer_of field) (integers_of fields)

-- the fields of bytes, with one space between two
abbrev pub fields_of : List ℕ → List (List ℕ)
fields_of bytes = slice_split (λ b. b == 32) bytes

-- the integers in the fields, if there are fields
abbrev pub integers_in : Option (List ℕ) → Option (List ℤ)
integers_in None = None
integers_in (Some bytes) = integers_of (fields_of bytes)

-- the integers behind this word and its space
abbrev pub integers_behind : List ℕ → List ℕ → Option (List ℤ)
integers_behind word line = integers_in (behind word line)

-- the integer that these bytes write, if there are bytes
abbrev pub integer_in : Option (List ℕ) → Option ℤ
integer_in None = None
integer_in (Some bytes) = integer_of bytes

-- the one integer behind this word and its space
abbrev pub integer_behind : List ℕ → List ℕ → Option ℤ
integer_behind word line = integer_in (behind word line)

-- ---- which line may come next

-- where the lines so far stand: what the next line is to tell, and how many gaps come behind the gap that it belongs to
pub data Place : Type 0 where
  -- the number of gaps
  RunLine : Place
  -- a denominator and a start location
  GapLine : ℕ → Place
  -- the start values
  StartLine : ℕ → Place
  -- the length of a leg
  StayLine : ℕ → Place
  -- the values at its end
  EndLine : ℕ → Place
  -- a jump, or the next gap, if one comes
  NextLine : ℕ → Place
  -- the values after a jump
  AfterLine : ℕ → Place

-- what a line is at a place: none that may come there; one with an integer outside its limits; or one that leads to the next place
pub data Step : Type 0 where
  Refused : Step
  Outside : Step
  Leads : Place → Step

-- the integer has 128 bits
abbrev pub is_kept : ℤ → Bool
is_kept z = nat_lt (unsigned_abs z) (2 ^ 127)

-- it is 0 to 255
abbrev pub is_code : ℤ → Bool
is_code (pos n) = nat_lt n 256
is_code (negsuc n) = false

-- it is at least 1
abbrev pub is_positive : ℤ → Bool
is_positive (pos n) = nat_lt 0 n
is_positive (negsuc n) = false

-- a line of the form that may come here, with its integers within their limits or not
abbrev pub if_within : Bool → Place → Step
if_within true next = Leads next
if_within false next = Outside

-- `run G`
abbrev pub run_step : Option ℤ → Step
run_step None = Refused
run_step (Some (negsuc n)) = Refused
run_step (Some (pos zero)) = Refused
run_step (Some (pos (suc later))) = if_within (nat_lt (suc later) (2 ^ 32)) (GapLine later)

-- `gap DEN LOC`
abbrev pub gap_step : ℕ → Option (List ℤ) → Step
gap_step n None = Refused
gap_step n (Some []) = Refused
gap_step n (Some (den ∷ [])) = Refused
gap_step n (Some (den ∷ loc ∷ [])) = if is_positive den then if_within (is_kept den && is_code loc) (StartLine n) else Refused
gap_step n (Some (den ∷ loc ∷ z ∷ zs)) = Refused

-- `at N1 N2`
abbrev pub at_step : Place → Option (List ℤ) → Step
at_step next None = Refused
at_step next (Some values) = if nat_le (length values) 6 then if_within (list_all is_kept values) next else Refused

-- `stay T`
abbrev pub stay_step : ℕ → Option ℤ → Step
stay_step n None = Refused
stay_step n (Some time) = if_within (is_kept time) (EndLine n)

-- `jump E`
abbrev pub jump_step : ℕ → Option ℤ → Step
jump_step n None = Refused
jump_step n (Some transition) = if_within (is_code transition) (AfterLine n)

-- the first of two that is not refused
abbrev pub or_else : Step → Step → Step
or_else Refused other = other
or_else Outside other = Outside
or_else (Leads next) other = Leads next

-- a jump, or a gap, if one comes
abbrev pub next_step : ℕ → List ℕ → Step
next_step zero line = jump_step 0 (integer_behind (codes "jump ") line)
next_step (suc n) line = or_else (jump_step (suc n) (integer_behind (codes "jump ") line)) (gap_step n (integers_behind (codes "gap ") line))

-- the line at a place
abbrev pub step : Place → List ℕ → Step
step RunLine line = run_step (integer_behind (codes "run ") line)
step (GapLine n) line = gap_step n (integers_behind (codes "gap ") line)
step (StartLine n) line = at_step (StayLine n) (integers_behind (codes "at ") line)
step (StayLine n) line = stay_step n (integer_behind (codes "stay ") line)
step (EndLine n) line = at_step (NextLine n) (integers_behind (codes "at ") line)
step (NextLine n) line = next_step n line
step (AfterLine n) line = at_step (StayLine n) (integers_behind (codes "at ") line)

-- the lines lead from a place to another, one after the other
abbrev pub LeadFrom : Place → List (List ℕ) → Place → Type 0
LeadFrom place [] after = place ≡ after
LeadFrom place (line ∷ lines) after = (next : Place) × (step place line ≡ Leads next) × LeadFrom next lines after

-- the text may end here: behind the last leg of the last gap
abbrev pub is_end : Place → Bool
is_end (NextLine zero) = true
is_end place = false

-- ---- the first fault

-- a fault and the number of its line: a line that may not come there, or an integer outside its limits
pub data Fault : Type 0 where
  FormAt : ℕ → Fault
  RangeAt : ℕ → Fault

-- the fault of a line, or that of the lines behind it
abbrev pub fault_at : Step → ℕ → (Place → Option Fault) → Option Fault
fault_at Refused n later = Some (FormAt n)
fault_at Outside n later = Some (RangeAt n)
fault_at (Leads place) n later = later place

-- the first fault from the line of this number on; behind the last line feed nothing may stand
abbrev pub fault_from : Place → ℕ → List (List ℕ) → Option Fault
fault_from place n [] = Some (FormAt n)
fault_from place n (rest ∷ []) = if is_end place && nat_lt (length rest) 1 then None else Some (FormAt n)
fault_from place n (line ∷ next ∷ more) = fault_at (step place line) n (λ p. fault_from p (suc n) (next ∷ more))

-- a text, cut at its line feeds
abbrev pub cut_lines : List ℕ → List (List ℕ)
cut_lines text = slice_split (λ b. b == 10) text

-- the first fault of a text, from line 1 on
abbrev pub first_fault : List ℕ → Option Fault
first_fault text = fault_from RunLine 1 (cut_lines text)

-- the text is first seen to be that of no run by this fault
abbrev pub IsFirstTextFault : List ℕ → Fault → Type 0
IsFirstTextFault text fault = first_fault text ≡ Some fault
