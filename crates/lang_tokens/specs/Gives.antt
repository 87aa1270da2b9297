-- What a function of the code returned is what reading gives, unless memory ran out.
use Rattle.std.specs.Prelude.{◌≡◌, ⊤, Option, Some, None, Result, Ok, Err}
use Rattle.lang_specs.specs.Tokens.{Placed}
use Rattle.lang_tokens.specs.declared.faults.Stop.{Stop}
use Rattle.lang_tokens.specs.declared.faults.Stop.TheVariants as stops
use Rattle.lang_tokens.specs.declared.faults.LineFault.{LineFault}
use Rattle.lang_tokens.specs.declared.faults.LineFault.TheVariants as faults
use Rattle.lang_tokens.specs.Machines.{Stopped}

-- memory may run out at any token; any other fault is that of the token where reading stops
abbrev pub Fails : {Y : Type 0} → Placed → LineFault → Result Y Stop → Type 0
Fails t faults.Memory read = ⊤
Fails t (faults.Syntax column) read = (read ≡ Err stops.Syntax) × (column ≡ t.column)
Fails t (faults.Limit which) read = read ≡ Err (stops.Limit which)

-- the state that the code has behind a token, if something allows it
abbrev pub Advances : {X Y : Type 0} → (X → Y) → Placed → Result X LineFault → Option Y → Type 0
Advances view t (Ok x) next = next ≡ Some (view x)
Advances view t (Err faults.Memory) next = ⊤
Advances view t (Err (faults.Syntax column)) next = (next ≡ None) × (column ≡ t.column)
Advances view t (Err (faults.Limit which)) next = ⊥

-- what a step of the code gives at a token
abbrev pub GivesAt : {X Y : Type 0} → (X → Y) → Placed → Result X LineFault → Result Y Stop → Type 0
GivesAt view t (Ok x) read = read ≡ Ok (view x)
GivesAt view t (Err e) read = Fails t e read

-- the same of a line
abbrev pub FailsSo : {Y : Type 0} → LineFault → Result Y Stopped → Type 0
FailsSo faults.Memory read = ⊤
FailsSo (faults.Syntax column) read = (t : Placed) × (read ≡ Err (record { token = t; why = stops.Syntax })) × (column ≡ t.column)
FailsSo (faults.Limit which) read = (t : Placed) × (read ≡ Err (record { token = t; why = stops.Limit which }))

-- what reading a line gives
abbrev pub Gives : {X Y : Type 0} → (X → Y) → Result X LineFault → Result Y Stopped → Type 0
Gives view (Ok x) read = read ≡ Ok (view x)
Gives view (Err e) read = FailsSo e read
