-- What a look found.
use Rattle.std.specs.Prelude.{Option, Some, None}
use Rattle.std.specs.Arc.{arc_value}
use Rattle.succ_memo.specs.declared.memo.Look.{Look}
use Rattle.succ_memo.specs.declared.memo.Look.TheVariants.{Hit, Miss}

-- the pair of a hit
abbrev pub found_pair : {X K V : Type 0} → Look X K V → Option (K × V)
found_pair (Hit h) = Some (arc_value h)
found_pair (Miss t) = None
