use Rattle.std.proofs.Common.{◌≡◌, take}
use Rattle.lha_check.proofs.parts.copies.Given as goal

abbrev pub invariant-loop-name : goal.invariant-loop-name
invariant-loop-name l = l.found.items ≡ take l.name-index l.names
