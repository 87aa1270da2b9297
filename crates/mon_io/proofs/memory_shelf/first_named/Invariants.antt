use Rattle.std.proofs.Common.{◌≡◌, map, drop}
use Rattle.mon_io.specs.Memory.{text_named, entry_of}
use Rattle.mon_io.proofs.memory_shelf.first_named.Given as goal

-- no entry before this one has the name
abbrev pub invariant-loop-known : goal.invariant-loop-known
invariant-loop-known l =
    text_named (map entry_of l.texts) l.name ≡ text_named (map entry_of (drop l.known-index l.texts)) l.name
