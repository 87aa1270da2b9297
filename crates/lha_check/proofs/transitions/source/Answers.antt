use Rattle.lha_check.proofs.transitions.source.Goals as goal

pub known_place-requires : goal.known_place-requires
known_place-requires c = rw c.locs.ensures c.requires.locations

pub returns-clause-value : goal.returns-clause-value
returns-clause-value c = rw (← c.locs.ensures, ← c.from.ensures) c.known_place.ensures.value

pub returns-clause-none : goal.returns-clause-none
returns-clause-none c = rw (← c.line.ensures, ← c.locs.ensures, ← c.from.ensures) c.known_place.ensures.none

pub returns-clause-fault : goal.returns-clause-fault
returns-clause-fault c = rw (← c.line.ensures, ← c.locs.ensures, ← c.from.ensures) c.known_place.ensures.fault
