use Rattle.std.proofs.Common.{◌≡◌, map, take}
use Rattle.run_specs.specs.Worlds.{IsWorld}
use Rattle.interleave_core.specs.Events.{events_of, told_to}
use Rattle.interleave_core.proofs.PlayedLemmas.{Played}
use Rattle.interleave_core.proofs.world.World.play.Given as goal

abbrev pub invariant-loop-event : goal.invariant-loop-event
invariant-loop-event l = record {
  place_is : l.place ≡ l.event-index;
  played : Played l.initial.self l.self (take l.event-index (events_of l.events)) (map told_to l.told.items);
  kept : IsWorld l.self.world;
}
