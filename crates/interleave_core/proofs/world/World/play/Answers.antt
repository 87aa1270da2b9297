use Rattle.std.proofs.Common.{◌≡◌, ◌+◌, ◌<◌, Some, rules, length, map, refl, ap}
use Rattle.std.specs.Prelude.{slice_get}
use Rattle.std.proofs.lemmas.Option.{slice_get_read}
use Rattle.interleave_core.specs.Events.{events_of, told_to}
use Rattle.interleave_core.specs.Played.{HasPlayed}
use Rattle.interleave_core.proofs.ReplyLemmas.{replies_are_lawful}
use Rattle.interleave_core.proofs.PlayedLemmas.{all_played, out_of_memory, not_enabled, one_further, are_events}
use Rattle.interleave_core.proofs.world.World.play.Goals as goal

pub returns-in-Err-NotAllowed-clause-err : goal.returns-in-Err-NotAllowed-clause-err
returns-in-Err-NotAllowed-clause-err c =
    let l = c.loop-event in
    let es = c.args.events.now in
    let lt : l.event-index < length es = search rules in
    let here : slice_get es l.event-index ≡ Some c.event-item.result = slice_get_read es (length es) l.event-index c.event-item.result refl lt (search rules) in
    not_enabled c.args.self.now l.self es l.event-index (map told_to l.told.items) l.invariant.played l.invariant.kept c.event-item.result lt here l.place c.step.new.self
    l.invariant.place_is c.in-Err-NotAllowed.ensures.err (c.in-Err-NotAllowed.ensures.not_allowed (search rules))

pub returns-in-Err-Memory-clause-err : goal.returns-in-Err-Memory-clause-err
returns-in-Err-Memory-clause-err c =
    let l = c.loop-event in
    let es = c.args.events.now in
    out_of_memory c.args.self.now l.self es l.event-index (map told_to l.told.items) l.invariant.played l.invariant.kept c.step.new.self c.in-Err-Memory.ensures.err (search rules)

pub loop-event-preserved : goal.loop-event-preserved
loop-event-preserved c =
    let l = c.loop-event in
    let es = c.args.events.now in
    let lt : l.event-index < length es = search rules in
    let here : slice_get es l.event-index ≡ Some c.event-item.result = slice_get_read es (length es) l.event-index c.event-item.result refl lt (search rules) in
    record {
      place_is = ap (λ n. n + 1) l.invariant.place_is;
      played = one_further c.args.self.now l.self es l.event-index (map told_to l.told.items) l.invariant.played l.invariant.kept c.event-item.result lt here c.step.new.self
          (map told_to c.step.new.told.items) c.in-Ok.ensures.ok;
      kept = c.known-in-Ok.ensures.world;
    }

pub returns-clause-ok : goal.returns-clause-ok
returns-clause-ok c =
    let l = c.loop-event in
    all_played c.args.self.now l.self c.args.events.now l.event-index (map told_to l.told.items) l.invariant.played l.invariant.kept (search rules)

pub returns-clause-lawful : goal.returns-clause-lawful
returns-clause-lawful c =
    let l = c.loop-event in
    let es = c.args.events.now in
    let all : HasPlayed c.args.self.now l.self (events_of es) (map told_to l.told.items) =
    all_played c.args.self.now l.self es l.event-index (map told_to l.told.items) l.invariant.played l.invariant.kept (search rules) in
    replies_are_lawful c.args.self.now.world l.self.world (events_of es) (map told_to l.told.items) c.known.ensures.world (are_events es c.requires.numbers) all.steps
