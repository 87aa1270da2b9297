use Rattle.std.proofs.Common.{◌<◌, length, arith, sym, ◌∙◌, ap, map}
use Rattle.csv.specs.Records as record_words
use Rattle.std.specs.Option.{option_map}
use Rattle.csv.proofs.RecordFacts.{field-there}
use Rattle.log_reader.proofs.CommaLemmas.{grown_by, next_found}
use Rattle.log_reader.proofs.fields.fields_within.Goals as goal
use Rattle.log_reader.proofs.fields.fields_within.Goals.{in-Some+in_ok-push, in_default}

pub loop-at-preserved : goal.loop-at-preserved
loop-at-preserved c =
    let l : c.loop-at.at < length (record_words.fields_of c.args.row.now) = omega (arith, c.loop-at-test.true, c.loop-at.auto.at-end, c.len-at-end.ensures) in
    elim c.match-get.branch [
      | in-Some+in_ok-push w ↦
          ap (λ found. map (λ f. f.now) found.items) w.found-is
          ∙ next_found _ _ _ _ _ c.loop-at.at l (sym c.get.ensures.value ∙ ap (option_map (λ f. f.now)) w.in-Some.is) w.without_blanks.ensures (grown_by _ _ _ w.in_ok-push.ensures.items) c.loop-at.invariant
      | in_default w ↦ absurd (field-there _ c.loop-at.at l (sym c.get.ensures.value ∙ ap (option_map (λ f. f.now)) w.in_default.is))
    ]
