use Rattle.std.proofs.Common.{◌≡◌, map, take}
use Rattle.csv.specs.Records as record_words
use Rattle.log_reader.specs.Commas.{trimmed}
use Rattle.log_reader.proofs.fields.fields_within.Given as goal

abbrev pub invariant-loop-at : goal.invariant-loop-at
invariant-loop-at l = map (λ f. f.now) l.found.items ≡ trimmed (take l.at (record_words.fields_of l.fn.row))
