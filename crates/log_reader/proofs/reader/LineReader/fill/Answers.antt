use Rattle.std.proofs.Common.{◌∙◌, ap}
use Rattle.log_reader.specs.Reading.{Stored}
use Rattle.log_reader.proofs.FillLemmas.{Fills-kept}
use Rattle.log_reader.proofs.reader.LineReader.fill.Goals as goal

pub returns-in_err-count-clause-fills : goal.returns-in_err-count-clause-fills
returns-in_err-count-clause-fills g c =
    let i = c.self.inside in
    Fills-kept _ _ c.args.self.now.reading _ c.in_err-count.ensures.nothing
    (ap (λ held. record { held = held; given = i.given; taken = i.taken; most = i.most; has_ended = i.has_ended }) c.in_err-count.ensures.stays ∙ ap (λ (s : Stored). s.reading) c.self.view_is)
