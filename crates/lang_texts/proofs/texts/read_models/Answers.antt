use Rattle.std.proofs.Common.{◌≡◌}
use Rattle.std.proofs.lemmas.Result.{IfOk-weaker, IfErr-weaker, MatchResult-from_both}
use Rattle.lang_specs.specs.FirstFault.{IsSpelling}
use Rattle.lang_specs.proofs.FaultLemmas.{none_beside}
use Rattle.lang_texts.specs.Reading.{IsTextFault, IsNoMore, Tells}
use Rattle.lang_texts.proofs.ReadingLemmas.{found, no_more, tells}
use Rattle.lang_texts.proofs.texts.read_models.Goals as goal

pub returns-clause-found : goal.returns-clause-found
returns-clause-found c = λ trees h.
    let text = c.args.text.now in
    let r = c.read_lines.result in
    MatchResult-from_both r (λ v. v.items ≡ trees) IsNoMore
    (IfOk-weaker r (λ v. IsSpelling text v.items) (λ v. v.items ≡ trees) (λ v k. found text trees v.items h k) c.read_lines.ensures.ok)
    (IfErr-weaker r (IsTextFault text) IsNoMore (λ e k. no_more text trees e h k) c.read_lines.ensures.fault)

pub returns-clause-first : goal.returns-clause-first
returns-clause-first c = λ fault h.
    let text = c.args.text.now in
    let r = c.read_lines.result in
    MatchResult-from_both r (λ v. ⊥) (Tells fault)
    (IfOk-weaker r (λ v. IsSpelling text v.items) (λ v. ⊥) (λ v k. none_beside text v.items fault k h) c.read_lines.ensures.ok)
    (IfErr-weaker r (IsTextFault text) (Tells fault) (λ e k. tells text fault e h k) c.read_lines.ensures.fault)
