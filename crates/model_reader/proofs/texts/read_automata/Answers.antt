use Rattle.std.proofs.Common.{◌≡◌, ◌≢◌, [], map, ap}
use Rattle.std.specs.Prelude.{All}
use Rattle.std.specs.Arc.{arc_value}
use Rattle.std.proofs.lemmas.Result.{IfOk-weaker, IfErr-weaker, MatchResult-from_both}
use Rattle.run_specs.specs.WellFormed.{IsWellFormed}
use Rattle.model_specs.specs.Automata.{HasOneOfEachName}
use Rattle.text_specs.specs.ModelTexts.{SaysAutomata}
use Rattle.model_reader.specs.Told.{IsMemory, Tells}
use Rattle.model_reader.proofs.TextLemmas.{says_some, says_formed, says_named, says_one, says_or_fails}
use Rattle.model_reader.proofs.FaultLemmas.{IsRight, memory_alone, tells_it}
use Rattle.model_reader.proofs.texts.read_automata.Goals as goal

pub returns-clause-some : goal.returns-clause-some
returns-clause-some c =
    let text = c.args.text.now in
    IfOk-weaker c.read_text.result (λ v. SaysAutomata text (map arc_value v.items)) (λ v. v.items ≢ [])
    (λ v s none. says_some text (map arc_value v.items) s (ap (map arc_value) none)) c.read_text.ensures.automata

pub returns-clause-formed : goal.returns-clause-formed
returns-clause-formed c =
    let text = c.args.text.now in
    IfOk-weaker c.read_text.result (λ v. SaysAutomata text (map arc_value v.items)) (λ v. All IsWellFormed (map arc_value v.items))
    (λ v s. says_formed text (map arc_value v.items) s) c.read_text.ensures.automata

pub returns-clause-names : goal.returns-clause-names
returns-clause-names c =
    let text = c.args.text.now in
    IfOk-weaker c.read_text.result (λ v. SaysAutomata text (map arc_value v.items)) (λ v. HasOneOfEachName (map arc_value v.items))
    (λ v s. says_named text (map arc_value v.items) s) c.read_text.ensures.automata

pub returns-clause-found : goal.returns-clause-found
returns-clause-found c = λ said h.
    let text = c.args.text.now in
    let r = c.read_text.result in
    MatchResult-from_both r (λ v. map arc_value v.items ≡ said) IsMemory
    (IfOk-weaker r (λ v. SaysAutomata text (map arc_value v.items)) (λ v. map arc_value v.items ≡ said)
    (λ v s. says_one text (map arc_value v.items) said s h) c.read_text.ensures.automata)
    (IfErr-weaker r (IsRight text) IsMemory (λ e right. memory_alone text said e h right) c.read_text.ensures.fault)

pub returns-clause-first : goal.returns-clause-first
returns-clause-first c = λ fault h.
    let text = c.args.text.now in
    let r = c.read_text.result in
    MatchResult-from_both r (λ v. ⊥) (Tells fault)
    (IfOk-weaker r (λ v. SaysAutomata text (map arc_value v.items)) (λ v. ⊥)
    (λ v s. says_or_fails text (map arc_value v.items) fault s h) c.read_text.ensures.automata)
    (IfErr-weaker r (IsRight text) (Tells fault) (λ e right. tells_it text fault e h right) c.read_text.ensures.fault)
