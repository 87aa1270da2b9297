-- Reading acts with commas between finds what a line says, or its first fault.
use Rattle.std.proofs.Common.{◌≡◌, true, List, [], ◌∷◌, ◌++◌, ap, ◌∙◌}
use Rattle.lang_specs.specs.declared.Kind.TheVariants.{EndLine}
use Rattle.lang_specs.specs.Marks.{Mark, the}
use Rattle.lang_specs.specs.Trees as trees
use Rattle.lang_specs.specs.Expressions.{AreJoined, IsAct}
use Rattle.lang_tokens.specs.Machines.{Reading, AllValues, listed}
use Rattle.lang_tokens.specs.LineFaults.{marks, IsLine}
use Rattle.lang_tokens.proofs.LineLaws.{LineLaws}
use Rattle.lang_tokens.proofs.JoinedLaws.{Said, ended_said, joined, joined_spells, line_laws}
use Rattle.lang_transitions.specs.ActMachine.{Place, Act, acts, act_limits, IsActValue}
use Rattle.lang_transitions.proofs.ActLaws.{spell_act, said_act, GoodAct, FinePlace, act_laws, act_values}
use Rattle.lang_transitions.proofs.ActLimits.{limit_laws}

-- what was read of acts up to a state
abbrev pub SaidActs : Reading Place Act → List Mark → Type 0
SaidActs r ms = Said acts spell_act said_act GoodAct FinePlace act_laws r ms

pub act_line_laws : LineLaws (listed acts) SaidActs (AreJoined IsAct) act_limits
act_line_laws = line_laws acts spell_act said_act GoodAct FinePlace act_laws IsAct IsActValue act_values act_limits limit_laws

-- behind the end of a line, the marks that were read say what the acts say
pub acts_said : (r : Reading Place Act) (ms : List Mark) (ys : List trees.Act) → r.has_ended ≡ true → AllValues IsActValue r.done ys → SaidActs r ms → IsLine (AreJoined IsAct) ms ys
acts_said r ms ys ended h said =
    let line = ended_said acts spell_act said_act GoodAct FinePlace act_laws r.has_ended r.done r.place ms ended said in (
      joined spell_act r.done,
      line.0.1 ∙ ap (λ z. z ++ the EndLine ∷ []) line.0.2.1,
      joined_spells spell_act IsAct IsActValue GoodAct act_values r.done ys line.0.2.0 line.1 h,
    )
