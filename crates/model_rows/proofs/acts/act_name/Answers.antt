use Rattle.std.proofs.Common.{◌∙◌, ap}
use Rattle.model_specs.specs.Automata.{act_name}
use Rattle.model_rows.proofs.acts.act_name.Goals as goal

pub returns : goal.returns
returns c = c.name_of.ensures ∙ ap act_name c.parts.ensures
