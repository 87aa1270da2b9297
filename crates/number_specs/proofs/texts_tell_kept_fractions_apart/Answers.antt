use Rattle.number_specs.proofs.TextLemmas.{texts_tell}
use Rattle.number_specs.proofs.texts_tell_kept_fractions_apart.Goals as goal

pub returns : goal.returns
returns c = texts_tell
