use Rattle.std.proofs.Common.{refl}
use Rattle.clap.proofs.OnLiterals.{clap_on_literals}
use Rattle.command_words.proofs.laws.too_few_words_are_refused.Goals as goal

pub returns : goal.returns
unfolding clap_on_literals
returns c = (refl, refl, refl)
