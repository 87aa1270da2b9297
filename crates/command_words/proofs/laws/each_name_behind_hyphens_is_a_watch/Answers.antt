use Rattle.std.proofs.Common.{refl}
use Rattle.clap.proofs.OnLiterals.{clap_on_literals}
use Rattle.command_words.proofs.laws.each_name_behind_hyphens_is_a_watch.Goals as goal

pub returns : goal.returns
unfolding clap_on_literals
returns c = λ name. refl
