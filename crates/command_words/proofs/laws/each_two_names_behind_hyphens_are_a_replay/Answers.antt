use Rattle.std.proofs.Common.{refl}
use Rattle.clap.proofs.OnLiterals.{clap_on_literals}
use Rattle.command_words.proofs.laws.each_two_names_behind_hyphens_are_a_replay.Goals as goal

pub returns : goal.returns
unfolding clap_on_literals
returns c = λ name log. refl
