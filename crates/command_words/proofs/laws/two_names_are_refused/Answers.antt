use Rattle.command_words.proofs.LawLemmas.{two_checks, two_watches}
use Rattle.command_words.proofs.laws.two_names_are_refused.Goals as goal

pub returns : goal.returns
returns c = λ name other e f. (two_checks name other e f, two_watches name other e f)
