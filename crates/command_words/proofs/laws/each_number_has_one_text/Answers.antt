use Rattle.command_words.proofs.NumberLemmas.{number_of_text, text_of_number}
use Rattle.command_words.proofs.laws.each_number_has_one_text.Goals as goal

pub returns : goal.returns
returns c = λ least most number word small. (text_of_number least most number word small, number_of_text least most number word small)
