use Rattle.run_parts.proofs.LeastNumbers.{equal_numbers}
use Rattle.run_parts.proofs.equal_fractions_have_equal_common_numbers.Goals as goal

pub returns : goal.returns
returns c = equal_numbers
