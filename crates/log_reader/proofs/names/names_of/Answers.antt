use Rattle.log_reader.proofs.NameLemmas.{not_names_at}
use Rattle.log_reader.proofs.names.names_of.Goals as goal

pub returns-in_default-name_of : goal.returns-in_default-name_of
returns-in_default-name_of c = not_names_at _ _ _ _ c.in-len1-up.len_at_least c.in_default-name_of.ensures c.loop-rest.invariant.split
