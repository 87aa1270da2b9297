use Rattle.std.proofs.Common.{sym, ◌∙◌}
use Rattle.fm_eliminate.proofs.LeavingLemmas.{left_idle}
use Rattle.fm_eliminate.proofs.kept_rows.KeptRows.add_row.Goals as goal

pub returns-then-is_idle-clause-ok : goal.returns-then-is_idle-clause-ok
returns-then-is_idle-clause-ok c = left_idle c.args.self.now c.args.row (sym c.is_idle.ensures ∙ c.if-is_idle.true)
