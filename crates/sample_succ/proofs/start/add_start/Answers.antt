use Rattle.std.proofs.Common.{◌+◌, sym, subst}
use Rattle.sample_succ.specs.Starts.{IsStart, AreStartsBefore}
use Rattle.sample_succ.proofs.StartLemmas.{same_starts, more_starts}
use Rattle.sample_succ.proofs.start.add_start.Goals as goal

pub returns-in_ok-put-in-Some-clause-ok : goal.returns-in_ok-put-in-Some-clause-ok
returns-in_ok-put-in-Some-clause-ok c =
    subst (AreStartsBefore c.args.a.now (c.args.l + 1)) (sym c.in_ok-put-in-Some.ensures)
    (more_starts c.args.a.now c.args.l c.args.states.now.items c.in-Some.state c.requires.before (subst (IsStart c.args.a.now c.args.l) c.in-Some.is c.in_ok-state.ensures.ok))

pub returns-in-None-clause-ok : goal.returns-in-None-clause-ok
returns-in-None-clause-ok c =
    same_starts c.args.a.now c.args.l c.args.states.now.items c.requires.before (subst (IsStart c.args.a.now c.args.l) c.in-None.is c.in_ok-state.ensures.ok)
