use Rattle.std.proofs.Common.{◌+◌, arith, sym, subst}
use Rattle.sample_succ.specs.Walks.{WalkedTo, IsJumped}
use Rattle.sample_succ.proofs.WalkLemmas.{walked_past, next_walked, next_before, next_left}
use Rattle.sample_succ.proofs.gap_walk.+walk.Goals as goal
use Rattle.sample_succ.proofs.gap_walk.+walk.Goals.{in-None-next, in-Some-next+in_ok-walk-in-Some-next}

pub walk-requires : goal.walk-requires
walk-requires t c =
    let key = c.args.key.now in
    let n = c.args.node.now in
    let next = subst (IsJumped key n.parent n.path.items c.loop-e.e) c.in-Some-next.is c.in_ok-next.ensures.ok in
    let d = c.decreases in
    let some = c.if-left-eq0.false in (
      omega (arith, d, some),
      (
        next.2,
        (
          next_left key n c.in-Some-next.next c.loop-e.e next c.args.left c.requires.left some,
          (
            c.loop-e.invariant.wide,
            (
              c.loop-e.invariant.found,
              next_before key n c.in-Some-next.next c.loop-e.e next c.args.found.now.items c.loop-e.found.items c.requires.before c.loop-e.invariant,
            ),
          ),
        ),
      ),
    )

pub loop-e-preserved : goal.loop-e-preserved
loop-e-preserved t c =
    let key = c.args.key.now in
    let n = c.args.node.now in
    let e = c.loop-e.e in
    elim c.match-next.branch [
      | in-None-next w ↦ subst (λ v. WalkedTo key n.parent n.path.items (e + 1) c.args.found.now.items v.items) (sym w.found-is)
          (walked_past key n.parent n.path.items e c.args.found.now.items c.loop-e.found.items c.loop-e.invariant
          (subst (IsJumped key n.parent n.path.items e) w.in-None-next.is c.in_ok-next.ensures.ok))
      | in-Some-next+in_ok-walk-in-Some-next w ↦ subst (λ v. WalkedTo key n.parent n.path.items (e + 1) c.args.found.now.items v.items) (sym w.found-is)
          (next_walked key n w.in-Some-next.next e (subst (IsJumped key n.parent n.path.items e) w.in-Some-next.is c.in_ok-next.ensures.ok)
          c.args.found.now.items c.loop-e.found.items w.walk.new.found.items c.loop-e.invariant w.in_ok-walk-in-Some-next.ensures.ok)
    ]

pub returns-clause-ok : goal.returns-clause-ok
returns-clause-ok t c =
    let key = c.args.key.now in
    let n = c.args.node.now in
    let past = c.loop-e-test.false in
    let within = c.loop-e.auto.e-end in
    let many = c.count_of-e-end.ensures in
    subst (λ k. WalkedTo key n.parent n.path.items k c.args.found.now.items c.loop-e.found.items) (omega (arith, past, within, many)) c.loop-e.invariant
