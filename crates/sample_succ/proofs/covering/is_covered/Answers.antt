use Rattle.std.proofs.Common.{subst}
use Rattle.std.specs.Prelude.{All, MatchBool}
use Rattle.std.proofs.lemmas.List.{take_all}
use Rattle.std.proofs.lemmas.List.Elements.{All-more}
use Rattle.fm_eliminate.proofs.CountLemmas.{any_in}
use Rattle.fm_eliminate.proofs.PivotLemmas.{in_item}
use Rattle.sample_succ.specs.Covers.{DoesCover, DoesNotCover}
use Rattle.sample_succ.proofs.covering.is_covered.Goals as goal

pub returns-then-branch : goal.returns-then-branch
returns-then-branch c =
    let m = c.args.rows.now.width in
    let n = c.args.node.now in
    let rows = c.args.rows.now.rows in
    let f = c.state-item.result in
    let covers : DoesCover m n.loc n.seen_unsafe rows f =
    subst (λ b. MatchBool b (DoesCover m n.loc n.seen_unsafe rows f) (DoesNotCover m n.loc n.seen_unsafe rows f)) c.if-branch.true c.in_ok-does_cover.ensures in
    any_in (DoesCover m n.loc n.seen_unsafe rows) c.args.found.now f (in_item c.args.found.now c.loop-state.state-index f c.loop-state-test.true c.state-item.is) covers

pub loop-state-preserved : goal.loop-state-preserved
loop-state-preserved c =
    let m = c.args.rows.now.width in
    let n = c.args.node.now in
    let rows = c.args.rows.now.rows in
    let f = c.state-item.result in
    let not_covers : DoesNotCover m n.loc n.seen_unsafe rows f =
    subst (λ b. MatchBool b (DoesCover m n.loc n.seen_unsafe rows f) (DoesNotCover m n.loc n.seen_unsafe rows f)) c.if-branch.false c.in_ok-does_cover.ensures in
    All-more (DoesNotCover m n.loc n.seen_unsafe rows) c.args.found.now c.loop-state.state-index f c.loop-state-test.true c.loop-state.invariant
    (subst (DoesNotCover m n.loc n.seen_unsafe rows) c.state-item.is not_covers)

pub returns : goal.returns
returns c =
    let n = c.args.node.now in
    subst (All (DoesNotCover c.args.rows.now.width n.loc n.seen_unsafe c.args.rows.now.rows)) (take_all c.loop-state.state-index c.args.found.now c.loop-state-test.false) c.loop-state.invariant
