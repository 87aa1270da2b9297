use Rattle.std.proofs.Common.{refl, subst, inl, inr}
use Rattle.std.specs.Prelude.{All, Any, MatchBool}
use Rattle.sample_succ.specs.Covers.{DoesCover, DoesNotCover}
use Rattle.sample_succ.proofs.gap_walk.put_new.Goals as goal

pub returns-then-branch : goal.returns-then-branch
returns-then-branch c =
    let n = c.args.node.now in
    let t = c.args.rows in
    let some : Any (DoesCover t.width n.loc n.seen_unsafe t.rows) c.as_slice.result.now =
    subst (λ b. MatchBool b (Any (DoesCover t.width n.loc n.seen_unsafe t.rows) c.as_slice.result.now) (All (DoesNotCover t.width n.loc n.seen_unsafe t.rows) c.as_slice.result.now)) c.if-branch.true c.in_ok-is_covered.ensures in
    inl (subst (Any (DoesCover t.width n.loc n.seen_unsafe t.rows)) c.as_slice.ensures.value some, refl)

pub returns : goal.returns
returns c =
    let n = c.args.node.now in
    let t = c.args.rows in
    let none : All (DoesNotCover t.width n.loc n.seen_unsafe t.rows) c.as_slice.result.now =
    subst (λ b. MatchBool b (Any (DoesCover t.width n.loc n.seen_unsafe t.rows) c.as_slice.result.now) (All (DoesNotCover t.width n.loc n.seen_unsafe t.rows) c.as_slice.result.now)) c.if-branch.false c.in_ok-is_covered.ensures in
    inr (record {
      items = c.in_ok-put.ensures.items;
      wide = c.in_ok-put.ensures.wide;
      not_covered = subst (All (DoesNotCover t.width n.loc n.seen_unsafe t.rows)) c.as_slice.ensures.value none;
    })
