use Rattle.std.proofs.Common.{◌≡◌, ◌+◌, ◌-◌, ◌<◌, ℕ, Err, ap, arith, rules, subst}
use Rattle.fm_eliminate.specs.declared.RowFault.TheVariants.{Passes}
use Rattle.alarm_run.specs.Walks.{IsPlace, IsWalked, IsWalkedBack}
use Rattle.alarm_run.proofs.walking.walk_back.Goals as goal

-- the gap that comes next, and the place after it
next_is : (count done : ℕ) → done < count → count - done ≡ (count - 1 - done) + 1
next_is count done h = omega (arith, h)

then_is : (count done : ℕ) → count - 1 - done ≡ count - (done + 1)
then_is count done = omega arith

within : (count done : ℕ) → done < count → count - 1 - done < count
within count done h = omega (arith, h)

pub loop-done-init : goal.loop-done-init
loop-done-init c =
    let e : c.args.count ≡ c.args.count - 0 = omega arith in
    record {
      place = subst (λ n. IsPlace c.args.history.now n c.args.walk) e c.requires.place;
      walked = subst (λ n. IsWalkedBack c.args.history.now c.args.count n c.args.walk) e c.requires.walked;
    }

pub step_back-requires-clause-place : goal.step_back-requires-clause-place
step_back-requires-clause-place c =
    subst (λ n. IsPlace c.args.history.now n c.loop-done.walk) (next_is c.args.count c.loop-done.done c.loop-done-test.true) c.loop-done.invariant.place

pub returns-in_err-walk-clause-passes : goal.returns-in_err-walk-clause-passes
returns-in_err-walk-clause-passes c e run first =
    let same : c.in_err-walk.field-0.0 ≡ Passes = search rules in
    let count = c.args.count in
    let done = c.loop-done.done in
    c.in_err-walk.ensures.passes (ap (λ f. Err f) same) count run (within count done c.loop-done-test.true) c.requires.known first
    (subst (λ n. IsWalked c.args.history.now n run c.loop-done.walk) (next_is count done c.loop-done-test.true) (c.loop-done.invariant.walked run first))

pub loop-done-preserved : goal.loop-done-preserved
loop-done-preserved c =
    let count = c.args.count in
    let done = c.loop-done.done in
    record {
      place = subst (λ n. IsPlace c.args.history.now n c.in_ok-walk.walk) (then_is count done) c.in_ok-walk.ensures.place;
      walked = subst (λ n. IsWalkedBack c.args.history.now count n c.in_ok-walk.walk) (then_is count done)
          (c.in_ok-walk.ensures.walked count (within count done c.loop-done-test.true) c.requires.known
          (subst (λ n. IsWalkedBack c.args.history.now count n c.loop-done.walk) (next_is count done c.loop-done-test.true) c.loop-done.invariant.walked));
    }

pub returns-clause-place : goal.returns-clause-place
returns-clause-place c =
    let h = c.loop-done-test.false in
    let e : c.args.count - c.loop-done.done ≡ 0 = omega (arith, h) in
    subst (λ n. IsPlace c.args.history.now n c.loop-done.walk) e c.loop-done.invariant.place

pub returns-clause-walked : goal.returns-clause-walked
returns-clause-walked c =
    let h = c.loop-done-test.false in
    let e : c.args.count - c.loop-done.done ≡ 0 = omega (arith, h) in
    subst (λ n. IsWalkedBack c.args.history.now c.args.count n c.loop-done.walk) e c.loop-done.invariant.walked
