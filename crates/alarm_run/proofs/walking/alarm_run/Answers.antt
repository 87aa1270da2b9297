use Rattle.std.proofs.Common.{◌≡◌, ◌∙◌, Err, ap, arith, rules, subst}
use Rattle.fm_eliminate.specs.declared.RowFault.TheVariants.{Passes}
use Rattle.std.specs.Prelude.{reverse}
use Rattle.run_specs.specs.Runs.{Run}
use Rattle.alarm_run.specs.Walks.{WalkValue, IsAlarmed, AlarmedPasses, IsWalkedBack}
use Rattle.alarm_run.proofs.BeginLemmas.{known, whole_run, whole_passes}
use Rattle.alarm_run.proofs.walking.alarm_run.Goals as goal

pub count_to-requires : goal.count_to-requires
count_to-requires c = known c.args.history.now c.args.sample c.requires.alarm

pub returns-clause-ok : goal.returns-clause-ok
returns-clause-ok c =
    let h = c.args.history.now in
    let gaps : c.new.result ≡ reverse c.in_ok-start.start.gaps = c.new.ensures ∙ c.reverse.ensures.items ∙ ap (λ (w : WalkValue). reverse w.gaps) c.start.view_is in
    whole_run h c.args.sample c.in_ok-start.start c.new.result c.begin.ensures.kept c.requires.alarm c.in_ok-start.ensures.place
    (subst (λ n. IsWalkedBack h n 0 c.in_ok-start.start) c.count_to.ensures.count c.in_ok-start.ensures.walked) gaps

pub returns-in_err-end-clause-passes : goal.returns-in_err-end-clause-passes
returns-in_err-end-clause-passes c e =
    let same : c.in_err-end.field-0.0 ≡ Passes = search rules in
    whole_passes c.args.history.now c.args.sample c.begin.ensures.kept c.requires.alarm (c.in_err-end.ensures.passes (ap (λ f. Err f) same))

pub walk_back-requires-clause-known : goal.walk_back-requires-clause-known
walk_back-requires-clause-known c = let h = known c.args.history.now c.args.sample c.requires.alarm in omega (arith, h, c.count_to.ensures.count)

pub returns-in_err-start-clause-passes : goal.returns-in_err-start-clause-passes
returns-in_err-start-clause-passes c e =
    let same : c.in_err-start.field-0.0 ≡ Passes = search rules in
    let h = c.args.history.now in
    whole_passes h c.args.sample c.begin.ensures.kept c.requires.alarm
    (subst (λ n. (run : Run) → IsAlarmed h n run → AlarmedPasses h n) c.count_to.ensures.count (c.in_err-start.ensures.passes (ap (λ f. Err f) same)))
