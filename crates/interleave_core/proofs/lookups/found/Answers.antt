use Rattle.std.proofs.Common.{sym, ap, ◌∙◌}
use Rattle.std.specs.Arc.{arc_value}
use Rattle.gap_keys.specs.declared.outcomes.Outcome.{Outcome}
use Rattle.run_specs.specs.Keys.{Key}
use Rattle.succ_memo.specs.Look.{found_pair}
use Rattle.succ_memo.specs.Memo.{Memo}
use Rattle.interleave_core.proofs.MemoLemmas.{found, lacks, looked_same, none_there}
use Rattle.interleave_core.proofs.lookups.found.Goals as goal

pub returns-then-not-has-clause-not_allowed : goal.returns-then-not-has-clause-not_allowed
returns-then-not-has-clause-not_allowed c refused has =
    lacks _ c.equal_keys.ensures c.args.key.now c.args.memo.now.entries (none_there _ (sym c.has.ensures.present ∙ c.if-not-has.true)) has

pub returns-in-Hit-clause-key : goal.returns-in-Hit-clause-key
returns-in-Hit-clause-key c =
    (found _ c.equal_keys.ensures c.args.key.now c.args.memo.now.entries (arc_value c.in-Hit.entry) (sym c.in_ok-entry.ensures.found ∙ ap found_pair c.in-Hit.is)).0

pub returns-in-Hit-clause-stands : goal.returns-in-Hit-clause-stands
returns-in-Hit-clause-stands c =
    (found _ c.equal_keys.ensures c.args.key.now c.args.memo.now.entries (arc_value c.in-Hit.entry) (sym c.in_ok-entry.ensures.found ∙ ap found_pair c.in-Hit.is)).1

pub returns-in-Hit-clause-memo : goal.returns-in-Hit-clause-memo
returns-in-Hit-clause-memo c = record {
  bound = ap (λ (m : Memo Key Outcome). m.most) c.in_ok-entry.ensures.memo;
  same = looked_same _ c.equal_keys.ensures c.args.key.now c.args.memo.now.entries c.look.new.self.entries
      (ap (λ (m : Memo Key Outcome). m.entries) c.in_ok-entry.ensures.memo) c.in_ok-entry.ensures.valid.distinct;
}
