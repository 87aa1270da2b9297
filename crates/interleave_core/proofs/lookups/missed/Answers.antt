use Rattle.std.proofs.Common.{sym, ap, ◌∙◌}
use Rattle.gap_keys.specs.declared.outcomes.Outcome.{Outcome}
use Rattle.run_specs.specs.Keys.{Key}
use Rattle.succ_memo.specs.Look.{found_pair}
use Rattle.succ_memo.specs.Memo.{Memo}
use Rattle.interleave_core.proofs.MemoLemmas.{has_key, lacks, looked_same, some_there}
use Rattle.interleave_core.proofs.lookups.missed.Goals as goal

pub returns-then-has-clause-not_allowed : goal.returns-then-has-clause-not_allowed
returns-then-has-clause-not_allowed c refused =
    let there = some_there _ (sym c.has.ensures.present ∙ c.if-has.true) in
    has_key _ c.equal_keys.ensures c.args.key.now c.args.memo.now.entries there.0 there.1

pub returns-clause-lacking : goal.returns-clause-lacking
returns-clause-lacking c = lacks _ c.equal_keys.ensures c.args.key.now c.args.memo.now.entries (sym c.in_ok-ticket.ensures.found ∙ ap found_pair c.in-Miss.is)

pub returns-clause-memo : goal.returns-clause-memo
returns-clause-memo c = record {
  bound = ap (λ (m : Memo Key Outcome). m.most) c.in_ok-ticket.ensures.memo;
  same = looked_same _ c.equal_keys.ensures c.args.key.now c.args.memo.now.entries c.look.new.self.entries
      (ap (λ (m : Memo Key Outcome). m.entries) c.in_ok-ticket.ensures.memo) c.in_ok-ticket.ensures.valid.distinct;
}
