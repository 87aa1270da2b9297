use Rattle.std.proofs.Common.{◌≡◌, ◌+◌, ◌<◌, length, drop, false, sym, ap, ◌∙◌, subst, arith}
use Rattle.std.specs.Prelude.{All}
use Rattle.std.proofs.lemmas.List.{take_rest}
use Rattle.std.proofs.lemmas.List.Elements.{All-push}
use Rattle.log_specs.specs.LogSessions.{is_among}
use Rattle.log_table.specs.Columns.{IsNumberOf}
use Rattle.log_table.proofs.ColumnLemmas.{unnamed, numbered, next_name, no_variable, one_more, all_named}
use Rattle.log_table.proofs.columns.columns_of.Goals as goal

pub returns-in_default : goal.returns-in_default
returns-in_default c =
    c.loop-i.invariant.rest
    ∙ no_variable c.args.variables.now c.args.names.now c.loop-i.i c.index-names-i.result (omega arith) c.index-names-i.is
    (unnamed c.args.variables.now c.index-names-i.result (sym c.number_of.ensures ∙ c.in_default.is))

pub loop-i-preserved : goal.loop-i-preserved
loop-i-preserved c =
    let number : IsNumberOf c.args.variables.now c.index-names-i.result c.in-Some.place = numbered c.args.variables.now c.index-names-i.result c.in-Some.place (sym c.in-Some.ensures) in
    let alone : is_among (drop (c.loop-i.i + 1) c.args.names.now) c.index-names-i.result ≡ false =
    ap (λ zs. is_among zs c.index-names-i.result) (sym (take_rest c.args.names.now (c.loop-i.i + 1))) ∙ sym c.is_among.ensures ∙ c.if-is_among.false in
    let grown = c.in_ok-push.ensures.items in
    record {
      rest = c.loop-i.invariant.rest
          ∙ next_name c.args.variables.now c.args.names.now c.loop-i.i c.index-names-i.result (omega arith) c.index-names-i.is number.among alone;
      same = one_more c.args.variables.now c.args.names.now c.loop-i.columns.items c.push.new.self.items c.loop-i.i c.in-Some.place c.index-names-i.result
          (omega arith) c.index-names-i.is c.loop-i.invariant.same grown number.named;
      within = subst (All (λ k. k < length c.args.variables.now)) (sym grown)
          (All-push (λ k. k < length c.args.variables.now) c.loop-i.columns.items c.in-Some.place c.loop-i.invariant.within number.within);
    }

pub returns : goal.returns
returns c =
    all_named c.args.variables.now c.args.names.now c.loop-i.columns.items c.loop-i.i (omega arith) c.loop-i.invariant.rest c.loop-i.invariant.same c.loop-i.invariant.within
