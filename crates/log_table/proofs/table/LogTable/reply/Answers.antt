use Rattle.std.proofs.Common.{sym, ap, ◌∙◌, subst}
use Rattle.log_table.specs.Tables.{cells_in}
use Rattle.log_table.specs.Parts.{table_of, IsKept}
use Rattle.log_table.proofs.TableLemmas.{unknown_sample}
use Rattle.log_table.proofs.SampleLemmas.{is_open, sample_refused, sample_accepted, kept_writing, as_before}
use Rattle.log_table.proofs.table.LogTable.reply.Goals as goal

pub returns-in_default-clause-refusal : goal.returns-in_default-clause-refusal
returns-in_default-clause-refusal g c =
    let i = c.self.inside in
    unknown_sample i.jumps i.accepted i.sessions.entries c.args.self.now c.self.view_is c.args.name.now c.of.result c.of.ensures (cells_in c.args.sample.now) (sym c.in_default.ensures.value)

pub reply-requires-clause-idle : goal.reply-requires-clause-idle
reply-requires-clause-idle g c =
    let i = c.self.inside in
    (is_open i.jumps i.accepted i.sessions.entries c.args.self.now c.self.view_is c.self.invariant c.args.name.now c.of.result c.of.ensures c.in-Some.opened.now
    (sym c.in-Some.ensures.value) c.args.sample.now c.is_full-is_full.result c.is_full-is_full.ensures).idle

pub invariant_of-self-in-Ok : goal.invariant_of-self-in-Ok
invariant_of-self-in-Ok g c =
    let i = c.self.inside in
    let written = c.get_mut-2.follows.holds c.reply.new.self in
    kept_writing i.jumps i.accepted i.sessions.entries c.args.self.now c.self.view_is c.self.invariant c.args.name.now c.of.result c.of.ensures c.in-Some.opened.now
    (sym c.in-Some.ensures.value) c.args.sample.now c.is_full-is_full.result c.is_full-is_full.ensures c.reply.new.self c.in-Ok.verdict c.in-Ok.ensures.ok.0 c.in-Ok.ensures.ok.1
    c.in-Ok.ensures.ok.2 c.in-Ok.ensures.kept (c.get_mut-2.follows.lender c.reply.new.self).entries written.0 written.4 written.2

pub invariant_of-self-in-Err : goal.invariant_of-self-in-Err
invariant_of-self-in-Err g c =
    let i = c.self.inside in
    let written = c.get_mut-2.follows.holds c.reply.new.self in
    let same = as_before i.jumps i.accepted i.sessions.entries c.args.self.now c.self.view_is c.self.invariant c.args.name.now c.of.result c.of.ensures c.in-Some.opened.now
    (sym c.in-Some.ensures.value) c.args.sample.now c.is_full-is_full.result c.is_full-is_full.ensures c.reply.new.self c.in-Err.ensures.err
    (c.get_mut-2.follows.lender c.reply.new.self).entries written.0 in
    subst (λ es. IsKept i.jumps es i.accepted) (sym same) c.self.invariant

pub returns-in-Ok-clause-ok : goal.returns-in-Ok-clause-ok
returns-in-Ok-clause-ok g c =
    let i = c.self.inside in
    let written = c.get_mut-2.follows.holds c.reply.new.self in
    sample_accepted i.jumps i.accepted i.sessions.entries c.args.self.now c.self.view_is c.self.invariant c.args.name.now c.of.result c.of.ensures c.in-Some.opened.now
    (sym c.in-Some.ensures.value) c.args.sample.now c.is_full-is_full.result c.is_full-is_full.ensures c.reply.new.self c.in-Ok.verdict c.in-Ok.ensures.ok.0 c.in-Ok.ensures.ok.1
    c.in-Ok.ensures.ok.2 c.in-Ok.ensures.kept (c.get_mut-2.follows.lender c.reply.new.self).entries written.0

pub returns-in-Err-clause-refusal : goal.returns-in-Err-clause-refusal
returns-in-Err-clause-refusal g c =
    let i = c.self.inside in
    sample_refused i.jumps i.accepted i.sessions.entries c.args.self.now c.self.view_is c.self.invariant c.args.name.now c.of.result c.of.ensures c.in-Some.opened.now
    (sym c.in-Some.ensures.value) c.args.sample.now c.is_full-is_full.result c.is_full-is_full.ensures c.in-Err.why c.in-Err.ensures.refusal

pub returns-in-Err-clause-err : goal.returns-in-Err-clause-err
returns-in-Err-clause-err g c =
    let i = c.self.inside in
    let written = c.get_mut-2.follows.holds c.reply.new.self in
    let same = as_before i.jumps i.accepted i.sessions.entries c.args.self.now c.self.view_is c.self.invariant c.args.name.now c.of.result c.of.ensures c.in-Some.opened.now
    (sym c.in-Some.ensures.value) c.args.sample.now c.is_full-is_full.result c.is_full-is_full.ensures c.reply.new.self c.in-Err.ensures.err
    (c.get_mut-2.follows.lender c.reply.new.self).entries written.0 in
    ap (λ es. table_of i.jumps es i.accepted) same ∙ c.self.view_is
