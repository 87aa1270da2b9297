use Rattle.std.proofs.Common.{◌≡◌, Ok, Err, subst, ◌∙◌}
use Rattle.std.specs.Prelude.{MatchOption}
use Rattle.lang_specs.specs.Marks.{mark}
use Rattle.lang_tokens.specs.declared.faults.LineFault.TheVariants as faults
use Rattle.lang_tokens.specs.Places.{placed_of}
use Rattle.lang_tokens.proofs.Running.{limit_told}
use Rattle.lang_transitions.specs.Views.{transition, state_of}
use Rattle.lang_transitions.proofs.TransitionLine.{told_by}
use Rattle.lang_transitions.proofs.transitions.step.Goals as goal

pub returns-clause-next : goal.returns-clause-next
returns-clause-next c =
    let t = placed_of c.args.line c.args.token in
    let s = state_of c.args.reader in
    let reader = c.in_ok-reader.reader in
    let told = c.passed.ensures ∙ told_by c.args.strict s (state_of reader) (mark t) c.room_left-before.result.rows c.room_left-behind.result.rows c.room_left-before.result.terms c.room_left-behind.result.terms
    c.room_left-before.ensures.rows c.room_left-behind.ensures.rows c.room_left-before.ensures.terms c.room_left-behind.ensures.terms in
    limit_told (transition c.args.strict) c.args.line state_of s reader t c.unless.result c.in_ok-reader.ensures.next
    (subst (λ w. MatchOption w (c.unless.result ≡ Ok reader) (λ which. c.unless.result ≡ Err (faults.Limit which))) told c.unless.ensures)
