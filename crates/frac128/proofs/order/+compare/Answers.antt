use Rattle.std.proofs.Common.{◌∙◌, ⊎_elim, inl, inr}
use Rattle.frac128.proofs.OrderLemmas.{by_quotients, by_rests, by_zero, by_turning}
use Rattle.frac128.proofs.order.+compare.Goals as goal

pub returns-then-left-right : goal.returns-then-left-right
returns-then-left-right t c =
    c.cmp.ensures ∙ by_quotients c.args.a c.args.b c.args.c c.args.d c.requires.b_positive c.requires.d_positive c.if-left-right.true

pub returns-then-left_rest-eq0 : goal.returns-then-left_rest-eq0
returns-then-left_rest-eq0 t c =
    c.cmp-then-left_rest-eq0.ensures
    ∙ by_zero _ _ c.args.b c.args.d c.requires.b_positive c.requires.d_positive (⊎_elim (λ e. inl e) (λ e. inr e.1) c.then-left_rest-eq0.either)
    ∙ by_rests c.args.a c.args.b c.args.c c.args.d c.if-left-right.false

pub returns : goal.returns
returns t c =
    c.compare.ensures ∙ by_turning _ _ c.args.b c.args.d ∙ by_rests c.args.a c.args.b c.args.c c.args.d c.if-left-right.false
