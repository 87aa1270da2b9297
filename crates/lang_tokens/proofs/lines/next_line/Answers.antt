use Rattle.std.proofs.Common.{◌≡◌, ◌<◌, length, arith, sym, ◌∙◌, ap, take, drop, false-eqb}
use Rattle.std.proofs.lemmas.Bool.{eqb-true}
use Rattle.lang_specs.specs.Lines.{without_return}
use Rattle.lang_tokens.proofs.FirstLine.{first_line, only_line, empty_lines, position_is}
use Rattle.lang_tokens.proofs.lines.next_line.Goals as goal

pub returns-then-is_empty : goal.returns-then-is_empty
returns-then-is_empty c = empty_lines c.args.text.now (eqb-true _ 0 (sym c.if-is_empty.ensures))

pub returns-in-None : goal.returns-in-None
returns-in-None c =
    let some : 0 < length c.args.text.now = omega (arith, false-eqb _ 0 c.if-is_empty.ensures) in
    (only_line c.args.text.now some (sym c.in-None.ensures), omega arith, some)

pub returns-in-Some : goal.returns-in-Some
returns-in-Some c =
    let line : c.without_return.result.now ≡ without_return (take c.in-Some.at c.args.text.now) = c.without_return.ensures.value ∙ ap without_return c.split_at.ensures.front in
    let rest : c.split_at-in-Some.result.1.now ≡ drop 1 (drop c.in-Some.at c.args.text.now) = c.split_at-in-Some.ensures.back ∙ ap (λ z. drop 1 z) c.split_at.ensures.back in
    let at = position_is c.args.text.now c.in-Some.at (sym c.in-Some.ensures) in
    (first_line c.args.text.now _ _ c.in-Some.at (sym c.in-Some.ensures) line rest, omega arith, omega arith)
