use Rattle.std.proofs.Common.{◌≡◌, ◌-◌, ◌<◌, length, take, drop, arith}
use Rattle.lang_print.specs.Pages.{with_tokens}
use Rattle.lang_specs.specs.Canonical.{joined}
use Rattle.lang_print.proofs.PageLemmas.{on_ok, more_tokens, joined_tokens}
use Rattle.lang_print.proofs.print.with_commas.Goals as goal

pub returns-in_ok-print-in-len1-up : goal.returns-in_ok-print-in-len1-up
returns-in_ok-print-in-len1-up g c =
    let some : 0 < length c.args.items.now = omega arith in
    on_ok c.more_with_commas.result (c.more_with_commas.new.page ≡ with_tokens c.print.new.page (more_tokens g.T.Print.tokens (take (length c.args.items.now - 1) (drop 1 c.args.items.now))))
    (c.more_with_commas.new.page ≡ with_tokens c.args.page.now (joined g.T.Print.tokens c.args.items.now))
    (λ rest. joined_tokens g.T.Print.tokens c.args.items.now c.first-item.result c.args.page.now c.print.new.page c.more_with_commas.new.page some c.first-item.is
    c.in_ok-print-in-len1-up.ensures rest)
    c.more_with_commas.ensures
