use Rattle.std.proofs.Common.{◌∙◌, ap, map, length, arith}
use Rattle.model_specs.specs.Constraints.{part_of, with_time}
use Rattle.model_rows.proofs.ListLemmas.{whole, map_map}
use Rattle.model_rows.proofs.parts.timed_parts_of.Goals as goal

pub returns : goal.returns
returns c =
    c.loop-term.invariant
    ∙ ap (map (λ t. with_time (length c.args.vars.now) (part_of c.args.vars.now t))) (whole c.args.terms.now c.loop-term.term-index (omega arith))
    ∙ map_map (part_of c.args.vars.now) (with_time (length c.args.vars.now)) c.args.terms.now
