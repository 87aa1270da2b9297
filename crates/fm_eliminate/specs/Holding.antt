-- Whether one row holds, as evaluating it tells.
use Rattle.std.specs.Prelude.{◌↔◌, Bool, IsTrue, Option, MatchOption}
use Rattle.poly_specs.specs.Bits.{SomePasses, NonePasses}
use Rattle.poly_specs.specs.Evaluation.{eval_numbers}
use Rattle.poly_specs.specs.Rows.{Point, Row, Holds}

-- no answer where the evaluation passes, else whether the row holds
abbrev pub IsRowHeld : Row → Point → Option Bool → Type 0
IsRowHeld r p answer =
    MatchOption answer (SomePasses (eval_numbers r p.num p.den)) (λ held. NonePasses (eval_numbers r p.num p.den) × (IsTrue held ↔ Holds r p))
