-- A list of which fewer than the limit were taken was taken whole.
use Rattle.std.proofs.Common.{◌≡◌, ◌≤◌, ◌<◌, ℕ, List, length, take, Option, None, Some, IfSome, arith, length-take, ap, ◌∙◌}
use Rattle.std.specs.Option.{option_map}
use Rattle.std.proofs.lemmas.List.{take_all}

pub whole_taken : (known : Option (List ℕ)) (limit : ℕ) (items : List ℕ) →
    IfSome (option_map (take limit) known) (λ taken. items ≡ taken) → length items < limit → IfSome known (λ all. items ≡ all)
whole_taken None limit items e short = tt
whole_taken (Some all) limit items e short =
    let fits : length all ≤ limit = omega (arith, length-take limit all, ap length e) in
    e ∙ take_all limit all fits
