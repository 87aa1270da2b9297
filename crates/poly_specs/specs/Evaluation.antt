-- The numbers that evaluating a row forms.
use Rattle.std.specs.Prelude.{List, [], ◌∷◌, ◌++◌, ℤ, pos, ◌+ℤ◌, ◌*ℤ◌}
use Rattle.poly_specs.specs.Lists.{dot}
use Rattle.poly_specs.specs.Rows.{Row}

-- the products, place by place, each with the sum so far
abbrev pub running : ℤ → List ℤ → List ℤ → List ℤ
running so_far [] ns = []
running so_far (c ∷ cs) [] = []
running so_far (c ∷ cs) (n ∷ ns) = (c *ℤ n) ∷ (so_far +ℤ c *ℤ n) ∷ running (so_far +ℤ c *ℤ n) cs ns

-- the numbers that evaluating the row takes at these numbers over d, with 0 in the columns after them; the constant comes last
abbrev pub eval_numbers : Row → List ℤ → ℤ → List ℤ
eval_numbers r ns d = running (pos 0) r.coef ns ++ (r.cst *ℤ d) ∷ (dot r.coef ns +ℤ r.cst *ℤ d) ∷ []
