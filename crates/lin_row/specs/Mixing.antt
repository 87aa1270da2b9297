-- The numbers that the sum of two multiples forms.
use Rattle.std.specs.Prelude.{List, [], ◌∷◌, ℤ, ◌+ℤ◌, ◌*ℤ◌}
use Rattle.poly_specs.specs.Bits.{FitsBits, NonePasses}
use Rattle.poly_specs.specs.Rows.{Row}

-- neither of the two products passes, nor does their sum
abbrev pub MixFits : ℤ → ℤ → ℤ → ℤ → Type 0
MixFits p a q b = FitsBits (p *ℤ a) × FitsBits (q *ℤ b) × FitsBits (p *ℤ a +ℤ q *ℤ b)

-- place by place, the multiple by p, the multiple by q, and their sum
abbrev pub mixed_numbers : ℤ → List ℤ → ℤ → List ℤ → List ℤ
mixed_numbers p [] q bs = []
mixed_numbers p (a ∷ cs) q [] = []
mixed_numbers p (a ∷ cs) q (b ∷ ds) = (p *ℤ a) ∷ (q *ℤ b) ∷ (p *ℤ a +ℤ q *ℤ b) ∷ mixed_numbers p cs q ds

-- none passes of the numbers that p times one row and q times the other form
abbrev pub RowsFit : ℤ → Row → ℤ → Row → Type 0
RowsFit p l q u = MixFits p l.cst q u.cst × NonePasses (mixed_numbers p l.coef q u.coef)
