-- Lists of numbers that do not pass, by recursion.
use Rattle.std.proofs.Common.{inl, inr, suc, ◌^◌, List, [], ◌∷◌, ◌++◌, refl, arith, ℤ, unsigned_abs}
use Rattle.std.specs.List.{AllByRecursion}
use Rattle.std.proofs.lemmas.Bool.{cases_lt}
use Rattle.std.proofs.lemmas.List.Elements.{All-from_recursion, recursion_from_All}
use Rattle.poly_specs.specs.Bits.{FitsBits, NonePasses, SomePasses}

-- none of them passes
abbrev pub AllFit : List ℤ → Type 0
AllFit ns = AllByRecursion FitsBits ns

pub none_passes : (ns : List ℤ) → AllFit ns → NonePasses ns
none_passes ns h = All-from_recursion FitsBits ns h

pub all_fit : (ns : List ℤ) → NonePasses ns → AllFit ns
all_fit ns h = recursion_from_All FitsBits ns h

pub AllFit-front : (xs ys : List ℤ) → AllFit (xs ++ ys) → AllFit xs
AllFit-front [] ys h = tt
AllFit-front (x ∷ xs) ys h = (h.0, AllFit-front xs ys h.1)

pub AllFit-back : (xs ys : List ℤ) → AllFit (xs ++ ys) → AllFit ys
AllFit-back [] ys h = h
AllFit-back (x ∷ xs) ys h = AllFit-back xs ys h.1

pub AllFit-append : (xs ys : List ℤ) → AllFit xs → AllFit ys → AllFit (xs ++ ys)
AllFit-append [] ys h g = g
AllFit-append (x ∷ xs) ys h g = (h.0, AllFit-append xs ys h.1 g)

-- where not all fit, one passes
pub some_passes : (ns : List ℤ) → (AllFit ns → ⊥) → SomePasses ns
some_passes [] h = absurd (h tt)
some_passes (n ∷ ns) h = elim (cases_lt (unsigned_abs n) (2 ^ 127)) [
  | inl lt ↦ (let (k, x, within, is, passes) = some_passes ns (λ g. h (lt, g)) in (suc k, x, omega arith, is, passes))
  | inr ge ↦ (0, n, omega arith, refl, ge)
]
