-- Numbers of which some pass, or none.
use Rattle.std.proofs.Common.{◌⊎◌, inl, inr, suc, ◌^◌, List, [], ◌∷◌, refl, arith, ℤ, unsigned_abs}
use Rattle.std.proofs.lemmas.Bool.{cases_lt}
use Rattle.std.proofs.lemmas.List.Elements.{All-nil, All-cons}
use Rattle.poly_specs.specs.Bits.{PassesBits, FitsBits, SomePasses, NonePasses}
use Rattle.fm_eliminate.proofs.CountLemmas.{any_in}

some_or_none : (ns : List ℤ) → SomePasses ns ⊎ NonePasses ns
some_or_none [] = inr (All-nil FitsBits)
some_or_none (n ∷ ns) = elim (cases_lt (unsigned_abs n) (2 ^ 127)) [
  | inr ge ↦ inl (any_in PassesBits (n ∷ ns) n (inl refl) ge)
  | inl lt ↦ elim (some_or_none ns) [
    | inl (k, z, h, at, p) ↦ inl (suc k, z, omega arith, at, p)
    | inr none ↦ inr (All-cons FitsBits n ns lt none)
  ]
]

pub some_passes : (ns : List ℤ) → (NonePasses ns → ⊥) → SomePasses ns
some_passes ns f = elim (some_or_none ns) [ inl p ↦ p | inr n ↦ absurd (f n) ]
