-- Where the greatest common divisor is 1.
use Rattle.std.proofs.Common.{◌≡◌, ℕ}
use Rattle.std.proofs.Math.Nat.{one-dvd}
use Rattle.std.proofs.lemmas.Nat.Gcd.{dvd_refl}
use Rattle.poly_specs.proofs.GcdLemmas.{gcd-is}
use Rattle.poly_specs.specs.Elimination.{gcd}

pub gcd-into_one : (a : ℕ) → gcd a 1 ≡ 1
gcd-into_one a = gcd-is a 1 1 (one-dvd a, dvd_refl 1, λ d p q. q)
