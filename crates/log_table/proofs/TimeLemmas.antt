-- A time may follow the samples exactly where it is in time.
use Rattle.std.proofs.Common.{◌≡◌, inl, inr, List, [], ◌∷◌, Bool, true, false, not, T, refl, sym, ap, subst}
use Rattle.std.proofs.lemmas.Bool.{false_from_ne_true}
use Rattle.poly_specs.specs.Fractions.{Fraction, Below, zero_fraction}
use Rattle.poly_specs.proofs.FractionLemmas.{either, Below-not}
use Rattle.run_specs.specs.Logs.{Sample}
use Rattle.run_specs.specs.Sessions.{IsInTime}
use Rattle.log_specs.specs.LogSessions.{is_below, may_follow}

below_is : (x y : Fraction) → is_below x y ≡ true → Below x y
below_is x y e = record { lt = subst T (sym e) tt }

is_true : (b : Bool) → T b → b ≡ true
is_true true h = refl
is_true false h = absurd h

below_tests : (x y : Fraction) → Below x y → is_below x y ≡ true
below_tests x y h = is_true (is_below x y) h.lt

pub follows : (ss : List Sample) (t : Fraction) → IsInTime ss t → may_follow ss t ≡ true
follows [] t h = ap not (false_from_ne_true (is_below t zero_fraction) (λ e. Below-not t zero_fraction (below_is t zero_fraction e) h))
follows (s ∷ []) t h = below_tests s.time t h
follows (s ∷ r ∷ more) t h = follows (r ∷ more) t h

pub never_follows : (ss : List Sample) (t : Fraction) → (IsInTime ss t → ⊥) → may_follow ss t ≡ false
never_follows [] t h = elim (either t zero_fraction) [
  | inl lt ↦ ap not (below_tests t zero_fraction lt)
  | inr le ↦ absurd (h le)
]
never_follows (s ∷ []) t h = false_from_ne_true (is_below s.time t) (λ e. h (below_is s.time t e))
never_follows (s ∷ r ∷ more) t h = never_follows (r ∷ more) t h
