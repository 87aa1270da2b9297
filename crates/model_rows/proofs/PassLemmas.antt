-- Whether one of some numbers passes 128 bits, as a test and as a fact.
use Rattle.std.proofs.Common.{◌≡◌, ◌^◌, ℕ, ◌+◌, ◌<◌, get_or, List, [], ◌∷◌, map, Bool, true, false, ◌||◌, length, take, refl, sym, ap, ◌∙◌, ℤ, unsigned_abs}
use Rattle.std.specs.Prelude.{nat_le}
use Rattle.std.specs.List.{list_any}
use Rattle.std.proofs.lemmas.Bool.{leb-false, lt-leb, both_ways, false_from_ne_true, true_from_ne_false, or_from}
use Rattle.std.proofs.lemmas.List.Folds.{list_any_none, list_any_at, list_any_more}
use Rattle.poly_specs.specs.Bits.{NonePasses}
use Rattle.model_specs.specs.Faults.{some_passes}

pub fit_where_none : (zs : List ℤ) → some_passes zs ≡ false → NonePasses zs
fit_where_none zs e k d h =
    leb-false (2 ^ 127) (unsigned_abs (get_or zs k d))
    (false_from_ne_true (nat_le (2 ^ 127) (unsigned_abs (get_or zs k d))) (λ t. both_ways (some_passes zs) e (list_any_at (λ z. nat_le (2 ^ 127) (unsigned_abs z)) zs k d h t)))

pub none_where_fit : (zs : List ℤ) → NonePasses zs → some_passes zs ≡ false
none_where_fit zs h =
    list_any_none (λ z. nat_le (2 ^ 127) (unsigned_abs z)) zs (λ k d l. lt-leb (2 ^ 127) (unsigned_abs (get_or zs k d)) (h k d l))

pub some_where_not : (zs : List ℤ) → (NonePasses zs → ⊥) → some_passes zs ≡ true
some_where_not zs unfit = true_from_ne_false (some_passes zs) (λ e. unfit (fit_where_none zs e))

-- ---- a test over lists

pub list_any-map : {X Y : Type 0} → (p : Y → Bool) (f : X → Y) (xs : List X) → list_any p (map f xs) ≡ list_any (λ x. p (f x)) xs
list_any-map p f [] = refl
list_any-map p f (x ∷ xs) = ap (λ b. p (f x) || b) (list_any-map p f xs)

pub none_more : {X : Type 0} → (p : X → Bool) (xs : List X) (i : ℕ) (x : X) → i < length xs → x ≡ get_or xs i x → list_any p (take i xs) ≡ false → p x ≡ false →
    list_any p (take (i + 1) xs) ≡ false
none_more p xs i x h is e f =
    list_any_more p xs i x h ∙ or_from (list_any p (take i xs)) (p (get_or xs i x)) e (ap p (sym is) ∙ f)

pub some_one : {X : Type 0} → (p : X → Bool) (xs : List X) (i : ℕ) (x : X) → i < length xs → x ≡ get_or xs i x → p x ≡ true → list_any p xs ≡ true
some_one p xs i x h is t = list_any_at p xs i x h (ap p (sym is) ∙ t)
