-- One more row in a loop that keeps what is left of the rows formed so far.
use Rattle.std.proofs.Common.{◌≡◌, ◌≢◌, ℕ, ◌+◌, ◌<◌, ◌≤◌, Bool, true, false, not, cond, List, [], ◌∷◌, ◌++◌, length, map, filter, take, get_or, refl, sym, ◌∙◌, ap, subst, arith, append_assoc, ℤ, pos, ◌≤ℤ◌, ◌<ℤ◌, unsigned_abs}
use Rattle.std.specs.Prelude.{int_lt, ◌==◌}
use Rattle.std.specs.List.{flat_map}
use Rattle.std.proofs.lemmas.Bool.{eq-eqb}
use Rattle.std.proofs.lemmas.Int.{ints}
use Rattle.std.proofs.lemmas.Grind.{flat_map-append}
use Rattle.std.proofs.lemmas.List.{take_more, map-append, append-nil, length-append}
use Rattle.std.proofs.lemmas.List.Elements.{filter-append}
use Rattle.poly_specs.specs.Elimination.{combination, free_of, lowers, uppers}
use Rattle.poly_specs.specs.Rows.{Row, coef_at}
use Rattle.fm_eliminate.specs.Leaving.{IsLeft, always_holds, is_needed, combinations}
use Rattle.fm_eliminate.proofs.LeavingLemmas.{left_more}

-- what was kept at the start, then the rows formed so far, then more of them
pub left_on : (start done more all kept next : List Row) → IsLeft (start ++ done) kept → IsLeft (kept ++ more) next → all ≡ done ++ more → IsLeft (start ++ all) next
left_on start done more all kept next f g e =
    subst (λ rows. IsLeft rows next) (append_assoc start done more ∙ ap (λ rows. start ++ rows) (sym e)) (left_more (start ++ done) kept more next f g)

module _ {X : Type 0} (xs : List X) (i : ℕ) (x : X) (within : i < length xs) (at : x ≡ get_or xs i x) where
  pub taken : take (i + 1) xs ≡ take i xs ++ x ∷ []
  taken = take_more xs i x within ∙ ap (λ y. take i xs ++ y ∷ []) (sym at)

  pub map_taken : {Y : Type 0} (f : X → Y) → map f (take (i + 1) xs) ≡ map f (take i xs) ++ f x ∷ []
  map_taken f = ap (map f) taken ∙ map-append f (take i xs) (x ∷ [])

  -- an element that the test keeps, and one that it drops
  pub filter_kept : (p : X → Bool) → p x ≡ true → filter p (take (i + 1) xs) ≡ filter p (take i xs) ++ x ∷ []
  filter_kept p e = ap (filter p) taken ∙ filter-append p (take i xs) (x ∷ []) ∙ ap (λ b. filter p (take i xs) ++ cond b (x ∷ []) []) e

  pub filter_dropped : (p : X → Bool) → p x ≡ false → filter p (take (i + 1) xs) ≡ filter p (take i xs)
  filter_dropped p e =
      ap (filter p) taken ∙ filter-append p (take i xs) (x ∷ []) ∙ ap (λ b. filter p (take i xs) ++ cond b (x ∷ []) []) e ∙ append-nil (filter p (take i xs))

-- how many are kept
cond-one : (b : Bool) (r : Row) → length (cond (not b) (r ∷ []) []) ≡ cond b 0 1
cond-one true r = refl
cond-one false r = refl

pub few_more : (start n next : ℕ) (done all : List Row) (r : Row) → n ≤ start + length (filter is_needed done) → next ≤ n + cond (always_holds r) 0 1 →
    all ≡ done ++ r ∷ [] → next ≤ start + length (filter is_needed all)
few_more start n next done all r h g e =
    let f : length (filter is_needed all) ≡ length (filter is_needed done) + length (cond (not (always_holds r)) (r ∷ []) []) =
    ap (λ rows. length (filter is_needed rows)) e ∙ ap length (filter-append is_needed done (r ∷ [])) ∙ length-append (filter is_needed done) _ in
    let one = cond-one (always_holds r) r in
    omega (arith, f, one)

-- ---- rows by the sign of their coefficient

below-test : (a b : ℤ) → a <ℤ b → int_lt a b ≡ true
below-test a b h = grind (arith, ints)

above-test : (a b : ℤ) → b ≤ℤ a → int_lt a b ≡ false
above-test a b h = grind (arith, ints)

some_size : (z : ℤ) → z ≢ pos 0 → (unsigned_abs z == 0) ≡ false
some_size z h = grind (arith, ints)

module _ (x : ℕ) (rows : List Row) (i : ℕ) (r : Row) (within : i < length rows) (at : r ≡ get_or rows i r) where
  free_of-kept : coef_at x r ≡ pos 0 → free_of x (take (i + 1) rows) ≡ free_of x (take i rows) ++ r ∷ []
  free_of-kept h = filter_kept rows i r within at (λ s. unsigned_abs (coef_at x s) == 0) (eq-eqb _ _ (ap unsigned_abs h))

  free_of-dropped : coef_at x r ≢ pos 0 → free_of x (take (i + 1) rows) ≡ free_of x (take i rows)
  free_of-dropped h = filter_dropped rows i r within at (λ s. unsigned_abs (coef_at x s) == 0) (some_size (coef_at x r) h)

  lowers-kept : coef_at x r <ℤ pos 0 → lowers x (take (i + 1) rows) ≡ lowers x (take i rows) ++ r ∷ []
  lowers-kept h = filter_kept rows i r within at (λ s. int_lt (coef_at x s) (pos 0)) (below-test (coef_at x r) (pos 0) h)

  lowers-dropped : pos 0 ≤ℤ coef_at x r → lowers x (take (i + 1) rows) ≡ lowers x (take i rows)
  lowers-dropped h = filter_dropped rows i r within at (λ s. int_lt (coef_at x s) (pos 0)) (above-test (coef_at x r) (pos 0) h)

  uppers-kept : pos 0 <ℤ coef_at x r → uppers x (take (i + 1) rows) ≡ uppers x (take i rows) ++ r ∷ []
  uppers-kept h = filter_kept rows i r within at (λ s. int_lt (pos 0) (coef_at x s)) (below-test (pos 0) (coef_at x r) h)

  uppers-dropped : coef_at x r ≤ℤ pos 0 → uppers x (take (i + 1) rows) ≡ uppers x (take i rows)
  uppers-dropped h = filter_dropped rows i r within at (λ s. int_lt (pos 0) (coef_at x s)) (above-test (pos 0) (coef_at x r) h)

  -- a loop over the rows without x
  pub free_step : (start kept next : List Row) → coef_at x r ≡ pos 0 → IsLeft (start ++ free_of x (take i rows)) kept → IsLeft (kept ++ r ∷ []) next →
      IsLeft (start ++ free_of x (take (i + 1) rows)) next
  free_step start kept next h f g = left_on start (free_of x (take i rows)) (r ∷ []) (free_of x (take (i + 1) rows)) kept next f g (free_of-kept h)

  pub free_stay : (start kept : List Row) → coef_at x r ≢ pos 0 → IsLeft (start ++ free_of x (take i rows)) kept → IsLeft (start ++ free_of x (take (i + 1) rows)) kept
  free_stay start kept h f = subst (λ done. IsLeft (start ++ done) kept) (sym (free_of-dropped h)) f

  -- a loop over the upper rows
  pub upper_step : (lower : Row) (start kept next : List Row) → pos 0 <ℤ coef_at x r → IsLeft (start ++ combinations x (take i rows) lower) kept →
      IsLeft (kept ++ combination x lower r ∷ []) next → IsLeft (start ++ combinations x (take (i + 1) rows) lower) next
  upper_step lower start kept next h f g =
      left_on start (combinations x (take i rows) lower) (combination x lower r ∷ []) (combinations x (take (i + 1) rows) lower) kept next f g
      (ap (map (combination x lower)) (uppers-kept h) ∙ map-append (combination x lower) (uppers x (take i rows)) (r ∷ []))

  pub upper_stay : (lower : Row) (start kept : List Row) → coef_at x r ≤ℤ pos 0 → IsLeft (start ++ combinations x (take i rows) lower) kept →
      IsLeft (start ++ combinations x (take (i + 1) rows) lower) kept
  upper_stay lower start kept h f = subst (λ done. IsLeft (start ++ map (combination x lower) done) kept) (sym (uppers-dropped h)) f

  -- a loop over the lower rows
  pub lower_step : (start kept next : List Row) → coef_at x r <ℤ pos 0 → IsLeft (start ++ flat_map (combinations x rows) (lowers x (take i rows))) kept →
      IsLeft (kept ++ combinations x rows r) next → IsLeft (start ++ flat_map (combinations x rows) (lowers x (take (i + 1) rows))) next
  lower_step start kept next h f g =
      left_on start (flat_map (combinations x rows) (lowers x (take i rows))) (combinations x rows r) (flat_map (combinations x rows) (lowers x (take (i + 1) rows))) kept next f g
      (ap (flat_map (combinations x rows)) (lowers-kept h) ∙ flat_map-append (combinations x rows) (lowers x (take i rows)) (r ∷ [])
      ∙ ap (λ more. flat_map (combinations x rows) (lowers x (take i rows)) ++ more) (append-nil (combinations x rows r)))

  pub lower_stay : (start kept : List Row) → pos 0 ≤ℤ coef_at x r → IsLeft (start ++ flat_map (combinations x rows) (lowers x (take i rows))) kept →
      IsLeft (start ++ flat_map (combinations x rows) (lowers x (take (i + 1) rows))) kept
  lower_stay start kept h f = subst (λ done. IsLeft (start ++ flat_map (combinations x rows) done) kept) (sym (lowers-dropped h)) f
