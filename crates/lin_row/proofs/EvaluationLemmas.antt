-- A row's sum, product by product.
use Rattle.std.proofs.Common.{◌≡◌, ℕ, ◌+◌, ◌<◌, ◌≤◌, List, [], ◌∷◌, ◌++◌, length, drop, get_or, sym, ◌∙◌, ap, ap₂, subst, arith, ℤ, pos, ◌+ℤ◌, ◌*ℤ◌, Option, Some, None, SomeIff}
use Rattle.std.proofs.lemmas.Int.{ints}
use Rattle.std.proofs.lemmas.List.{drop_more, drop_all}
use Rattle.poly_specs.specs.Bits.{FitsBits, NonePasses}
use Rattle.poly_specs.specs.Evaluation.{running, eval_numbers}
use Rattle.poly_specs.specs.Lists.{dot}
use Rattle.poly_specs.specs.Rows.{Row, over, row_value}
use Rattle.lin_row.proofs.FitLemmas.{AllFit, none_passes, all_fit, AllFit-front, AllFit-back, AllFit-append}

-- the two numbers that one more product forms
abbrev pub ProductFits : ℤ → ℤ → ℤ → Type 0
ProductFits s a b = FitsBits (a *ℤ b) × FitsBits (s +ℤ a *ℤ b)

-- s is the sum of the first i products, and none of the numbers formed so far passes
pub record SumSoFar (s : ℤ) (i : ℕ) (cs ns : List ℤ) : Type 0 where
  pub value : s +ℤ dot (drop i cs) (drop i ns) ≡ dot cs ns
  pub fits : AllFit (running s (drop i cs) (drop i ns)) → AllFit (running (pos 0) cs ns)
  pub rest : AllFit (running (pos 0) cs ns) → AllFit (running s (drop i cs) (drop i ns))

module _ (s : ℤ) (i : ℕ) (cs ns : List ℤ) (so_far : SumSoFar s i cs ns) (lt : i < length cs) (sized : length ns ≡ length cs) where
  abbrev a : ℤ
  a = get_or cs i (pos 0)

  abbrev b : ℤ
  b = get_or ns i (pos 0)

  next : running s (drop i cs) (drop i ns) ≡ (a *ℤ b) ∷ (s +ℤ a *ℤ b) ∷ running (s +ℤ a *ℤ b) (drop (i + 1) cs) (drop (i + 1) ns)
  next = ap₂ (running s) (drop_more cs i (pos 0) lt) (drop_more ns i (pos 0) (omega arith))

  next_dot : dot (drop i cs) (drop i ns) ≡ a *ℤ b +ℤ dot (drop (i + 1) cs) (drop (i + 1) ns)
  next_dot = ap₂ dot (drop_more cs i (pos 0) lt) (drop_more ns i (pos 0) (omega arith))

  pub sum_more : ProductFits s a b → SumSoFar (s +ℤ a *ℤ b) (i + 1) cs ns
  sum_more h = record {
    value = let e = next_dot in omega (arith, ints, e, so_far.value);
    fits = λ g. so_far.fits (subst AllFit (sym next) (h.0, (h.1, g)));
    rest = λ g. (subst AllFit next (so_far.rest g)).1.1;
  }

  pub sum_stops : (ProductFits s a b → ⊥) → NonePasses (running (pos 0) cs ns) → ⊥
  sum_stops no_fit g = let here = subst AllFit next (so_far.rest (all_fit (running (pos 0) cs ns) g)) in no_fit (here.0, here.1.0)

pub sum_all : (s : ℤ) (i : ℕ) (cs ns : List ℤ) → SumSoFar s i cs ns → length cs ≤ i → length ns ≡ length cs → NonePasses (running (pos 0) cs ns) × (s ≡ dot cs ns)
sum_all s i cs ns so_far le sized =
    let c = drop_all i cs le in
    let n = drop_all i ns (omega arith) in
    let none : running s (drop i cs) (drop i ns) ≡ [] = ap₂ (running s) c n in
    let zero : dot (drop i cs) (drop i ns) ≡ pos 0 = ap₂ dot c n in
    (none_passes (running (pos 0) cs ns) (so_far.fits (subst AllFit (sym none) tt)), omega (arith, ints, zero, so_far.value))

-- ---- the constant comes last

module _ (r : Row) (ns : List ℤ) (d s : ℤ) where
  abbrev front : List ℤ
  front = running (pos 0) r.coef ns

  abbrev last : List ℤ
  last = (r.cst *ℤ d) ∷ (dot r.coef ns +ℤ r.cst *ℤ d) ∷ []

  pub eval_stops : (NonePasses (running (pos 0) r.coef ns) → ⊥) → NonePasses (eval_numbers r ns d) → ⊥
  eval_stops none h = none (none_passes front (AllFit-front front last (all_fit (front ++ last) h)))

  pub eval_says : (o : Option ℤ) → NonePasses (running (pos 0) r.coef ns) → s ≡ dot r.coef ns → SomeIff o (ProductFits s r.cst d) (s +ℤ r.cst *ℤ d) →
      SomeIff o (NonePasses (eval_numbers r ns d)) (row_value r (over d ns))
  eval_says None h e said = λ g. (
      let end = AllFit-back front last (all_fit (front ++ last) g) in
      said (end.0, subst (λ z. FitsBits (z +ℤ r.cst *ℤ d)) (sym e) end.1.0))
  eval_says (Some v) h e said = (
    none_passes (front ++ last)
        (AllFit-append front last (all_fit front h) (said.0.0, (subst (λ z. FitsBits (z +ℤ r.cst *ℤ d)) e said.0.1, tt))),
    said.1 ∙ ap (λ z. z +ℤ r.cst *ℤ d) e,
  )
