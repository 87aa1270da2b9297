-- The sum of multiples of two rows, and the numbers that it forms.
use Rattle.std.proofs.Common.{◌≡◌, ℕ, suc, ◌+◌, ◌<◌, ◌≤◌, List, [], ◌∷◌, ◌++◌, append_assoc, length, length-append, map, drop, get_or, refl, sym, ◌∙◌, ap, ap₂, subst, arith, ℤ, pos, ◌+ℤ◌, ◌*ℤ◌}
use Rattle.std.specs.Prelude.{int_div}
use Rattle.std.proofs.lemmas.List.{drop_more, drop_all}
use Rattle.poly_specs.specs.Bits.{FitsBits, NonePasses}
use Rattle.poly_specs.specs.Elimination.{divisor, divided, numbers, times, combination, raw_combination, lower_factor, upper_factor, pair_numbers}
use Rattle.poly_specs.specs.Lists.{plus}
use Rattle.poly_specs.specs.Rows.{Row}
use Rattle.lin_row.specs.Mixing.{MixFits, RowsFit, mixed_numbers}
use Rattle.lin_row.proofs.DivisorLemmas.{quotient-fits}
use Rattle.lin_row.proofs.FitLemmas.{AllFit, none_passes, all_fit, AllFit-front, AllFit-back, AllFit-append}

-- the sums of the multiples
abbrev pub mixed_sums : ℤ → List ℤ → ℤ → List ℤ → List ℤ
mixed_sums p cs q ds = plus (map (λ c. p *ℤ c) cs) (map (λ c. q *ℤ c) ds)

pub length-mixed_sums : (p : ℤ) (cs : List ℤ) (q : ℤ) (ds : List ℤ) → length cs ≡ length ds → length (mixed_sums p cs q ds) ≡ length cs
length-mixed_sums p [] q ds e = refl
length-mixed_sums p (c ∷ cs) q [] e = absurd (omega arith)
length-mixed_sums p (c ∷ cs) q (d ∷ ds) e = ap suc (length-mixed_sums p cs q ds (omega arith))

-- vs are the first i sums, and none of the numbers formed so far passes
pub record MixSoFar (p : ℤ) (cs : List ℤ) (q : ℤ) (ds : List ℤ) (i : ℕ) (vs : List ℤ) : Type 0 where
  pub count : length vs ≡ i
  pub sums : vs ++ mixed_sums p (drop i cs) q (drop i ds) ≡ mixed_sums p cs q ds
  pub fits : AllFit (mixed_numbers p (drop i cs) q (drop i ds)) → AllFit (mixed_numbers p cs q ds)
  pub rest : AllFit (mixed_numbers p cs q ds) → AllFit (mixed_numbers p (drop i cs) q (drop i ds))

module _ (p : ℤ) (cs : List ℤ) (q : ℤ) (ds : List ℤ) (i : ℕ) (vs : List ℤ) (so_far : MixSoFar p cs q ds i vs) (lt : i < length cs) (sized : length cs ≡ length ds) where
  abbrev a : ℤ
  a = get_or cs i (pos 0)

  abbrev b : ℤ
  b = get_or ds i (pos 0)

  next : mixed_numbers p (drop i cs) q (drop i ds) ≡ (p *ℤ a) ∷ (q *ℤ b) ∷ (p *ℤ a +ℤ q *ℤ b) ∷ mixed_numbers p (drop (i + 1) cs) q (drop (i + 1) ds)
  next = ap₂ (λ xs ys. mixed_numbers p xs q ys) (drop_more cs i (pos 0) lt) (drop_more ds i (pos 0) (omega arith))

  next_sums : mixed_sums p (drop i cs) q (drop i ds) ≡ (p *ℤ a +ℤ q *ℤ b) ∷ mixed_sums p (drop (i + 1) cs) q (drop (i + 1) ds)
  next_sums = ap₂ (λ xs ys. mixed_sums p xs q ys) (drop_more cs i (pos 0) lt) (drop_more ds i (pos 0) (omega arith))

  pub mix_more : MixFits p a q b → MixSoFar p cs q ds (i + 1) (vs ++ (p *ℤ a +ℤ q *ℤ b) ∷ [])
  mix_more h = record {
    count = let n = so_far.count in omega (arith, n, length-append vs ((p *ℤ a +ℤ q *ℤ b) ∷ []));
    sums = append_assoc vs ((p *ℤ a +ℤ q *ℤ b) ∷ []) (mixed_sums p (drop (i + 1) cs) q (drop (i + 1) ds)) ∙ ap (λ xs. vs ++ xs) (sym next_sums) ∙ so_far.sums;
    fits = λ g. so_far.fits (subst AllFit (sym next) (h.0, (h.1, (h.2, g))));
    rest = λ g. (subst AllFit next (so_far.rest g)).1.1.1;
  }

  pub mix_stops : (MixFits p a q b → ⊥) → NonePasses (mixed_numbers p cs q ds) → ⊥
  mix_stops no_fit g = let here = subst AllFit next (so_far.rest (all_fit (mixed_numbers p cs q ds) g)) in no_fit (here.0, here.1.0, here.1.1.0)

append_nil : (xs : List ℤ) → xs ++ [] ≡ xs
append_nil [] = refl
append_nil (x ∷ xs) = ap (λ ys. x ∷ ys) (append_nil xs)

pub mix_all : (p : ℤ) (cs : List ℤ) (q : ℤ) (ds : List ℤ) (i : ℕ) (vs : List ℤ) → MixSoFar p cs q ds i vs → length cs ≤ i → length cs ≡ length ds →
    NonePasses (mixed_numbers p cs q ds) × (vs ≡ mixed_sums p cs q ds)
mix_all p cs q ds i vs so_far le sized =
    let c = drop_all i cs le in
    let d = drop_all i ds (omega arith) in
    let none : mixed_numbers p (drop i cs) q (drop i ds) ≡ [] = ap₂ (λ xs ys. mixed_numbers p xs q ys) c d in
    let empty : mixed_sums p (drop i cs) q (drop i ds) ≡ [] = ap₂ (λ xs ys. mixed_sums p xs q ys) c d in
    (none_passes (mixed_numbers p cs q ds) (so_far.fits (subst AllFit (sym none) tt)), sym (append_nil vs) ∙ ap (λ xs. vs ++ xs) (sym empty) ∙ so_far.sums)

-- ---- the numbers of a pair of rows

mixed_apart : (p : ℤ) (cs : List ℤ) (q : ℤ) (ds : List ℤ) → length cs ≡ length ds → AllFit (mixed_numbers p cs q ds) →
    AllFit (map (λ c. p *ℤ c) cs) × AllFit (map (λ c. q *ℤ c) ds) × AllFit (mixed_sums p cs q ds)
mixed_apart p [] q [] e h = (tt, tt, tt)
mixed_apart p [] q (d ∷ ds) e h = absurd (omega arith)
mixed_apart p (c ∷ cs) q [] e h = absurd (omega arith)
mixed_apart p (c ∷ cs) q (d ∷ ds) e h =
    let rest = mixed_apart p cs q ds (omega arith) h.1.1.1 in ((h.0, rest.0), (h.1.0, rest.1), (h.1.1.0, rest.2))

mixed_together : (p : ℤ) (cs : List ℤ) (q : ℤ) (ds : List ℤ) → AllFit (map (λ c. p *ℤ c) cs) → AllFit (map (λ c. q *ℤ c) ds) → AllFit (mixed_sums p cs q ds) →
    AllFit (mixed_numbers p cs q ds)
mixed_together p [] q ds f g h = tt
mixed_together p (c ∷ cs) q [] f g h = tt
mixed_together p (c ∷ cs) q (d ∷ ds) f g h = (f.0, (g.0, (h.0, mixed_together p cs q ds f.1 g.1 h.1)))

quotients_fit : (g : ℕ) (zs : List ℤ) → AllFit zs → AllFit (map (λ z. int_div z (pos g)) zs)
quotients_fit g [] h = tt
quotients_fit g (z ∷ zs) h = (quotient-fits g z h.0, quotients_fit g zs h.1)

-- the divided row's numbers are no larger
pub divided_fits : (r : Row) → AllFit (numbers r) → AllFit (numbers (divided r))
unfolding divided
divided_fits r h =
    let last = AllFit-back r.coef (r.cst ∷ []) h in
    AllFit-append (map (λ z. int_div z (pos (divisor r))) r.coef) (int_div r.cst (pos (divisor r)) ∷ [])
    (quotients_fit (divisor r) r.coef (AllFit-front r.coef (r.cst ∷ []) h)) (quotient-fits (divisor r) r.cst last.0, tt)

module _ (x : ℕ) (l u : Row) (sized : length l.coef ≡ length u.coef) where
  abbrev k : ℤ
  k = pos (lower_factor x l u)

  abbrev m : ℤ
  m = pos (upper_factor x l u)

  abbrev left : List ℤ
  left = numbers (times k l)

  abbrev right : List ℤ
  right = numbers (times m u)

  abbrev raw : List ℤ
  raw = numbers (raw_combination x l u)

  -- so it is enough to test the products and the sums
  pub pair_fits : RowsFit k l m u → NonePasses (pair_numbers x l u)
  pair_fits (f, g) =
      let parts = mixed_apart k l.coef m u.coef sized (all_fit (mixed_numbers k l.coef m u.coef) g) in
      let whole = AllFit-append (mixed_sums k l.coef m u.coef) ((k *ℤ l.cst +ℤ m *ℤ u.cst) ∷ []) parts.2 (f.2, tt) in
      none_passes (pair_numbers x l u)
      (AllFit-append ((left ++ right) ++ raw) (numbers (combination x l u))
      (AllFit-append (left ++ right) raw
      (AllFit-append left right
      (AllFit-append (map (λ c. k *ℤ c) l.coef) ((k *ℤ l.cst) ∷ []) parts.0 (f.0, tt))
      (AllFit-append (map (λ c. m *ℤ c) u.coef) ((m *ℤ u.cst) ∷ []) parts.1 (f.1, tt)))
      whole)
      (divided_fits (raw_combination x l u) whole))

  pub parts_fit : NonePasses (pair_numbers x l u) → RowsFit k l m u
  parts_fit h =
      let all = all_fit (pair_numbers x l u) h in
      let three = AllFit-front ((left ++ right) ++ raw) (numbers (combination x l u)) all in
      let two = AllFit-front (left ++ right) raw three in
      let lefts = AllFit-front left right two in
      let rights = AllFit-back left right two in
      let raws = AllFit-back (left ++ right) raw three in
      let lc = map (λ c. k *ℤ c) l.coef in
      let uc = map (λ c. m *ℤ c) u.coef in
      let sums = mixed_sums k l.coef m u.coef in
      let last_left = (AllFit-back lc ((k *ℤ l.cst) ∷ []) lefts).0 in
      let last_right = (AllFit-back uc ((m *ℤ u.cst) ∷ []) rights).0 in
      let last_sum = (AllFit-back sums ((k *ℤ l.cst +ℤ m *ℤ u.cst) ∷ []) raws).0 in (
        (last_left, last_right, last_sum),
        none_passes (mixed_numbers k l.coef m u.coef)
            (mixed_together k l.coef m u.coef (AllFit-front lc ((k *ℤ l.cst) ∷ []) lefts) (AllFit-front uc ((m *ℤ u.cst) ∷ []) rights)
            (AllFit-front sums ((k *ℤ l.cst +ℤ m *ℤ u.cst) ∷ []) raws)),
      )

  -- and the combination fits before it is divided
  pub raw_fits : NonePasses (pair_numbers x l u) → NonePasses (raw_combination x l u).coef × FitsBits (raw_combination x l u).cst
  raw_fits h =
      let raws = AllFit-back (left ++ right) raw (AllFit-front ((left ++ right) ++ raw) (numbers (combination x l u)) (all_fit (pair_numbers x l u) h)) in
      let sums = mixed_sums k l.coef m u.coef in
      let last = (k *ℤ l.cst +ℤ m *ℤ u.cst) ∷ [] in
      (none_passes sums (AllFit-front sums last raws), (AllFit-back sums last raws).0)
