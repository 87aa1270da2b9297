-- Tests that compute whether numbers pass 128 bits.
use Rattle.std.proofs.Common.{◌≡◌, ◌⊎◌, inl, inr, ℕ, zero, suc, ◌+◌, ◌^◌, ◌<◌, ◌≤◌, List, [], ◌∷◌, length, sym, ◌∙◌, ap, subst, arith, ℤ, pos, negsuc, ◌*ℤ◌, Bool, true, T, ◌&&◌, lit<, unsigned_abs}
use Rattle.std.specs.Prelude.{nat_lt, int_lt, ◌==◌}
use Rattle.std.proofs.lemmas.Int.{ints}
use Rattle.std.proofs.lemmas.Bool.{cases_lt}
use Rattle.std.proofs.lemmas.List.Elements.{All-nil, All-cons}
use Rattle.poly_specs.specs.Lists.{In}
use Rattle.poly_specs.specs.Fractions.{Fraction}
use Rattle.poly_specs.specs.Rows.{Row}
use Rattle.poly_specs.specs.Bits.{FitsBits, SomePasses, NonePasses}
use Rattle.poly_specs.specs.Denominators.{common_den, common_nums, common_numbers}
use Rattle.poly_specs.specs.Evaluation.{eval_numbers}
use Rattle.poly_specs.specs.Picks.{IsInteger}
use Rattle.poly_specs.specs.Pickings.{Picking, PickPasses, EvalPasses, picked_at, level_rows, fixed}
use Rattle.run_specs.specs.Stages.{Stage, SomeReachedPasses, stage_numbers}
use Rattle.example_specs.proofs.RunTests.{and_out, same_nat_from}

abbrev pub fits_test : List ℤ → Bool
fits_test [] = true
fits_test (n ∷ ns) = nat_lt (unsigned_abs n) (2 ^ 127) && fits_test ns

pub fits_from : (ns : List ℤ) → T (fits_test ns) → NonePasses ns
fits_from [] h = All-nil FitsBits
fits_from (n ∷ ns) h =
    let b = and_out (nat_lt (unsigned_abs n) (2 ^ 127)) (fits_test ns) h in
    All-cons FitsBits n ns (lit< b.0) (fits_from ns b.1)

pub none_passes : (ns : List ℤ) → T (fits_test ns) → SomePasses ns → ⊥
none_passes ns h (i, n, lt, e, p) = let f : FitsBits n = subst FitsBits e (fits_from ns h i n lt) in omega (arith, p, f)

abbrev pub stages_test : List Stage → Bool
stages_test [] = true
stages_test (s ∷ ss) = fits_test (stage_numbers s) && stages_test ss

pub no_stage_passes : (ss : List Stage) → T (stages_test ss) → SomeReachedPasses ss → ⊥
no_stage_passes [] h p = p
no_stage_passes (s ∷ ss) h (inl p) = none_passes (stage_numbers s) (and_out (fits_test (stage_numbers s)) (stages_test ss) h).0 p
no_stage_passes (s ∷ ss) h (inr p) = no_stage_passes ss (and_out (fits_test (stage_numbers s)) (stages_test ss) h).1 p.1

-- ---- picking

-- evaluating these rows at these numbers over d
abbrev pub rows_test : List ℤ → ℤ → List Row → Bool
rows_test ns d [] = true
rows_test ns d (r ∷ rows) = fits_test (eval_numbers r ns d) && rows_test ns d rows

no_row_passes : (ns : List ℤ) (d : ℤ) (rows : List Row) → T (rows_test ns d rows) → (r : Row) → In r rows → SomePasses (eval_numbers r ns d) → ⊥
no_row_passes ns d [] h r i p = i
no_row_passes ns d (s ∷ rows) h r (inl e) p =
    none_passes (eval_numbers s ns d) (and_out (fits_test (eval_numbers s ns d)) (rows_test ns d rows) h).0 (subst (λ t. SomePasses (eval_numbers t ns d)) e p)
no_row_passes ns d (s ∷ rows) h r (inr i) p =
    no_row_passes ns d rows (and_out (fits_test (eval_numbers s ns d)) (rows_test ns d rows) h).1 r i p

-- evaluating the level rows in the columns before y, at the numbers fixed before column x
abbrev pub level_test : Picking → ℕ → ℕ → Bool
level_test p x y = rows_test (common_nums (fixed p x)) (pos (common_den (fixed p x))) (level_rows p y)

-- an integer over 1
abbrev pub whole_test : Fraction → Bool
whole_test v = int_lt (pos 0) v.den && (unsigned_abs v.den == 1)

-- the levels that are used at column x, the numbers fixed before it, and the number that is picked there
abbrev pub column_test : Picking → ℕ → Bool
column_test p x = level_test p x x && (level_test p x (x + 1) && (fits_test (common_numbers (fixed p x)) && whole_test (picked_at p x)))

-- the n columns from the first picked one on
abbrev pub columns_test : Picking → ℕ → Bool
columns_test p zero = true
columns_test p (suc n) = column_test p (p.first + n) && columns_test p n

column_at : (p : Picking) (n x : ℕ) → T (columns_test p n) → p.first ≤ x → x < p.first + n → T (column_test p x)
column_at p zero x h le lt = absurd (omega arith)
column_at p (suc n) x h le lt =
    let b = and_out (column_test p (p.first + n)) (columns_test p n) h in
    elim (cases_lt x (p.first + n)) [
      | inl under ↦ column_at p n x b.1 le under
      | inr over ↦ subst (λ z. T (column_test p z)) (let e : p.first + n ≡ x = omega (arith, lt, over) in e) b.0
    ]

-- the numbers of all columns; past the last column the picked number counts as 0
abbrev pub picking_test : Picking → Bool
picking_test p = columns_test p (suc (length p.numbers))

pub no_pick_passes : (p : Picking) → T (picking_test p) → PickPasses p → ⊥
no_pick_passes p h pass = elim pass [
  | inl (x, y, l) ↦ (
      let b = at x l.from_first (short x y l.within l.all_or_all_but_last) in
      let c = and_out (level_test p x (x + 1)) _ b.1 in
      elim l.all_or_all_but_last [
        | inl e ↦ level x y (subst (λ z. T (level_test p x z)) e b.0) l.passes
        | inr e ↦ level x y (subst (λ z. T (level_test p x z)) e c.0) l.passes
      ])
  | inr (inl (x, low, high, m, s)) ↦ (
      let b = at x m.from_first (omega (arith, m.within)) in
      let c = and_out (level_test p x (x + 1)) _ b.1 in
      let d = and_out (fits_test (common_numbers (fixed p x))) _ c.1 in
      let e = and_out (int_lt (pos 0) (picked_at p x).den) _ d.1 in
      m.no_integer (picked_at p x) (record { lt = e.0 }) m.inside (integer (picked_at p x) e.0 e.1))
  | inr (inr (x, f)) ↦ (
      let b = at x f.from_first f.within in
      let c = and_out (level_test p x (x + 1)) _ b.1 in
      let d = and_out (fits_test (common_numbers (fixed p x))) _ c.1 in
      none_passes (common_numbers (fixed p x)) d.0 f.passes)
]
  where
    at : (x : ℕ) → p.first ≤ x → x ≤ length p.numbers → T (level_test p x x) × T (level_test p x (x + 1) && (fits_test (common_numbers (fixed p x)) && whole_test (picked_at p x)))
    at x le within =
        and_out (level_test p x x) _ (column_at p (suc (length p.numbers)) x h le (omega (arith, within)))

    short : (x y : ℕ) → y ≤ length p.numbers → (x ≡ y) ⊎ (x + 1 ≡ y) → x ≤ length p.numbers
    short x y h (inl e) = omega (arith, h, e)
    short x y h (inr e) = omega (arith, h, e)

    level : (x y : ℕ) → T (level_test p x y) → EvalPasses p x y → ⊥
    level x y t (r, i, s) = no_row_passes (common_nums (fixed p x)) (pos (common_den (fixed p x))) (level_rows p y) t r i s

    integer : (v : Fraction) → T (int_lt (pos 0) v.den) → T (unsigned_abs v.den == 1) → IsInteger v
    integer v lt one = (v.num, (let e : v.den ≡ pos 1 = den_one v.den lt (same_nat_from (unsigned_abs v.den) 1 one) in omega (arith, ints) ∙ ap (λ z. v.num *ℤ z) (sym e)))
      where
        den_one : (z : ℤ) → T (int_lt (pos 0) z) → unsigned_abs z ≡ 1 → z ≡ pos 1
        den_one (pos n) h e = ap pos e
        den_one (negsuc n) h e = absurd h

abbrev pub pickings_test : List Picking → Bool
pickings_test [] = true
pickings_test (p ∷ ps) = picking_test p && pickings_test ps

pub no_picking_passes : (ps : List Picking) → T (pickings_test ps) → (p : Picking) → In p ps → PickPasses p → ⊥
no_picking_passes [] h p i pass = i
no_picking_passes (q ∷ ps) h p (inl e) pass = no_pick_passes q (and_out (picking_test q) (pickings_test ps) h).0 (subst PickPasses e pass)
no_picking_passes (q ∷ ps) h p (inr i) pass = no_picking_passes ps (and_out (picking_test q) (pickings_test ps) h).1 p i pass
