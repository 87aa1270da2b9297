-- The rows of slopes: two for each variable, and then those of `also`.
use Rattle.std.proofs.Common.{◌≡◌, ◌≢◌, ◌⊎◌, inl, inr, ℕ, zero, suc, ◌+◌, ◌-◌, ◌*◌, ◌<◌, ◌≤◌, false, List, [], ◌∷◌, ◌++◌, length, get_or, set, refl, sym, ap, ◌∙◌, subst, arith, append_assoc, ℤ, pos, negsuc, neg_ℤ, ◌*ℤ◌, ◌<ℤ◌}
use Rattle.std.specs.Prelude.{flat_map}
use Rattle.std.proofs.lemmas.List.{length-append, length-set, length-replicate, get_or-set_same, get_or-set_other, get_or-replicate, get_or_append_left, get_or-append_right}
use Rattle.std.proofs.lemmas.Grind.{flat_map-append}
use Rattle.std.proofs.lemmas.Int.{ints}
use Rattle.poly_specs.proofs.CombinationLemmas.{times-divided}
use Rattle.poly_specs.proofs.EliminationLemmas.{length-divided, coef-times, divided_without}
use Rattle.poly_specs.specs.Rows.{Row, coef_at}
use Rattle.poly_specs.specs.Elimination.{divisor, divided}
use Rattle.run_specs.specs.Stages.{below, zeros}
use Rattle.run_specs.specs.Automaton.{never}
use Rattle.run_specs.specs.WellFormed.{HasBox}
use Rattle.lang_specs.specs.Trees.{BoxTree}
use Rattle.model_specs.specs.Constraints.{slope_row, box_rows}
use Rattle.model_specs.proofs.TreeLemmas.{IsBoxed}
use Rattle.model_specs.proofs.WidthLemmas.{IsHomogeneous, divided_homogeneous}

-- ---- signs

positive_factor : (d : ℕ) (c : ℤ) → pos 0 <ℤ (pos d *ℤ c) → pos 0 <ℤ c
positive_factor d (pos zero) h = absurd (omega (arith, ints, h))
positive_factor d (pos (suc n)) h = omega (arith, ints)
positive_factor d (negsuc n) h = absurd (omega (arith, ints, h))

negative_factor : (d : ℕ) (c : ℤ) → (pos d *ℤ c) <ℤ pos 0 → c <ℤ pos 0
negative_factor d (pos n) h = absurd (omega (arith, ints, h))
negative_factor d (negsuc n) h = omega (arith, ints)

-- ---- one row of a box

-- before it is divided
abbrev raw_row : ℕ → ℕ → ℤ → ℤ → Row
raw_row m j c n = record { coef = set (set (zeros (m + 1)) j c) m n; cst = pos 0; strict = false }

raw_length : (m j : ℕ) (c n : ℤ) → length (raw_row m j c n).coef ≡ m + 1
raw_length m j c n = length-set (set (zeros (m + 1)) j c) m n ∙ length-set (zeros (m + 1)) j c ∙ length-replicate (m + 1) (pos 0)

pub slope_length : (m j : ℕ) (c n : ℤ) → length (slope_row m j c n).coef ≡ m + 1
slope_length m j c n = length-divided (raw_row m j c n) ∙ raw_length m j c n

pub slope_homogeneous : (m j : ℕ) (c n : ℤ) → IsHomogeneous (slope_row m j c n)
slope_homogeneous m j c n = divided_homogeneous (raw_row m j c n) (refl, refl)

raw_here : (m j : ℕ) (c n : ℤ) → j < m → coef_at j (raw_row m j c n) ≡ c
raw_here m j c n h =
    let apart : j ≢ m = λ e. omega (arith, h, e) in
    let within : j < length (zeros (m + 1)) = let e = length-replicate (m + 1) (pos 0) in omega (arith, h, e) in
    get_or-set_other (set (zeros (m + 1)) j c) m j n (pos 0) apart ∙ get_or-set_same (zeros (m + 1)) j c (pos 0) within

raw_elsewhere : (m j i : ℕ) (c n : ℤ) → i < m → i ≢ j → coef_at i (raw_row m j c n) ≡ pos 0
raw_elsewhere m j i c n h e =
    let apart : i ≢ m = λ f. omega (arith, h, f) in
    get_or-set_other (set (zeros (m + 1)) j c) m i n (pos 0) apart ∙ get_or-set_other (zeros (m + 1)) j i c (pos 0) e
    ∙ get_or-replicate (m + 1) i (pos 0) (pos 0) (omega (arith, h))

-- the divisor times the divided number
slope_times : (m j : ℕ) (c n : ℤ) → j < m → pos (divisor (raw_row m j c n)) *ℤ coef_at j (slope_row m j c n) ≡ c
slope_times m j c n h =
    let r = raw_row m j c n in
    let within : j < length (divided r).coef = let e = slope_length m j c n in omega (arith, h, e) in
    sym (coef-times (pos (divisor r)) (divided r) j within) ∙ ap (coef_at j) (times-divided r) ∙ raw_here m j c n h

slope_above : (m j : ℕ) (c n : ℤ) → j < m → pos 0 <ℤ c → pos 0 <ℤ coef_at j (slope_row m j c n)
slope_above m j c n h k =
    positive_factor (divisor (raw_row m j c n)) (coef_at j (slope_row m j c n)) (subst (λ z. pos 0 <ℤ z) (sym (slope_times m j c n h)) k)

slope_below : (m j : ℕ) (c n : ℤ) → j < m → c <ℤ pos 0 → coef_at j (slope_row m j c n) <ℤ pos 0
slope_below m j c n h k =
    negative_factor (divisor (raw_row m j c n)) (coef_at j (slope_row m j c n)) (subst (λ z. z <ℤ pos 0) (sym (slope_times m j c n h)) k)

slope_elsewhere : (m j i : ℕ) (c n : ℤ) → i < m → i ≢ j → coef_at i (slope_row m j c n) ≡ pos 0
slope_elsewhere m j i c n h e =
    divided_without i (raw_row m j c n) (let l = raw_length m j c n in omega (arith, h, l)) (raw_elsewhere m j i c n h e)

-- ---- pairs of rows, one pair for each variable

pairs_length : (f : ℕ → List Row) (m : ℕ) → ((i : ℕ) → i < m → length (f i) ≡ 2) → length (flat_map f (below m)) ≡ 2 * m
pairs_length f zero two = refl
pairs_length f (suc m) two =
    let before = pairs_length f m (λ i h. two i (omega (arith, h))) in
    let here = two m (omega arith) in
    let one : length (flat_map f (m ∷ [])) ≡ 2 = length-append (f m) [] ∙ omega (arith, here) in
    ap length (flat_map-append f (below m) (m ∷ [])) ∙ length-append (flat_map f (below m)) (flat_map f (m ∷ [])) ∙ omega (arith, before, one)

before_or_at : (j m : ℕ) → j < suc m → (j < m) ⊎ (j ≡ m)
before_or_at zero zero h = inr refl
before_or_at zero (suc m) h = inl (omega arith)
before_or_at (suc j) zero h = absurd (omega (arith, h))
before_or_at (suc j) (suc m) h = elim (before_or_at j m (omega (arith, h))) [ inl g ↦ inl (omega (arith, g)) | inr g ↦ inr (ap suc g) ]

pair_at : (f : ℕ → List Row) (m : ℕ) (rest : List Row) → ((i : ℕ) → i < m → length (f i) ≡ 2) → (j k i : ℕ) (d : Row) → j < m → k < 2 → i ≡ 2 * j + k →
    get_or (flat_map f (below m) ++ rest) i d ≡ get_or (f j) k d
pair_at f zero rest two j k i d h l e = absurd (omega (arith, h))
pair_at f (suc m) rest two j k i d h l e =
    let start = flat_map f (below m) in
    let cut : flat_map f (below (suc m)) ++ rest ≡ start ++ (flat_map f (m ∷ []) ++ rest) =
    ap (λ rows. rows ++ rest) (flat_map-append f (below m) (m ∷ [])) ∙ append_assoc start (flat_map f (m ∷ [])) rest in
    let size = pairs_length f m (λ q r. two q (omega (arith, r))) in
    let here : length (f m) ≡ 2 = two m (omega arith) in
    let last : j ≡ m → get_or (start ++ (flat_map f (m ∷ []) ++ rest)) i d ≡ get_or (f j) k d = λ g.
    let back : i - 2 * m ≡ k = omega (arith, e, g) in
    let one : flat_map f (m ∷ []) ++ rest ≡ f m ++ ([] ++ rest) = append_assoc (f m) [] rest in
    get_or-append_right start (flat_map f (m ∷ []) ++ rest) (2 * m) i d size (omega (arith, e, g))
    ∙ ap (λ q. get_or (flat_map f (m ∷ []) ++ rest) q d) back
    ∙ ap (λ rows. get_or rows k d) one
    ∙ get_or_append_left (f m) ([] ++ rest) d k (omega (arith, l, here))
    ∙ ap (λ q. get_or (f q) k d) (sym g) in
    let earlier : j < m → get_or (start ++ (flat_map f (m ∷ []) ++ rest)) i d ≡ get_or (f j) k d = λ g.
    pair_at f m (flat_map f (m ∷ []) ++ rest) (λ q r. two q (omega (arith, r))) j k i d g l e in
    ap (λ rows. get_or rows i d) cut ∙ elim (before_or_at j m h) [ inl g ↦ earlier g | inr g ↦ last g ]

-- ---- boxes

-- rows of which those of variable j are a box's
pub box_stands : (m : ℕ) (rows : List Row) (j : ℕ) (b : BoxTree) → j < m → IsBoxed b →
    get_or rows (2 * j) never ≡ slope_row m j b.hi.den (neg_ℤ b.hi.num) → get_or rows (2 * j + 1) never ≡ slope_row m j (neg_ℤ b.lo.den) b.lo.num →
    HasBox m rows j
box_stands m rows j b h sound up down = let low = sound.low in record {
  above = subst (λ r. pos 0 <ℤ coef_at j r) (sym up) (slope_above m j b.hi.den (neg_ℤ b.hi.num) h sound.high);
  below = subst (λ r. coef_at j r <ℤ pos 0) (sym down) (slope_below m j (neg_ℤ b.lo.den) b.lo.num h (omega (arith, ints, low)));
  others = λ i l e. (
    ap (coef_at i) up ∙ slope_elsewhere m j i b.hi.den (neg_ℤ b.hi.num) l e,
    ap (coef_at i) down ∙ slope_elsewhere m j i (neg_ℤ b.lo.den) b.lo.num l e,
  );
}

-- each variable has the two rows of a box
pub boxes_stand : (m : ℕ) (f : ℕ → List Row) (rest : List Row) → ((j : ℕ) → j < m → (b : BoxTree) × IsBoxed b × (f j ≡ box_rows m j b)) →
    (2 * m ≤ length (flat_map f (below m) ++ rest)) × ((j : ℕ) → j < m → HasBox m (flat_map f (below m) ++ rest) j)
boxes_stand m f rest each =
    let two : (i : ℕ) → i < m → length (f i) ≡ 2 = λ i h. ap length (each i h).2 in
    let size = pairs_length f m two in
    let whole = length-append (flat_map f (below m)) rest in (
      omega (arith, size, whole),
      λ j h. let (b, sound, e) = each j h in
          box_stands m (flat_map f (below m) ++ rest) j b h sound
          (pair_at f m rest two j 0 (2 * j) never h (omega arith) (omega arith) ∙ ap (λ rows. get_or rows 0 never) e)
          (pair_at f m rest two j 1 (2 * j + 1) never h (omega arith) (omega arith) ∙ ap (λ rows. get_or rows 1 never) e),
    )
