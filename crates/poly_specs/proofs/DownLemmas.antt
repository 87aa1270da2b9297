-- Plain elimination of several columns from the right is projection, both ways.
use Rattle.std.proofs.Common.{◌↔◌, ◌≡◌, ℕ, zero, suc, ◌+◌, ◌<◌, ◌≤◌, List, [], ◌∷◌, length, take, set, get_or, refl, sym, ◌∙◌, ap, subst, arith, ℤ, pos, ◌+ℤ◌, ◌*ℤ◌, ◌<ℤ◌, inl, inr}
use Rattle.std.specs.Prelude.{int_lt, ◌==◌, unsigned_abs}
use Rattle.std.proofs.lemmas.Int.{ints}
use Rattle.std.proofs.lemmas.Bool.{cases_lt}
use Rattle.std.proofs.lemmas.List.{length-map, get_or_past}
use Rattle.poly_specs.proofs.LinearLemmas.{Holds-same_point, SamePoint-trans}
use Rattle.poly_specs.proofs.InclusionLemmas.{in_either, out_filter}
use Rattle.poly_specs.proofs.EliminationLemmas.{width_in, AllHold-from_in, AllHold-at_in, length-same_but, get_or-plus, coef-times, divided_without, length-raw, length-combination, combination_without, test_lower, test_upper, test_free, out_flat_map, out_map, project_sound, project_complete}
use Rattle.poly_specs.specs.Elimination.{times, raw_combination, combination, lower_factor, upper_factor, lowers, uppers, free_of, eliminated, eliminated_each, columns_down}
use Rattle.poly_specs.specs.Lists.{scaled, dot, In}
use Rattle.poly_specs.specs.Rows.{SomeValueHolds, IsExtension, SomeValuesHold, SameBefore, AllWide, Point, Row, row_value, Allows, Holds, AllHold, SameBut, over, coef_at}

-- the row has no column from c on
abbrev pub FreeFrom : ℕ → Row → Type 0
FreeFrom c r = (j : ℕ) → c ≤ j → coef_at j r ≡ pos 0

-- ---- such a row holds at such points alike

dot-free : (cs ns : List ℤ) → ((j : ℕ) → get_or cs j (pos 0) ≡ pos 0) → dot cs ns ≡ pos 0
dot-free [] ns f = refl
dot-free (c ∷ cs) [] f = refl
dot-free (c ∷ cs) (n ∷ ns) f =
    let z : c ≡ pos 0 = f 0 in
    let e : c *ℤ n ≡ pos 0 *ℤ n = ap (λ a. a *ℤ n) z in
    omega (arith, ints, e, dot-free cs ns (λ j. f (suc j)))

dot-take : (c : ℕ) (cs ns : List ℤ) → ((j : ℕ) → c ≤ j → get_or cs j (pos 0) ≡ pos 0) → dot cs ns ≡ dot (take c cs) (take c ns)
dot-take zero cs ns f = dot-free cs ns (λ j. f j (omega arith))
dot-take (suc c) [] ns f = refl
dot-take (suc c) (d ∷ cs) [] f = refl
dot-take (suc c) (d ∷ cs) (n ∷ ns) f = ap (λ z. d *ℤ n +ℤ z) (dot-take c cs ns (λ j h. f (suc j) (omega arith)))

pub Holds-same_below : (c : ℕ) (r : Row) (p q : Point) → FreeFrom c r → pos 0 <ℤ p.den → pos 0 <ℤ q.den → SameBefore c p q → Holds r p → Holds r q
Holds-same_below c r p q f hp hq e h =
    let short : Row = record { coef = take c r.coef; cst = r.cst; strict = r.strict } in
    let vp : row_value r p ≡ row_value short (over p.den (take c p.num)) = ap (λ z. z +ℤ r.cst *ℤ p.den) (dot-take c r.coef p.num f) in
    let vq : row_value r q ≡ row_value short (over q.den (take c q.num)) = ap (λ z. z +ℤ r.cst *ℤ q.den) (dot-take c r.coef q.num f) in
    subst (Allows r.strict) (sym vq)
    (Holds-same_point short (over p.den (take c p.num)) (over q.den (take c q.num)) hp hq e (subst (Allows r.strict) vp h))

-- ---- points that agree outside x agree below it

take-set_past : (c x : ℕ) (ns : List ℤ) (n : ℤ) → c ≤ x → take c (set ns x n) ≡ take c ns
take-set_past zero x ns n h = refl
take-set_past (suc c) x [] n h = refl
take-set_past (suc c) zero (m ∷ ns) n h = absurd (omega arith)
take-set_past (suc c) (suc x) (m ∷ ns) n h = ap (λ zs. m ∷ zs) (take-set_past c x ns n (omega arith))

take-scaled : (c : ℕ) (k : ℤ) (ns : List ℤ) → take c (scaled k ns) ≡ scaled k (take c ns)
take-scaled zero k ns = refl
take-scaled (suc c) k [] = refl
take-scaled (suc c) k (n ∷ ns) = ap (λ zs. (n *ℤ k) ∷ zs) (take-scaled c k ns)

same_below : (c x : ℕ) (p q : Point) → c ≤ x → SameBut x p q → SameBefore c p q
same_below c x p q h e =
    let a : take c (scaled q.den (set p.num x (pos 0))) ≡ scaled q.den (take c p.num) =
    take-scaled c q.den (set p.num x (pos 0)) ∙ ap (scaled q.den) (take-set_past c x p.num (pos 0) h) in
    let b : take c (scaled p.den (set q.num x (pos 0))) ≡ scaled p.den (take c q.num) =
    take-scaled c p.den (set q.num x (pos 0)) ∙ ap (scaled p.den) (take-set_past c x q.num (pos 0) h) in
    sym a ∙ ap (take c) e ∙ b

-- ---- the eliminated rows: their width, and what they are free of

pub record Wide (w c : ℕ) (rows : List Row) : Type 0 where
  pub width : (r : Row) → In r rows → length r.coef ≡ w
  pub free : (r : Row) → In r rows → FreeFrom c r

raw_at : (x j : ℕ) (l u : Row) → j < length l.coef → length l.coef ≡ length u.coef → coef_at j l ≡ pos 0 → coef_at j u ≡ pos 0 → coef_at j (raw_combination x l u) ≡ pos 0
raw_at x j l u h e zl zu =
    let k : ℕ = lower_factor x l u in
    let m : ℕ = upper_factor x l u in
    let le : length (times (pos k) l).coef ≡ length (times (pos m) u).coef =
    length-map l.coef (λ c. pos k *ℤ c) ∙ e ∙ sym (length-map u.coef (λ c. pos m *ℤ c)) in
    let a : coef_at j (times (pos k) l) ≡ pos k *ℤ pos 0 = coef-times (pos k) l j h ∙ ap (λ z. pos k *ℤ z) zl in
    let b : coef_at j (times (pos m) u) ≡ pos m *ℤ pos 0 = coef-times (pos m) u j (omega arith) ∙ ap (λ z. pos m *ℤ z) zu in
    get_or-plus (times (pos k) l).coef (times (pos m) u).coef j le ∙ omega (arith, ints, a, b)

free_below : (x : ℕ) (r : Row) → FreeFrom (suc x) r → coef_at x r ≡ pos 0 → FreeFrom x r
free_below x r f z j h = elim (cases_lt x j) [
  | inl lt ↦ f j (omega arith)
  | inr ge ↦ (let e : j ≡ x = omega arith in subst (λ i. coef_at i r ≡ pos 0) (sym e) z)
]

free_combination : (x c : ℕ) (l u : Row) → length l.coef ≡ length u.coef → FreeFrom c l → FreeFrom c u → FreeFrom c (combination x l u)
free_combination x c l u e fl fu j h = elim (cases_lt j (length l.coef)) [
  | inl lt ↦ divided_without j (raw_combination x l u) (omega (arith, length-raw x l u e)) (raw_at x j l u lt e (fl j h) (fu j h))
  | inr ge ↦ get_or_past (combination x l u).coef j (pos 0) (omega (arith, length-combination x l u e))
]

wide_eliminated : (w x : ℕ) (rows : List Row) → x < w → Wide w (suc x) rows → Wide w x (eliminated x rows)
unfolding eliminated
wide_eliminated w x rows hx wide = record {
  width = λ r i. (kind r i).0;
  free = λ r i. (kind r i).1;
}
  where
    kind : (r : Row) → In r (eliminated x rows) → (length r.coef ≡ w) × FreeFrom x r
    kind r i = elim (in_either r (free_of x rows) _ i) [
      | inl j ↦ (let f = out_filter (λ r. unsigned_abs (coef_at x r) == 0) r rows j in
          (wide.width r f.0, free_below x r (wide.free r f.0) (test_free x r f.1)))
      | inr j ↦ (
          let y = out_flat_map _ r (lowers x rows) j in
          let z = out_map (combination x y.0) r (uppers x rows) y.2 in
          let l = out_filter (λ r. int_lt (coef_at x r) (pos 0)) y.0 rows y.1 in
          let u = out_filter (λ r. int_lt (pos 0) (coef_at x r)) z.0 rows z.1 in
          let wl = wide.width y.0 l.0 in
          let wu = wide.width z.0 u.0 in
          let e : length y.0.coef ≡ length z.0.coef = wl ∙ sym wu in
          let c = combination_without x y.0 z.0 (omega arith) e (test_lower x y.0 l.1) (test_upper x z.0 u.1) in
          let f = free_combination x (suc x) y.0 z.0 e (wide.free y.0 l.0) (wide.free z.0 u.0) in
          subst (λ t. (length t.coef ≡ w) × FreeFrom x t) (sym z.2) (length-combination x y.0 z.0 e ∙ wl, free_below x (combination x y.0 z.0) f c))
    ]

-- ---- projection

wide_at : (w from n : ℕ) (rows : List Row) → Wide w (from + suc n) rows → Wide w (suc (from + n)) rows
wide_at w from n rows h = let e : from + suc n ≡ suc (from + n) = omega arith in subst (λ c. Wide w c rows) e h

sized_on : (x w : ℕ) (p q : Point) → SameBut x p q → length p.num ≡ w → length q.num ≡ w
sized_on x w p q same lp = sym (length-same_but x p q same) ∙ lp

pub down_complete : (from n w : ℕ) (rows : List Row) (p : Point) → from + n ≤ w → Wide w (from + n) rows → length p.num ≡ w → pos 0 <ℤ p.den →
    AllHold (eliminated_each (columns_down from n) rows) p → SomeValuesHold w from rows p
down_complete from zero w rows p h wide lp hp all = (p, record { positive = hp; sized = lp; same = refl; holds = all })
down_complete from (suc n) w rows p h wide lp hp all =
    let x : ℕ = from + n in
    let wd = wide_at w from n rows wide in
    let (m, s) = down_complete from n w (eliminated x rows) p (omega arith) (wide_eliminated w x rows (omega arith) wd) lp hp all in
    let (q, hq, same, holds) = project_complete x w rows m (omega arith) wd.width s.sized s.positive s.holds in (
      q,
      record {
        positive = hq;
        sized = sized_on x w m q same s.sized;
        same = SamePoint-trans (over p.den (take from p.num)) (over m.den (take from m.num)) (over q.den (take from q.num)) s.positive s.same (same_below from x m q (omega arith) same);
        holds = holds;
      },
    )

pub down_sound : (from n w : ℕ) (rows : List Row) (p q : Point) → from + n ≤ w → Wide w (from + n) rows → pos 0 <ℤ p.den →
    IsExtension w from rows p q → AllHold (eliminated_each (columns_down from n) rows) p
down_sound from zero w rows p q h wide hp s =
    let e : from + 0 ≡ from = omega arith in
    AllHold-from_in rows p (λ r i. Holds-same_below from r q p (subst (λ c. FreeFrom c r) e (wide.free r i)) s.positive hp (sym s.same) (AllHold-at_in rows q s.holds r i))
down_sound from (suc n) w rows p q h wide hp s =
    let x : ℕ = from + n in
    let wd = wide_at w from n rows wide in
    let next = project_sound x w rows q (omega arith) wd.width s.sized s.positive (q, s.positive, refl, s.holds) in
    down_sound from n w (eliminated x rows) p q (omega arith) (wide_eliminated w x rows (omega arith) wd) hp
    (record { positive = s.positive; sized = s.sized; same = s.same; holds = next })

-- ---- the laws, of whole systems

wide_in : (w c : ℕ) (rows : List Row) → AllWide w rows → w ≤ c → Wide w c rows
wide_in w c rows h le = record {
  width = λ r i. width_in w rows h r i;
  free = λ r i j g. get_or_past r.coef j (pos 0) (omega (arith, width_in w rows h r i));
}

pub columns_projected : (from n : ℕ) (rows : List Row) (p : Point) → AllWide (from + n) rows → length p.num ≡ from + n → pos 0 <ℤ p.den →
    AllHold (eliminated_each (columns_down from n) rows) p ↔ SomeValuesHold (from + n) from rows p
columns_projected from n rows p wide lp hp =
    let w : ℕ = from + n in
    let all = wide_in w w rows wide (omega arith) in (
      λ h. down_complete from n w rows p (omega arith) all lp hp h,
      λ s. down_sound from n w rows p s.0 (omega arith) all hp s.1,
    )

pub column_projected : (x w : ℕ) (rows : List Row) (p : Point) → x < w → AllWide w rows → length p.num ≡ w → pos 0 <ℤ p.den →
    AllHold (eliminated x rows) p ↔ SomeValueHolds x rows p
column_projected x w rows p hx wide lp hp = (
  λ h. project_complete x w rows p hx (width_in w rows wide) lp hp h,
  λ s. project_sound x w rows p hx (width_in w rows wide) lp hp s,
)
