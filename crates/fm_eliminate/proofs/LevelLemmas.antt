-- Levels: what is left of a system without its last columns, one column after the other.
use Rattle.std.proofs.Common.{◌≡◌, ◌↔◌, inl, inr, ℕ, zero, suc, ◌+◌, ◌-◌, ◌<◌, ◌≤◌, List, [], ◌∷◌, length, get_or, refl, sym, ◌∙◌, ap, subst, arith, pos, ◌*ℤ◌, ◌<ℤ◌, unsigned_abs}
use Rattle.std.specs.Prelude.{int_lt, ◌==◌, slice_index_or}
use Rattle.std.proofs.lemmas.Bool.{cases_lt}
use Rattle.std.proofs.lemmas.Int.{ints}
use Rattle.std.proofs.lemmas.List.{length-map}
use Rattle.std.proofs.lemmas.List.Elements.{All-nil, All-cons}
use Rattle.poly_specs.proofs.ColumnLemmas.{eliminated_wide}
use Rattle.poly_specs.proofs.DownLemmas.{column_projected, columns_projected}
use Rattle.poly_specs.proofs.EliminationLemmas.{AllHold-from_in, AllHold-at_in, width_in, length-same_but, get_or-plus, coef-times, divided_without, length-raw, out_flat_map, out_map}
use Rattle.poly_specs.proofs.InclusionLemmas.{in_left, in_right, in_either, out_filter, among_eliminated, among_formed}
use Rattle.poly_specs.specs.Bits.{PassesBits, SomePasses}
use Rattle.poly_specs.specs.Elimination.{combination, raw_combination, times, lower_factor, upper_factor, lowers, uppers, free_of, eliminated, eliminated_each, formed, formed_each, columns_down}
use Rattle.poly_specs.specs.Lists.{In, IsAmong}
use Rattle.poly_specs.specs.Rows.{Point, Row, coef_at, AllHold, AllWide, SomeValuesHold}
use Rattle.poly_specs.specs.Systems.{System, AreFreeOf, IsProjection, IsLevel, AreLevels, no_system}
use Rattle.fm_eliminate.proofs.CountLemmas.{any_in}
use Rattle.fm_eliminate.proofs.LeavingLemmas.{all_from_in}
use Rattle.fm_eliminate.proofs.PivotLemmas.{in_item, each_in}

-- ---- columns that no row has

-- a combination has no column that both rows lack
raw_free : (x j : ℕ) (l u : Row) → j < length l.coef → length l.coef ≡ length u.coef → coef_at j l ≡ pos 0 → coef_at j u ≡ pos 0 →
    coef_at j (raw_combination x l u) ≡ pos 0
raw_free x j l u h e zl zu =
    let k : ℕ = lower_factor x l u in
    let m : ℕ = upper_factor x l u in
    let sized : length (times (pos k) l).coef ≡ length (times (pos m) u).coef =
    length-map l.coef (λ c. pos k *ℤ c) ∙ e ∙ sym (length-map u.coef (λ c. pos m *ℤ c)) in
    let a : coef_at j (times (pos k) l) ≡ pos k *ℤ pos 0 = coef-times (pos k) l j h ∙ ap (λ z. pos k *ℤ z) zl in
    let b : coef_at j (times (pos m) u) ≡ pos m *ℤ pos 0 = coef-times (pos m) u j (omega arith) ∙ ap (λ z. pos m *ℤ z) zu in
    get_or-plus (times (pos k) l).coef (times (pos m) u).coef j sized ∙ omega (arith, ints, a, b)

free_stays : (w x j : ℕ) (rows : List Row) → j < w → AllWide w rows → AreFreeOf j rows → (r : Row) → In r (eliminated x rows) → coef_at j r ≡ pos 0
unfolding eliminated
free_stays w x j rows h wide free r i = elim (in_either r (free_of x rows) _ i) [
  | inl k ↦ each_in (λ s. coef_at j s ≡ pos 0) rows free r (out_filter (λ s. unsigned_abs (coef_at x s) == 0) r rows k).0
  | inr k ↦ (
      let y = out_flat_map _ r (lowers x rows) k in
      let z = out_map (combination x y.0) r (uppers x rows) y.2 in
      let l = (out_filter (λ s. int_lt (coef_at x s) (pos 0)) y.0 rows y.1).0 in
      let u = (out_filter (λ s. int_lt (pos 0) (coef_at x s)) z.0 rows z.1).0 in
      let wl = width_in w rows wide y.0 l in
      let e = wl ∙ sym (width_in w rows wide z.0 u) in
      let f = each_in (λ s. coef_at j s ≡ pos 0) rows free in
      let raw = raw_free x j y.0 z.0 (omega arith) e (f y.0 l) (f z.0 u) in
      subst (λ s. coef_at j s ≡ pos 0) (sym z.2) (divided_without j (raw_combination x y.0 z.0) (omega (arith, length-raw x y.0 z.0 e)) raw))
]

-- ---- one more column, from the right

each_wide : (w : ℕ) (columns : List ℕ) (rows : List Row) → AllWide w rows → AllWide w (eliminated_each columns rows)
each_wide w [] rows h = h
each_wide w (x ∷ columns) rows h = each_wide w columns (eliminated x rows) (eliminated_wide w x rows h)

last_column : (c n : ℕ) (rows : List Row) → eliminated_each (columns_down c (suc n)) rows ≡ eliminated c (eliminated_each (columns_down (c + 1) n) rows)
last_column c zero rows = let e : c + 0 ≡ c = omega arith in ap (λ x. eliminated x rows) e
last_column c (suc n) rows =
    let e : c + suc n ≡ c + 1 + n = omega arith in
    last_column c n (eliminated (c + suc n) rows) ∙ ap (λ x. eliminated c (eliminated_each (columns_down (c + 1) n) (eliminated x rows))) e

-- what is formed at column first + k is among what is formed in all
formed_then : (first k n m : ℕ) (rows : List Row) → m ≡ suc (k + n) →
    IsAmong (formed (first + k) (eliminated_each (columns_down (first + k + 1) n) rows)) (formed_each (columns_down first m) rows)
formed_then first k n zero rows e = absurd (omega arith)
formed_then first k zero (suc m) rows e =
    let same : k ≡ m = omega arith in
    λ z i. in_left z (formed (first + m) rows) _ (subst (λ x. In z (formed (first + x) rows)) same i)
formed_then first k (suc n) (suc m) rows e =
    let same : first + k + 1 + n ≡ first + m = omega arith in
    λ z i. in_right z (formed (first + m) rows) _ (formed_then first k n m (eliminated (first + m) rows) (omega arith) z
    (subst (λ x. In z (formed (first + k) (eliminated_each (columns_down (first + k + 1) n) (eliminated x rows)))) same i))

-- ---- the last level is the system, and each other one is the projection of the next

pub last_level : (w : ℕ) (rows : List Row) → AllWide w rows → IsLevel w w rows rows
last_level w rows wide = record {
  wide = wide;
  free = λ x h g. absurd (omega arith);
  plain = (let e : w - w ≡ 0 = omega arith in subst (λ n. IsAmong rows (eliminated_each (columns_down w n) rows)) (sym e) (λ r i. i));
  same = λ p d l.
      let e : w + 0 ≡ w = omega arith in
      let wide' : AllWide (w + 0) rows = subst (λ n. AllWide n rows) (sym e) wide in
      subst (λ n. AllHold rows p ↔ SomeValuesHold n w rows p) e (columns_projected w 0 rows p wide' (l ∙ sym e) d);
}

-- the law of several columns, in the width
columns_law : (w c : ℕ) (rows : List Row) (p : Point) → c ≤ w → AllWide w rows → length p.num ≡ w → pos 0 <ℤ p.den →
    AllHold (eliminated_each (columns_down c (w - c)) rows) p ↔ SomeValuesHold w c rows p
columns_law w c rows p h wide l d =
    let e : c + (w - c) ≡ w = omega arith in
    subst (λ n. AllHold (eliminated_each (columns_down c (w - c)) rows) p ↔ SomeValuesHold n c rows p) e
    (columns_projected c (w - c) rows p (subst (λ n. AllWide n rows) (sym e) wide) (l ∙ sym e) d)

abbrev plain : ℕ → ℕ → List Row → List Row
plain w c rows = eliminated_each (columns_down c (w - c)) rows

plain_next : (w c : ℕ) (rows : List Row) → c < w → plain w c rows ≡ eliminated c (plain w (c + 1) rows)
plain_next w c rows h =
    let e : w - c ≡ suc (w - (c + 1)) = omega arith in
    ap (λ n. eliminated_each (columns_down c n) rows) e ∙ last_column c (w - (c + 1)) rows

pub level_step : (w c : ℕ) (rows next left : List Row) → c < w → AllWide w rows → IsLevel w (c + 1) rows next → IsProjection w c next left → IsLevel w c rows left
level_step w c rows next left h wide level projection =
    let among : IsAmong left (plain w c rows) =
    λ r i. subst (λ rs. In r rs) (sym (plain_next w c rows h)) (among_eliminated c next (plain w (c + 1) rows) level.plain r (projection.plain r i)) in
    record {
      wide = projection.wide;
      free = λ x g k. elim (cases_lt c x) [
        | inl lt ↦ all_from_in (λ r. coef_at x r ≡ pos 0) left (λ r i. free_stays w c x next k level.wide (level.free x (omega arith) k) r (projection.plain r i))
        | inr ge ↦ (let e : c ≡ x = omega arith in subst (λ j. AreFreeOf j left) e projection.free)
      ];
      plain = among;
      same = λ p d l. (
        λ all.
            let (m, hm, same, holds) = (projection.same p d l).0 all in
            let lm : length m.num ≡ w = sym (length-same_but c p m same) ∙ l in
            let some = (level.same m hm lm).0 holds in
            let before = (columns_law w (c + 1) rows m (omega arith) wide lm hm).1 some in
            let here = (column_projected c w (plain w (c + 1) rows) p h (each_wide w (columns_down (c + 1) (w - (c + 1))) rows wide) l d).1 (m, hm, same, before) in
            (columns_law w c rows p (omega arith) wide l d).0 (subst (λ rs. AllHold rs p) (sym (plain_next w c rows h)) here),
        λ s.
            let all = (columns_law w c rows p (omega arith) wide l d).1 s in
            AllHold-from_in left p (λ r i. AllHold-at_in (plain w c rows) p all r (among r i)),
      );
    }

-- a number that passes at one level is formed in the plain elimination of all columns
pub level_passes : (first c w : ℕ) (rows next : List Row) → first ≤ c → c < w → IsLevel w (c + 1) rows next → SomePasses (formed c next) →
    SomePasses (formed_each (columns_down first (w - first)) rows)
level_passes first c w rows next f h level (k, z, lt, at, passes) =
    let here = among_formed c next (plain w (c + 1) rows) level.plain z (in_item (formed c next) k z lt (sym at)) in
    let e : first + (c - first) ≡ c = omega arith in
    let there = formed_then first (c - first) (w - (c + 1)) (w - first) rows (omega arith) z
    (subst (λ x. In z (formed x (eliminated_each (columns_down (x + 1) (w - (c + 1))) rows))) (sym e) here) in
    any_in PassesBits (formed_each (columns_down first (w - first)) rows) z there passes

-- ---- whole lists of levels

pub levels_start : (s : System) (first : ℕ) → first ≡ s.width → AllWide s.width s.rows → AreLevels first s (record { first = first; systems = s ∷ [] })
levels_start s first e wide = record {
  from_first = refl;
  one_for_each = omega arith;
  widths = All-cons (λ t. t.width ≡ s.width) s [] refl (All-nil (λ t. t.width ≡ s.width));
  each = each;
  whole = (let none : s.width - first ≡ 0 = omega arith in ap (λ i. slice_index_or (s ∷ []) i no_system) none);
}
  where
    each : (i : ℕ) → first + i ≤ s.width → IsLevel s.width (first + i) s.rows (slice_index_or (s ∷ []) i no_system).rows
    each zero h = let f : s.width ≡ first + 0 = omega arith in subst (λ c. IsLevel s.width c s.rows s.rows) f (last_level s.width s.rows wide)
    each (suc i) h = absurd (omega arith)

pub levels_step : (c next : ℕ) (s left : System) (systems : List System) → next ≡ c + 1 → c < s.width → AllWide s.width s.rows →
    AreLevels next s (record { first = next; systems = systems }) → left.width ≡ s.width →
    IsProjection s.width c (slice_index_or systems 0 no_system).rows left.rows → AreLevels c s (record { first = c; systems = left ∷ systems })
levels_step c next s left systems e h wide levels sized projection = record {
  from_first = refl;
  one_for_each = (let n = levels.one_for_each in omega (arith, n));
  widths = All-cons (λ t. t.width ≡ s.width) left systems sized levels.widths;
  each = each;
  whole = (let f : s.width - c ≡ suc (s.width - next) = omega arith in ap (λ i. slice_index_or (left ∷ systems) i no_system) f ∙ levels.whole);
}
  where
    first_level : IsLevel s.width (c + 1) s.rows (slice_index_or systems 0 no_system).rows
    first_level = let f : next + 0 ≡ c + 1 = omega arith in
        subst (λ n. IsLevel s.width n s.rows (slice_index_or systems 0 no_system).rows) f (levels.each 0 (omega arith))

    each : (i : ℕ) → c + i ≤ s.width → IsLevel s.width (c + i) s.rows (slice_index_or (left ∷ systems) i no_system).rows
    each zero g = let f : c ≡ c + 0 = omega arith in
        subst (λ n. IsLevel s.width n s.rows left.rows) f (level_step s.width c s.rows (slice_index_or systems 0 no_system).rows left.rows h wide first_level projection)
    each (suc i) g = let f : next + i ≡ c + suc i = omega arith in
        subst (λ n. IsLevel s.width n s.rows (slice_index_or systems i no_system).rows) f (levels.each i (omega arith))

-- the same levels, from a column that is written otherwise
pub levels_at : (s : System) (systems : List System) (c d : ℕ) → c ≡ d → AreLevels c s (record { first = c; systems = systems }) →
    AreLevels d s (record { first = d; systems = systems })
levels_at s systems c d e levels = subst (λ n. AreLevels n s (record { first = n; systems = systems })) e levels

-- ---- one more level before the first one

module _ (c : ℕ) (s head : System) (systems : List System) (within : c < s.width)
    (levels : AreLevels (c + 1) s (record { first = c + 1; systems = systems })) (at : head ≡ get_or systems 0 head) where
  some_level : 0 < length systems
  some_level = let n = levels.one_for_each in omega (arith, n)

  pub head_width : head.width ≡ s.width
  head_width = ap (λ t. t.width) at ∙ levels.widths 0 head some_level

  head_first : (systems : List System) → 0 < length systems → head ≡ get_or systems 0 head → slice_index_or systems 0 no_system ≡ head
  head_first [] h e = absurd (omega arith)
  head_first (t ∷ systems) h e = sym e

  head_level : IsLevel s.width (c + 1) s.rows head.rows
  head_level =
      let e : c + 1 + 0 ≡ c + 1 = omega arith in
      subst (λ t. IsLevel s.width (c + 1) s.rows t.rows) (head_first systems some_level at)
      (subst (λ n. IsLevel s.width n s.rows (slice_index_or systems 0 no_system).rows) e (levels.each 0 (omega arith)))

  whole_wide : AllWide s.width s.rows
  whole_wide = subst (λ t. AllWide s.width t.rows) levels.whole (levels.each (s.width - (c + 1)) (omega arith)).wide

  -- a number that passes is one of plain elimination
  pub added_passes : (first : ℕ) → first ≤ c → SomePasses (formed c head.rows) → SomePasses (formed_each (columns_down first (s.width - first)) s.rows)
  added_passes first h passes = level_passes first c s.width s.rows head.rows h within head_level passes

  pub level_added : (left : System) (new : List System) → left.width ≡ head.width → IsProjection head.width c head.rows left.rows → new ≡ left ∷ systems →
      AreLevels c s (record { first = c; systems = new })
  level_added left new sized projection e =
      let here = subst (λ t. IsProjection s.width c t.rows left.rows) (sym (head_first systems some_level at))
      (subst (λ w. IsProjection w c head.rows left.rows) head_width projection) in
      subst (λ all. AreLevels c s (record { first = c; systems = all })) (sym e)
      (levels_step c (c + 1) s left systems refl within whole_wide levels (sized ∙ head_width) here)
