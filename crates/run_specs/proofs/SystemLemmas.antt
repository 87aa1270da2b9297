-- Sets of points that are the points of a system of rows, and how such sets are made of others.
use Rattle.std.proofs.Common.{◌≡◌, ◌↔◌, ◌⊎◌, inl, inr, ℕ, zero, suc, ◌+◌, ◌≤◌, List, [], ◌∷◌, ◌++◌, length, length-take, length-drop, take, drop, map, refl, sym, ◌∙◌, ap, subst, arith, ℤ, pos, ◌+ℤ◌, ◌*ℤ◌, ◌<ℤ◌, neg_ℤ}
use Rattle.std.specs.Prelude.{false}
use Rattle.std.proofs.lemmas.Int.{ints}
use Rattle.poly_specs.proofs.IntLemmas.{neg_mul}
use Rattle.poly_specs.proofs.LinearLemmas.{dot-nil, dot-scaled_row, Holds-same_point}
use Rattle.poly_specs.proofs.EliminationLemmas.{AllHold-from_in, AllHold-at_in, in_map, out_map, width_in}
use Rattle.run_specs.proofs.StageLemmas.{holds_both, holds_first, by_value}
use Rattle.poly_specs.specs.Lists.{In, dot}
use Rattle.poly_specs.specs.Fractions.{Fraction, SameFraction}
use Rattle.poly_specs.specs.Rows.{Row, over, Holds, AllHold, AllWide, with_coef, SamePoint}
use Rattle.run_specs.specs.Automaton.{never}
use Rattle.run_specs.specs.Stages.{zeros}

-- a set of points of n numbers over a denominator, as the points of a system of n columns
pub record IsSystem (n : ℕ) (P : ℤ → List ℤ → Type 0) : Type 0 where
  pub rows : List Row
  pub wide : AllWide n rows
  pub exact : (d : ℤ) (ns : List ℤ) → pos 0 <ℤ d → length ns ≡ n → AllHold rows (over d ns) ↔ P d ns

-- ---- coefficients of n columns

-- the list cut or filled up to n numbers
abbrev pub fit : ℕ → List ℤ → List ℤ
fit zero cs = []
fit (suc n) [] = pos 0 ∷ fit n []
fit (suc n) (c ∷ cs) = c ∷ fit n cs

length-fit : (n : ℕ) (cs : List ℤ) → length (fit n cs) ≡ n
length-fit zero cs = refl
length-fit (suc n) [] = ap suc (length-fit n [])
length-fit (suc n) (c ∷ cs) = ap suc (length-fit n cs)

dot-fit : (n : ℕ) (cs ns : List ℤ) → length ns ≡ n → dot (fit n cs) ns ≡ dot cs ns
dot-fit zero cs [] e = sym (dot-nil cs)
dot-fit zero cs (m ∷ ns) e = absurd (omega arith)
dot-fit (suc n) cs [] e = absurd (omega arith)
dot-fit (suc n) [] (m ∷ ns) e = let r = dot-fit n [] ns (omega arith) in omega (arith, ints, r)
dot-fit (suc n) (c ∷ cs) (m ∷ ns) e = ap (λ z. c *ℤ m +ℤ z) (dot-fit n cs ns (omega arith))

-- ---- systems of moved rows

-- the row with other coefficients, fitted to n columns
abbrev moved : ℕ → (List ℤ → List ℤ) → Row → Row
moved n back r = with_coef (fit n (back r.coef)) r

moved_wide : (n : ℕ) (back : List ℤ → List ℤ) (rows : List Row) → AllWide n (map (moved n back) rows)
moved_wide n back rows = from_in (map (moved n back) rows) (λ s i.
    let y = out_map (moved n back) s rows i in ap (λ (r : Row). length r.coef) y.2 ∙ length-fit n (back y.0.coef))
  where
    from_in : (rows : List Row) → ((r : Row) → In r rows → length r.coef ≡ n) → AllWide n rows
    from_in [] f i r h = absurd (omega arith)
    from_in (s ∷ rows) f zero r h = f s (inl refl)
    from_in (s ∷ rows) f (suc i) r h = from_in rows (λ t j. f t (inr j)) i r (omega arith)

moved_holds : (n : ℕ) (back f : List ℤ → List ℤ) (rows : List Row) (d : ℤ) (ns : List ℤ) → length ns ≡ n →
    ((r : Row) → In r rows → dot (back r.coef) ns ≡ dot r.coef (f ns)) → AllHold (map (moved n back) rows) (over d ns) ↔ AllHold rows (over d (f ns))
moved_holds n back f rows d ns l same = (
  λ h. AllHold-from_in rows (over d (f ns)) (λ r i. (at r i).0 (AllHold-at_in (map (moved n back) rows) (over d ns) h (moved n back r) (in_map (moved n back) r rows i))),
  λ h. AllHold-from_in (map (moved n back) rows) (over d ns) (λ s i.
      let y = out_map (moved n back) s rows i in
      subst (λ z. Holds z (over d ns)) (sym y.2) ((at y.0 y.1).1 (AllHold-at_in rows (over d (f ns)) h y.0 y.1))),
)
  where
    at : (r : Row) → In r rows → Holds (moved n back r) (over d ns) ↔ Holds r (over d (f ns))
    at r i = by_value r.strict _ _ (ap (λ z. z +ℤ r.cst *ℤ d) (dot-fit n (back r.coef) ns l ∙ same r i))

-- ---- sets made of others

-- the points of any rows
pub of_rows : (n : ℕ) (rows : List Row) → IsSystem n (λ d ns. AllHold rows (over d ns))
of_rows n rows = record {
  rows = map (moved n (λ cs. cs)) rows;
  wide = moved_wide n (λ cs. cs) rows;
  exact = λ d ns h l. moved_holds n (λ cs. cs) (λ ns. ns) rows d ns l (λ r i. refl);
}

module _ (n : ℕ) (P : ℤ → List ℤ → Type 0) where
  pub alike : (Q : ℤ → List ℤ → Type 0) → ((d : ℤ) (ns : List ℤ) → pos 0 <ℤ d → length ns ≡ n → P d ns ↔ Q d ns) → IsSystem n P → IsSystem n Q
  alike Q same s = record {
    rows = s.rows;
    wide = s.wide;
    exact = λ d ns h l. (λ g. (same d ns h l).0 ((s.exact d ns h l).0 g), λ g. (s.exact d ns h l).1 ((same d ns h l).1 g));
  }

  -- what is said of other numbers, which are sums of these
  pub pulled : (k : ℕ) (back f : List ℤ → List ℤ) → ((ns : List ℤ) → length ns ≡ k → length (f ns) ≡ n) →
      ((cs ns : List ℤ) → length cs ≡ n → length ns ≡ k → dot (back cs) ns ≡ dot cs (f ns)) → IsSystem n P → IsSystem k (λ d ns. P d (f ns))
  pulled k back f sized same s = record {
    rows = map (moved k back) s.rows;
    wide = moved_wide k back s.rows;
    exact = λ d ns h l.
        let m = moved_holds k back f s.rows d ns l (λ r i. same r.coef ns (width_in n s.rows s.wide r i) l) in
        let e = s.exact d (f ns) h (sized ns l) in
        (λ g. e.0 (m.0 g), λ g. m.1 (e.1 g));
  }

  -- equal points are in the set alike
  pub at_same_point : IsSystem n P → (d c : ℤ) (ns ms : List ℤ) → pos 0 <ℤ d → pos 0 <ℤ c → length ns ≡ n → length ms ≡ n → SamePoint (over d ns) (over c ms) → P d ns → P c ms
  at_same_point s d c ns ms hd hc ln lm e p =
      (s.exact c ms hc lm).0 (AllHold-from_in s.rows (over c ms) (λ r i.
      Holds-same_point r (over d ns) (over c ms) hd hc e (AllHold-at_in s.rows (over d ns) ((s.exact d ns hd ln).1 p) r i)))

  -- the numbers after the first k
  pub dropped : (k : ℕ) → IsSystem n P → IsSystem (k + n) (λ d ns. P d (drop k ns))
  dropped k = pulled (k + n) (λ cs. zeros k ++ cs) (λ ns. drop k ns) (λ ns l. omega (arith, length-drop k ns, l)) (λ cs ns lc ln. go k cs ns)
    where
      go : (k : ℕ) (cs ns : List ℤ) → dot (zeros k ++ cs) ns ≡ dot cs (drop k ns)
      go zero cs ns = refl
      go (suc k) cs [] = sym (dot-nil cs)
      go (suc k) cs (m ∷ ns) = let r = go k cs ns in omega (arith, ints, r)

  -- the first n numbers
  pub taken : (k : ℕ) → n ≤ k → IsSystem n P → IsSystem k (λ d ns. P d (take n ns))
  taken k h = pulled k (λ cs. cs) (λ ns. take n ns) (λ ns l. omega (arith, length-take n ns, l, h)) (λ cs ns lc ln. go n cs ns lc)
    where
      go : (n : ℕ) (cs ns : List ℤ) → length cs ≡ n → dot cs ns ≡ dot cs (take n ns)
      go zero [] ns e = refl
      go zero (c ∷ cs) ns e = absurd (omega arith)
      go (suc n) [] ns e = absurd (omega arith)
      go (suc n) (c ∷ cs) [] e = refl
      go (suc n) (c ∷ cs) (m ∷ ns) e = ap (λ z. c *ℤ m +ℤ z) (go n cs ns (omega arith))

pub both : (n : ℕ) (P Q : ℤ → List ℤ → Type 0) → IsSystem n P → IsSystem n Q → IsSystem n (λ d ns. P d ns × Q d ns)
both n P Q s t = record {
  rows = s.rows ++ t.rows;
  wide = λ i r h. wide_both s.rows t.rows s.wide t.wide i r h;
  exact = λ d ns h l.
      let b = holds_both s.rows t.rows (over d ns) in (
        λ g. (let g' = b.0 g in ((s.exact d ns h l).0 g'.0, (t.exact d ns h l).0 g'.1)),
        λ g. b.1 ((s.exact d ns h l).1 g.0, (t.exact d ns h l).1 g.1),
      );
}
  where
    wide_both : (rows more : List Row) → AllWide n rows → AllWide n more → AllWide n (rows ++ more)
    wide_both [] more w v i s h = v i s h
    wide_both (r ∷ rows) more w v zero s h = w zero s (omega arith)
    wide_both (r ∷ rows) more w v (suc i) s h = wide_both rows more (λ j t g. w (suc j) t (omega arith)) v i s (omega arith)

-- ---- small sets

pub always : (n : ℕ) → IsSystem n (λ d ns. Unit {0})
always n = alike n (λ d ns. AllHold [] (over d ns)) (λ d ns. Unit {0}) (λ d ns h l. (λ g. tt, λ g. AllHold-from_in [] (over d ns) (λ r i. absurd i))) (of_rows n [])

pub nowhere_holds : (d : ℤ) (ns : List ℤ) → pos 0 <ℤ d → AllHold (never ∷ []) (over d ns) → ⊥
nowhere_holds d ns hd h = let n : Holds never (over d ns) = AllHold-at_in (never ∷ []) (over d ns) h never (inl refl) in omega (arith, ints, n, hd)

pub impossible : (n : ℕ) (P : ℤ → List ℤ → Type 0) → ((d : ℤ) (ns : List ℤ) → pos 0 <ℤ d → length ns ≡ n → P d ns → ⊥) → IsSystem n P
impossible n P none =
    alike n (λ d ns. AllHold (never ∷ []) (over d ns)) P (λ d ns h l. (λ g. absurd (nowhere_holds d ns h g), λ g. absurd (none d ns h l g))) (of_rows n (never ∷ []))

-- a set, if something holds that does not depend on the point
pub when : (n : ℕ) (C : Type 0) (P : ℤ → List ℤ → Type 0) → C ⊎ (C → ⊥) → IsSystem n P → IsSystem n (λ d ns. C × P d ns)
when n C P (inl c) s = alike n P (λ d ns. C × P d ns) (λ d ns h l. (λ p. (c, p), λ g. g.1)) s
when n C P (inr none) s = impossible n (λ d ns. C × P d ns) (λ d ns h l g. none g.0)

-- a sum of the numbers has this value
pub sum_is : (n : ℕ) (cs : List ℤ) (v : Fraction) → IsSystem n (λ d ns. SameFraction (record { num = dot cs ns; den = d }) v)
sum_is n cs v =
    alike n (λ d ns. AllHold (up ∷ low ∷ []) (over d ns)) (λ d ns. SameFraction (record { num = dot cs ns; den = d }) v) (λ d ns h l. same d ns) (of_rows n (up ∷ low ∷ []))
  where
    up : Row
    up = record { coef = map (λ c. v.den *ℤ c) cs; cst = neg_ℤ v.num; strict = false }

    low : Row
    low = record { coef = map (λ c. neg_ℤ v.den *ℤ c) cs; cst = v.num; strict = false }

    same : (d : ℤ) (ns : List ℤ) → AllHold (up ∷ low ∷ []) (over d ns) ↔ SameFraction (record { num = dot cs ns; den = d }) v
    same d ns =
        let a = dot-scaled_row v.den cs ns in
        let b = dot-scaled_row (neg_ℤ v.den) cs ns in
        let c = neg_mul v.den (dot cs ns) in
        let f = neg_mul v.num d in
        let b1 = holds_first up (low ∷ []) (over d ns) in
        let b2 = holds_first low [] (over d ns) in (
          λ h. (let h1 = b1.0 h in let h2 = b2.0 h1.1 in let x = h1.0 in let y = h2.0 in omega (arith, ints, a, b, c, f, x, y)),
          λ e. b1.1 (omega (arith, ints, a, b, c, f, e), b2.1 (omega (arith, ints, a, b, c, f, e), AllHold-from_in [] (over d ns) (λ r i. absurd i))),
        )
