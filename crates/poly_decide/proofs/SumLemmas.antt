-- A system with the sum of a row in front has the points of the system, each with its sum.
use Rattle.std.proofs.Common.{◌≡◌, ◌↔◌, inl, inr, ℕ, suc, ◌+◌, List, [], ◌∷◌, length, map, replicate, get_or, refl, sym, ◌∙◌, ap, subst, arith, ℤ, pos, negsuc, ◌+ℤ◌, ◌*ℤ◌, ◌≤ℤ◌, ◌<ℤ◌, neg_ℤ, false}
use Rattle.std.specs.Prelude.{All}
use Rattle.std.proofs.lemmas.Int.{ints}
use Rattle.std.proofs.lemmas.List.{length-replicate, length-map}
use Rattle.std.proofs.lemmas.List.Elements.{All-nil, All-cons, All-append, All-map, All-weaker}
use Rattle.poly_specs.proofs.EliminationLemmas.{AllHold-from_in, AllHold-at_in, out_map}
use Rattle.poly_specs.proofs.InclusionLemmas.{in_left, in_right, in_either}
use Rattle.poly_specs.proofs.IntLemmas.{neg_mul}
use Rattle.poly_specs.specs.Fractions.{Fraction, IsFraction}
use Rattle.poly_specs.specs.Lists.{dot, In}
use Rattle.poly_specs.specs.Rows.{Point, Row, row_value, over, coef_at, Allows, Holds, AllHold, AllWide, HasPoint, with_coef, IsExtension}
use Rattle.poly_specs.specs.Bounds.{IsSum, with_sum}
use Rattle.poly_specs.specs.Systems.{IsLevel}
use Rattle.poly_decide.proofs.EmptinessLemmas.{dot-zeros}
use Rattle.poly_decide.specs.Caps.{HoldsAt}

pub dot-opposite : (cs ns : List ℤ) → dot (map neg_ℤ cs) ns ≡ neg_ℤ (dot cs ns)
dot-opposite [] ns = refl
dot-opposite (c ∷ cs) [] = refl
dot-opposite (c ∷ cs) (n ∷ ns) = omega (arith, ints, neg_mul c n, dot-opposite cs ns)

in_map : (f : Row → Row) (r : Row) (rows : List Row) → In r rows → In (f r) (map f rows)
in_map f r [] i = absurd i
in_map f r (s ∷ rows) (inl e) = inl (ap f e)
in_map f r (s ∷ rows) (inr i) = inr (in_map f r rows i)

abbrev wider : Row → Row
wider s = with_coef (pos 0 ∷ s.coef) s

module _ (r : Row) where
  abbrev up_to : Row
  up_to = record { coef = pos 1 ∷ map neg_ℤ r.coef; cst = neg_ℤ r.cst; strict = false }

  abbrev down_to : Row
  down_to = record { coef = negsuc 0 ∷ r.coef; cst = r.cst; strict = false }

  module _ (rows : List Row) (d m : ℤ) (ns : List ℤ) where
    value-wider : (s : Row) → row_value (wider s) (over d (m ∷ ns)) ≡ row_value s (over d ns)
    value-wider s = omega (arith, ints)

    value-up_to : row_value up_to (over d (m ∷ ns)) +ℤ row_value r (over d ns) ≡ m
    value-up_to = omega (arith, ints, dot-opposite r.coef ns, neg_mul r.cst d)

    value-down_to : row_value down_to (over d (m ∷ ns)) +ℤ m ≡ row_value r (over d ns)
    value-down_to = omega (arith, ints)

    -- a point of the wider system is a point of the system with its sum
    pub point_with_sum : AllHold (with_sum r rows) (over d (m ∷ ns)) → AllHold rows (over d ns) × (row_value r (over d ns) ≡ m)
    point_with_sum all =
        let up : row_value up_to (over d (m ∷ ns)) ≤ℤ pos 0 = AllHold-at_in (with_sum r rows) (over d (m ∷ ns)) all up_to (in_right up_to (map wider rows) _ (inl refl)) in
        let down : row_value down_to (over d (m ∷ ns)) ≤ℤ pos 0 = AllHold-at_in (with_sum r rows) (over d (m ∷ ns)) all down_to (in_right down_to (map wider rows) _ (inr (inl refl))) in (
          AllHold-from_in rows (over d ns) (λ s i. subst (Allows s.strict) (value-wider s)
              (AllHold-at_in (with_sum r rows) (over d (m ∷ ns)) all (wider s) (in_left (wider s) (map wider rows) _ (in_map wider s rows i)))),
          omega (arith, ints, up, down, value-up_to, value-down_to),
        )

    pub sum_with_point : AllHold rows (over d ns) → row_value r (over d ns) ≡ m → AllHold (with_sum r rows) (over d (m ∷ ns))
    sum_with_point all e = AllHold-from_in (with_sum r rows) (over d (m ∷ ns)) (λ s i. elim (in_either s (map wider rows) _ i) [
      | inl j ↦ (let (t, k, same) = out_map wider s rows j in
          subst (λ u. Holds u (over d (m ∷ ns))) (sym same) (subst (Allows t.strict) (sym (value-wider t)) (AllHold-at_in rows (over d ns) all t k)))
      | inr j ↦ last s j
    ])
      where
        last : (s : Row) → In s (up_to ∷ down_to ∷ []) → Holds s (over d (m ∷ ns))
        last s (inl same) = subst (λ u. Holds u (over d (m ∷ ns))) (sym same) (omega (arith, ints, e, value-up_to))
        last s (inr (inl same)) = subst (λ u. Holds u (over d (m ∷ ns))) (sym same) (omega (arith, ints, e, value-down_to))
        last s (inr (inr i)) = absurd i

pub wide_with_sum : (r : Row) (rows : List Row) → AllWide (length r.coef) rows → AllWide (length r.coef + 1) (with_sum r rows)
wide_with_sum r rows wide =
    let P : Row → Type 0 = λ s. length s.coef ≡ length r.coef + 1 in
    All-append P (map wider rows) (up_to r ∷ down_to r ∷ [])
    (All-map P wider rows (All-weaker (λ s. length s.coef ≡ length r.coef) (λ s. suc (length s.coef) ≡ length r.coef + 1) (λ s e. omega (arith, e)) rows wide))
    (All-cons P (up_to r) (down_to r ∷ []) (omega (arith, length-map r.coef neg_ℤ)) (All-cons P (down_to r) [] (omega arith) (All-nil P)))

-- ---- what is left of it in its first column

-- v in the first column, and 0 in n others
abbrev front : ℕ → Fraction → Point
front n v = over v.den (v.num ∷ replicate n (pos 0))

value-front : (n : ℕ) (s : Row) (v : Fraction) → row_value s (front n v) ≡ coef_at 0 s *ℤ v.num +ℤ s.cst *ℤ v.den
value-front n s v = go s.coef
  where
    go : (cs : List ℤ) → dot cs (v.num ∷ replicate n (pos 0)) +ℤ s.cst *ℤ v.den ≡ get_or cs 0 (pos 0) *ℤ v.num +ℤ s.cst *ℤ v.den
    go [] = omega (arith, ints)
    go (c ∷ cs) = omega (arith, ints, dot-zeros cs n)

module _ (n : ℕ) (r : Row) (rows : List Row) where
  extension_sum : (v : Fraction) (q : Point) → IsExtension (n + 1) 1 (with_sum r rows) (front n v) q → IsSum n rows r v
  extension_sum v q e = go q.num q.den e
    where
      go : (ns : List ℤ) (d : ℤ) → IsExtension (n + 1) 1 (with_sum r rows) (front n v) (over d ns) → IsSum n rows r v
      go [] d e = absurd (let l = e.sized in omega (arith, l))
      go (m ∷ ns) d e =
          let (all, sum) = point_with_sum r rows d m ns e.holds in
          let same : v.num *ℤ d ≡ m *ℤ v.den = ap (λ zs. get_or zs 0 (pos 0)) e.same in (
            over d ns,
            record { positive = e.positive; sized = (let l = e.sized in omega (arith, l)); holds = all },
            ap (λ z. z *ℤ v.den) sum ∙ sym same,
          )

  sum_extension : (v : Fraction) → IsSum n rows r v → (q : Point) × IsExtension (n + 1) 1 (with_sum r rows) (front n v) q
  sum_extension v (p, is, e) = (
    over p.den (row_value r p ∷ p.num),
    record {
      positive = is.positive;
      sized = (let l = is.sized in omega (arith, l));
      same = ap (λ z. z ∷ []) (sym e);
      holds = sum_with_point r rows p.den (row_value r p) p.num is.holds refl;
    },
  )

  -- v is a sum exactly where the rows that are left hold at it
  pub left_sums : (left : List Row) → IsLevel (n + 1) 1 (with_sum r rows) left → (v : Fraction) → IsFraction v → IsSum n rows r v ↔ All (λ s. HoldsAt s v) left
  left_sums left level v hv =
      let l : length (v.num ∷ replicate n (pos 0)) ≡ n + 1 = omega (arith, length-replicate n (pos 0)) in
      let both = level.same (front n v) hv l in (
        λ s k t lt. (let u : Row = get_or left k t in subst (Allows u.strict) (value-front n u v) (both.1 (sum_extension v s) k t lt)),
        λ h. (let (q, e) = both.0 (λ k t lt. (let u : Row = get_or left k t in subst (Allows u.strict) (sym (value-front n u v)) (h k t lt))) in extension_sum v q e),
      )

  -- the wider system has a point exactly where the system has one
  pub point_back : HasPoint (n + 1) (with_sum r rows) → HasPoint n rows
  point_back (q, hq, l, all) = go q.num q.den hq l all
    where
      go : (ns : List ℤ) (d : ℤ) → pos 0 <ℤ d → length ns ≡ n + 1 → AllHold (with_sum r rows) (over d ns) → HasPoint n rows
      go [] d h l all = absurd (omega arith)
      go (m ∷ ns) d h l all = (over d ns, h, omega (arith, l), (point_with_sum r rows d m ns all).0)

  pub point_forth : HasPoint n rows → HasPoint (n + 1) (with_sum r rows)
  point_forth (p, hp, l, all) =
      (over p.den (row_value r p ∷ p.num), hp, omega (arith, l), sum_with_point r rows p.den (row_value r p) p.num all refl)
