-- The systems of legs and jumps hold exactly on legs and jumps.
use Rattle.std.proofs.Common.{◌≡◌, ◌≢◌, ◌↔◌, ◌⊎◌, inl, inr, ℕ, zero, suc, ◌+◌, ◌*◌, ◌<◌, ◌≤◌, Bool, List, [], ◌∷◌, ◌++◌, length, length-append, length-take, length-drop, append_assoc, take, drop, map, set, get_or, refl, sym, ◌∙◌, ap, subst, arith, ℤ, pos, negsuc, ◌+ℤ◌, ◌-ℤ◌, ◌*ℤ◌, ◌≤ℤ◌, ◌<ℤ◌, neg_ℤ}
use Rattle.std.specs.Prelude.{IsFalse}
use Rattle.std.proofs.lemmas.Int.{ints}
use Rattle.poly_specs.proofs.IntLemmas.{products, expand, neg_mul, le_cancel}
use Rattle.poly_specs.proofs.LinearLemmas.{dot-append, Allows-at_most}
use Rattle.poly_specs.proofs.InclusionLemmas.{in_left, in_right, in_either}
use Rattle.poly_specs.proofs.EliminationLemmas.{AllHold-from_in, AllHold-at_in, out_map, in_map, width_in}
use Rattle.std.proofs.lemmas.Bool.{cases_lt}
use Rattle.std.proofs.lemmas.List.{get_or-map, length-map}
use Rattle.run_specs.specs.Automaton.{Automaton, Location, never, width, location_at, transition_at}
use Rattle.run_specs.specs.WellFormed.{IsLocation}
use Rattle.run_specs.specs.Runs.{IsLeg, IsJump}
use Rattle.poly_specs.specs.Lists.{dot, minus, number_at}
use Rattle.poly_specs.specs.Rows.{Point, Row, over, row_value, Allows, Holds, AllHold, AllWide, coef_at}
use Rattle.run_specs.specs.Stages.{zeros, row_of, leg_before, leg_slope, leg_inside_before, leg_inside_after, leg_rows, leg_point, jump_before, jump_related, jump_inside_after, jump_rows, jump_point}

-- ---- sums of products

pub dot-zeros : (n : ℕ) (ns : List ℤ) → dot (zeros n) ns ≡ pos 0
dot-zeros zero ns = refl
dot-zeros (suc n) [] = refl
dot-zeros (suc n) (m ∷ ns) = omega (arith, ints, dot-zeros n ns)

pub length-zeros : (n : ℕ) → length (zeros n) ≡ n
length-zeros zero = refl
length-zeros (suc n) = omega (arith, length-zeros n)

dot-neg : (cs ns : List ℤ) → dot (map neg_ℤ cs) ns ≡ neg_ℤ (dot cs ns)
dot-neg [] ns = refl
dot-neg (c ∷ cs) [] = refl
dot-neg (c ∷ cs) (n ∷ ns) = simp expand (omega (arith, ints, products, dot-neg cs ns))

dot-minus : (cs ms ns : List ℤ) → length ms ≡ length ns → dot cs (minus ms ns) ≡ dot cs ms -ℤ dot cs ns
dot-minus [] ms ns e = refl
dot-minus (c ∷ cs) [] [] e = refl
dot-minus (c ∷ cs) [] (n ∷ ns) e = absurd (omega arith)
dot-minus (c ∷ cs) (m ∷ ms) [] e = absurd (omega arith)
dot-minus (c ∷ cs) (m ∷ ms) (n ∷ ns) e = simp expand (omega (arith, products, dot-minus cs ms ns (omega arith)))

pub length-minus : (ms ns : List ℤ) → length ms ≡ length ns → length (minus ms ns) ≡ length ns
length-minus [] [] e = refl
length-minus [] (n ∷ ns) e = absurd (omega arith)
length-minus (m ∷ ms) [] e = absurd (omega arith)
length-minus (m ∷ ms) (n ∷ ns) e = ap suc (length-minus ms ns (omega arith))

dot-last_here : (cs ns : List ℤ) (t : ℤ) → length cs ≡ suc (length ns) →
    dot cs (ns ++ t ∷ []) ≡ dot (take (length ns) cs) ns +ℤ get_or cs (length ns) (pos 0) *ℤ t
dot-last_here [] ns t e = absurd (omega arith)
dot-last_here (c ∷ []) [] t e = omega (arith, ints)
dot-last_here (c ∷ d ∷ cs) [] t e = absurd (omega arith)
dot-last_here (c ∷ cs) (n ∷ ns) t e = omega (arith, ints, dot-last_here cs ns t (omega arith))

pub dot-last : (m : ℕ) (cs ns : List ℤ) (t : ℤ) → length cs ≡ m + 1 → length ns ≡ m → dot cs (ns ++ t ∷ []) ≡ dot (take m cs) ns +ℤ number_at m cs *ℤ t
dot-last m cs ns t e f =
    subst (λ k. dot cs (ns ++ t ∷ []) ≡ dot (take k cs) ns +ℤ number_at k cs *ℤ t) f (dot-last_here cs ns t (omega arith))

pub dot-row_of : (n x : ℕ) (c : ℤ) (ns : List ℤ) → x < n → dot (set (zeros n) x c) ns ≡ c *ℤ number_at x ns
dot-row_of zero x c ns h = absurd (omega arith)
dot-row_of (suc n) zero c [] h = omega (arith, ints)
dot-row_of (suc n) zero c (m ∷ ns) h = omega (arith, ints, dot-zeros n ns)
dot-row_of (suc n) (suc x) c [] h = omega (arith, ints)
dot-row_of (suc n) (suc x) c (m ∷ ns) h = omega (arith, ints, dot-row_of n x c ns (omega arith))

-- ---- systems

pub holds_both : (rows more : List Row) (p : Point) → AllHold (rows ++ more) p ↔ AllHold rows p × AllHold more p
holds_both rows more p = (
  λ h. (
    AllHold-from_in rows p (λ r i. AllHold-at_in (rows ++ more) p h r (in_left r rows more i)),
    AllHold-from_in more p (λ r i. AllHold-at_in (rows ++ more) p h r (in_right r rows more i)),
  ),
  λ h. AllHold-from_in (rows ++ more) p (λ r i. elim (in_either r rows more i) [
    | inl j ↦ AllHold-at_in rows p h.0 r j
    | inr j ↦ AllHold-at_in more p h.1 r j
  ]),
)

pub holds_first : (r : Row) (rows : List Row) (p : Point) → AllHold (r ∷ rows) p ↔ Holds r p × AllHold rows p
holds_first r rows p = (
  λ h. (AllHold-at_in (r ∷ rows) p h r (inl refl), AllHold-from_in rows p (λ s i. AllHold-at_in (r ∷ rows) p h s (inr i))),
  λ h. AllHold-from_in (r ∷ rows) p (λ s i. elim i [
    | inl e ↦ subst (λ z. Holds z p) (sym e) h.0
    | inr j ↦ AllHold-at_in rows p h.1 s j
  ]),
)

-- rows that are moved hold where the rows hold at the other point
pub holds_moved : (w : ℕ) (move : Row → Row) (p q : Point) → ((r : Row) → length r.coef ≡ w → Holds (move r) p ↔ Holds r q) →
    (rows : List Row) → AllWide w rows → AllHold (map move rows) p ↔ AllHold rows q
holds_moved w move p q same rows wide = (
  λ h. AllHold-from_in rows q (λ r i. (same r (width_in w rows wide r i)).0 (AllHold-at_in (map move rows) p h (move r) (in_map move r rows i))),
  λ h. AllHold-from_in (map move rows) p (λ s i.
      let y = out_map move s rows i in
      subst (λ z. Holds z p) (sym y.2) ((same y.0 (width_in w rows wide y.0 y.1)).1 (AllHold-at_in rows q h y.0 y.1))),
)

pub by_value : (s : Bool) (v w : ℤ) → v ≡ w → Allows s v ↔ Allows s w
by_value s v w e = (λ h. subst (Allows s) e h, λ h. subst (Allows s) (sym e) h)

-- ---- the rows of a leg

pub leg_before_holds : (m : ℕ) (d : ℤ) (q : List ℤ) (e t : ℤ) (p : List ℤ) → length q ≡ m → length p ≡ m → (r : Row) → length r.coef ≡ m + 1 →
    Holds (leg_before m r) (leg_point d q e t p) ↔ Holds r (over d (p ++ (e -ℤ t) ∷ []))
leg_before_holds m d q e t p lq lp r lr =
    by_value r.strict _ _
    (let a = dot-append (zeros m) (number_at m r.coef ∷ neg_ℤ (number_at m r.coef) ∷ take m r.coef) q (e ∷ t ∷ p) (length-zeros m ∙ sym lq) in
    let z = dot-zeros m q in
    let l = dot-last m r.coef p (e -ℤ t) lr lp in
    omega (arith, products, a, z, simp expand at l, neg_mul (number_at m r.coef) t))

pub leg_slope_holds : (m : ℕ) (d : ℤ) (q : List ℤ) (e t : ℤ) (p : List ℤ) → length q ≡ m → length p ≡ m → (r : Row) → length r.coef ≡ m + 1 →
    Holds (leg_slope m r) (leg_point d q e t p) ↔ Holds r (over d (minus q p ++ t ∷ []))
leg_slope_holds m d q e t p lq lp r lr =
    by_value r.strict _ _
    (let u : List ℤ = take m r.coef in
    let a = dot-append u (pos 0 ∷ number_at m r.coef ∷ map neg_ℤ u) q (e ∷ t ∷ p) (omega (arith, length-take m r.coef)) in
    let n = dot-neg u p in
    let l = dot-last m r.coef (minus q p) t lr (length-minus q p (lq ∙ sym lp) ∙ lp) in
    let s = dot-minus u q p (lq ∙ sym lp) in
    omega (arith, ints, a, n, l, s))

pub leg_inside_before_holds : (m : ℕ) (d : ℤ) (q : List ℤ) (e t : ℤ) (p : List ℤ) → length q ≡ m → length p ≡ m → (r : Row) → length r.coef ≡ m →
    Holds (leg_inside_before m r) (leg_point d q e t p) ↔ Holds r (over d p)
leg_inside_before_holds m d q e t p lq lp r lr =
    by_value r.strict _ _
    (let l : length (q ++ e ∷ t ∷ []) ≡ m + 2 = omega (arith, length-append q (e ∷ t ∷ [])) in
    let a = dot-append (zeros (m + 2)) r.coef (q ++ e ∷ t ∷ []) p (length-zeros (m + 2) ∙ sym l) in
    let z = dot-zeros (m + 2) (q ++ e ∷ t ∷ []) in
    let same : (q ++ e ∷ t ∷ []) ++ p ≡ q ++ e ∷ t ∷ p = append_assoc q (e ∷ t ∷ []) p in
    let b = ap (dot (zeros (m + 2) ++ r.coef)) same in
    omega (arith, ints, a, z, b))

pub leg_inside_after_holds : (m : ℕ) (d : ℤ) (q : List ℤ) (e t : ℤ) (p : List ℤ) → length q ≡ m → length p ≡ m → (r : Row) → length r.coef ≡ m →
    Holds (leg_inside_after m r) (leg_point d q e t p) ↔ Holds r (over d q)
leg_inside_after_holds m d q e t p lq lp r lr =
    by_value r.strict _ _
    (let a = dot-append r.coef (zeros (m + 2)) q (e ∷ t ∷ p) (lr ∙ sym lq) in
    let z = dot-zeros (m + 2) (e ∷ t ∷ p) in
    omega (arith, ints, a, z))

-- a row of one column
pub row_of_value : (n x : ℕ) (c b : ℤ) (p : Point) → x < n → row_value (row_of n x c b) p ≡ c *ℤ number_at x p.num +ℤ b *ℤ p.den
row_of_value n x c b p h = ap (λ z. z +ℤ b *ℤ p.den) (dot-row_of n x c p.num h)

number_after : (m : ℕ) (q : List ℤ) (e t : ℤ) (p : List ℤ) → length q ≡ m → number_at (m + 1) (q ++ e ∷ t ∷ p) ≡ t
number_after m q e t p lq =
    let n : m + 1 ≡ suc (length q) = omega (arith, lq) in ap (λ k. number_at k (q ++ e ∷ t ∷ p)) n ∙ go q
  where
    go : (q : List ℤ) → number_at (suc (length q)) (q ++ e ∷ t ∷ p) ≡ t
    go [] = refl
    go (x ∷ q) = go q

pub lasts_holds : (m : ℕ) (d : ℤ) (q : List ℤ) (e t : ℤ) (p : List ℤ) → length q ≡ m →
    Holds (row_of (2 * m + 2) (m + 1) (negsuc 0) (pos 0)) (leg_point d q e t p) ↔ (pos 0 ≤ℤ t)
lasts_holds m d q e t p lq =
    let v = row_of_value (2 * m + 2) (m + 1) (negsuc 0) (pos 0) (leg_point d q e t p) (omega arith) in
    let n = number_after m q e t p lq in (
      λ h. (let v' = rw n at v in omega (arith, ints, h, v')),
      λ h. (let v' = rw n at v in omega (arith, ints, h, v')),
    )

-- ---- the boxes

dot-single : (j : ℕ) (cs ns : List ℤ) → ((i : ℕ) → i ≢ j → number_at i cs ≡ pos 0) → dot cs ns ≡ number_at j cs *ℤ number_at j ns
dot-single j [] ns f = omega (arith, ints)
dot-single zero (c ∷ cs) [] f = omega (arith, ints)
dot-single (suc j) (c ∷ cs) [] f = omega (arith, ints)
dot-single zero (c ∷ cs) (n ∷ ns) f = let z = dot-none cs ns (λ i. f (suc i) (λ e. omega (arith, e))) in omega (arith, ints, z)
  where
    dot-none : (cs ns : List ℤ) → ((i : ℕ) → number_at i cs ≡ pos 0) → dot cs ns ≡ pos 0
    dot-none [] ns f = refl
    dot-none (c ∷ cs) [] f = refl
    dot-none (c ∷ cs) (n ∷ ns) f =
        let z : c ≡ pos 0 = f 0 in let e : c *ℤ n ≡ pos 0 *ℤ n = ap (λ x. x *ℤ n) z in omega (arith, ints, e, dot-none cs ns (λ i. f (suc i)))
dot-single (suc j) (c ∷ cs) (n ∷ ns) f =
    let z : c ≡ pos 0 = f 0 (λ e. omega (arith, e)) in
    let e : c *ℤ n ≡ pos 0 *ℤ n = ap (λ x. x *ℤ n) z in
    omega (arith, ints, e, dot-single j cs ns (λ i g. f (suc i) (λ h. g (omega (arith, h)))))

-- a row of the slopes that bounds variable j alone, at a leg of length 0
box_at : (m j : ℕ) (d : ℤ) (q : List ℤ) (e : ℤ) (p : List ℤ) (r : Row) → length q ≡ m → length p ≡ m → length r.coef ≡ m + 1 → j < m →
    r.cst ≡ pos 0 → ((i : ℕ) → i < m → i ≢ j → coef_at i r ≡ pos 0) → Holds (leg_slope m r) (leg_point d q e (pos 0) p) →
    (coef_at j r *ℤ (number_at j q -ℤ number_at j p)) ≤ℤ pos 0
box_at m j d q e p r lq lp lr hj none others h =
    let u : List ℤ = take m r.coef in
    let g : Holds r (over d (minus q p ++ pos 0 ∷ [])) = (leg_slope_holds m d q e (pos 0) p lq lp r lr).0 h in
    let low = Allows-at_most r.strict _ g in
    let l = dot-last m r.coef (minus q p) (pos 0) lr (length-minus q p (lq ∙ sym lp) ∙ lp) in
    let one = dot-single j u (minus q p) (λ i ne. taken i ne) in
    let c : number_at j u ≡ coef_at j r = take_at m j r.coef hj in
    let n : number_at j (minus q p) ≡ number_at j q -ℤ number_at j p = minus_at j q p (lq ∙ sym lp) in
    let k : r.cst *ℤ d ≡ pos 0 *ℤ d = ap (λ z. z *ℤ d) none in
    let v = rw (c, n) at one in
    omega (arith, ints, low, l, v, k)
  where
    take_at : (m j : ℕ) (cs : List ℤ) → j < m → number_at j (take m cs) ≡ number_at j cs
    take_at zero j cs h = absurd (omega arith)
    take_at (suc m) j [] h = refl
    take_at (suc m) zero (c ∷ cs) h = refl
    take_at (suc m) (suc j) (c ∷ cs) h = take_at m j cs (omega arith)

    take_past : (m j : ℕ) (cs : List ℤ) → m ≤ j → number_at j (take m cs) ≡ pos 0
    take_past zero j cs h = refl
    take_past (suc m) j [] h = refl
    take_past (suc m) zero (c ∷ cs) h = absurd (omega arith)
    take_past (suc m) (suc j) (c ∷ cs) h = take_past m j cs (omega arith)

    minus_at : (j : ℕ) (ms ns : List ℤ) → length ms ≡ length ns → number_at j (minus ms ns) ≡ number_at j ms -ℤ number_at j ns
    minus_at j [] [] e = refl
    minus_at j [] (n ∷ ns) e = absurd (omega arith)
    minus_at j (m ∷ ms) [] e = absurd (omega arith)
    minus_at zero (m ∷ ms) (n ∷ ns) e = refl
    minus_at (suc j) (m ∷ ms) (n ∷ ns) e = minus_at j ms ns (omega arith)

    taken : (i : ℕ) → i ≢ j → number_at i (take m r.coef) ≡ pos 0
    taken i ne = elim (cases_lt i m) [
      | inl lt ↦ take_at m i r.coef lt ∙ others i lt ne
      | inr ge ↦ take_past m i r.coef ge
    ]

-- numbers that are equal place by place
same_numbers : (ps qs : List ℤ) → length qs ≡ length ps → ((j : ℕ) → j < length ps → number_at j qs ≡ number_at j ps) → qs ≡ ps
same_numbers [] [] e f = refl
same_numbers [] (q ∷ qs) e f = absurd (omega arith)
same_numbers (p ∷ ps) [] e f = absurd (omega arith)
same_numbers (p ∷ ps) (q ∷ qs) e f =
    let a : q ≡ p = f 0 (omega arith) in let b = same_numbers ps qs (omega arith) (λ j h. f (suc j) (omega arith)) in cc

below_zero : (c v : ℤ) → pos 0 <ℤ c → (c *ℤ v) ≤ℤ pos 0 → v ≤ℤ pos 0
below_zero c v h l = le_cancel c v (pos 0) h (omega (arith, ints))

above_zero : (c v : ℤ) → c <ℤ pos 0 → (c *ℤ v) ≤ℤ pos 0 → pos 0 ≤ℤ v
above_zero c v h l =
    let m : (neg_ℤ c *ℤ pos 0) ≤ℤ (neg_ℤ c *ℤ v) = omega (arith, ints, neg_mul c v, neg_mul c (pos 0)) in
    le_cancel (neg_ℤ c) (pos 0) v (omega (arith, ints)) m

-- a leg of length 0, read as a system, has equal ends
pub still_leg : (m : ℕ) (loc : Location) (d : ℤ) (q : List ℤ) (e : ℤ) (p : List ℤ) → IsLocation m loc → length q ≡ m → length p ≡ m →
    AllHold (map (leg_slope m) loc.slopes) (leg_point d q e (pos 0) p) → q ≡ p
still_leg m loc d q e p is lq lp h =
    same_numbers p q (lq ∙ sym lp) (λ j hj. at j (subst (λ k. j < k) lp hj))
  where
    at : (j : ℕ) → j < m → number_at j q ≡ number_at j p
    at j hj =
        let box = is.boxes j hj in
        let long = is.boxed in
        let above = box_at m j d q e p (get_or loc.slopes (2 * j) never) lq lp (is.slopes (2 * j) never (omega arith)) hj
        (is.homogeneous (2 * j) never (omega arith)).0 (λ i hi ne. (box.others i hi ne).0) (held (2 * j) (omega arith)) in
        let under = box_at m j d q e p (get_or loc.slopes (2 * j + 1) never) lq lp (is.slopes (2 * j + 1) never (omega arith)) hj
        (is.homogeneous (2 * j + 1) never (omega arith)).0 (λ i hi ne. (box.others i hi ne).1) (held (2 * j + 1) (omega arith)) in
        let le = below_zero _ _ box.above above in
        let ge = above_zero _ _ box.below under in
        omega (arith, ints, le, ge)
      where
        held : (i : ℕ) → i < length loc.slopes → Holds (leg_slope m (get_or loc.slopes i never)) (leg_point d q e (pos 0) p)
        held i hi =
            subst (λ r. Holds r (leg_point d q e (pos 0) p)) (get_or-map (leg_slope m) loc.slopes i never never hi)
            (h i never (omega (arith, length-map loc.slopes (leg_slope m))))

-- ---- the whole system of a leg

nothing_moves : (m : ℕ) (d : ℤ) (p : List ℤ) (r : Row) → length p ≡ m → length r.coef ≡ m + 1 → r.cst ≡ pos 0 → IsFalse r.strict → Holds r (over d (minus p p ++ pos 0 ∷ []))
nothing_moves m d p r lp lr none closed =
    let l = dot-last m r.coef (minus p p) (pos 0) lr (length-minus p p refl ∙ lp) in
    let s = dot-minus (take m r.coef) p p refl in
    let k : r.cst *ℤ d ≡ pos 0 *ℤ d = ap (λ z. z *ℤ d) none in
    let v : row_value r (over d (minus p p ++ pos 0 ∷ [])) ≤ℤ pos 0 = omega (arith, ints, l, s, k) in
    subst (λ b. Allows b (row_value r (over d (minus p p ++ pos 0 ∷ [])))) (sym closed) v

zero_or_positive : (t : ℤ) → pos 0 ≤ℤ t → (t ≡ pos 0) ⊎ (pos 0 <ℤ t)
zero_or_positive (pos zero) h = inl refl
zero_or_positive (pos (suc n)) h = inr (omega (arith, ints))
zero_or_positive (negsuc n) h = absurd (omega (arith, ints))

-- the slope rows hold of each leg, also of length 0
pub slopes_at : (m : ℕ) (loc : Location) (d : ℤ) (q : List ℤ) (t : ℤ) (p : List ℤ) → IsLocation m loc → length p ≡ m → IsLeg loc d p t q →
    AllHold loc.slopes (over d (minus q p ++ t ∷ []))
slopes_at m loc d q t p is lp leg = elim (zero_or_positive t leg.lasts) [
  | inl z ↦ subst (λ x. AllHold loc.slopes (over d (minus q p ++ x ∷ []))) (sym z)
      (subst (λ x. AllHold loc.slopes (over d (minus x p ++ pos 0 ∷ []))) (sym (leg.still z))
      (λ i r h. nothing_moves m d p (get_or loc.slopes i r) lp (is.slopes i r h) (is.homogeneous i r h).0 (is.homogeneous i r h).1))
  | inr po ↦ leg.straight po
]

slopes_hold : (m : ℕ) (loc : Location) (d : ℤ) (q : List ℤ) (e t : ℤ) (p : List ℤ) → IsLocation m loc → length q ≡ m → length p ≡ m →
    IsLeg loc d p t q → AllHold (map (leg_slope m) loc.slopes) (leg_point d q e t p)
slopes_hold m loc d q e t p is lq lp leg =
    let s = holds_moved (m + 1) (leg_slope m) (leg_point d q e t p) (over d (minus q p ++ t ∷ [])) (leg_slope_holds m d q e t p lq lp) loc.slopes is.slopes in
    s.1 (slopes_at m loc d q t p is lp leg)

-- it holds exactly where the state holds before the leg and the leg leads from p to q in time t
pub leg_exact : (a : Automaton) (l : ℕ) (state : List Row) (d : ℤ) (q : List ℤ) (e t : ℤ) (p : List ℤ) →
    IsLocation (width a) (location_at a l) → AllWide (width a + 1) state → length q ≡ width a → length p ≡ width a →
    AllHold (leg_rows a l state) (leg_point d q e t p) ↔ AllHold state (over d (p ++ (e -ℤ t) ∷ [])) × IsLeg (location_at a l) d p t q
leg_exact a l state d q e t p is wide lq lp =
    let m : ℕ = width a in
    let loc : Location = location_at a l in
    let at : Point = leg_point d q e t p in
    let s1 = holds_moved (m + 1) (leg_before m) at (over d (p ++ (e -ℤ t) ∷ [])) (leg_before_holds m d q e t p lq lp) state wide in
    let s2 = holds_moved m (leg_inside_before m) at (over d p) (leg_inside_before_holds m d q e t p lq lp) loc.invariant is.invariant in
    let s3 = holds_moved m (leg_inside_after m) at (over d q) (leg_inside_after_holds m d q e t p lq lp) loc.invariant is.invariant in
    let s4 = lasts_holds m d q e t p lq in
    let s5 = holds_moved (m + 1) (leg_slope m) at (over d (minus q p ++ t ∷ [])) (leg_slope_holds m d q e t p lq lp) loc.slopes is.slopes in
    let t3 : List Row = row_of (2 * m + 2) (m + 1) (negsuc 0) (pos 0) ∷ map (leg_slope m) loc.slopes in
    let b1 = holds_both (map (leg_before m) state) (map (leg_inside_before m) loc.invariant) at in
    let b2 = holds_both (map (leg_before m) state ++ map (leg_inside_before m) loc.invariant) (map (leg_inside_after m) loc.invariant) at in
    let b3 = holds_both (map (leg_before m) state ++ map (leg_inside_before m) loc.invariant ++ map (leg_inside_after m) loc.invariant) t3 at in
    let b4 = holds_first (row_of (2 * m + 2) (m + 1) (negsuc 0) (pos 0)) (map (leg_slope m) loc.slopes) at in (
      λ h.
          let h3 = b3.0 h in
          let h2 = b2.0 h3.0 in
          let h1 = b1.0 h2.0 in
          let h4 = b4.0 h3.1 in (
            s1.0 h1.0,
            record {
              same_size = lq ∙ sym lp;
              lasts = s4.0 h4.0;
              inside_before = s2.0 h1.1;
              inside_after = s3.0 h2.1;
              still = λ z. still_leg m loc d q e p is lq lp (subst (λ x. AllHold (map (leg_slope m) loc.slopes) (leg_point d q e x p)) z h4.1);
              straight = λ _. s5.0 h4.1;
            },
          ),
      λ h. b3.1 (b2.1 (b1.1 (s1.1 h.0, s2.1 h.1.inside_before), s3.1 h.1.inside_after), b4.1 (s4.1 h.1.lasts, slopes_hold m loc d q e t p is lq lp h.1)),
    )

-- ---- jumps

jump_before_holds : (m : ℕ) (d : ℤ) (q : List ℤ) (e : ℤ) (p : List ℤ) → length q ≡ m → length p ≡ m → (r : Row) → length r.coef ≡ m + 1 →
    Holds (jump_before m r) (jump_point d q e p) ↔ Holds r (over d (p ++ e ∷ []))
jump_before_holds m d q e p lq lp r lr =
    by_value r.strict _ _
    (let a = dot-append (zeros m) (number_at m r.coef ∷ take m r.coef) q (e ∷ p) (length-zeros m ∙ sym lq) in
    let z = dot-zeros m q in
    let l = dot-last m r.coef p e lr lp in
    omega (arith, ints, a, z, l))

jump_related_holds : (m : ℕ) (d : ℤ) (q : List ℤ) (e : ℤ) (p : List ℤ) → length q ≡ m → length p ≡ m → (r : Row) → length r.coef ≡ m + m →
    Holds (jump_related m r) (jump_point d q e p) ↔ Holds r (over d (p ++ q))
jump_related_holds m d q e p lq lp r lr =
    by_value r.strict _ _
    (let a = dot-append (drop m r.coef) (pos 0 ∷ take m r.coef) q (e ∷ p) (omega (arith, length-drop m r.coef)) in
    let b = dot-append (take m r.coef) (drop m r.coef) p q (omega (arith, length-take m r.coef)) in
    let same : take m r.coef ++ drop m r.coef ≡ r.coef = take_drop m r.coef in
    let c : dot (take m r.coef ++ drop m r.coef) (p ++ q) ≡ dot r.coef (p ++ q) = ap (λ cs. dot cs (p ++ q)) same in
    omega (arith, ints, a, b, c))
  where
    take_drop : (m : ℕ) (cs : List ℤ) → take m cs ++ drop m cs ≡ cs
    take_drop zero cs = refl
    take_drop (suc m) [] = refl
    take_drop (suc m) (c ∷ cs) = ap (λ ds. c ∷ ds) (take_drop m cs)

jump_inside_after_holds : (m : ℕ) (d : ℤ) (q : List ℤ) (e : ℤ) (p : List ℤ) → length q ≡ m → length p ≡ m → (r : Row) → length r.coef ≡ m →
    Holds (jump_inside_after m r) (jump_point d q e p) ↔ Holds r (over d q)
jump_inside_after_holds m d q e p lq lp r lr =
    by_value r.strict _ _
    (let a = dot-append r.coef (zeros (m + 1)) q (e ∷ p) (lr ∙ sym lq) in
    let z = dot-zeros (m + 1) (e ∷ p) in
    omega (arith, ints, a, z))

-- the system of a jump holds exactly where the state holds before it and the transition leads from p to q
pub jump_exact : (a : Automaton) (e : ℕ) (state : List Row) (d : ℤ) (q : List ℤ) (elapsed : ℤ) (p : List ℤ) →
    AllWide (width a + width a) (transition_at a e).relation → AllWide (width a) (location_at a (transition_at a e).target).invariant →
    AllWide (width a + 1) state → length q ≡ width a → length p ≡ width a →
    AllHold (jump_rows a e state) (jump_point d q elapsed p) ↔ AllHold state (over d (p ++ elapsed ∷ [])) × IsJump a e d p q
jump_exact a e state d q elapsed p wr wi wide lq lp =
    let m : ℕ = width a in
    let inv : List Row = (location_at a (transition_at a e).target).invariant in
    let rel : List Row = (transition_at a e).relation in
    let at : Point = jump_point d q elapsed p in
    let s1 = holds_moved (m + 1) (jump_before m) at (over d (p ++ elapsed ∷ [])) (jump_before_holds m d q elapsed p lq lp) state wide in
    let s2 = holds_moved (m + m) (jump_related m) at (over d (p ++ q)) (jump_related_holds m d q elapsed p lq lp) rel wr in
    let s3 = holds_moved m (jump_inside_after m) at (over d q) (jump_inside_after_holds m d q elapsed p lq lp) inv wi in
    let b1 = holds_both (map (jump_before m) state) (map (jump_related m) rel) at in
    let b2 = holds_both (map (jump_before m) state ++ map (jump_related m) rel) (map (jump_inside_after m) inv) at in (
      λ h.
          let h2 = b2.0 h in
          let h1 = b1.0 h2.0 in
          (s1.0 h1.0, record { same_size = lq ∙ sym lp; related = s2.0 h1.1; inside_after = s3.0 h2.1 }),
      λ h. b2.1 (b1.1 (s1.1 h.0, s2.1 h.1.related), s3.1 h.1.inside_after),
    )
