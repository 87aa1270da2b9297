-- The rows after a leg or a jump hold exactly at the ends of legs and jumps.
use Rattle.std.proofs.Common.{◌≡◌, ◌↔◌, inl, inr, ℕ, zero, suc, ◌+◌, ◌*◌, List, [], ◌∷◌, ◌++◌, length, length-append, append_assoc, length-take, length-drop, take, drop, map, refl, sym, ◌∙◌, ap, subst, arith, ℤ, pos, negsuc, neg_ℤ, ◌+ℤ◌, ◌*ℤ◌, ◌<ℤ◌}
use Rattle.std.proofs.lemmas.Int.{ints}
use Rattle.std.proofs.lemmas.List.{length-map, length-set}
use Rattle.std.specs.List.{AllByRecursion}
use Rattle.std.proofs.lemmas.List.Elements.{All-from_recursion}
use Rattle.poly_specs.proofs.InclusionLemmas.{in_left, in_either}
use Rattle.poly_specs.proofs.EliminationLemmas.{AllHold-from_in, AllHold-at_in, out_map, in_map, width_in}
use Rattle.poly_specs.proofs.DownLemmas.{columns_projected}
use Rattle.run_specs.proofs.StageLemmas.{leg_exact, jump_exact, length-zeros, by_value}
use Rattle.poly_specs.specs.Lists.{In, dot, number_at}
use Rattle.poly_specs.specs.Rows.{Point, Row, over, SamePoint, Holds, AllHold, AllWide, SomeValuesHold}
use Rattle.poly_specs.specs.Elimination.{eliminated_each, columns_down}
use Rattle.run_specs.specs.Automaton.{Automaton, Location, width, location_at, transition_at}
use Rattle.run_specs.specs.WellFormed.{IsLocation}
use Rattle.run_specs.specs.Ends.{SomeLegEnds, SomeJumpEnds}
use Rattle.poly_specs.specs.Columns.{cut}
use Rattle.run_specs.specs.Stages.{zeros, rows_after, row_of, leg_before, leg_inside_before, leg_inside_after, leg_slope, leg_rows, leg_point, leg_stage, jump_before, jump_related, jump_inside_after, jump_rows, jump_point, jump_stage}

-- ---- widths

pub wide_from : (w : ℕ) (rows : List Row) → ((r : Row) → In r rows → length r.coef ≡ w) → AllWide w rows
wide_from w rows f = All-from_recursion (λ r. length r.coef ≡ w) rows (go rows f)
  where
    go : (rows : List Row) → ((r : Row) → In r rows → length r.coef ≡ w) → AllByRecursion (λ r. length r.coef ≡ w) rows
    go [] f = tt
    go (r ∷ rows) f = (f r (inl refl), go rows (λ s i. f s (inr i)))

pub wide_both : (w : ℕ) (rows more : List Row) → AllWide w rows → AllWide w more → AllWide w (rows ++ more)
wide_both w rows more h g = wide_from w (rows ++ more) (λ r i. elim (in_either r rows more i) [
  | inl j ↦ width_in w rows h r j
  | inr j ↦ width_in w more g r j
])

pub wide_first : (w : ℕ) (r : Row) (rows : List Row) → length r.coef ≡ w → AllWide w rows → AllWide w (r ∷ rows)
wide_first w r rows h g = wide_from w (r ∷ rows) (λ s i. elim i [
  | inl e ↦ ap (λ z. length z.coef) e ∙ h
  | inr j ↦ width_in w rows g s j
])

pub wide_moved : (w v : ℕ) (move : Row → Row) (rows : List Row) → AllWide w rows → ((r : Row) → length r.coef ≡ w → length (move r).coef ≡ v) → AllWide v (map move rows)
wide_moved w v move rows h f = wide_from v (map move rows) (λ s i.
    let y = out_map move s rows i in ap (λ z. length z.coef) y.2 ∙ f y.0 (width_in w rows h y.0 y.1))

length-leg_before : (m : ℕ) (r : Row) → length r.coef ≡ m + 1 → length (leg_before m r).coef ≡ m + 1 + (m + 1)
length-leg_before m r e =
    let a = length-append (zeros m) (number_at m r.coef ∷ neg_ℤ (number_at m r.coef) ∷ take m r.coef) in
    omega (arith, a, length-zeros m, length-take m r.coef)

length-leg_slope : (m : ℕ) (r : Row) → length r.coef ≡ m + 1 → length (leg_slope m r).coef ≡ m + 1 + (m + 1)
length-leg_slope m r e =
    let a = length-append (take m r.coef) (pos 0 ∷ number_at m r.coef ∷ map neg_ℤ (take m r.coef)) in
    omega (arith, a, length-take m r.coef, length-map (take m r.coef) neg_ℤ)

pub leg_wide : (a : Automaton) (l : ℕ) (state : List Row) → IsLocation (width a) (location_at a l) → AllWide (width a + 1) state →
    AllWide (width a + 1 + (width a + 1)) (leg_rows a l state)
leg_wide a l state is wide =
    let m : ℕ = width a in
    let w : ℕ = m + 1 + (m + 1) in
    let loc : Location = location_at a l in
    let one = wide_moved (m + 1) w (leg_before m) state wide (length-leg_before m) in
    let two = wide_moved m w (leg_inside_before m) loc.invariant is.invariant (λ r e. omega (arith, e, length-append (zeros (m + 2)) r.coef, length-zeros (m + 2))) in
    let three = wide_moved m w (leg_inside_after m) loc.invariant is.invariant (λ r e. omega (arith, e, length-append r.coef (zeros (m + 2)), length-zeros (m + 2))) in
    let five = wide_moved (m + 1) w (leg_slope m) loc.slopes is.slopes (length-leg_slope m) in
    let t : length (row_of (2 * m + 2) (m + 1) (negsuc 0) (pos 0)).coef ≡ w = omega (arith, length-set (zeros (2 * m + 2)) (m + 1) (negsuc 0), length-zeros (2 * m + 2)) in
    wide_both w (map (leg_before m) state ++ map (leg_inside_before m) loc.invariant ++ map (leg_inside_after m) loc.invariant) _
    (wide_both w (map (leg_before m) state ++ map (leg_inside_before m) loc.invariant) _ (wide_both w (map (leg_before m) state) _ one two) three)
    (wide_first w (row_of (2 * m + 2) (m + 1) (negsuc 0) (pos 0)) _ t five)

-- ---- rows that are cut

dot-cut : (cs ns : List ℤ) (k : ℕ) → dot (take (length ns) cs) ns ≡ dot cs (ns ++ zeros k)
dot-cut cs [] k = zero_end cs k
  where
    zero_end : (cs : List ℤ) (k : ℕ) → dot (take 0 cs) [] ≡ dot cs (zeros k)
    zero_end [] k = refl
    zero_end (c ∷ cs) zero = refl
    zero_end (c ∷ cs) (suc k) = omega (arith, ints, zero_end cs k)
dot-cut [] (n ∷ ns) k = refl
dot-cut (c ∷ cs) (n ∷ ns) k = ap (λ z. c *ℤ n +ℤ z) (dot-cut cs ns k)

cut_holds : (n k : ℕ) (d : ℤ) (ns : List ℤ) (r : Row) → length ns ≡ n → Holds (cut n r) (over d ns) ↔ Holds r (over d (ns ++ zeros k))
cut_holds n k d ns r e =
    let here : dot (take n r.coef) ns ≡ dot r.coef (ns ++ zeros k) = ap (λ m. dot (take m r.coef) ns) (sym e) ∙ dot-cut r.coef ns k in
    by_value r.strict _ _ (ap (λ z. z +ℤ r.cst *ℤ d) here)

pub all_cut : (n k : ℕ) (d : ℤ) (ns : List ℤ) (rows : List Row) → length ns ≡ n → AllHold (map (cut n) rows) (over d ns) ↔ AllHold rows (over d (ns ++ zeros k))
all_cut n k d ns rows e = (
  λ h. AllHold-from_in rows (over d (ns ++ zeros k)) (λ r i. (cut_holds n k d ns r e).0 (AllHold-at_in (map (cut n) rows) (over d ns) h (cut n r) (in_map (cut n) r rows i))),
  λ h. AllHold-from_in (map (cut n) rows) (over d ns) (λ s i.
      let y = out_map (cut n) s rows i in
      subst (λ z. Holds z (over d ns)) (sym y.2) ((cut_holds n k d ns y.0 e).1 (AllHold-at_in rows (over d (ns ++ zeros k)) h y.0 y.1))),
)

-- ---- the ends of legs

take_all : (ns more : List ℤ) → take (length ns) (ns ++ more) ≡ ns
take_all [] more = refl
take_all (n ∷ ns) more = ap (λ z. n ∷ z) (take_all ns more)

pub take_n : (n : ℕ) (ns more : List ℤ) → length ns ≡ n → take n (ns ++ more) ≡ ns
take_n n ns more e = ap (λ k. take k (ns ++ more)) (sym e) ∙ take_all ns more

record Split (k j : ℕ) (ns q : List ℤ) (e t : ℤ) (p : List ℤ) : Type 0 where
  is : ns ≡ q ++ e ∷ t ∷ p
  first : length q ≡ k
  last : length p ≡ j

split : (k j : ℕ) (ns : List ℤ) → length ns ≡ k + (2 + j) → (q : List ℤ) × (e : ℤ) × (t : ℤ) × (p : List ℤ) × Split k j ns q e t p
split zero j [] l = absurd (omega arith)
split zero j (e ∷ []) l = absurd (omega arith)
split zero j (e ∷ t ∷ p) l = ([], e, t, p, record { is = refl; first = refl; last = omega arith })
split (suc k) j [] l = absurd (omega arith)
split (suc k) j (n ∷ ns) l =
    let (q, e, t, p, s) = split k j ns (omega arith) in
    (n ∷ q, e, t, p, record { is = ap (λ z. n ∷ z) s.is; first = ap suc s.first; last = s.last })

-- the elapsed time ends the columns that are left
front : (m : ℕ) (q : List ℤ) (e t : ℤ) (p : List ℤ) → length q ≡ m → take (m + 1) (q ++ e ∷ t ∷ p) ≡ q ++ e ∷ []
front m q e t p l =
    ap (take (m + 1)) (sym (append_assoc q (e ∷ []) (t ∷ p)))
    ∙ take_n (m + 1) (q ++ e ∷ []) (t ∷ p) (omega (arith, length-append q (e ∷ [])))

left_of : (rows : List Row) (p : Point) → AllHold (rows ++ []) p ↔ AllHold rows p
left_of rows p = (
  λ h. AllHold-from_in rows p (λ r i. AllHold-at_in (rows ++ []) p h r (in_left r rows [] i)),
  λ h. AllHold-from_in (rows ++ []) p (λ r i. elim (in_either r rows [] i) [ inl j ↦ AllHold-at_in rows p h r j | inr j ↦ absurd j ]),
)

pub leg_ends : (a : Automaton) (l : ℕ) (state : List Row) (d : ℤ) (ns : List ℤ) → IsLocation (width a) (location_at a l) → AllWide (width a + 1) state →
    pos 0 <ℤ d → length ns ≡ width a + 1 → AllHold (rows_after (leg_stage a l state)) (over d ns) ↔ SomeLegEnds a l state (over d ns)
unfolding rows_after
leg_ends a l state d ns is wide hd ln =
    let m : ℕ = width a in
    let rows : List Row = leg_rows a l state in
    let gone : List Row = eliminated_each (columns_down (m + 1) (m + 1)) rows in
    let at : Point = over d (ns ++ zeros (m + 1)) in
    let cuts = all_cut (m + 1) (m + 1) d ns (gone ++ []) ln in
    let same = left_of gone at in
    let lat : length (ns ++ zeros (m + 1)) ≡ m + 1 + (m + 1) = omega (arith, length-append ns (zeros (m + 1)), length-zeros (m + 1), ln) in
    let proj = columns_projected (m + 1) (m + 1) rows at (leg_wide a l state is wide) lat hd in
    let head : take (m + 1) (ns ++ zeros (m + 1)) ≡ ns = take_n (m + 1) ns (zeros (m + 1)) ln in (
      λ h. found head (proj.0 (same.0 (cuts.0 h))),
      λ s. cuts.1 (same.1 (proj.1 (back head s))),
    )
  where
    found : take (width a + 1) (ns ++ zeros (width a + 1)) ≡ ns →
        SomeValuesHold (width a + 1 + (width a + 1)) (width a + 1) (leg_rows a l state) (over d (ns ++ zeros (width a + 1))) → SomeLegEnds a l state (over d ns)
    found head (r, ext) =
        let m : ℕ = width a in
        let lr = ext.sized in
        let (q, e, t, p, s) = split m m r.num (omega (arith, lr)) in
        let holds : AllHold (leg_rows a l state) (leg_point r.den q e t p) = subst (λ z. AllHold (leg_rows a l state) (over r.den z)) s.is ext.holds in
        let both = (leg_exact a l state r.den q e t p is wide s.first s.last).0 holds in
        let tail : take (m + 1) r.num ≡ q ++ e ∷ [] = ap (take (m + 1)) s.is ∙ front m q e t p s.first in (
          r.den,
          q,
          e,
          t,
          p,
          record {
            positive = ext.positive;
            sized = s.first;
            starts = both.0;
            leg = both.1;
            ends = subst (λ z. SamePoint (over d ns) (over r.den z)) tail (subst (λ z. SamePoint (over d z) (over r.den (take (m + 1) r.num))) head ext.same);
          },
        )

    back : take (width a + 1) (ns ++ zeros (width a + 1)) ≡ ns → SomeLegEnds a l state (over d ns) →
        SomeValuesHold (width a + 1 + (width a + 1)) (width a + 1) (leg_rows a l state) (over d (ns ++ zeros (width a + 1)))
    back head (c, q, e, t, p, s) =
        let m : ℕ = width a in
        let lp : length p ≡ m = sym s.leg.same_size ∙ s.sized in
        let holds = (leg_exact a l state c q e t p is wide s.sized lp).1 (s.starts, s.leg) in (
          leg_point c q e t p,
          record {
            positive = s.positive;
            sized = omega (arith, length-append q (e ∷ t ∷ p), lp, s.sized);
            same = subst (λ z. SamePoint (over d z) (over c (take (m + 1) (q ++ e ∷ t ∷ p)))) (sym head)
                (subst (λ z. SamePoint (over d ns) (over c z)) (sym (front m q e t p s.sized)) s.ends);
            holds = holds;
          },
        )

-- ---- the ends of jumps

length-jump_before : (m : ℕ) (r : Row) → length r.coef ≡ m + 1 → length (jump_before m r).coef ≡ m + 1 + m
length-jump_before m r e =
    let a = length-append (zeros m) (number_at m r.coef ∷ take m r.coef) in omega (arith, a, length-zeros m, length-take m r.coef)

length-jump_related : (m : ℕ) (r : Row) → length r.coef ≡ m + m → length (jump_related m r).coef ≡ m + 1 + m
length-jump_related m r e =
    let a = length-append (drop m r.coef) (pos 0 ∷ take m r.coef) in omega (arith, a, length-drop m r.coef, length-take m r.coef)

pub jump_wide : (a : Automaton) (e : ℕ) (state : List Row) →
    AllWide (width a + width a) (transition_at a e).relation → AllWide (width a) (location_at a (transition_at a e).target).invariant →
    AllWide (width a + 1) state → AllWide (width a + 1 + width a) (jump_rows a e state)
jump_wide a e state wr wi wide =
    let m : ℕ = width a in
    let w : ℕ = m + 1 + m in
    let inv : List Row = (location_at a (transition_at a e).target).invariant in
    let rel : List Row = (transition_at a e).relation in
    let one = wide_moved (m + 1) w (jump_before m) state wide (length-jump_before m) in
    let two = wide_moved (m + m) w (jump_related m) rel wr (length-jump_related m) in
    let three = wide_moved m w (jump_inside_after m) inv wi (λ r h. omega (arith, h, length-append r.coef (zeros (m + 1)), length-zeros (m + 1))) in
    wide_both w (map (jump_before m) state ++ map (jump_related m) rel) _ (wide_both w (map (jump_before m) state) _ one two) three

pub record SplitOne (k j : ℕ) (ns q : List ℤ) (e : ℤ) (p : List ℤ) : Type 0 where
  pub is : ns ≡ q ++ e ∷ p
  pub first : length q ≡ k
  pub last : length p ≡ j

pub split_one : (k j : ℕ) (ns : List ℤ) → length ns ≡ k + (1 + j) → (q : List ℤ) × (e : ℤ) × (p : List ℤ) × SplitOne k j ns q e p
split_one zero j [] l = absurd (omega arith)
split_one zero j (e ∷ p) l = ([], e, p, record { is = refl; first = refl; last = omega arith })
split_one (suc k) j [] l = absurd (omega arith)
split_one (suc k) j (n ∷ ns) l =
    let (q, e, p, s) = split_one k j ns (omega arith) in
    (n ∷ q, e, p, record { is = ap (λ z. n ∷ z) s.is; first = ap suc s.first; last = s.last })

front_one : (m : ℕ) (q : List ℤ) (e : ℤ) (p : List ℤ) → length q ≡ m → take (m + 1) (q ++ e ∷ p) ≡ q ++ e ∷ []
front_one m q e p l =
    ap (take (m + 1)) (sym (append_assoc q (e ∷ []) p))
    ∙ take_n (m + 1) (q ++ e ∷ []) p (omega (arith, length-append q (e ∷ [])))

pub jump_ends : (a : Automaton) (e : ℕ) (state : List Row) (d : ℤ) (ns : List ℤ) →
    AllWide (width a + width a) (transition_at a e).relation → AllWide (width a) (location_at a (transition_at a e).target).invariant →
    AllWide (width a + 1) state → pos 0 <ℤ d → length ns ≡ width a + 1 →
    AllHold (rows_after (jump_stage a e state)) (over d ns) ↔ SomeJumpEnds a e state (over d ns)
unfolding rows_after
jump_ends a e state d ns wr wi wide hd ln =
    let m : ℕ = width a in
    let rows : List Row = jump_rows a e state in
    let gone : List Row = eliminated_each (columns_down (m + 1) m) rows in
    let at : Point = over d (ns ++ zeros m) in
    let cuts = all_cut (m + 1) m d ns (gone ++ []) ln in
    let same = left_of gone at in
    let lat : length (ns ++ zeros m) ≡ m + 1 + m = omega (arith, length-append ns (zeros m), length-zeros m, ln) in
    let proj = columns_projected (m + 1) m rows at (jump_wide a e state wr wi wide) lat hd in
    let head : take (m + 1) (ns ++ zeros m) ≡ ns = take_n (m + 1) ns (zeros m) ln in (
      λ h. found head (proj.0 (same.0 (cuts.0 h))),
      λ s. cuts.1 (same.1 (proj.1 (back head s))),
    )
  where
    found : take (width a + 1) (ns ++ zeros (width a)) ≡ ns →
        SomeValuesHold (width a + 1 + width a) (width a + 1) (jump_rows a e state) (over d (ns ++ zeros (width a))) → SomeJumpEnds a e state (over d ns)
    found head (r, ext) =
        let m : ℕ = width a in
        let lr = ext.sized in
        let (q, t, p, s) = split_one m m r.num (omega (arith, lr)) in
        let holds : AllHold (jump_rows a e state) (jump_point r.den q t p) = subst (λ z. AllHold (jump_rows a e state) (over r.den z)) s.is ext.holds in
        let both = (jump_exact a e state r.den q t p wr wi wide s.first s.last).0 holds in
        let tail : take (m + 1) r.num ≡ q ++ t ∷ [] = ap (take (m + 1)) s.is ∙ front_one m q t p s.first in (
          r.den,
          q,
          t,
          p,
          record {
            positive = ext.positive;
            sized = s.first;
            starts = both.0;
            jump = both.1;
            ends = subst (λ z. SamePoint (over d ns) (over r.den z)) tail (subst (λ z. SamePoint (over d z) (over r.den (take (m + 1) r.num))) head ext.same);
          },
        )

    back : take (width a + 1) (ns ++ zeros (width a)) ≡ ns → SomeJumpEnds a e state (over d ns) →
        SomeValuesHold (width a + 1 + width a) (width a + 1) (jump_rows a e state) (over d (ns ++ zeros (width a)))
    back head (c, q, t, p, s) =
        let m : ℕ = width a in
        let lp : length p ≡ m = sym s.jump.same_size ∙ s.sized in
        let holds = (jump_exact a e state c q t p wr wi wide s.sized lp).1 (s.starts, s.jump) in (
          jump_point c q t p,
          record {
            positive = s.positive;
            sized = omega (arith, length-append q (t ∷ p), lp, s.sized);
            same = subst (λ z. SamePoint (over d z) (over c (take (m + 1) (q ++ t ∷ p)))) (sym head)
                (subst (λ z. SamePoint (over d ns) (over c z)) (sym (front_one m q t p s.sized)) s.ends);
            holds = holds;
          },
        )
