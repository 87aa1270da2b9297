-- Over one leg, and over one jump: what is traced back from rows that hold where plain ones do is what is picked from these.
use Rattle.std.proofs.Common.{◌≡◌, ℕ, ◌+◌, ◌*◌, ◌-◌, ◌<◌, List, [], ◌∷◌, ◌++◌, append_assoc, take, drop, length, length-append, length-take, length-drop, sym, ◌∙◌, ap, subst, arith, ℤ, pos, ◌-ℤ◌, ◌<ℤ◌}
use Rattle.std.specs.List.{AllZip}
use Rattle.std.proofs.Math.Seq.{get_or-append_seam, drop-append-add}
use Rattle.std.proofs.lemmas.List.{drop-map, get_or-append-add, get_or-take}
use Rattle.std.proofs.lemmas.List.Elements.{recursion_from_All}
use Rattle.gap_runs.proofs.AgreePicks.{all_fractions, zip_from, zip_drop, picks_agree}
use Rattle.gap_runs.proofs.InsideLemmas.{given_elapsed, jump_numbers, leg_numbers, jump_after, leg_after, jump_back, leg_back, minus_same}
use Rattle.gap_runs.specs.Traces.{BackValue, after_of, IsBack, IsLegBack, IsJumpBack}
use Rattle.poly_specs.proofs.EliminationLemmas.{width_in}
use Rattle.poly_specs.proofs.FractionLemmas.{same-trans}
use Rattle.poly_specs.proofs.IntLemmas.{product_positive}
use Rattle.poly_specs.proofs.LowestLemmas.{lowest-IsFraction, lowest-same, lowest-stays}
use Rattle.poly_specs.specs.Arithmetic.{lowest}
use Rattle.poly_specs.specs.Fractions.{Fraction, IsFraction, SameFraction, difference, fractions, zero_fraction}
use Rattle.poly_specs.specs.Lists.{number_at}
use Rattle.poly_specs.specs.LowestTerms.{IsLowest}
use Rattle.poly_specs.specs.Pickings.{ArePicked}
use Rattle.poly_specs.specs.Rows.{Row, AllHold, AllWide, over}
use Rattle.run_parts.proofs.Choices.{Agree, at_place, at_coordinate, at_front, are_all, fractions_both, zip_of_both}
use Rattle.run_parts.proofs.OpenParts.{picking_of}
use Rattle.run_specs.proofs.EndLemmas.{leg_ends, jump_ends, wide_from}
use Rattle.run_specs.proofs.GapPasses.{IsWithin}
use Rattle.run_specs.proofs.PassesLemmas.{leg_rows_more, jump_rows_more}
use Rattle.run_specs.proofs.PickedLemmas.{length-fractions}
use Rattle.run_specs.proofs.PickedValues.{zip_at, zip_long}
use Rattle.run_specs.proofs.StageLemmas.{jump_exact, leg_exact}
use Rattle.run_specs.proofs.StageWidths.{location_is, transition_is}
use Rattle.run_specs.specs.Automaton.{Automaton, width, location_at, transition_at}
use Rattle.run_specs.specs.Stages.{leg_rows, leg_stage, jump_rows, jump_stage, rows_after}
use Rattle.run_specs.specs.WellFormed.{IsLocation, IsTransition, IsWellFormed}
use Rattle.sample_succ.proofs.StageFacts.{leg_within, jump_within}
use Rattle.sample_succ.specs.Parts.{IsAfterLeg, IsAfterJump}
use Rattle.sample_succ.specs.Plain.{IsPlain}
use Rattle.poly_specs.specs.Systems.{System}

-- ---- rows beside plain ones

pub thin_wide : (n : ℕ) (rows plain : List Row) → IsPlain n rows plain → AllWide n plain → AllWide n rows
thin_wide n rows plain is wide = wide_from n rows (λ r i. width_in n plain wide r (is.among r i))

-- numbers over d, and one more
number_here : (m : ℕ) (q : List ℤ) (e : ℤ) (more : List ℤ) → length q ≡ m → number_at m (q ++ e ∷ more) ≡ e
number_here m q e more l = ap (λ k. number_at k (q ++ e ∷ more)) (sym l) ∙ get_or-append_seam q e more (pos 0)

after_long : (m : ℕ) (b : BackValue) → IsBack m b → length (after_of m b) ≡ m + 1
after_long m b is =
    let s = is.sized in
    omega (arith, s, length-append (drop (length b.numbers - m) b.numbers) (b.elapsed ∷ []), length-drop (length b.numbers - m) b.numbers)

-- the first columns are given
pub begins_agree : (k : ℕ) (d : ℤ) (front more : List ℤ) (given ys : List Fraction) → length front ≡ k → take (length given) ys ≡ given → AllZip SameFraction (fractions d front) given →
    Agree k (fractions d (front ++ more)) ys
begins_agree k d front more given ys l begins same j h =
    let long : length given ≡ k = sym (zip_long (fractions d front) given same) ∙ length-fractions d front ∙ l in
    let here : at_place j (fractions d (front ++ more)) ≡ at_place j (fractions d front) =
    ap (at_place j) (fractions_both d front more) ∙ at_front k j (fractions d front) (fractions d more) (length-fractions d front ∙ l) h in
    let there : at_place j ys ≡ at_place j given = sym (get_or-take (length given) ys j zero_fraction (omega (arith, h, long))) ∙ ap (at_place j) begins in
    subst (λ x. SameFraction x (at_place j ys)) (sym here) (subst (SameFraction (at_place j (fractions d front))) (sym there) (zip_at (fractions d front) given j same))

-- the same, with the elapsed time last
begins_with : (m : ℕ) (d e : ℤ) (q more : List ℤ) (given ys : List Fraction) → length q ≡ m → take (length given) ys ≡ given → AllZip SameFraction (fractions d (q ++ e ∷ [])) given →
    Agree (m + 1) (fractions d (q ++ e ∷ more)) ys
begins_with m d e q more given ys l begins same =
    subst (λ ns. Agree (m + 1) (fractions d ns) ys) (append_assoc q (e ∷ []) more)
    (begins_agree (m + 1) d (q ++ e ∷ []) more given ys (omega (arith, length-append q (e ∷ []), l)) begins same)

module _ (a : Automaton) (wf : IsWellFormed a) where
  leg_rows_within : (l : ℕ) (rows more : List Row) → l < length a.locations → AllWide (width a + 1) rows → AllWide (width a + 1) more → IsWithin (width a + 1) rows more →
      IsWithin (2 * width a + 2) (leg_rows a l rows) (leg_rows a l more)
  leg_rows_within l rows more hl wr wm within p hp lp h =
      let m : ℕ = width a in
      let ns : List ℤ = p.num in
      let start : List ℤ = drop (m + 2) ns in
      let before : ℤ = number_at m ns -ℤ number_at (m + 1) ns in
      let is : IsLocation m (location_at a l) = location_is a wf l hl in
      let parts = leg_numbers m ns (omega (arith, lp)) in
      let lq : length (take m ns) ≡ m = omega (arith, length-take m ns, lp) in
      let ls : length start ≡ m = omega (arith, length-drop (m + 2) ns, lp) in
      let both = (leg_exact a l rows p.den (take m ns) (number_at m ns) (number_at (m + 1) ns) start is wr lq ls).0 (subst (λ z. AllHold (leg_rows a l rows) (over p.den z)) (sym parts) h) in
      subst (λ z. AllHold (leg_rows a l more) (over p.den z)) parts
      ((leg_exact a l more p.den (take m ns) (number_at m ns) (number_at (m + 1) ns) start is wm lq ls).1
      (within (over p.den (start ++ before ∷ [])) hp (omega (arith, length-append start (before ∷ []), ls)) both.0, both.1))

  jump_rows_within : (e : ℕ) (rows more : List Row) → e < length a.transitions → AllWide (width a + 1) rows → AllWide (width a + 1) more → IsWithin (width a + 1) rows more →
      IsWithin (2 * width a + 1) (jump_rows a e rows) (jump_rows a e more)
  jump_rows_within e rows more he wr wm within p hp lp h =
      let m : ℕ = width a in
      let ns : List ℤ = p.num in
      let before : List ℤ = drop (m + 1) ns in
      let is : IsTransition m (length a.locations) (transition_at a e) = transition_is a wf e he in
      let inside = (location_is a wf (transition_at a e).target is.target).invariant in
      let parts = jump_numbers m ns (omega (arith, lp)) in
      let lq : length (take m ns) ≡ m = omega (arith, length-take m ns, lp) in
      let lb : length before ≡ m = omega (arith, length-drop (m + 1) ns, lp) in
      let both = (jump_exact a e rows p.den (take m ns) (number_at m ns) before is.relation inside wr lq lb).0 (subst (λ z. AllHold (jump_rows a e rows) (over p.den z)) (sym parts) h) in
      subst (λ z. AllHold (jump_rows a e more) (over p.den z)) parts
      ((jump_exact a e more p.den (take m ns) (number_at m ns) before is.relation inside wm lq lb).1
      (within (over p.den (before ++ number_at m ns ∷ [])) hp (omega (arith, length-append before (number_at m ns ∷ []), lb)) both.0, both.1))

  pub leg_rows_plain : (l : ℕ) (rows plain : List Row) → l < length a.locations → AllWide (width a + 1) plain → IsPlain (width a + 1) rows plain →
      IsPlain (2 * width a + 2) (leg_rows a l rows) (leg_rows a l plain)
  leg_rows_plain l rows plain hl wide is =
      let wr = thin_wide (width a + 1) rows plain is wide in
      record {
        among = leg_rows_more a l rows plain is.among;
        same = λ p hp lp. (
          leg_rows_within l rows plain hl wr wide (λ q hq lq. (is.same q hq lq).0) p hp lp,
          leg_rows_within l plain rows hl wide wr (λ q hq lq. (is.same q hq lq).1) p hp lp,
        );
      }

  pub jump_rows_plain : (e : ℕ) (rows plain : List Row) → e < length a.transitions → AllWide (width a + 1) plain → IsPlain (width a + 1) rows plain →
      IsPlain (2 * width a + 1) (jump_rows a e rows) (jump_rows a e plain)
  jump_rows_plain e rows plain he wide is =
      let wr = thin_wide (width a + 1) rows plain is wide in
      record {
        among = jump_rows_more a e rows plain is.among;
        same = λ p hp lp. (
          jump_rows_within e rows plain he wr wide (λ q hq lq. (is.same q hq lq).0) p hp lp,
          jump_rows_within e plain rows he wide wr (λ q hq lq. (is.same q hq lq).1) p hp lp,
        );
      }

  -- ---- the systems after a leg and after a jump

  pub leg_thin : (l : ℕ) (before s : System) (plain : List Row) → l < length a.locations → AllWide (width a + 1) plain → IsPlain (width a + 1) before.rows plain →
      IsAfterLeg a l before s plain → IsPlain (width a + 1) s.rows (rows_after (leg_stage a l plain))
  leg_thin l before s plain hl wide is after =
      let rows : List Row = before.rows in
      let wr = thin_wide (width a + 1) rows plain is wide in
      let loc = location_is a wf l hl in
      record {
        among = after.plain_rows;
        same = λ q hq lq. (
          λ h. leg_within a wf l rows plain hl wr wide (λ p hp lp. (is.same p hp lp).0) q hq lq
              ((leg_ends a l rows q.den q.num loc wr hq lq).1 ((after.exact q.den q.num hq lq).0 h)),
          λ h. (after.exact q.den q.num hq lq).1
              ((leg_ends a l rows q.den q.num loc wr hq lq).0 (leg_within a wf l plain rows hl wide wr (λ p hp lp. (is.same p hp lp).1) q hq lq h)),
        );
      }

  pub jump_thin : (e : ℕ) (before s : System) (plain : List Row) → e < length a.transitions → AllWide (width a + 1) plain → IsPlain (width a + 1) before.rows plain →
      IsAfterJump a e before s plain → IsPlain (width a + 1) s.rows (rows_after (jump_stage a e plain))
  jump_thin e before s plain he wide is after =
      let rows : List Row = before.rows in
      let wr = thin_wide (width a + 1) rows plain is wide in
      let t = transition_is a wf e he in
      let inside = (location_is a wf (transition_at a e).target t.target).invariant in
      record {
        among = after.plain_rows;
        same = λ q hq lq. (
          λ h. jump_within a wf e rows plain he wr wide (λ p hp lp. (is.same p hp lp).0) q hq lq
              ((jump_ends a e rows q.den q.num t.relation inside wr hq lq).1 ((after.exact q.den q.num hq lq).0 h)),
          λ h. (after.exact q.den q.num hq lq).1
              ((jump_ends a e rows q.den q.num t.relation inside wr hq lq).0 (jump_within a wf e plain rows he wide wr (λ p hp lp. (is.same p hp lp).1) q hq lq h)),
        );
      }

  -- ---- one leg

  module _ (l : ℕ) (rows plain : List Row) (d e t : ℤ) (q p : List ℤ) (old new : BackValue) (hd : pos 0 <ℤ d) (hl : l < length a.locations) (wide : AllWide (width a + 1) plain)
      (is : IsPlain (width a + 1) rows plain) (lq : length q ≡ width a) (lp : length p ≡ width a) (picked : ArePicked (picking_of (leg_rows a l plain) (width a + 1) d (q ++ e ∷ t ∷ p)))
      (whole : IsBack (width a) old) (given : AllZip SameFraction (fractions d (q ++ e ∷ [])) (after_of (width a) old)) (back : IsLegBack a l rows old new) where
    abbrev m : ℕ
    m = width a

    -- the numbers of the picking
    abbrev pub leg_full : List Fraction
    leg_full = fractions d (q ++ e ∷ t ∷ p)

    abbrev ys : List Fraction
    ys = back.numbers

    pub leg_full_long : length leg_full ≡ 2 * width a + 2
    leg_full_long = omega (arith, length-fractions d (q ++ e ∷ t ∷ p), length-append q (e ∷ t ∷ p), lq, lp)

    pub leg_given_agree : Agree (width a + 1) leg_full back.numbers
    leg_given_agree = begins_with m d e q (t ∷ p) (after_of m old) ys lq back.picked.picked.begins given

    leg_wide : AllWide (width a + 1) rows
    leg_wide = thin_wide (m + 1) rows plain is wide

    pub leg_agree : Agree (2 * width a + 2) leg_full back.numbers
    leg_agree =
        picks_agree (2 * m + 2) (m + 1) (leg_rows a l rows) (leg_rows a l plain) leg_full ys (leg_rows_plain l rows plain hl wide is) leg_full_long back.picked.picked.sized
        (are_all d (q ++ e ∷ t ∷ p) hd) (all_fractions ys (recursion_from_All IsFraction ys back.picked.picked.fractions)) (2 * m + 2) (omega arith) leg_given_agree picked
        (subst (λ j. ArePicked (record { rows = leg_rows a l rows; first = j; numbers = ys })) (after_long m old whole) back.picked.picked.picked)

    leg_zip : AllZip SameFraction leg_full ys
    leg_zip = zip_from leg_full ys (leg_full_long ∙ sym back.picked.picked.sized) (subst (λ n. Agree n leg_full ys) (sym leg_full_long) leg_agree)

    leg_part : (k : ℕ) → drop (m + k) leg_full ≡ fractions d (drop k (e ∷ t ∷ p))
    leg_part k =
        drop-map (λ n. record { num = n; den = d }) (m + k) (q ++ e ∷ t ∷ p)
        ∙ ap (fractions d) (ap (λ n. drop (n + k) (q ++ e ∷ t ∷ p)) (sym lq) ∙ drop-append-add q (e ∷ t ∷ p) k)

    pub leg_more_same : AllZip SameFraction (fractions d (t ∷ p)) (drop (width a + 1) back.numbers)
    leg_more_same = subst (λ xs. AllZip SameFraction xs (drop (m + 1) ys)) (leg_part 1) (zip_drop (m + 1) leg_full ys leg_zip)

    leg_values_same : AllZip SameFraction (fractions d p) (drop (m + 2) ys)
    leg_values_same = subst (λ xs. AllZip SameFraction xs (drop (m + 2) ys)) (leg_part 2) (zip_drop (m + 2) leg_full ys leg_zip)

    leg_number : (j : ℕ) → j < 2 * m + 2 → at_place j leg_full ≡ record { num = number_at j (q ++ e ∷ t ∷ p); den = d }
    leg_number j h = at_coordinate d (q ++ e ∷ t ∷ p) j (omega (arith, h, leg_full_long, length-fractions d (q ++ e ∷ t ∷ p)))

    -- the elapsed time among them
    pub leg_elapsed_at : SameFraction (at_place (width a) leg_full) old.elapsed
    leg_elapsed_at = subst (SameFraction (at_place m leg_full)) (given_elapsed m old ys whole.sized back.picked.picked.begins) (leg_agree m (omega arith))

    pub leg_elapsed_same : SameFraction (record { num = e; den = d }) old.elapsed
    leg_elapsed_same =
        subst (λ z. SameFraction (record { num = z; den = d }) old.elapsed) (number_here m q e (t ∷ p) lq)
        (subst (λ x. SameFraction x old.elapsed) (leg_number m (omega arith)) leg_elapsed_at)

    pub leg_length_same : SameFraction (record { num = t; den = d }) (at_place (width a + 1) back.numbers)
    leg_length_same =
        let at : number_at (m + 1) (q ++ e ∷ t ∷ p) ≡ t = ap (λ k. number_at (k + 1) (q ++ e ∷ t ∷ p)) (sym lq) ∙ get_or-append-add q (e ∷ t ∷ p) 1 (pos 0) in
        subst (λ z. SameFraction (record { num = z; den = d }) (at_place (m + 1) ys)) at
        (subst (λ x. SameFraction x (at_place (m + 1) ys)) (leg_number (m + 1) (omega arith)) (leg_agree (m + 1) (omega arith)))

    abbrev gone : Fraction
    gone = difference old.elapsed (at_place (m + 1) ys)

    gone_is : IsFraction gone
    gone_is = product_positive old.elapsed.den (at_place (m + 1) ys).den whole.elapsed (back.picked.picked.fractions (m + 1) zero_fraction (let s = back.picked.picked.sized in omega (arith, s)))

    -- the time that has elapsed at its start is in lowest terms
    pub leg_low : IsLowest new.elapsed
    leg_low = subst IsLowest (sym back.elapsed) (record { positive = lowest-IsFraction gone gone_is; lowest_terms = lowest-stays gone gone_is })

    leg_before_same : SameFraction (record { num = e -ℤ t; den = d }) (lowest gone)
    leg_before_same =
        same-trans (record { num = e -ℤ t; den = d }) gone (lowest gone) hd gone_is (lowest-IsFraction gone gone_is)
        (minus_same d e t old.elapsed (at_place (m + 1) ys) leg_elapsed_same leg_length_same) (sym (lowest-same gone))

    pub leg_start_same : AllZip SameFraction (fractions d (p ++ (e -ℤ t) ∷ [])) (after_of (width a) new)
    leg_start_same =
        subst (AllZip SameFraction (fractions d (p ++ (e -ℤ t) ∷ []))) (sym (leg_after a l rows old new (location_is a wf l hl) leg_wide whole back))
        (subst (λ xs. AllZip SameFraction xs (drop (m + 2) ys ++ lowest gone ∷ [])) (sym (fractions_both d p ((e -ℤ t) ∷ [])))
        (zip_of_both (fractions d p) (drop (m + 2) ys) (fractions d ((e -ℤ t) ∷ [])) (lowest gone ∷ []) leg_values_same (leg_before_same, tt)))

    pub leg_is_back : IsBack (width a) new
    leg_is_back = leg_back a l rows old new (location_is a wf l hl) leg_wide whole back

  -- ---- one jump

  module _ (j : ℕ) (rows plain : List Row) (d e : ℤ) (z q : List ℤ) (old new : BackValue) (hd : pos 0 <ℤ d) (hj : j < length a.transitions) (wide : AllWide (width a + 1) plain)
      (is : IsPlain (width a + 1) rows plain) (lz : length z ≡ width a) (lq : length q ≡ width a) (picked : ArePicked (picking_of (jump_rows a j plain) (width a + 1) d (z ++ e ∷ q)))
      (whole : IsBack (width a) old) (given : AllZip SameFraction (fractions d (z ++ e ∷ [])) (after_of (width a) old)) (back : IsJumpBack a j rows old new) where
    abbrev w : ℕ
    w = width a

    -- the numbers of the picking
    abbrev pub jump_full : List Fraction
    jump_full = fractions d (z ++ e ∷ q)

    abbrev us : List Fraction
    us = back.numbers

    pub jump_full_long : length jump_full ≡ 2 * width a + 1
    jump_full_long = omega (arith, length-fractions d (z ++ e ∷ q), length-append z (e ∷ q), lz, lq)

    pub jump_given_agree : Agree (width a + 1) jump_full back.numbers
    jump_given_agree = begins_with w d e z q (after_of w old) us lz back.picked.picked.begins given

    jump_wide : AllWide (width a + 1) rows
    jump_wide = thin_wide (w + 1) rows plain is wide

    pub jump_agree : Agree (2 * width a + 1) jump_full back.numbers
    jump_agree =
        picks_agree (2 * w + 1) (w + 1) (jump_rows a j rows) (jump_rows a j plain) jump_full us (jump_rows_plain j rows plain hj wide is) jump_full_long back.picked.picked.sized
        (are_all d (z ++ e ∷ q) hd) (all_fractions us (recursion_from_All IsFraction us back.picked.picked.fractions)) (2 * w + 1) (omega arith) jump_given_agree picked
        (subst (λ k. ArePicked (record { rows = jump_rows a j rows; first = k; numbers = us })) (after_long w old whole) back.picked.picked.picked)

    jump_zip : AllZip SameFraction jump_full us
    jump_zip = zip_from jump_full us (jump_full_long ∙ sym back.picked.picked.sized) (subst (λ n. Agree n jump_full us) (sym jump_full_long) jump_agree)

    jump_part : drop (w + 1) jump_full ≡ fractions d q
    jump_part =
        drop-map (λ n. record { num = n; den = d }) (w + 1) (z ++ e ∷ q)
        ∙ ap (fractions d) (ap (λ n. drop (n + 1) (z ++ e ∷ q)) (sym lz) ∙ drop-append-add z (e ∷ q) 1)

    pub jump_more_same : AllZip SameFraction (fractions d q) (drop (width a + 1) back.numbers)
    jump_more_same = subst (λ xs. AllZip SameFraction xs (drop (w + 1) us)) jump_part (zip_drop (w + 1) jump_full us jump_zip)

    jump_elapsed_same : SameFraction (record { num = e; den = d }) old.elapsed
    jump_elapsed_same =
        let long : w < length (z ++ e ∷ q) = omega (arith, length-append z (e ∷ q), lz) in
        subst (λ n. SameFraction (record { num = n; den = d }) old.elapsed) (number_here w z e q lz)
        (subst (λ x. SameFraction x old.elapsed) (at_coordinate d (z ++ e ∷ q) w long)
        (subst (SameFraction (at_place w jump_full)) (given_elapsed w old us whole.sized back.picked.picked.begins) (jump_agree w (omega arith))))

    jump_inside : AllWide (width a) (location_at a (transition_at a j).target).invariant
    jump_inside = (location_is a wf (transition_at a j).target (transition_is a wf j hj).target).invariant

    pub jump_start_same : AllZip SameFraction (fractions d (q ++ e ∷ [])) (after_of (width a) new)
    jump_start_same =
        subst (AllZip SameFraction (fractions d (q ++ e ∷ []))) (sym (jump_after a j rows old new (transition_is a wf j hj).relation jump_inside jump_wide whole back))
        (subst (λ xs. AllZip SameFraction xs (drop (w + 1) us ++ old.elapsed ∷ [])) (sym (fractions_both d q (e ∷ [])))
        (zip_of_both (fractions d q) (drop (w + 1) us) (fractions d (e ∷ [])) (old.elapsed ∷ []) jump_more_same (jump_elapsed_same, tt)))

    pub jump_is_back : IsBack (width a) new
    jump_is_back = jump_back a j rows old new (transition_is a wf j hj).relation jump_inside jump_wide whole back
