-- Along a path: where tracing back passes, a number that a plain stage forms does, or picking from one.
use Rattle.std.proofs.Common.{◌≡◌, ◌⊎◌, inl, inr, ℕ, ◌+◌, ◌*◌, ◌-◌, ◌<◌, List, [], ◌∷◌, ◌++◌, append_assoc, drop, length, length-append, length-take, take, refl, sym, ◌∙◌, ap, subst, arith, ℤ, pos, ◌+ℤ◌, ◌<ℤ◌, ◌≤ℤ◌}
use Rattle.std.specs.List.{AllZip}
use Rattle.std.proofs.lemmas.Int.{ints}
use Rattle.std.proofs.lemmas.List.{get_or-take}
use Rattle.std.proofs.lemmas.List.Elements.{All-from_recursion, All-take, recursion_from_All}
use Rattle.gap_runs.proofs.AgreePath.{IsAlong, IsGiven, Agreed, after_leg, after_jump, after_leg_wide, after_long, between_back, between_given, first_end_long, first_picked, given_rest, last_picked, rest_along, second_picked, traced_agree}
use Rattle.gap_runs.proofs.AgreeSteps.{leg_thin, jump_thin, leg_rows_plain, jump_rows_plain, leg_agree, leg_elapsed_at, leg_elapsed_same, leg_full_long, leg_length_same}
use Rattle.gap_runs.proofs.PathLemmas.{after_fractions}
use Rattle.gap_runs.proofs.LicencePicks.{all_of, given_pass, leaving_pass}
use Rattle.gap_runs.proofs.LicenceSums.{difference_passes}
use Rattle.gap_runs.specs.Paths.{AreTraced, TracePasses}
use Rattle.gap_runs.specs.Traces.{BackValue, after_of, ArePickedAfter, IsBack, IsLegBack, IsJumpBack, BackPasses, LegBackPasses, JumpBackPasses}
use Rattle.gap_runs.specs.Befores.{leg_columns}
use Rattle.poly_specs.proofs.FractionLemmas.{AtMost-trans, same-AtMost}
use Rattle.poly_specs.proofs.IntLemmas.{mul_le}
use Rattle.poly_specs.specs.Arithmetic.{lowest, sum_numbers}
use Rattle.poly_specs.specs.Bits.{SomePasses}
use Rattle.poly_specs.specs.Elimination.{columns_down, formed_each}
use Rattle.poly_specs.specs.Fractions.{Fraction, IsFraction, SameFraction, AtMost, difference, fractions, opposite, zero_fraction}
use Rattle.poly_specs.specs.Lists.{In}
use Rattle.poly_specs.specs.LowestTerms.{IsLowest}
use Rattle.poly_specs.specs.Pickings.{Picking, ArePicked, PickPasses}
use Rattle.poly_specs.specs.Rows.{Row, AllWide}
use Rattle.poly_specs.specs.Systems.{System}
use Rattle.run_parts.proofs.Choices.{are_all, at_place}
use Rattle.run_parts.proofs.OpenParts.{picking_of}
use Rattle.run_specs.proofs.MixLemmas.{transitions}
use Rattle.run_specs.specs.Automaton.{Automaton, width, transition_at}
use Rattle.run_specs.specs.RunPasses.{path_pickings}
use Rattle.run_specs.specs.Runs.{Leg, Move}
use Rattle.run_specs.specs.Stages.{leg_rows, leg_stage, jump_rows, jump_stage, path_stages}
use Rattle.run_specs.specs.WellFormed.{IsWellFormed}
use Rattle.sample_succ.specs.Parts.{AreParts, IsAfterLeg, SomeFormedPasses}
use Rattle.sample_succ.specs.Plain.{IsPlain}

-- ---- a leg, or a jump, with the elapsed time last of what is given

module _ (n m : ℕ) (rows plain : List Row) (d e : ℤ) (q more : List ℤ) (old : BackValue) (hd : pos 0 <ℤ d) (is : IsPlain n rows plain) (lq : length q ≡ m) (ln : length (q ++ e ∷ more) ≡ n)
    (whole : IsBack m old) (given : AllZip SameFraction (fractions d (q ++ e ∷ [])) (after_of m old)) (picked : ArePicked (picking_of plain (m + 1) d (q ++ e ∷ more))) where
  spelt : (q ++ e ∷ []) ++ more ≡ q ++ e ∷ more
  spelt = append_assoc q (e ∷ []) more

  back_pass : BackPasses m (record { width = n; rows = rows }) old → SomePasses (formed_each (columns_down (m + 1) (n - (m + 1))) plain) ⊎ PickPasses (picking_of plain (m + 1) d (q ++ e ∷ more))
  back_pass h =
      let lf : length (q ++ e ∷ []) ≡ m + 1 = omega (arith, length-append q (e ∷ []), lq) in
      let all = after_fractions m old whole in
      let here : ArePicked (picking_of plain (m + 1) d ((q ++ e ∷ []) ++ more)) = subst (λ ns. ArePicked (picking_of plain (m + 1) d ns)) (sym spelt) picked in
      let long : length ((q ++ e ∷ []) ++ more) ≡ n = ap (λ (ns : List ℤ). length ns) spelt ∙ ln in
      elim h [
        | inl common ↦ inr (subst (λ ns. PickPasses (picking_of plain (m + 1) d ns)) spelt (given_pass n (m + 1) rows plain d (q ++ e ∷ []) more (after_of m old) hd is lf long all given here common))
        | inr leaving ↦ elim (leaving_pass n (m + 1) rows plain d (q ++ e ∷ []) more (after_of m old) hd is lf long all given here leaving) [
          | inl formed ↦ inl formed
          | inr picks ↦ inr (subst (λ ns. PickPasses (picking_of plain (m + 1) d ns)) spelt picks)
        ]
      ]

module _ (a : Automaton) (wf : IsWellFormed a) where
  -- ---- one leg

  module _ (l : ℕ) (rows plain : List Row) (d e t : ℤ) (q p : List ℤ) (old : BackValue) (hd : pos 0 <ℤ d) (hl : l < length a.locations) (wide : AllWide (width a + 1) plain)
      (is : IsPlain (width a + 1) rows plain) (lq : length q ≡ width a) (lp : length p ≡ width a) (picked : ArePicked (picking_of (leg_rows a l plain) (width a + 1) d (q ++ e ∷ t ∷ p)))
      (whole : IsBack (width a) old) (low : IsLowest old.elapsed) (given : AllZip SameFraction (fractions d (q ++ e ∷ [])) (after_of (width a) old)) (some : pos 0 ≤ℤ t) (less : t ≤ℤ e) where
    abbrev m : ℕ
    m = width a

    abbrev xs : List Fraction
    xs = fractions d (q ++ e ∷ t ∷ p)

    -- subtracting the length passes
    minus_pass : (numbers : List Fraction) → ArePickedAfter (leg_columns a l rows) (after_of (width a) old) numbers → SomePasses (sum_numbers old.elapsed (opposite (at_place (width a + 1) numbers))) →
        PickPasses (picking_of (leg_rows a l plain) (width a + 1) d (q ++ e ∷ t ∷ p))
    minus_pass numbers after sums =
        let new : BackValue = record { numbers = old.numbers ++ drop (m + 1) numbers; elapsed = lowest (difference old.elapsed (at_place (m + 1) numbers)) } in
        let back : IsLegBack a l rows old new = record { numbers = numbers; picked = after; more = refl; elapsed = refl } in
        let stay : Fraction = at_place (m + 1) numbers in
        let low_stay : IsLowest stay = after.lowest_terms (m + 1) zero_fraction (let s = after.picked.sized in omega (arith, s)) in
        let elapsed_at = leg_elapsed_at a wf l rows plain d e t q p old new hd hl wide is lq lp picked whole given back in
        let elapsed_is = leg_elapsed_same a wf l rows plain d e t q p old new hd hl wide is lq lp picked whole given back in
        let stay_is = leg_length_same a wf l rows plain d e t q p old new hd hl wide is lq lp picked whole given back in
        let stay_at : SameFraction (at_place (m + 1) xs) stay = leg_agree a wf l rows plain d e t q p old new hd hl wide is lq lp picked whole given back (m + 1) (omega arith) in
        let long = leg_full_long a wf l rows plain d e t q p old new hd hl wide is lq lp picked whole given back in
        let front : List Fraction = take (m + 2) xs in
        let place : (j : ℕ) → j < m + 2 → at_place j front ≡ at_place j xs = λ j h. get_or-take (m + 2) xs j zero_fraction h in
        let count : length front ≡ m + 2 = omega (arith, length-take (m + 2) xs, long) in
        let time : Fraction = record { num = t; den = d } in
        let end : Fraction = record { num = e; den = d } in
        let none : IsFraction zero_fraction = record { lt = tt } in
        let from_zero : AtMost zero_fraction time = omega (arith, ints, some) in
        let stay_some : AtMost zero_fraction stay = AtMost-trans zero_fraction time stay none hd low_stay.positive from_zero (same-AtMost time stay stay_is).0 in
        let product = mul_le d t e hd less in
        let at_end : AtMost time end = omega (arith, ints, product) in
        let stay_less : AtMost stay old.elapsed =
        AtMost-trans stay time old.elapsed low_stay.positive hd whole.elapsed (same-AtMost time stay stay_is).1 (AtMost-trans time end old.elapsed hd hd whole.elapsed at_end (same-AtMost end old.elapsed elapsed_is).0) in
        inr (inr (
          m + 2,
          record {
            from_first = omega arith;
            within = omega (arith, long);
            passes = difference_passes old.elapsed stay front m (m + 1) (omega (arith, count)) (omega (arith, count))
                (recursion_from_All IsFraction front (All-take IsFraction (m + 2) xs (All-from_recursion IsFraction xs (all_of xs (are_all d (q ++ e ∷ t ∷ p) hd))))) low low_stay
                (subst (λ x. SameFraction x old.elapsed) (sym (place m (omega arith))) elapsed_at) (subst (λ x. SameFraction x stay) (sym (place (m + 1) (omega arith))) stay_at)
                (omega (arith, ints, stay_some)) stay_less sums;
          },
        ))

    pub leg_pass : LegBackPasses a l rows old → SomePasses (formed_each (leg_stage a l plain).columns (leg_stage a l plain).rows) ⊎ PickPasses (picking_of (leg_rows a l plain) (width a + 1) d (q ++ e ∷ t ∷ p))
    leg_pass (inl h) =
        let columns : (2 * m + 2) - (m + 1) ≡ m + 1 = omega arith in
        subst (λ j. SomePasses (formed_each (columns_down (m + 1) j) (leg_rows a l plain)) ⊎ PickPasses (picking_of (leg_rows a l plain) (m + 1) d (q ++ e ∷ t ∷ p))) columns
        (back_pass (2 * m + 2) m (leg_rows a l rows) (leg_rows a l plain) d e q (t ∷ p) old hd (leg_rows_plain a wf l rows plain hl wide is) lq (omega (arith, length-append q (e ∷ t ∷ p), lq, lp)) whole given picked h)
    leg_pass (inr (numbers, after, sums)) = inr (minus_pass numbers after sums)

  -- ---- one jump

  pub jump_pass : (j : ℕ) (rows plain : List Row) (d e : ℤ) (z q : List ℤ) (old : BackValue) → pos 0 <ℤ d → j < length a.transitions → AllWide (width a + 1) plain → IsPlain (width a + 1) rows plain →
      length z ≡ width a → length q ≡ width a → ArePicked (picking_of (jump_rows a j plain) (width a + 1) d (z ++ e ∷ q)) → IsBack (width a) old →
      AllZip SameFraction (fractions d (z ++ e ∷ [])) (after_of (width a) old) → JumpBackPasses a j rows old →
      SomePasses (formed_each (jump_stage a j plain).columns (jump_stage a j plain).rows) ⊎ PickPasses (picking_of (jump_rows a j plain) (width a + 1) d (z ++ e ∷ q))
  jump_pass j rows plain d e z q old hd hj wide is lz lq picked whole given h =
      let m : ℕ = width a in
      let columns : (2 * m + 1) - (m + 1) ≡ m = omega arith in
      subst (λ k. SomePasses (formed_each (columns_down (m + 1) k) (jump_rows a j plain)) ⊎ PickPasses (picking_of (jump_rows a j plain) (m + 1) d (z ++ e ∷ q))) columns
      (back_pass (2 * m + 1) m (jump_rows a j rows) (jump_rows a j plain) d e z q old hd (jump_rows_plain a wf j rows plain hj wide is) lz (omega (arith, length-append z (e ∷ q), lz, lq)) whole given picked h)

  -- ---- the path

  -- a number that a plain stage along the path forms passes, or picking from one
  abbrev pub PathPasses : ℕ → List Row → ℤ → ℤ → List ℤ → List Move → Leg → Type 0
  PathPasses l plain d elapsed p ms f =
      SomeFormedPasses (path_stages a l (transitions ms) plain) ⊎ ((pk : Picking) × In pk (path_pickings a d l elapsed plain p ms f) × PickPasses pk)

  later_still : (x t : ℤ) → pos 0 ≤ℤ x → pos 0 ≤ℤ t → pos 0 ≤ℤ (x +ℤ t)
  later_still x t h g = omega (arith, ints, h, g)

  sum_less : (x t : ℤ) → pos 0 ≤ℤ x → t ≤ℤ (x +ℤ t)
  sum_less x t h = omega (arith, ints, h)

  module _ (l : ℕ) (before : System) (plain : List Row) (d elapsed : ℤ) (p : List ℤ) (since : pos 0 ≤ℤ elapsed) (is : IsPlain (width a + 1) before.rows plain) where
    last_pass : (f : Leg) (old : BackValue) → IsAlong a wf l plain d elapsed p [] f → IsBack (width a) old → IsLowest old.elapsed → IsGiven a wf d elapsed [] f old → LegBackPasses a l before.rows old →
        PathPasses l plain d elapsed p [] f
    last_pass f old own whole low given h =
        let t : ℤ = f.length_of in
        elim (leg_pass l before.rows plain d (elapsed +ℤ t) t f.at_end p old own.positive own.within own.wide is (own.leads.same_size ∙ own.sized) own.sized (last_picked a wf l plain d elapsed p f own)
        whole low given own.leads.lasts (sum_less elapsed t since) h) [
          | inl formed ↦ inl (inl formed)
          | inr picks ↦ inr (_, inl refl, picks)
        ]

    module _ (s : System) (y : Move) (ms : List Move) (f : Leg) (old later : BackValue) (own : IsAlong a wf l plain d elapsed p (y ∷ ms) f) (leg : IsAfterLeg a l before s plain)
        (rest : Agreed a wf d (elapsed +ℤ y.leg.length_of) y.after ms f old later) where
      second_pass : JumpBackPasses a y.transition s.rows later → PathPasses l plain d elapsed p (y ∷ ms) f
      second_pass h =
          elim (jump_pass y.transition s.rows (after_leg a wf l plain) d (elapsed +ℤ y.leg.length_of) y.after y.leg.at_end later own.positive own.fits.0 (after_leg_wide a wf l plain d elapsed p y ms f own)
          (leg_thin a wf l before s plain own.within own.wide is leg) (after_long a wf l plain d elapsed p y ms f own) (first_end_long a wf l plain d elapsed p y ms f own)
          (second_picked a wf l plain d elapsed p y ms f own) rest.back rest.start h) [
            | inl formed ↦ inl (inr (inl formed))
            | inr picks ↦ inr (_, inr (inl refl), picks)
          ]

      first_pass : (between : BackValue) → IsJumpBack a y.transition s.rows later between → LegBackPasses a l before.rows between → PathPasses l plain d elapsed p (y ∷ ms) f
      first_pass between jumped h =
          let t : ℤ = y.leg.length_of in
          elim (leg_pass l before.rows plain d (elapsed +ℤ t) t y.leg.at_end p between own.positive own.within own.wide is (first_end_long a wf l plain d elapsed p y ms f own) own.sized
          (first_picked a wf l plain d elapsed p y ms f own) (between_back a wf l before s plain d elapsed p y ms f old later between own is leg rest jumped) (subst IsLowest (sym jumped.elapsed) rest.low)
          (between_given a wf l before s plain d elapsed p y ms f old later between own is leg rest jumped) own.leads.0.lasts (sum_less elapsed t since) h) [
            | inl formed ↦ inl (inl formed)
            | inr picks ↦ inr (_, inl refl, picks)
          ]

  -- what passes after the first two parts
  rest_pass : (l : ℕ) (plain : List Row) (d elapsed : ℤ) (p : List ℤ) (y : Move) (ms : List Move) (f : Leg) →
      PathPasses (transition_at a y.transition).target (after_jump a wf l y plain) d (elapsed +ℤ y.leg.length_of) y.after ms f → PathPasses l plain d elapsed p (y ∷ ms) f
  rest_pass l plain d elapsed p y ms f (inl formed) = inl (inr (inr formed))
  rest_pass l plain d elapsed p y ms f (inr (pk, i, picks)) = inr (pk, inr (inr i), picks)

  pub trace_pass : (l : ℕ) (before : System) (plain : List Row) (systems : List System) (d elapsed : ℤ) (p : List ℤ) (ms : List Move) (f : Leg) (old : BackValue) → IsAlong a wf l plain d elapsed p ms f →
      pos 0 ≤ℤ elapsed → IsPlain (width a + 1) before.rows plain → AreParts a l (transitions ms) before plain systems → IsBack (width a) old → IsLowest old.elapsed → IsGiven a wf d elapsed ms f old →
      TracePasses a l (transitions ms) before systems old → PathPasses l plain d elapsed p ms f
  trace_pass l before plain systems d elapsed p [] f old own since is parts whole low given h = last_pass l before plain d elapsed p since is f old own whole low given h
  trace_pass l before plain systems d elapsed p (y ∷ ms) f old own since is (s, t, more, leg, jump, parts, same) whole low given h =
      go
      (trace_pass (transition_at a y.transition).target t (after_jump a wf l y plain) more d (elapsed +ℤ y.leg.length_of) y.after ms f old (rest_along a wf l plain d elapsed p y ms f own)
      (later_still elapsed y.leg.length_of since own.leads.0.lasts) next_is parts whole low (given_rest a wf d elapsed y ms f old given))
      (subst (λ (ss : List System). TracePasses a l (y.transition ∷ transitions ms) before ss old) same h)
    where
      target : ℕ
      target = (transition_at a y.transition).target

      next : List Row
      next = after_jump a wf l y plain

      next_is : IsPlain (width a + 1) t.rows (after_jump a wf l y plain)
      next_is = jump_thin a wf y.transition s t (after_leg a wf l plain) own.fits.0 (after_leg_wide a wf l plain d elapsed p y ms f own) (leg_thin a wf l before s plain own.within own.wide is leg) jump

      rest : (later : BackValue) → AreTraced a target (transitions ms) t more old later → Agreed a wf d (elapsed +ℤ y.leg.length_of) y.after ms f old later
      rest later traced =
          traced_agree a wf target t next more d (elapsed +ℤ y.leg.length_of) y.after ms f old later (rest_along a wf l plain d elapsed p y ms f own) next_is parts whole
          (given_rest a wf d elapsed y ms f old given) traced

      go : (TracePasses a target (transitions ms) t more old → PathPasses target next d (elapsed +ℤ y.leg.length_of) y.after ms f) → TracePasses a l (y.transition ∷ transitions ms) before (s ∷ t ∷ more) old →
          PathPasses l plain d elapsed p (y ∷ ms) f
      go rests (inl later) = rest_pass l plain d elapsed p y ms f (rests later)
      go rests (inr (later, traced, inl jumping)) = second_pass l before plain d elapsed p since is s y ms f old later own leg (rest later traced) jumping
      go rests (inr (later, traced, inr (between, jumped, leaving))) =
          first_pass l before plain d elapsed p since is s y ms f old later own leg (rest later traced) between jumped leaving
