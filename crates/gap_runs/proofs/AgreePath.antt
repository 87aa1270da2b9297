-- Along a path: what is traced back is what is picked from plain rows.
use Rattle.std.proofs.Common.{◌≡◌, inl, inr, ℕ, ◌+◌, ◌<◌, List, [], ◌∷◌, ◌++◌, append_assoc, drop, length, refl, sym, ◌∙◌, ap, subst, arith, ℤ, pos, ◌+ℤ◌, ◌-ℤ◌, ◌<ℤ◌}
use Rattle.std.specs.List.{AllZip}
use Rattle.std.proofs.lemmas.Int.{ints}
use Rattle.gap_runs.proofs.AgreeSteps.{leg_thin, jump_thin, leg_more_same, leg_start_same, leg_is_back, leg_low, jump_more_same, jump_start_same, jump_is_back}
use Rattle.gap_runs.specs.Paths.{AreTraced}
use Rattle.gap_runs.specs.Traces.{BackValue, after_of, IsBack, IsLegBack, IsJumpBack}
use Rattle.poly_specs.specs.Fractions.{Fraction, SameFraction, fractions}
use Rattle.poly_specs.specs.Lists.{In}
use Rattle.poly_specs.specs.LowestTerms.{IsLowest}
use Rattle.poly_specs.specs.Pickings.{Picking, ArePicked}
use Rattle.poly_specs.specs.Rows.{Row, AllWide}
use Rattle.poly_specs.specs.Systems.{System}
use Rattle.run_parts.proofs.Choices.{fractions_both, zip_of_both}
use Rattle.run_parts.proofs.OpenParts.{picking_of}
use Rattle.run_specs.proofs.MixLemmas.{transitions}
use Rattle.run_specs.proofs.StageWidths.{location_is, transition_is, leg_after_wide, jump_wide_of}
use Rattle.run_specs.specs.Automaton.{Automaton, width, transition_at}
use Rattle.run_specs.specs.FirstRun.{backwards}
use Rattle.run_specs.specs.Passes.{Fits}
use Rattle.run_specs.specs.RunPasses.{path_pickings}
use Rattle.run_specs.specs.Runs.{Leg, Move, LeadOn, total}
use Rattle.run_specs.specs.Stages.{leg_rows, leg_stage, jump_rows, jump_stage, rows_after}
use Rattle.run_specs.specs.WellFormed.{IsWellFormed}
use Rattle.sample_succ.specs.Parts.{AreParts, IsAfterLeg}
use Rattle.sample_succ.specs.Plain.{IsPlain}

module _ (a : Automaton) (wf : IsWellFormed a) where
  -- a path from plain rows, each number of which is the pick of its picking
  pub record IsAlong (l : ℕ) (plain : List Row) (d elapsed : ℤ) (p : List ℤ) (ms : List Move) (f : Leg) : Type 0 where
    pub positive : pos 0 <ℤ d
    pub within : l < length a.locations
    pub fits : Fits a l (transitions ms)
    pub wide : AllWide (width a + 1) plain
    pub sized : length p ≡ width a
    pub leads : LeadOn a d l p ms f
    pub picked : (pk : Picking) → In pk (path_pickings a d l elapsed plain p ms f) → ArePicked pk

  -- the plain rows after the first leg, and after the first jump
  abbrev pub after_leg : ℕ → List Row → List Row
  after_leg l plain = rows_after (leg_stage a l plain)

  abbrev pub after_jump : ℕ → Move → List Row → List Row
  after_jump l y plain = rows_after (jump_stage a y.transition (after_leg l plain))

  module _ (l : ℕ) (plain : List Row) (d elapsed : ℤ) (p : List ℤ) (y : Move) (ms : List Move) (f : Leg) (own : IsAlong l plain d elapsed p (y ∷ ms) f) where
    pub first_end_long : length y.leg.at_end ≡ width a
    first_end_long = own.leads.0.same_size ∙ own.sized

    pub after_long : length y.after ≡ width a
    after_long = own.leads.2.same_size ∙ first_end_long

    pub after_leg_wide : AllWide (width a + 1) (after_leg l plain)
    after_leg_wide = leg_after_wide a l plain (location_is a wf l own.within) own.wide

    pub rest_along : IsAlong (transition_at a y.transition).target (after_jump l y plain) d (elapsed +ℤ y.leg.length_of) y.after ms f
    rest_along = record {
      positive = own.positive;
      within = (transition_is a wf y.transition own.fits.0).target;
      fits = own.fits.2;
      wide = jump_wide_of a wf y.transition (after_leg l plain) own.fits.0 after_leg_wide;
      sized = after_long;
      leads = own.leads.3;
      picked = λ pk i. own.picked pk (inr (inr i));
    }

    pub first_picked : ArePicked (picking_of (leg_rows a l plain) (width a + 1) d (y.leg.at_end ++ (elapsed +ℤ y.leg.length_of) ∷ y.leg.length_of ∷ p))
    first_picked = own.picked (picking_of (leg_rows a l plain) (width a + 1) d (y.leg.at_end ++ (elapsed +ℤ y.leg.length_of) ∷ y.leg.length_of ∷ p)) (inl refl)

    pub second_picked : ArePicked (picking_of (jump_rows a y.transition (after_leg l plain)) (width a + 1) d (y.after ++ (elapsed +ℤ y.leg.length_of) ∷ y.leg.at_end))
    second_picked = own.picked (picking_of (jump_rows a y.transition (after_leg l plain)) (width a + 1) d (y.after ++ (elapsed +ℤ y.leg.length_of) ∷ y.leg.at_end)) (inr (inl refl))

  pub last_picked : (l : ℕ) (plain : List Row) (d elapsed : ℤ) (p : List ℤ) (f : Leg) → IsAlong l plain d elapsed p [] f →
      ArePicked (picking_of (leg_rows a l plain) (width a + 1) d (f.at_end ++ (elapsed +ℤ f.length_of) ∷ f.length_of ∷ p))
  last_picked l plain d elapsed p f own = own.picked (picking_of (leg_rows a l plain) (width a + 1) d (f.at_end ++ (elapsed +ℤ f.length_of) ∷ f.length_of ∷ p)) (inl refl)

  -- ---- what is traced

  -- the numbers at the end of the path are given
  abbrev pub IsGiven : ℤ → ℤ → List Move → Leg → BackValue → Type 0
  IsGiven d elapsed ms f old = AllZip SameFraction (fractions d (f.at_end ++ (elapsed +ℤ total ms f) ∷ [])) (after_of (width a) old)

  pub record Agreed (d elapsed : ℤ) (p : List ℤ) (ms : List Move) (f : Leg) (old new : BackValue) : Type 0 where
    pub more : List Fraction
    pub grown : new.numbers ≡ old.numbers ++ more
    pub same : AllZip SameFraction (fractions d (backwards p ms f)) more
    pub start : AllZip SameFraction (fractions d (p ++ elapsed ∷ [])) (after_of (width a) new)
    pub back : IsBack (width a) new
    pub low : IsLowest new.elapsed

  time_back : (x t : ℤ) → (x +ℤ t) -ℤ t ≡ x
  time_back x t = omega (arith, ints)

  pub given_rest : (d elapsed : ℤ) (y : Move) (ms : List Move) (f : Leg) (old : BackValue) → IsGiven d elapsed (y ∷ ms) f old → IsGiven d (elapsed +ℤ y.leg.length_of) ms f old
  given_rest d elapsed y ms f old given =
      let one : elapsed +ℤ (y.leg.length_of +ℤ total ms f) ≡ (elapsed +ℤ y.leg.length_of) +ℤ total ms f = omega (arith, ints) in
      subst (λ x. AllZip SameFraction (fractions d (f.at_end ++ x ∷ [])) (after_of (width a) old)) one given

  agreed_last : (l : ℕ) (before : System) (plain : List Row) (d elapsed : ℤ) (p : List ℤ) (f : Leg) (old new : BackValue) → IsAlong l plain d elapsed p [] f →
      IsPlain (width a + 1) before.rows plain → IsBack (width a) old → IsGiven d elapsed [] f old → IsLegBack a l before.rows old new → Agreed d elapsed p [] f old new
  agreed_last l before plain d elapsed p f old new own is whole given back =
      let t : ℤ = f.length_of in
      let e : ℤ = elapsed +ℤ t in
      let lq : length f.at_end ≡ width a = own.leads.same_size ∙ own.sized in
      let picked = last_picked l plain d elapsed p f own in
      record {
        more = drop (width a + 1) back.numbers;
        grown = back.more;
        same = leg_more_same a wf l before.rows plain d e t f.at_end p old new own.positive own.within own.wide is lq own.sized picked whole given back;
        start = subst (λ x. AllZip SameFraction (fractions d (p ++ x ∷ [])) (after_of (width a) new)) (time_back elapsed t)
            (leg_start_same a wf l before.rows plain d e t f.at_end p old new own.positive own.within own.wide is lq own.sized picked whole given back);
        back = leg_is_back a wf l before.rows plain d e t f.at_end p old new own.positive own.within own.wide is lq own.sized picked whole given back;
        low = leg_low a wf l before.rows plain d e t f.at_end p old new own.positive own.within own.wide is lq own.sized picked whole given back;
      }

  module _ (l : ℕ) (before s : System) (plain : List Row) (d elapsed : ℤ) (p : List ℤ) (y : Move) (ms : List Move) (f : Leg) (old later between : BackValue)
      (own : IsAlong l plain d elapsed p (y ∷ ms) f) (is : IsPlain (width a + 1) before.rows plain) (leg : IsAfterLeg a l before s plain)
      (rest : Agreed d (elapsed +ℤ y.leg.length_of) y.after ms f old later) (jumped : IsJumpBack a y.transition s.rows later between) where
    abbrev e : ℤ
    e = elapsed +ℤ y.leg.length_of

    s_plain : IsPlain (width a + 1) s.rows (after_leg l plain)
    s_plain = leg_thin a wf l before s plain own.within own.wide is leg

    pub between_given : AllZip SameFraction (fractions d (y.leg.at_end ++ (elapsed +ℤ y.leg.length_of) ∷ [])) (after_of (width a) between)
    between_given =
        jump_start_same a wf y.transition s.rows (after_leg l plain) d e y.after y.leg.at_end later between own.positive own.fits.0 (after_leg_wide l plain d elapsed p y ms f own) s_plain
        (after_long l plain d elapsed p y ms f own) (first_end_long l plain d elapsed p y ms f own) (second_picked l plain d elapsed p y ms f own) rest.back rest.start jumped

    pub between_back : IsBack (width a) between
    between_back =
        jump_is_back a wf y.transition s.rows (after_leg l plain) d e y.after y.leg.at_end later between own.positive own.fits.0 (after_leg_wide l plain d elapsed p y ms f own) s_plain
        (after_long l plain d elapsed p y ms f own) (first_end_long l plain d elapsed p y ms f own) (second_picked l plain d elapsed p y ms f own) rest.back rest.start jumped

    middle_same : AllZip SameFraction (fractions d y.leg.at_end) (drop (width a + 1) jumped.numbers)
    middle_same =
        jump_more_same a wf y.transition s.rows (after_leg l plain) d e y.after y.leg.at_end later between own.positive own.fits.0 (after_leg_wide l plain d elapsed p y ms f own) s_plain
        (after_long l plain d elapsed p y ms f own) (first_end_long l plain d elapsed p y ms f own) (second_picked l plain d elapsed p y ms f own) rest.back rest.start jumped

    module _ (new : BackValue) (back : IsLegBack a l before.rows between new) where
      first_same : AllZip SameFraction (fractions d (y.leg.length_of ∷ p)) (drop (width a + 1) back.numbers)
      first_same =
          leg_more_same a wf l before.rows plain d e y.leg.length_of y.leg.at_end p between new own.positive own.within own.wide is (first_end_long l plain d elapsed p y ms f own) own.sized
          (first_picked l plain d elapsed p y ms f own) between_back between_given back

      agreed_more : Agreed d elapsed p (y ∷ ms) f old new
      agreed_more =
          let b : List ℤ = backwards y.after ms f in
          let q : List ℤ = y.leg.at_end in
          let t : ℤ = y.leg.length_of in
          let jm : List Fraction = drop (width a + 1) jumped.numbers in
          let lm : List Fraction = drop (width a + 1) back.numbers in
          let front : AllZip SameFraction (fractions d (b ++ q)) (rest.more ++ jm) =
          subst (λ xs. AllZip SameFraction xs (rest.more ++ jm)) (sym (fractions_both d b q)) (zip_of_both (fractions d b) rest.more (fractions d q) jm rest.same middle_same) in
          record {
            more = (rest.more ++ jm) ++ lm;
            grown = back.more ∙ ap (λ xs. xs ++ lm) (jumped.more ∙ ap (λ xs. xs ++ jm) rest.grown ∙ append_assoc old.numbers rest.more jm) ∙ append_assoc old.numbers (rest.more ++ jm) lm;
            same = subst (λ xs. AllZip SameFraction xs ((rest.more ++ jm) ++ lm)) (sym (fractions_both d (b ++ q) (t ∷ p)))
                (zip_of_both (fractions d (b ++ q)) (rest.more ++ jm) (fractions d (t ∷ p)) lm front first_same);
            start = subst (λ x. AllZip SameFraction (fractions d (p ++ x ∷ [])) (after_of (width a) new)) (time_back elapsed t)
                (leg_start_same a wf l before.rows plain d e t q p between new own.positive own.within own.wide is (first_end_long l plain d elapsed p y ms f own) own.sized
                (first_picked l plain d elapsed p y ms f own) between_back between_given back);
            back = leg_is_back a wf l before.rows plain d e t q p between new own.positive own.within own.wide is (first_end_long l plain d elapsed p y ms f own) own.sized
                (first_picked l plain d elapsed p y ms f own) between_back between_given back;
            low = leg_low a wf l before.rows plain d e t q p between new own.positive own.within own.wide is (first_end_long l plain d elapsed p y ms f own) own.sized
                (first_picked l plain d elapsed p y ms f own) between_back between_given back;
          }

  -- the trace, its first parts told apart
  pub traced_parts : (l e : ℕ) (rest : List ℕ) (before s t : System) (systems more : List System) (old new : BackValue) → systems ≡ s ∷ t ∷ more → AreTraced a l (e ∷ rest) before systems old new →
      (later : BackValue) × (between : BackValue) × AreTraced a (transition_at a e).target rest t more old later × IsJumpBack a e s.rows later between × IsLegBack a l before.rows between new
  traced_parts l e rest before s t systems more old new is traced = subst (λ (ss : List System). AreTraced a l (e ∷ rest) before ss old new) is traced

  pub traced_agree : (l : ℕ) (before : System) (plain : List Row) (systems : List System) (d elapsed : ℤ) (p : List ℤ) (ms : List Move) (f : Leg) (old new : BackValue) →
      IsAlong l plain d elapsed p ms f → IsPlain (width a + 1) before.rows plain → AreParts a l (transitions ms) before plain systems → IsBack (width a) old → IsGiven d elapsed ms f old →
      AreTraced a l (transitions ms) before systems old new → Agreed d elapsed p ms f old new
  traced_agree l before plain systems d elapsed p [] f old new own is parts whole given traced = agreed_last l before plain d elapsed p f old new own is whole given traced
  traced_agree l before plain systems d elapsed p (y ∷ ms) f old new own is (s, t, more, leg, jump, parts, e) whole given traced =
      let s_is : IsPlain (width a + 1) s.rows (after_leg l plain) = leg_thin a wf l before s plain own.within own.wide is leg in
      let t_is : IsPlain (width a + 1) t.rows (after_jump l y plain) = jump_thin a wf y.transition s t (after_leg l plain) own.fits.0 (after_leg_wide l plain d elapsed p y ms f own) s_is jump in
      let (later, between, T, J, G) = traced_parts l y.transition (transitions ms) before s t systems more old new e traced in
      let rest = traced_agree (transition_at a y.transition).target t (after_jump l y plain) more d (elapsed +ℤ y.leg.length_of) y.after ms f old later
      (rest_along l plain d elapsed p y ms f own) t_is parts whole (given_rest d elapsed y ms f old given) T in
      agreed_more l before s plain d elapsed p y ms f old later between own is leg rest J new G
