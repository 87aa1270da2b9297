-- A leg, or a jump, from the state before, put before the rest of a path.
use Rattle.std.proofs.Common.{◌≡◌, ℕ, ◌+◌, ◌<◌, List, [], ◌∷◌, ◌++◌, length, length-append, refl, sym, ◌∙◌, ap, subst, arith, ℤ, pos, ◌+ℤ◌, ◌-ℤ◌, ◌*ℤ◌, ◌<ℤ◌}
use Rattle.std.specs.List.{AllZip}
use Rattle.std.proofs.lemmas.Int.{ints}
use Rattle.std.proofs.lemmas.List.{length-map}
use Rattle.poly_specs.proofs.IntLemmas.{product_positive}
use Rattle.poly_specs.proofs.LinearLemmas.{SamePoint-trans}
use Rattle.run_specs.proofs.EndLemmas.{leg_ends}
use Rattle.run_specs.proofs.FirstRunLemmas.{scaled-append}
use Rattle.run_specs.proofs.GapBack.{PathBack}
use Rattle.run_specs.proofs.MixLemmas.{transitions}
use Rattle.run_specs.proofs.PickedLemmas.{AllFractions}
use Rattle.run_specs.proofs.RunEndLemmas.{all_same}
use Rattle.run_specs.proofs.ScaledRuns.{same_scaled, swapped, sum_times, last_same, scaled_leg, scaled_moves, total_scaled, transitions_scaled, leg_over, jump_over, lead_over, starts_over, ends_over}
use Rattle.run_specs.proofs.StageWidths.{location_is}
use Rattle.run_parts.proofs.Choices.{are_all, all_of_both, fractions_both, same_zip, zip_of_both, zip_through, zip_equal}
use Rattle.run_parts.proofs.PathNumbers.{backwards_scaled}
use Rattle.poly_specs.specs.Lists.{scaled}
use Rattle.poly_specs.specs.Fractions.{Fraction, SameFraction, fractions}
use Rattle.poly_specs.specs.Rows.{Point, Row, over, SamePoint, AllHold, AllWide}
use Rattle.run_specs.specs.Automaton.{Automaton, width, transition_at}
use Rattle.run_specs.specs.WellFormed.{IsWellFormed}
use Rattle.run_specs.specs.Runs.{Leg, Move, IsJump, LeadOn, total}
use Rattle.run_specs.specs.FirstRun.{backwards}
use Rattle.run_specs.specs.Stages.{rows_after, leg_stage}
use Rattle.run_specs.specs.Ends.{EndsLeg, SomeLegEnds, EndsJump}

-- numbers over a multiple of their denominator, as fractions
pub scaled_zip : (k d c : ℤ) (ns : List ℤ) → k *ℤ d ≡ c → AllZip SameFraction (fractions c (scaled k ns)) (fractions d ns)
scaled_zip k d c ns e = same_zip c d (scaled k ns) ns (subst (λ z. SamePoint (over z (scaled k ns)) (over d ns)) e (sym (same_scaled k d ns)))

-- the rest of a path: a jump from the values q, and the way on from the values after it
pub record Rest (a : Automaton) (l e : ℕ) (d : ℤ) (q z : List ℤ) (ms : List Move) (f : Leg) : Type 0 where
  pub positive : pos 0 <ℤ d
  pub sized : length q ≡ width a
  pub sized_end : length f.at_end ≡ width a
  pub leaves : (transition_at a e).source ≡ l
  pub jump : IsJump a e d q z
  pub leads : LeadOn a d (transition_at a e).target z ms f

-- the time at the end, by the parts
times : (before later t b c s : ℤ) → before *ℤ c ≡ s *ℤ b → (before +ℤ later) *ℤ c ≡ ((s *ℤ b) -ℤ (t *ℤ b)) +ℤ ((t *ℤ b) +ℤ later *ℤ c)
times before later t b c s e = let sum = sum_times before later c in omega (arith, ints, sum, e)

module _ (a : Automaton) (wf : IsWellFormed a) where
  -- a path from the state, and its numbers
  pub record Glued (l e : ℕ) (path : List ℕ) (state : List Row) (end : Point) (numbers : List Fraction) : Type 0 where
    pub way : PathBack a wf l (e ∷ path) state end
    pub same : AllZip SameFraction (fractions way.den (backwards way.start way.moves way.last)) numbers
    pub all : AllFractions numbers

  -- ---- a leg before the rest

  pub glued_leg : (l e : ℕ) (state : List Row) (d : ℤ) (q z : List ℤ) (ms : List Move) (f : Leg) (before : ℤ) (c : ℤ) (q' : List ℤ) (x t : ℤ) (p : List ℤ) → Rest a l e d q z ms f →
      EndsLeg a l state (over d (q ++ before ∷ [])) c q' x t p →
      Glued l e (transitions ms) state (over d (f.at_end ++ (before +ℤ total ms f) ∷ [])) ((fractions d (backwards z ms f) ++ fractions d q) ++ fractions c (t ∷ p))
  glued_leg l e state d q z ms f before c q' x t p R L =
      let lp : length p ≡ width a = sym L.leg.same_size ∙ L.sized in
      let lz : length z ≡ width a = R.jump.same_size ∙ R.sized in
      let joined = last_same d c before x q q' (R.sized ∙ sym L.sized) L.ends in
      let dc : d *ℤ c ≡ c *ℤ d = swapped d c in
      let b : List ℤ = backwards z ms f in
      let ends : SamePoint (over d (f.at_end ++ (before +ℤ total ms f) ∷ []))
      (over (c *ℤ d) (scaled c f.at_end ++ (((x *ℤ d) -ℤ (t *ℤ d)) +ℤ ((t *ℤ d) +ℤ total (scaled_moves c ms) (scaled_leg c f))) ∷ [])) =
      ends_over c d (c *ℤ d) f.at_end (before +ℤ total ms f) (((x *ℤ d) -ℤ (t *ℤ d)) +ℤ ((t *ℤ d) +ℤ total (scaled_moves c ms) (scaled_leg c f))) refl
      (times before (total ms f) t d c x joined.1 ∙ ap (λ w. ((x *ℤ d) -ℤ (t *ℤ d)) +ℤ ((t *ℤ d) +ℤ w)) (sym (total_scaled c ms f))) in
      let spelt : fractions (c *ℤ d) ((backwards (scaled c z) (scaled_moves c ms) (scaled_leg c f) ++ scaled d q') ++ scaled d (t ∷ p))
      ≡ (fractions (c *ℤ d) (scaled c b) ++ fractions (c *ℤ d) (scaled c q)) ++ fractions (c *ℤ d) (scaled d (t ∷ p)) =
      ap (λ ns. fractions (c *ℤ d) ((ns ++ scaled d q') ++ scaled d (t ∷ p))) (backwards_scaled c z ms f)
      ∙ ap (λ ns. fractions (c *ℤ d) ((scaled c b ++ ns) ++ scaled d (t ∷ p))) (sym joined.0)
      ∙ fractions_both (c *ℤ d) (scaled c b ++ scaled c q) (scaled d (t ∷ p)) ∙ ap (λ xs. xs ++ fractions (c *ℤ d) (scaled d (t ∷ p))) (fractions_both (c *ℤ d) (scaled c b) (scaled c q)) in
      record {
        way = record {
          den = c *ℤ d;
          start = scaled d p;
          elapsed = (x *ℤ d) -ℤ (t *ℤ d);
          moves = record { leg = record { length_of = t *ℤ d; at_end = scaled d q' }; transition = e; after = scaled c z } ∷ scaled_moves c ms;
          last = scaled_leg c f;
          positive = product_positive c d L.positive R.positive;
          sized = length-map p (λ y. y *ℤ d) ∙ lp;
          sized_end = length-map f.at_end (λ y. y *ℤ c) ∙ R.sized_end;
          starts = starts_over state d c (c *ℤ d) x t p R.positive L.positive dc L.starts;
          leads = (
            leg_over a wf d c (c *ℤ d) l p t q' R.positive L.positive lp dc L.leg,
            R.leaves,
            jump_over a wf c d (c *ℤ d) e q z (scaled d q') L.positive R.positive R.sized refl joined.0 R.jump,
            lead_over a wf c d (c *ℤ d) (transition_at a e).target z (scaled c z) ms f L.positive R.positive lz refl refl R.leads,
          );
          along = ap (λ es. e ∷ es) (transitions_scaled c ms);
          ends = ends;
        };
        same = subst (λ xs. AllZip SameFraction xs ((fractions d b ++ fractions d q) ++ fractions c (t ∷ p))) (sym spelt)
            (zip_of_both (fractions (c *ℤ d) (scaled c b) ++ fractions (c *ℤ d) (scaled c q)) (fractions d b ++ fractions d q) (fractions (c *ℤ d) (scaled d (t ∷ p))) (fractions c (t ∷ p))
            (zip_of_both (fractions (c *ℤ d) (scaled c b)) (fractions d b) (fractions (c *ℤ d) (scaled c q)) (fractions d q) (scaled_zip c d (c *ℤ d) b refl) (scaled_zip c d (c *ℤ d) q refl))
            (scaled_zip d c (c *ℤ d) (t ∷ p) dc));
        all = all_of_both (fractions d b ++ fractions d q) (fractions c (t ∷ p)) (all_of_both (fractions d b) (fractions d q) (are_all d b R.positive) (are_all d q R.positive))
            (are_all c (t ∷ p) L.positive);
      }

  -- ---- a jump before the rest, and a leg before the jump

  -- the path and its end in another spelling
  pub respelt : (l e : ℕ) (path other : List ℕ) (state : List Row) (end end' : Point) (xs ys : List Fraction) → path ≡ other → pos 0 <ℤ end.den → SamePoint end' end → AllFractions ys →
      AllZip SameFraction xs ys → Glued l e path state end xs → Glued l e other state end' ys
  respelt l e path other state end end' xs ys same hd at positive zip g =
      let w = g.way in
      record {
        way = record {
          den = w.den;
          start = w.start;
          elapsed = w.elapsed;
          moves = w.moves;
          last = w.last;
          positive = w.positive;
          sized = w.sized;
          sized_end = w.sized_end;
          starts = w.starts;
          leads = w.leads;
          along = w.along ∙ ap (λ es. e ∷ es) same;
          ends = SamePoint-trans end' end (over w.den (w.last.at_end ++ (w.elapsed +ℤ total w.moves w.last) ∷ [])) hd at w.ends;
        };
        same = zip_through (fractions w.den (backwards w.start w.moves w.last)) xs ys g.all g.same zip;
        all = positive;
      }

  -- what follows a jump, without the jump
  pub record Way (e : ℕ) (d : ℤ) (z : List ℤ) (ms : List Move) (f : Leg) : Type 0 where
    pub positive : pos 0 <ℤ d
    pub sized : length z ≡ width a
    pub sized_end : length f.at_end ≡ width a
    pub leads : LeadOn a d (transition_at a e).target z ms f

  -- a jump to where the way starts, and the leg before the jump
  pub glued_jump : (l e : ℕ) (state : List Row) (d : ℤ) (z : List ℤ) (ms : List Move) (f : Leg) (before : ℤ) (c : ℤ) (z' : List ℤ) (x : ℤ) (y : List ℤ) → l < length a.locations →
      AllWide (width a + 1) state → (transition_at a e).source ≡ l → Way e d z ms f →
      EndsJump a e (rows_after (leg_stage a l state)) (over d (z ++ before ∷ [])) c z' x y →
      (more : List Fraction) × Glued l e (transitions ms) state (over d (f.at_end ++ (before +ℤ total ms f) ∷ [])) ((fractions d (backwards z ms f) ++ fractions c y) ++ more)
  glued_jump l e state d z ms f before c z' x y hl wide leaves W J =
      onwards ((leg_ends a l state D (q ++ t ∷ []) (location_is a wf l hl) wide hD (omega (arith, length-append q (t ∷ []), lq))).0 reached)
    where
      D : ℤ
      D = c *ℤ d

      dc : d *ℤ c ≡ D
      dc = swapped d c

      hD : pos 0 <ℤ D
      hD = product_positive c d J.positive W.positive

      q : List ℤ
      q = scaled d y

      t : ℤ
      t = x *ℤ d

      ly : length y ≡ width a
      ly = sym J.jump.same_size ∙ J.sized

      lq : length q ≡ width a
      lq = length-map y (λ w. w *ℤ d) ∙ ly

      joined : (scaled c z ≡ scaled d z') × (before *ℤ c ≡ x *ℤ d)
      joined = last_same d c before x z z' (W.sized ∙ sym J.sized) J.ends

      after : List Row
      after = rows_after (leg_stage a l state)

      reached : AllHold after (over D (q ++ t ∷ []))
      reached = subst (λ n. AllHold after (over n (q ++ t ∷ []))) dc
          (subst (λ ns. AllHold after (over (d *ℤ c) ns)) (scaled-append d y (x ∷ []))
          (all_same after (over c (y ++ x ∷ [])) (over (d *ℤ c) (scaled d (y ++ x ∷ []))) J.positive (product_positive d c W.positive J.positive) (same_scaled d c (y ++ x ∷ [])) J.starts))

      rest : Rest a l e D q (scaled d z') (scaled_moves c ms) (scaled_leg c f)
      rest = record {
        positive = hD;
        sized = lq;
        sized_end = length-map f.at_end (λ w. w *ℤ c) ∙ W.sized_end;
        leaves = leaves;
        jump = jump_over a wf d c D e y z' q W.positive J.positive ly dc refl J.jump;
        leads = lead_over a wf c d D (transition_at a e).target z (scaled d z') ms f J.positive W.positive W.sized refl joined.0 W.leads;
      }

      spelt : backwards (scaled d z') (scaled_moves c ms) (scaled_leg c f) ≡ scaled c (backwards z ms f)
      spelt = ap (λ ns. backwards ns (scaled_moves c ms) (scaled_leg c f)) (sym joined.0) ∙ backwards_scaled c z ms f

      end : SamePoint (over d (f.at_end ++ (before +ℤ total ms f) ∷ [])) (over D (scaled c f.at_end ++ (t +ℤ total (scaled_moves c ms) (scaled_leg c f)) ∷ []))
      end = ends_over c d D f.at_end (before +ℤ total ms f) (t +ℤ total (scaled_moves c ms) (scaled_leg c f)) refl
          (sum_times before (total ms f) c ∙ ap (λ w. w +ℤ total ms f *ℤ c) joined.1 ∙ ap (λ w. t +ℤ w) (sym (total_scaled c ms f)))

      onwards : SomeLegEnds a l state (over D (q ++ t ∷ [])) →
          (more : List Fraction) × Glued l e (transitions ms) state (over d (f.at_end ++ (before +ℤ total ms f) ∷ [])) ((fractions d (backwards z ms f) ++ fractions c y) ++ more)
      onwards (c3, q3, x3, t3, p3, L) =
          let g = glued_leg l e state D q (scaled d z') (scaled_moves c ms) (scaled_leg c f) t c3 q3 x3 t3 p3 rest L in
          let more : List Fraction = fractions c3 (t3 ∷ p3) in
          let b : List ℤ = backwards z ms f in
          let b' : List ℤ = backwards (scaled d z') (scaled_moves c ms) (scaled_leg c f) in
          let first : AllZip SameFraction (fractions D b') (fractions d b) = subst (λ ns. AllZip SameFraction (fractions D ns) (fractions d b)) (sym spelt) (scaled_zip c d D b refl) in
          let second : AllZip SameFraction (fractions D q) (fractions c y) = scaled_zip d c D y dc in
          let given : List Fraction = (fractions D b' ++ fractions D q) ++ more in
          let target : List Fraction = (fractions d b ++ fractions c y) ++ more in
          let zip : AllZip SameFraction given target =
          zip_of_both (fractions D b' ++ fractions D q) (fractions d b ++ fractions c y) more more (zip_of_both (fractions D b') (fractions d b) (fractions D q) (fractions c y) first second) (zip_equal more) in
          let positive = all_of_both (fractions d b ++ fractions c y) more (all_of_both (fractions d b) (fractions c y) (are_all d b W.positive) (are_all c y J.positive)) (are_all c3 (t3 ∷ p3) L.positive) in (
            more,
            respelt l e (transitions (scaled_moves c ms)) (transitions ms) state (over D (scaled c f.at_end ++ (t +ℤ total (scaled_moves c ms) (scaled_leg c f)) ∷ []))
                (over d (f.at_end ++ (before +ℤ total ms f) ∷ [])) given target (transitions_scaled c ms) hD end positive zip g,
          )
