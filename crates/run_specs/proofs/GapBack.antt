-- Where the rows after a gap's stages hold, a gap run ends: its parts are written over one denominator.
use Rattle.std.proofs.Common.{◌≡◌, ℕ, ◌+◌, ◌<◌, List, [], ◌∷◌, ◌++◌, length, length-append, take, Option, refl, sym, ◌∙◌, ap, subst, arith, ℤ, pos, ◌+ℤ◌, ◌-ℤ◌, ◌*ℤ◌, ◌<ℤ◌}
use Rattle.std.proofs.lemmas.Int.{ints}
use Rattle.std.proofs.lemmas.List.{length-map}
use Rattle.poly_specs.proofs.FractionLemmas.{same-trans}
use Rattle.poly_specs.proofs.IntLemmas.{product_positive}
use Rattle.poly_specs.proofs.LinearLemmas.{SamePoint-trans}
use Rattle.run_specs.proofs.EndLemmas.{leg_ends, jump_ends}
use Rattle.run_specs.proofs.GapEnds.{IsGapCase, start_holds}
use Rattle.run_specs.proofs.HistorySystems.{AreCells, passing_system}
use Rattle.run_specs.proofs.MixLemmas.{transitions}
use Rattle.run_specs.proofs.SampleEnds.{sample_ends}
use Rattle.run_specs.proofs.StageWidths.{location_is, transition_is, leg_after_wide, jump_wide_of, path_wide, start_wide}
use Rattle.run_specs.proofs.SystemLemmas.{at_same_point}
use Rattle.poly_specs.specs.Lists.{scaled}
use Rattle.poly_specs.specs.Fractions.{Fraction, IsFraction, SameFraction}
use Rattle.poly_specs.specs.Rows.{Point, Row, over, AllHold, AllWide, SamePoint}
use Rattle.run_specs.specs.Automaton.{Automaton, width, location_at, transition_at}
use Rattle.run_specs.specs.WellFormed.{IsWellFormed}
use Rattle.run_specs.specs.Logs.{IsPassing}
use Rattle.run_specs.specs.Runs.{Leg, Move, GapRun, IsLeg, IsJump, LeadOn, IsGapRun, path_of, total, start_point, end_point}
use Rattle.run_specs.specs.Passes.{Fits}
use Rattle.run_specs.specs.Stages.{rows_after, gap_start, leg_stage, jump_stage, path_rows, gap_rows}
use Rattle.run_specs.specs.Ends.{EndsLeg, SomeLegEnds, EndsJump, SomeJumpEnds, EndsSample, SomeSampleEnds}
use Rattle.run_specs.proofs.ScaledRuns.{last_same, swapped, sum_times, take_whole, leg_scaled, scaled_leg, scaled_moves, total_scaled, transitions_scaled, leg_over, jump_over, lead_over, starts_over, ends_over}

module _ (a : Automaton) (wf : IsWellFormed a) where
  -- ---- a leg and then a jump

  record StepBack (l e : ℕ) (state : List Row) (y : Point) : Type 0 where
    den : ℤ
    p : List ℤ
    t : ℤ
    q : List ℤ
    z : List ℤ
    elapsed : ℤ
    positive : pos 0 <ℤ den
    sized : length p ≡ width a
    sized_after : length z ≡ width a
    starts : AllHold state (over den (p ++ (elapsed -ℤ t) ∷ []))
    leg : IsLeg (location_at a l) den p t q
    jump : IsJump a e den q z
    ends : SamePoint y (over den (z ++ elapsed ∷ []))

  -- from a jump to y, and a leg to where it starts
  step_of : (l e : ℕ) (state after_leg : List Row) (y : Point) (d2 d3 : ℤ) (q2 q3 : List ℤ) (e2 e3 t3 : ℤ) (p2 p3 : List ℤ) → EndsJump a e after_leg y d2 q2 e2 p2 →
      EndsLeg a l state (over d2 (p2 ++ e2 ∷ [])) d3 q3 e3 t3 p3 → StepBack l e state y
  step_of l e state after_leg y d2 d3 q2 q3 e2 e3 t3 p2 p3 J L =
      let lp2 : length p2 ≡ width a = sym J.jump.same_size ∙ J.sized in
      let lp3 : length p3 ≡ width a = sym L.leg.same_size ∙ L.sized in
      let joined = last_same d2 d3 e2 e3 p2 q3 (lp2 ∙ sym L.sized) L.ends in
      let c : ℤ = d2 *ℤ d3 in
      record {
        den = c;
        p = scaled d2 p3;
        t = t3 *ℤ d2;
        q = scaled d2 q3;
        z = scaled d3 q2;
        elapsed = e3 *ℤ d2;
        positive = product_positive d2 d3 J.positive L.positive;
        sized = length-map p3 (λ x. x *ℤ d2) ∙ lp3;
        sized_after = length-map q2 (λ x. x *ℤ d3) ∙ J.sized;
        starts = starts_over state d2 d3 c e3 t3 p3 J.positive L.positive refl L.starts;
        leg = leg_scaled a wf d2 d3 l p3 t3 q3 J.positive L.positive lp3 L.leg;
        jump = jump_over a wf d3 d2 c e p2 q2 (scaled d2 q3) L.positive J.positive lp2 (swapped d3 d2) joined.0 J.jump;
        ends = SamePoint-trans y (over d2 (q2 ++ e2 ∷ [])) (over c (scaled d3 q2 ++ (e3 *ℤ d2) ∷ [])) J.positive J.ends (ends_over d3 d2 c q2 e2 (e3 *ℤ d2) (swapped d3 d2) joined.1);
      }

  before_jump : (l e : ℕ) (state after_leg : List Row) (y : Point) (d2 : ℤ) (q2 : List ℤ) (e2 : ℤ) (p2 : List ℤ) → EndsJump a e after_leg y d2 q2 e2 p2 →
      SomeLegEnds a l state (over d2 (p2 ++ e2 ∷ [])) → StepBack l e state y
  before_jump l e state after_leg y d2 q2 e2 p2 J (d3, q3, e3, t3, p3, L) = step_of l e state after_leg y d2 d3 q2 q3 e2 e3 t3 p2 p3 J L

  at_jump : (l e : ℕ) (state : List Row) (y : Point) → l < length a.locations → AllWide (width a + 1) state → SomeJumpEnds a e (rows_after (leg_stage a l state)) y → StepBack l e state y
  at_jump l e state y hl wide (d2, q2, e2, p2, J) =
      let lp2 : length p2 ≡ width a = sym J.jump.same_size ∙ J.sized in
      before_jump l e state (rows_after (leg_stage a l state)) y d2 q2 e2 p2 J
      ((leg_ends a l state d2 (p2 ++ e2 ∷ []) (location_is a wf l hl) wide J.positive (omega (arith, length-append p2 (e2 ∷ []), lp2))).0 J.starts)

  step_back : (l e : ℕ) (state : List Row) (d : ℤ) (ns : List ℤ) → l < length a.locations → e < length a.transitions → AllWide (width a + 1) state → pos 0 <ℤ d → length ns ≡ width a + 1 →
      AllHold (rows_after (jump_stage a e (rows_after (leg_stage a l state)))) (over d ns) → StepBack l e state (over d ns)
  step_back l e state d ns hl he wide hd ln h =
      let tr = transition_is a wf e he in
      let target = location_is a wf (transition_at a e).target tr.target in
      let leg_wide = leg_after_wide a l state (location_is a wf l hl) wide in
      at_jump l e state (over d ns) hl wide ((jump_ends a e (rows_after (leg_stage a l state)) d ns tr.relation target.invariant leg_wide hd ln).0 h)

  -- ---- a path

  pub record PathBack (l : ℕ) (path : List ℕ) (state : List Row) (y : Point) : Type 0 where
    pub den : ℤ
    pub start : List ℤ
    pub elapsed : ℤ
    pub moves : List Move
    pub last : Leg
    pub positive : pos 0 <ℤ den
    pub sized : length start ≡ width a
    pub sized_end : length last.at_end ≡ width a
    pub starts : AllHold state (over den (start ++ elapsed ∷ []))
    pub leads : LeadOn a den l start moves last
    pub along : transitions moves ≡ path
    pub ends : SamePoint y (over den (last.at_end ++ (elapsed +ℤ total moves last) ∷ []))

  -- a leg alone
  path_none : (l : ℕ) (state : List Row) (y : Point) → SomeLegEnds a l state y → PathBack l [] state y
  path_none l state y (d3, q3, e3, t3, p3, L) =
      let back : (e3 -ℤ t3) +ℤ t3 ≡ e3 = omega (arith, ints) in
      record {
        den = d3;
        start = p3;
        elapsed = e3 -ℤ t3;
        moves = [];
        last = record { length_of = t3; at_end = q3 };
        positive = L.positive;
        sized = sym L.leg.same_size ∙ L.sized;
        sized_end = L.sized;
        starts = L.starts;
        leads = L.leg;
        along = refl;
        ends = subst (λ z. SamePoint y (over d3 (q3 ++ z ∷ []))) (sym back) L.ends;
      }

  -- the time at the end, by the parts
  times : (elapsed later t b c s : ℤ) → elapsed *ℤ c ≡ s *ℤ b → (elapsed +ℤ later) *ℤ c ≡ ((s *ℤ b) -ℤ (t *ℤ b)) +ℤ ((t *ℤ b) +ℤ later *ℤ c)
  times elapsed later t b c s e = let sum = sum_times elapsed later c in omega (arith, ints, sum, e)

  -- a leg and a jump, and then a path
  path_more : (l e : ℕ) (path : List ℕ) (state next : List Row) (y : Point) → (transition_at a e).source ≡ l → (T : PathBack (transition_at a e).target path next y) →
      StepBack l e state (over T.den (T.start ++ T.elapsed ∷ [])) → PathBack l (e ∷ path) state y
  path_more l e path state next y leaves T S =
      let b : ℤ = T.den in
      let c : ℤ = S.den in
      let joined = last_same b c T.elapsed S.elapsed T.start S.z (T.sized ∙ sym S.sized_after) S.ends in
      let den : b *ℤ c ≡ c *ℤ b = swapped b c in
      let lq : length S.q ≡ width a = S.leg.same_size ∙ S.sized in
      let later : ℤ = total T.moves T.last in
      let time : (T.elapsed +ℤ later) *ℤ c ≡ ((S.elapsed *ℤ b) -ℤ (S.t *ℤ b)) +ℤ ((S.t *ℤ b) +ℤ total (scaled_moves c T.moves) (scaled_leg c T.last)) =
      times T.elapsed later S.t b c S.elapsed joined.1 ∙ ap (λ z. ((S.elapsed *ℤ b) -ℤ (S.t *ℤ b)) +ℤ ((S.t *ℤ b) +ℤ z)) (sym (total_scaled c T.moves T.last)) in
      record {
        den = c *ℤ b;
        start = scaled b S.p;
        elapsed = (S.elapsed *ℤ b) -ℤ (S.t *ℤ b);
        moves = record { leg = record { length_of = S.t *ℤ b; at_end = scaled b S.q }; transition = e; after = scaled b S.z } ∷ scaled_moves c T.moves;
        last = scaled_leg c T.last;
        positive = product_positive c b S.positive T.positive;
        sized = length-map S.p (λ x. x *ℤ b) ∙ S.sized;
        sized_end = length-map T.last.at_end (λ x. x *ℤ c) ∙ T.sized_end;
        starts = starts_over state b c (c *ℤ b) S.elapsed S.t S.p T.positive S.positive den S.starts;
        leads = (
          leg_over a wf b c (c *ℤ b) l S.p S.t S.q T.positive S.positive S.sized den S.leg,
          leaves,
          jump_over a wf b c (c *ℤ b) e S.q S.z (scaled b S.q) T.positive S.positive lq den refl S.jump,
          lead_over a wf c b (c *ℤ b) (transition_at a e).target T.start (scaled b S.z) T.moves T.last S.positive T.positive T.sized refl joined.0 T.leads,
        );
        along = ap (λ es. e ∷ es) (transitions_scaled c T.moves ∙ T.along);
        ends = SamePoint-trans y (over b (T.last.at_end ++ (T.elapsed +ℤ later) ∷ [])) _ T.positive T.ends
            (ends_over c b (c *ℤ b) T.last.at_end (T.elapsed +ℤ later) (((S.elapsed *ℤ b) -ℤ (S.t *ℤ b)) +ℤ ((S.t *ℤ b) +ℤ total (scaled_moves c T.moves) (scaled_leg c T.last))) refl time);
      }

  pub path_back : (l : ℕ) (path : List ℕ) (state : List Row) (d : ℤ) (ns : List ℤ) → l < length a.locations → Fits a l path → AllWide (width a + 1) state → pos 0 <ℤ d → length ns ≡ width a + 1 →
      AllHold (path_rows a l path state) (over d ns) → PathBack l path state (over d ns)
  path_back l [] state d ns hl fits wide hd ln h = path_none l state (over d ns) ((leg_ends a l state d ns (location_is a wf l hl) wide hd ln).0 h)
  path_back l (e ∷ path) state d ns hl fits wide hd ln h =
      onwards
      (path_back (transition_at a e).target path next d ns (transition_is a wf e fits.0).target fits.2
      (jump_wide_of a wf e (rows_after (leg_stage a l state)) fits.0 (leg_after_wide a l state (location_is a wf l hl) wide)) hd ln h)
    where
      next : List Row
      next = rows_after (jump_stage a e (rows_after (leg_stage a l state)))

      onwards : PathBack (transition_at a e).target path next (over d ns) → PathBack l (e ∷ path) state (over d ns)
      onwards T =
          path_more l e path state next (over d ns) fits.1 T
          (step_back l e state T.den (T.start ++ T.elapsed ∷ []) hl fits.0 wide T.positive (omega (arith, length-append T.start (T.elapsed ∷ []), T.sized)) T.starts)

  -- ---- a whole gap

  pub record GapBack (l : ℕ) (path : List ℕ) (duration : Fraction) (cells : List (Option Fraction)) (rows : List Row) (q : Point) : Type 0 where
    pub gap : GapRun
    pub loc : gap.start_loc ≡ l
    pub sized : length gap.start ≡ width a
    pub starts : AllHold rows (start_point gap)
    pub along : path_of gap ≡ path
    pub gap_run : IsGapRun a duration gap
    pub passes : IsPassing a cells (end_point gap)
    pub ends : SamePoint (end_point gap) q

  -- a path back to the start of the gap, from a point that passes the sample
  gap_of : (l : ℕ) (path : List ℕ) (duration : Fraction) (cells : List (Option Fraction)) (rows state : List Row) (y : Point) (c : ℤ) (v : List ℤ) (el : ℤ) → IsGapCase a l cells rows →
      IsFraction duration → EndsSample a duration cells state y c v el → PathBack l path (gap_start (width a) rows) (over c (v ++ el ∷ [])) → pos 0 <ℤ y.den →
      GapBack l path duration cells rows y
  gap_of l path duration cells rows state y c v el is hf S T hd =
      let m : ℕ = width a in
      let b : ℤ = T.den in
      let begins = (start_holds m b T.start T.elapsed rows T.sized is.wide).0 T.starts in
      let later : ℤ = total T.moves T.last in
      let time : ℤ = T.elapsed +ℤ later in
      let joined = last_same c b el time v T.last.at_end (S.sized ∙ sym T.sized_end) T.ends in
      let zero_start : time ≡ later = (let z = begins.1 in omega (arith, ints, z)) in
      let lasts : SameFraction (record { num = time; den = b }) duration = same-trans (record { num = time; den = b }) (record { num = el; den = c }) duration T.positive S.positive hf (sym joined.1) S.lasts in
      let cells_are : AreCells a cells = record { tolerances = is.tolerances; values = is.values; sized = is.sized } in
      let passes : IsPassing a cells (over b (take m T.last.at_end)) =
      at_same_point m _ (passing_system a cells m cells_are (omega arith)) c b v T.last.at_end S.positive T.positive S.sized T.sized_end joined.0
      (subst (λ xs. IsPassing a cells (over c xs)) (sym (take_whole m v S.sized)) S.passes) in
      record {
        gap = record { den = b; start_loc = l; start = T.start; moves = T.moves; last = T.last };
        loc = refl;
        sized = T.sized;
        starts = begins.0;
        along = T.along;
        gap_run = record { positive = T.positive; leads = T.leads; lasts = subst (λ z. SameFraction (record { num = z; den = b }) duration) zero_start lasts };
        passes = subst (λ xs. IsPassing a cells (over b xs)) (take_whole m T.last.at_end T.sized_end) passes;
        ends = sym (SamePoint-trans y (over c v) (over b T.last.at_end) S.positive S.ends joined.0);
      }

  pub gap_back : (l : ℕ) (path : List ℕ) (duration : Fraction) (cells : List (Option Fraction)) (rows : List Row) (d : ℤ) (ns : List ℤ) → IsGapCase a l cells rows → IsFraction duration →
      Fits a l path → pos 0 <ℤ d → length ns ≡ width a → AllHold (gap_rows a l path duration cells rows) (over d ns) → GapBack l path duration cells rows (over d ns)
  gap_back l path duration cells rows d ns is hf fits hd ln h =
      onwards ((sample_ends a duration cells state d ns is.tolerances is.values is.sized (path_wide a wf l path start is.loc fits wide) hd ln).0 h)
    where
      start : List Row
      start = gap_start (width a) rows

      state : List Row
      state = path_rows a l path start

      wide : AllWide (width a + 1) start
      wide = start_wide (width a) rows is.wide

      onwards : SomeSampleEnds a duration cells state (over d ns) → GapBack l path duration cells rows (over d ns)
      onwards (c, v, el, S) =
          gap_of l path duration cells rows state (over d ns) c v el is hf S
          (path_back l path start c (v ++ el ∷ []) is.loc fits wide S.positive (omega (arith, length-append v (el ∷ []), S.sized)) S.starts) hd
