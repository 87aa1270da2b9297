-- Where each number of a path is the pick of what other paths leave for it, each picking of the path is picked.
use Rattle.std.proofs.Common.{◌≡◌, inl, inr, ℕ, ◌+◌, ◌<◌, List, [], ◌∷◌, ◌++◌, length, length-append, append_assoc, sym, ◌∙◌, ap, subst, arith, ℤ, ◌+ℤ◌}
use Rattle.run_specs.proofs.PickedLemmas.{length-fractions}
use Rattle.run_specs.proofs.StageWidths.{location_is, transition_is, leg_after_wide, jump_wide_of}
use Rattle.run_parts.proofs.Choices.{AreEqual, pick_of_equal, at_place, at_front, at_back, before_or_past, fractions_both}
use Rattle.run_parts.proofs.OpenParts.{LegOpen, JumpOpen, picking_of, leg_open, jump_open}
use Rattle.run_parts.proofs.PathParts.{PathTakes, IsOwn, leg_alone, alone_leg, leg_first, first_leg, jump_first, first_jump, rest_first, first_rest}
use Rattle.poly_specs.specs.Lists.{In}
use Rattle.poly_specs.specs.Fractions.{Fraction, fractions}
use Rattle.poly_specs.specs.Rows.{Row, AllWide}
use Rattle.poly_specs.specs.Picks.{IsPick}
use Rattle.poly_specs.specs.Pickings.{Picking, IsOpen, ArePicked}
use Rattle.run_specs.specs.Automaton.{Automaton, width, location_at, transition_at}
use Rattle.run_specs.specs.WellFormed.{IsWellFormed, IsLocation}
use Rattle.run_specs.specs.Runs.{Leg, Move}
use Rattle.run_specs.specs.FirstRun.{backwards}
use Rattle.run_specs.specs.Stages.{rows_after, leg_rows, leg_stage, jump_rows, jump_stage}
use Rattle.run_specs.specs.RunPasses.{path_pickings}

-- ---- one picking

-- from the columns after k given ones
from_columns : (k : ℕ) (rows : List Row) (d : ℤ) (given more : List ℤ) (S : ℕ → Fraction → Type 0) → length given ≡ k →
    ((i : ℕ) → i < length more → IsPick (S i) (at_place i (fractions d more))) →
    ((i : ℕ) → i < length more → AreEqual (S i) (IsOpen (picking_of rows k d (given ++ more)) (k + i))) →
    ArePicked (picking_of rows k d (given ++ more))
from_columns k rows d given more S lg picks equal x hk hx = elim (before_or_past x k) [
  | inl lt ↦ absurd (omega (arith, lt, hk))
  | inr (i, e) ↦ (
      let hi : i < length more = omega (arith, hx, e, length-fractions d (given ++ more), length-append given more, lg) in
      let number : at_place i (fractions d more) ≡ at_place (k + i) (fractions d (given ++ more)) =
      sym (ap (at_place (k + i)) (fractions_both d given more) ∙ at_back k i (fractions d given) (fractions d more) (length-fractions d given ∙ lg)) in
      subst (λ z. IsPick (IsOpen (picking_of rows k d (given ++ more)) z) (at_place z (fractions d (given ++ more)))) (sym e)
      (subst (IsPick (IsOpen (picking_of rows k d (given ++ more)) (k + i))) number
      (pick_of_equal (S i) (IsOpen (picking_of rows k d (given ++ more)) (k + i)) (at_place i (fractions d more)) (equal i hi) (picks i hi))))
]

module _ (a : Automaton) where
  leg_picked : (l : ℕ) (state : List Row) (d : ℤ) (q : List ℤ) (elapsed t : ℤ) (p : List ℤ) → IsLocation (width a) (location_at a l) → AllWide (width a + 1) state →
      length q ≡ width a → length p ≡ width a → ((i : ℕ) → i < width a + 1 → IsPick (LegOpen a l state d q elapsed t p i) (at_place i (fractions d (t ∷ p)))) →
      ArePicked (picking_of (leg_rows a l state) (width a + 1) d (q ++ elapsed ∷ t ∷ p))
  leg_picked l state d q elapsed t p is wide lq lp picks =
      let k : ℕ = width a + 1 in
      let rows : List Row = leg_rows a l state in
      let whole : (q ++ elapsed ∷ []) ++ (t ∷ p) ≡ q ++ elapsed ∷ t ∷ p = append_assoc q (elapsed ∷ []) (t ∷ p) in
      subst (λ ns. ArePicked (picking_of rows k d ns)) whole
      (from_columns k rows d (q ++ elapsed ∷ []) (t ∷ p) (LegOpen a l state d q elapsed t p) (omega (arith, length-append q (elapsed ∷ []), lq))
      (λ i hi. picks i (omega (arith, hi, lp)))
      (λ i hi. subst (λ ns. AreEqual (LegOpen a l state d q elapsed t p i) (IsOpen (picking_of rows k d ns) (k + i))) (sym whole)
      ((λ v hv o. (leg_open a l state d q elapsed t p i v is wide lq lp (omega (arith, hi, lp))).1 o), (λ v hv o. (leg_open a l state d q elapsed t p i v is wide lq lp (omega (arith, hi, lp))).0 o))))

  jump_picked : (e : ℕ) (state : List Row) (d : ℤ) (q : List ℤ) (elapsed : ℤ) (p : List ℤ) → AllWide (width a + width a) (transition_at a e).relation →
      AllWide (width a) (location_at a (transition_at a e).target).invariant → AllWide (width a + 1) state → length q ≡ width a → length p ≡ width a →
      ((i : ℕ) → i < width a → IsPick (JumpOpen a e state d q elapsed p i) (at_place i (fractions d p))) → ArePicked (picking_of (jump_rows a e state) (width a + 1) d (q ++ elapsed ∷ p))
  jump_picked e state d q elapsed p wr wi wide lq lp picks =
      let k : ℕ = width a + 1 in
      let rows : List Row = jump_rows a e state in
      let whole : (q ++ elapsed ∷ []) ++ p ≡ q ++ elapsed ∷ p = append_assoc q (elapsed ∷ []) p in
      subst (λ ns. ArePicked (picking_of rows k d ns)) whole
      (from_columns k rows d (q ++ elapsed ∷ []) p (JumpOpen a e state d q elapsed p) (omega (arith, length-append q (elapsed ∷ []), lq)) (λ i hi. picks i (omega (arith, hi, lp)))
      (λ i hi. subst (λ ns. AreEqual (JumpOpen a e state d q elapsed p i) (IsOpen (picking_of rows k d ns) (k + i))) (sym whole)
      ((λ v hv o. (jump_open a e state d q elapsed p i v wr wi wide lq lp (omega (arith, hi, lp))).1 o), (λ v hv o. (jump_open a e state d q elapsed p i v wr wi wide lq lp (omega (arith, hi, lp))).0 o))))

-- ---- all pickings of a path

module _ (a : Automaton) (wf : IsWellFormed a) where
  -- each number of the path is the pick of what other paths leave for it
  abbrev pub PathPicks : ℕ → List Row → ℤ → ℤ → List ℤ → List Move → Leg → Type 0
  PathPicks l state d before p ms f =
      (i : ℕ) → i < length (backwards p ms f) → IsPick (PathTakes a wf l state d before p ms f i) (at_place i (fractions d (backwards p ms f)))

  module _ (l : ℕ) (state : List Row) (d before : ℤ) (p : List ℤ) (y : Move) (ms : List Move) (f : Leg) (own : IsOwn a wf l state d p (y ∷ ms) f) (picks : PathPicks l state d before p (y ∷ ms) f) where
    abbrev b : List ℤ
    b = backwards y.after ms f

    abbrev q : List ℤ
    q = y.leg.at_end

    abbrev t : ℤ
    t = y.leg.length_of

    lq : length q ≡ width a
    lq = own.leads.0.same_size ∙ own.sized

    long : length ((b ++ q) ++ t ∷ p) ≡ length b + width a + (width a + 1)
    long = omega (arith, length-append (b ++ q) (t ∷ p), length-append b q, lq, own.sized)

    front_long : length (fractions d b ++ fractions d q) ≡ length b + width a
    front_long = omega (arith, length-append (fractions d b) (fractions d q), length-fractions d b, length-fractions d q, lq)

    spelt : fractions d ((b ++ q) ++ t ∷ p) ≡ (fractions d b ++ fractions d q) ++ fractions d (t ∷ p)
    spelt = fractions_both d (b ++ q) (t ∷ p) ∙ ap (λ xs. xs ++ fractions d (t ∷ p)) (fractions_both d b q)

    pub leg_picks : (i : ℕ) → i < width a + 1 → IsPick (LegOpen a l state d q (before +ℤ t) t p i) (at_place i (fractions d (t ∷ p)))
    leg_picks i hi =
        let n : ℕ = length b + width a in
        let number : at_place (n + i) (fractions d ((b ++ q) ++ t ∷ p)) ≡ at_place i (fractions d (t ∷ p)) =
        ap (at_place (n + i)) spelt ∙ at_back n i (fractions d b ++ fractions d q) (fractions d (t ∷ p)) front_long in
        pick_of_equal (PathTakes a wf l state d before p (y ∷ ms) f (n + i)) (LegOpen a l state d q (before +ℤ t) t p i) (at_place i (fractions d (t ∷ p)))
        (λ v hv o. leg_first a wf l state d before p y ms f own i v o, λ v hv o. first_leg a wf l state d before p y ms f own i v o)
        (subst (IsPick (PathTakes a wf l state d before p (y ∷ ms) f (n + i))) number (picks (n + i) (omega (arith, hi, long))))

    pub jump_picks : (i : ℕ) → i < width a → IsPick (JumpOpen a y.transition (rows_after (leg_stage a l state)) d y.after (before +ℤ t) q i) (at_place i (fractions d q))
    jump_picks i hi =
        let n : ℕ = length b in
        let number : at_place (n + i) (fractions d ((b ++ q) ++ t ∷ p)) ≡ at_place i (fractions d q) =
        ap (at_place (n + i)) spelt ∙ at_front (length b + width a) (n + i) (fractions d b ++ fractions d q) (fractions d (t ∷ p)) front_long (omega (arith, hi))
        ∙ at_back n i (fractions d b) (fractions d q) (length-fractions d b) in
        pick_of_equal (PathTakes a wf l state d before p (y ∷ ms) f (n + i)) (JumpOpen a y.transition (rows_after (leg_stage a l state)) d y.after (before +ℤ t) q i) (at_place i (fractions d q))
        (λ v hv o. jump_first a wf l state d before p y ms f own i v hi o, λ v hv o. first_jump a wf l state d before p y ms f own i v hi o)
        (subst (IsPick (PathTakes a wf l state d before p (y ∷ ms) f (n + i))) number (picks (n + i) (omega (arith, hi, long))))

    pub rest_picks : PathPicks (transition_at a y.transition).target (rows_after (jump_stage a y.transition (rows_after (leg_stage a l state)))) d (before +ℤ t) y.after ms f
    rest_picks i hi =
        let number : at_place i (fractions d ((b ++ q) ++ t ∷ p)) ≡ at_place i (fractions d b) =
        ap (at_place i) spelt ∙ at_front (length b + width a) i (fractions d b ++ fractions d q) (fractions d (t ∷ p)) front_long (omega (arith, hi))
        ∙ at_front (length b) i (fractions d b) (fractions d q) (length-fractions d b) hi in
        pick_of_equal (PathTakes a wf l state d before p (y ∷ ms) f i)
        (PathTakes a wf (transition_at a y.transition).target (rows_after (jump_stage a y.transition (rows_after (leg_stage a l state)))) d (before +ℤ t) y.after ms f i) (at_place i (fractions d b))
        (λ v hv o. rest_first a wf l state d before p y ms f own i v hi o, λ v hv o. first_rest a wf l state d before p y ms f own i v hi o)
        (subst (IsPick (PathTakes a wf l state d before p (y ∷ ms) f i)) number (picks i (omega (arith, hi, long))))

  -- what is known of the rest of the path
  own_rest : (l : ℕ) (state : List Row) (d : ℤ) (p : List ℤ) (y : Move) (ms : List Move) (f : Leg) → IsOwn a wf l state d p (y ∷ ms) f →
      IsOwn a wf (transition_at a y.transition).target (rows_after (jump_stage a y.transition (rows_after (leg_stage a l state)))) d y.after ms f
  own_rest l state d p y ms f own = record {
    positive = own.positive;
    sized = own.leads.2.same_size ∙ own.leads.0.same_size ∙ own.sized;
    sized_end = own.sized_end;
    leads = own.leads.3;
    within = (transition_is a wf y.transition own.fits.0).target;
    fits = own.fits.2;
    wide = jump_wide_of a wf y.transition (rows_after (leg_stage a l state)) own.fits.0 (leg_after_wide a l state (location_is a wf l own.within) own.wide);
  }

  pub path_picked : (l : ℕ) (state : List Row) (d before : ℤ) (p : List ℤ) (ms : List Move) (f : Leg) → IsOwn a wf l state d p ms f → PathPicks l state d before p ms f →
      (pk : Picking) → In pk (path_pickings a d l before state p ms f) → ArePicked pk
  path_picked l state d before p [] f own picks pk (inl e) =
      subst ArePicked (sym e)
      (leg_picked a l state d f.at_end (before +ℤ f.length_of) f.length_of p (location_is a wf l own.within) own.wide own.sized_end own.sized
      (λ i hi. pick_of_equal (PathTakes a wf l state d before p [] f i) (LegOpen a l state d f.at_end (before +ℤ f.length_of) f.length_of p i) (at_place i (fractions d (f.length_of ∷ p)))
      (λ v hv o. leg_alone a wf l state d before p f i v o, λ v hv o. alone_leg a wf l state d before p f i v o) (picks i (omega (arith, hi, own.sized)))))
  path_picked l state d before p [] f own picks pk (inr i) = absurd i
  path_picked l state d before p (y ∷ ms) f own picks pk (inl e) =
      subst ArePicked (sym e)
      (leg_picked a l state d y.leg.at_end (before +ℤ y.leg.length_of) y.leg.length_of p (location_is a wf l own.within) own.wide (own.leads.0.same_size ∙ own.sized) own.sized
      (leg_picks l state d before p y ms f own picks))
  path_picked l state d before p (y ∷ ms) f own picks pk (inr (inl e)) =
      let lq : length y.leg.at_end ≡ width a = own.leads.0.same_size ∙ own.sized in
      let tr = transition_is a wf y.transition own.fits.0 in
      subst ArePicked (sym e)
      (jump_picked a y.transition (rows_after (leg_stage a l state)) d y.after (before +ℤ y.leg.length_of) y.leg.at_end tr.relation
      (location_is a wf (transition_at a y.transition).target tr.target).invariant (leg_after_wide a l state (location_is a wf l own.within) own.wide) (own.leads.2.same_size ∙ lq) lq
      (jump_picks l state d before p y ms f own picks))
  path_picked l state d before p (y ∷ ms) f own picks pk (inr (inr i)) =
      path_picked (transition_at a y.transition).target (rows_after (jump_stage a y.transition (rows_after (leg_stage a l state)))) d (before +ℤ y.leg.length_of) y.after ms f
      (own_rest l state d p y ms f own) (rest_picks l state d before p y ms f own picks) pk i
