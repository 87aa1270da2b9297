-- The numbers of a path: what other paths from the state leave for each is what its picking leaves open.
use Rattle.std.proofs.Common.{◌≡◌, ℕ, ◌+◌, ◌<◌, List, [], ◌∷◌, ◌++◌, length, length-append, refl, sym, ◌∙◌, ap, subst, arith, ℤ, pos, ◌+ℤ◌, ◌-ℤ◌, ◌*ℤ◌, ◌<ℤ◌}
use Rattle.std.proofs.lemmas.Int.{ints}
use Rattle.run_specs.proofs.EndLemmas.{leg_ends, jump_ends}
use Rattle.run_specs.proofs.GapBack.{PathBack}
use Rattle.run_specs.proofs.MixLemmas.{transitions}
use Rattle.run_specs.proofs.PickedLemmas.{length-fractions}
use Rattle.run_specs.proofs.ScaledRuns.{last_same, sum_times}
use Rattle.run_specs.proofs.StageWidths.{location_is, transition_is, leg_after_wide}
use Rattle.run_parts.proofs.Choices.{Agree, Chosen, chosen_front, front_chosen, chosen_back, back_chosen, fractions_both, agree_point, chosen_moved, zip_equal}
use Rattle.run_parts.proofs.OpenParts.{LegOpen, JumpOpen}
use Rattle.run_parts.proofs.PathNumbers.{none_first, same_tail, same_head, as_many, parts_same, parts_join, same_one, start_same, total_same}
use Rattle.run_parts.proofs.PathGlue.{Rest, Way, Glued, glued_leg, glued_jump, respelt}
use Rattle.poly_specs.specs.Fractions.{Fraction, fractions}
use Rattle.poly_specs.specs.Rows.{Point, Row, over, SamePoint, AllHold, AllWide}
use Rattle.run_specs.specs.Automaton.{Automaton, width, location_at, transition_at}
use Rattle.run_specs.specs.WellFormed.{IsWellFormed}
use Rattle.run_specs.specs.Runs.{Leg, Move, IsLeg, IsJump, LeadOn, total}
use Rattle.run_specs.specs.FirstRun.{backwards}
use Rattle.run_specs.specs.Passes.{Fits}
use Rattle.run_specs.specs.Stages.{rows_after, leg_stage, jump_stage}
use Rattle.run_specs.specs.Ends.{EndsJump, SomeJumpEnds}

-- the time before the rest, where the whole times and the rests are equal
time_before : (x y u w d c : ℤ) → (x +ℤ u) *ℤ c ≡ (y +ℤ w) *ℤ d → u *ℤ c ≡ w *ℤ d → x *ℤ c ≡ y *ℤ d
time_before x y u w d c e f = let one = sum_times x u c in let two = sum_times y w d in omega (arith, ints, e, f, one, two)

module _ (a : Automaton) (wf : IsWellFormed a) where
  -- where the path with these last values and this whole time ends
  abbrev end_at : ℤ → ℤ → List Move → Leg → Point
  end_at d before ms f = over d (f.at_end ++ (before +ℤ total ms f) ∷ [])

  -- another path from the state, along the same transitions to the same end at the same time, whose number at i is so chosen
  pub record PathTakes (l : ℕ) (state : List Row) (d before : ℤ) (p : List ℤ) (ms : List Move) (f : Leg) (i : ℕ) (v : Fraction) : Type 0 where
    pub way : PathBack a wf l (transitions ms) state (over d (f.at_end ++ (before +ℤ total ms f) ∷ []))
    pub chosen : Chosen i v (fractions way.den (backwards way.start way.moves way.last)) (fractions d (backwards p ms f))

  -- what is known of the path itself
  pub record IsOwn (l : ℕ) (state : List Row) (d : ℤ) (p : List ℤ) (ms : List Move) (f : Leg) : Type 0 where
    pub positive : pos 0 <ℤ d
    pub sized : length p ≡ width a
    pub sized_end : length f.at_end ≡ width a
    pub leads : LeadOn a d l p ms f
    pub within : l < length a.locations
    pub fits : Fits a l (transitions ms)
    pub wide : AllWide (width a + 1) state

  -- ---- a leg alone

  pub leg_alone : (l : ℕ) (state : List Row) (d before : ℤ) (p : List ℤ) (f : Leg) (i : ℕ) (v : Fraction) → PathTakes l state d before p [] f i v →
      LegOpen a l state d f.at_end (before +ℤ f.length_of) f.length_of p i v
  leg_alone l state d before p f i v t = go t.way.den t.way.start t.way.elapsed t.way.moves t.way.last t.way.positive t.way.sized_end t.way.starts t.way.leads t.way.along t.way.ends t.chosen
    where
      go : (c : ℤ) (start : List ℤ) (elapsed : ℤ) (moves : List Move) (last : Leg) → pos 0 <ℤ c → length last.at_end ≡ width a → AllHold state (over c (start ++ elapsed ∷ [])) →
          LeadOn a c l start moves last → transitions moves ≡ [] → SamePoint (over d (f.at_end ++ (before +ℤ f.length_of) ∷ [])) (over c (last.at_end ++ (elapsed +ℤ total moves last) ∷ [])) →
          Chosen i v (fractions c (backwards start moves last)) (fractions d (f.length_of ∷ p)) → LegOpen a l state d f.at_end (before +ℤ f.length_of) f.length_of p i v
      go c start elapsed [] last hc le starts leads along ends chosen =
          let back : elapsed ≡ (elapsed +ℤ last.length_of) -ℤ last.length_of = omega (arith, ints) in
          record {
            den = c;
            to = last.at_end;
            time = elapsed +ℤ last.length_of;
            lasts = last.length_of;
            from = start;
            ends = record { positive = hc; sized = le; starts = subst (λ z. AllHold state (over c (start ++ z ∷ []))) back starts; leg = leads; ends = ends };
            chosen = chosen;
          }
      go c start elapsed (y ∷ moves) last hc le starts leads along ends chosen = absurd (none_first y.transition (transitions moves) along)

  pub alone_leg : (l : ℕ) (state : List Row) (d before : ℤ) (p : List ℤ) (f : Leg) (i : ℕ) (v : Fraction) → LegOpen a l state d f.at_end (before +ℤ f.length_of) f.length_of p i v →
      PathTakes l state d before p [] f i v
  alone_leg l state d before p f i v o =
      let c = o.ends in
      let back : o.time ≡ (o.time -ℤ o.lasts) +ℤ o.lasts = omega (arith, ints) in
      record {
        way = record {
          den = o.den;
          start = o.from;
          elapsed = o.time -ℤ o.lasts;
          moves = [];
          last = record { length_of = o.lasts; at_end = o.to };
          positive = c.positive;
          sized = sym c.leg.same_size ∙ c.sized;
          sized_end = c.sized;
          starts = c.starts;
          leads = c.leg;
          along = refl;
          ends = subst (λ z. SamePoint (over d (f.at_end ++ (before +ℤ f.length_of) ∷ [])) (over o.den (o.to ++ z ∷ []))) back c.ends;
        };
        chosen = o.chosen;
      }

  -- ---- a leg and a jump before a path

  module _ (l : ℕ) (state : List Row) (d before : ℤ) (p : List ℤ) (y : Move) (ms : List Move) (f : Leg) (own : IsOwn l state d p (y ∷ ms) f) where
    abbrev e : ℕ
    e = y.transition

    abbrev q : List ℤ
    q = y.leg.at_end

    abbrev t : ℤ
    t = y.leg.length_of

    -- the numbers of what follows the jump
    abbrev b : List ℤ
    b = backwards y.after ms f

    abbrev after_leg : List Row
    after_leg = rows_after (leg_stage a l state)

    lq : length q ≡ width a
    lq = own.leads.0.same_size ∙ own.sized

    la : length y.after ≡ width a
    la = own.leads.2.same_size ∙ lq

    leg_wide : AllWide (width a + 1) after_leg
    leg_wide = leg_after_wide a l state (location_is a wf l own.within) own.wide

    rest : Rest a l e d q y.after ms f
    rest = record { positive = own.positive; sized = lq; sized_end = own.sized_end; leaves = own.leads.1; jump = own.leads.2; leads = own.leads.3 }

    -- the numbers part by part
    spelt : (c : ℤ) (n q' : List ℤ) (s : ℤ) (u : List ℤ) → fractions c ((n ++ q') ++ s ∷ u) ≡ (fractions c n ++ fractions c q') ++ fractions c (s ∷ u)
    spelt c n q' s u = fractions_both c (n ++ q') (s ∷ u) ∙ ap (λ xs. xs ++ fractions c (s ∷ u)) (fractions_both c n q')

    -- another path, taken apart
    record Parts (i : ℕ) (v : Fraction) : Type 0 where
      den : ℤ
      start : List ℤ
      elapsed : ℤ
      first : Move
      moves : List Move
      last : Leg
      positive : pos 0 <ℤ den
      sized : length start ≡ width a
      sized_end : length last.at_end ≡ width a
      starts : AllHold state (over den (start ++ elapsed ∷ []))
      leg : IsLeg (location_at a l) den start first.leg.length_of first.leg.at_end
      same_jump : first.transition ≡ e
      jumps : EndsJump a e after_leg (over den (first.after ++ (elapsed +ℤ first.leg.length_of) ∷ [])) den first.after (elapsed +ℤ first.leg.length_of) first.leg.at_end
      leads : LeadOn a den (transition_at a e).target first.after moves last
      along : transitions moves ≡ transitions ms
      ends : SamePoint (over d (f.at_end ++ (before +ℤ (t +ℤ total ms f)) ∷ [])) (over den (last.at_end ++ (elapsed +ℤ (first.leg.length_of +ℤ total moves last)) ∷ []))
      many : length (backwards first.after moves last) ≡ length b
      chosen : Chosen i v ((fractions den (backwards first.after moves last) ++ fractions den first.leg.at_end) ++ fractions den (first.leg.length_of ∷ start)) ((fractions d b ++ fractions d q) ++ fractions d (t ∷ p))

    parts : (i : ℕ) (v : Fraction) → PathTakes l state d before p (y ∷ ms) f i v → Parts i v
    parts i v k = go k.way.den k.way.start k.way.elapsed k.way.moves k.way.last k.way.positive k.way.sized k.way.sized_end k.way.starts k.way.leads k.way.along k.way.ends k.chosen
      where
        go : (c : ℤ) (start : List ℤ) (elapsed : ℤ) (moves : List Move) (last : Leg) → pos 0 <ℤ c → length start ≡ width a → length last.at_end ≡ width a →
            AllHold state (over c (start ++ elapsed ∷ [])) → LeadOn a c l start moves last → transitions moves ≡ e ∷ transitions ms →
            SamePoint (over d (f.at_end ++ (before +ℤ (t +ℤ total ms f)) ∷ [])) (over c (last.at_end ++ (elapsed +ℤ total moves last) ∷ [])) →
            Chosen i v (fractions c (backwards start moves last)) (fractions d ((b ++ q) ++ t ∷ p)) → Parts i v
        go c start elapsed [] last hc ls le starts leads along ends chosen = absurd (none_first e (transitions ms) (sym along))
        go c start elapsed (x ∷ moves) last hc ls le starts leads along ends chosen =
            let head : x.transition ≡ e = same_head x.transition e (transitions moves) (transitions ms) along in
            let tail : transitions moves ≡ transitions ms = same_tail x.transition e (transitions moves) (transitions ms) along in
            let lx : length x.leg.at_end ≡ width a = leads.0.same_size ∙ ls in
            let lxa : length x.after ≡ width a = leads.2.same_size ∙ lx in
            let on : LeadOn a c (transition_at a e).target x.after moves last = subst (λ z. LeadOn a c (transition_at a z).target x.after moves last) head leads.3 in
            let back : elapsed ≡ (elapsed +ℤ x.leg.length_of) -ℤ x.leg.length_of = omega (arith, ints) in
            let there : AllHold after_leg (over c (x.leg.at_end ++ (elapsed +ℤ x.leg.length_of) ∷ [])) =
            (leg_ends a l state c (x.leg.at_end ++ (elapsed +ℤ x.leg.length_of) ∷ []) (location_is a wf l own.within) own.wide hc (omega (arith, length-append x.leg.at_end ((elapsed +ℤ x.leg.length_of) ∷ []), lx))).1 (
              c,
              x.leg.at_end,
              elapsed +ℤ x.leg.length_of,
              x.leg.length_of,
              start,
              record { positive = hc; sized = lx; starts = subst (λ z. AllHold state (over c (start ++ z ∷ []))) back starts; leg = leads.0; ends = refl },
            ) in
            record {
              den = c;
              start = start;
              elapsed = elapsed;
              first = x;
              moves = moves;
              last = last;
              positive = hc;
              sized = ls;
              sized_end = le;
              starts = starts;
              leg = leads.0;
              same_jump = head;
              jumps = record { positive = hc; sized = lxa; starts = there; jump = subst (λ z. IsJump a z c x.leg.at_end x.after) head leads.2; ends = refl };
              leads = on;
              along = tail;
              ends = ends;
              many = as_many a (width a) c d (transition_at a e).target (transition_at a e).target x.after y.after moves ms last f lxa la tail on own.leads.3;
              chosen = subst (λ xs. Chosen i v xs ((fractions d b ++ fractions d q) ++ fractions d (t ∷ p))) (spelt c (backwards x.after moves last) x.leg.at_end x.leg.length_of start)
                  (subst (Chosen i v (fractions c (backwards x.after moves last ++ x.leg.at_end ++ x.leg.length_of ∷ start))) (spelt d b q t p) chosen);
            }

    -- ---- from another path

    numbers_long : (c : ℤ) (n q' : List ℤ) → length n ≡ length b → length q' ≡ width a → length (fractions c n ++ fractions c q') ≡ length b + width a
    numbers_long c n q' ln lq' = omega (arith, length-append (fractions c n) (fractions c q'), length-fractions c n, length-fractions c q', ln, lq')

    -- where the numbers of the rest are equal, the time before it is
    time_same : (i : ℕ) (v : Fraction) (k : Parts i v) → SamePoint (over d b) (over k.den (backwards k.first.after k.moves k.last)) → (before +ℤ t) *ℤ k.den ≡ (k.elapsed +ℤ k.first.leg.length_of) *ℤ d
    time_same i v k same =
        let whole = (last_same d k.den (before +ℤ (t +ℤ total ms f)) (k.elapsed +ℤ (k.first.leg.length_of +ℤ total k.moves k.last)) f.at_end k.last.at_end (own.sized_end ∙ sym k.sized_end) k.ends).1 in
        let later = total_same a (width a) d k.den (transition_at a e).target (transition_at a e).target y.after k.first.after ms k.moves f k.last la k.jumps.sized (sym k.along) own.leads.3 k.leads same in
        let one : before +ℤ (t +ℤ total ms f) ≡ (before +ℤ t) +ℤ total ms f = omega (arith, ints) in
        let two : k.elapsed +ℤ (k.first.leg.length_of +ℤ total k.moves k.last) ≡ (k.elapsed +ℤ k.first.leg.length_of) +ℤ total k.moves k.last = omega (arith, ints) in
        time_before (before +ℤ t) (k.elapsed +ℤ k.first.leg.length_of) (total ms f) (total k.moves k.last) d k.den (ap (λ z. z *ℤ k.den) (sym one) ∙ whole ∙ ap (λ z. z *ℤ d) two) later

    pub leg_first : (i : ℕ) (v : Fraction) → PathTakes l state d before p (y ∷ ms) f (length b + width a + i) v → LegOpen a l state d q (before +ℤ t) t p i v
    leg_first i v other =
        let k = parts (length b + width a + i) v other in
        let n : List ℤ = backwards k.first.after k.moves k.last in
        let r : List ℤ = k.first.leg.at_end in
        let lr : length r ≡ width a = k.leg.same_size ∙ k.sized in
        let both = chosen_back (length b + width a) (fractions k.den n ++ fractions k.den r) (fractions d b ++ fractions d q) (fractions k.den (k.first.leg.length_of ∷ k.start)) (fractions d (t ∷ p))
        (numbers_long k.den n r k.many lr) (numbers_long d b q refl lq) i v k.chosen in
        let all : SamePoint (over k.den (n ++ r)) (over d (b ++ q)) =
        agree_point (length b + width a) k.den d (n ++ r) (b ++ q) (omega (arith, length-append n r, k.many, lr)) (omega (arith, length-append b q, lq))
        (subst (λ xs. Agree (length b + width a) xs (fractions d (b ++ q))) (sym (fractions_both k.den n r))
        (subst (Agree (length b + width a) (fractions k.den n ++ fractions k.den r)) (sym (fractions_both d b q)) both.0)) in
        let same = parts_same k.den d (length b) n b r q k.many refl all in
        let time = time_same (length b + width a + i) v k (sym same.0) in
        let back : k.elapsed ≡ (k.elapsed +ℤ k.first.leg.length_of) -ℤ k.first.leg.length_of = omega (arith, ints) in
        record {
          den = k.den;
          to = r;
          time = k.elapsed +ℤ k.first.leg.length_of;
          lasts = k.first.leg.length_of;
          from = k.start;
          ends = record {
            positive = k.positive;
            sized = lr;
            starts = subst (λ z. AllHold state (over k.den (k.start ++ z ∷ []))) back k.starts;
            leg = k.leg;
            ends = parts_join d k.den q r ((before +ℤ t) ∷ []) ((k.elapsed +ℤ k.first.leg.length_of) ∷ []) (sym same.1) (same_one d k.den (before +ℤ t) (k.elapsed +ℤ k.first.leg.length_of) time);
          };
          chosen = both.1;
        }

    pub jump_first : (i : ℕ) (v : Fraction) → i < width a → PathTakes l state d before p (y ∷ ms) f (length b + i) v → JumpOpen a e after_leg d y.after (before +ℤ t) q i v
    jump_first i v hi other =
        let k = parts (length b + i) v other in
        let n : List ℤ = backwards k.first.after k.moves k.last in
        let r : List ℤ = k.first.leg.at_end in
        let lr : length r ≡ width a = k.leg.same_size ∙ k.sized in
        let front = chosen_front (length b + width a) (fractions k.den n ++ fractions k.den r) (fractions d b ++ fractions d q) (fractions k.den (k.first.leg.length_of ∷ k.start)) (fractions d (t ∷ p))
        (numbers_long k.den n r k.many lr) (numbers_long d b q refl lq) (length b + i) v (omega (arith, hi)) k.chosen in
        let both = chosen_back (length b) (fractions k.den n) (fractions d b) (fractions k.den r) (fractions d q) (length-fractions k.den n ∙ k.many) (length-fractions d b) i v front in
        let same : SamePoint (over d b) (over k.den n) = sym (agree_point (length b) k.den d n b k.many refl both.0) in
        let time = time_same (length b + i) v k same in
        let start : SamePoint (over d y.after) (over k.den k.first.after) =
        start_same a d k.den (width a) (transition_at a e).target (transition_at a e).target y.after k.first.after ms k.moves f k.last la k.jumps.sized (sym k.along) own.leads.3 k.leads same in
        record {
          den = k.den;
          to = k.first.after;
          time = k.elapsed +ℤ k.first.leg.length_of;
          from = r;
          ends = record {
            positive = k.positive;
            sized = k.jumps.sized;
            starts = k.jumps.starts;
            jump = k.jumps.jump;
            ends = parts_join d k.den y.after k.first.after ((before +ℤ t) ∷ []) ((k.elapsed +ℤ k.first.leg.length_of) ∷ []) start
                (same_one d k.den (before +ℤ t) (k.elapsed +ℤ k.first.leg.length_of) time);
          };
          chosen = both.1;
        }

    -- what is left after the jump
    abbrev next : List Row
    next = rows_after (jump_stage a e after_leg)

    pub rest_first : (i : ℕ) (v : Fraction) → i < length b → PathTakes l state d before p (y ∷ ms) f i v → PathTakes (transition_at a e).target next d (before +ℤ t) y.after ms f i v
    rest_first i v hi other =
        let k = parts i v other in
        let n : List ℤ = backwards k.first.after k.moves k.last in
        let r : List ℤ = k.first.leg.at_end in
        let s : ℤ = k.elapsed +ℤ k.first.leg.length_of in
        let lr : length r ≡ width a = k.leg.same_size ∙ k.sized in
        let front = chosen_front (length b + width a) (fractions k.den n ++ fractions k.den r) (fractions d b ++ fractions d q) (fractions k.den (k.first.leg.length_of ∷ k.start)) (fractions d (t ∷ p))
        (numbers_long k.den n r k.many lr) (numbers_long d b q refl lq) i v (omega (arith, hi)) k.chosen in
        let here = chosen_front (length b) (fractions k.den n) (fractions d b) (fractions k.den r) (fractions d q) (length-fractions k.den n ∙ k.many) (length-fractions d b) i v hi front in
        let tr = transition_is a wf e own.fits.0 in
        let there : AllHold next (over k.den (k.first.after ++ s ∷ [])) =
        (jump_ends a e after_leg k.den (k.first.after ++ s ∷ []) tr.relation (location_is a wf (transition_at a e).target tr.target).invariant leg_wide k.positive
        (omega (arith, length-append k.first.after (s ∷ []), k.jumps.sized))).1 (k.den, k.first.after, s, r, k.jumps) in
        let one : before +ℤ (t +ℤ total ms f) ≡ (before +ℤ t) +ℤ total ms f = omega (arith, ints) in
        let two : k.elapsed +ℤ (k.first.leg.length_of +ℤ total k.moves k.last) ≡ s +ℤ total k.moves k.last = omega (arith, ints) in
        record {
          way = record {
            den = k.den;
            start = k.first.after;
            elapsed = s;
            moves = k.moves;
            last = k.last;
            positive = k.positive;
            sized = k.jumps.sized;
            sized_end = k.sized_end;
            starts = there;
            leads = k.leads;
            along = k.along;
            ends = subst (λ z. SamePoint (over d (f.at_end ++ z ∷ [])) (over k.den (k.last.at_end ++ (s +ℤ total k.moves k.last) ∷ []))) one
                (subst (λ z. SamePoint (over d (f.at_end ++ (before +ℤ (t +ℤ total ms f)) ∷ [])) (over k.den (k.last.at_end ++ z ∷ []))) two k.ends);
          };
          chosen = here;
        }

    -- ---- to another path

    -- the end of the path
    abbrev end : Point
    end = over d (f.at_end ++ (before +ℤ (t +ℤ total ms f)) ∷ [])

    end_is : over d (f.at_end ++ ((before +ℤ t) +ℤ total ms f) ∷ []) ≡ end
    end_is = let one : (before +ℤ t) +ℤ total ms f ≡ before +ℤ (t +ℤ total ms f) = omega (arith, ints) in ap (λ z. over d (f.at_end ++ z ∷ [])) one

    closed : (i : ℕ) (v : Fraction) (numbers : List Fraction) → Glued a wf l e (transitions ms) state end numbers → Chosen i v numbers ((fractions d b ++ fractions d q) ++ fractions d (t ∷ p)) →
        PathTakes l state d before p (y ∷ ms) f i v
    closed i v numbers g chosen = record {
      way = g.way;
      chosen = subst (Chosen i v (fractions g.way.den (backwards g.way.start g.way.moves g.way.last))) (sym (spelt d b q t p))
          (chosen_moved i v (fractions g.way.den (backwards g.way.start g.way.moves g.way.last)) numbers ((fractions d b ++ fractions d q) ++ fractions d (t ∷ p)) g.all g.same chosen);
    }

    pub first_leg : (i : ℕ) (v : Fraction) → LegOpen a l state d q (before +ℤ t) t p i v → PathTakes l state d before p (y ∷ ms) f (length b + width a + i) v
    first_leg i v o =
        let numbers : List Fraction = (fractions d b ++ fractions d q) ++ fractions o.den (o.lasts ∷ o.from) in
        let g = glued_leg a wf l e state d q y.after ms f (before +ℤ t) o.den o.to o.time o.lasts o.from rest o.ends in
        closed (length b + width a + i) v numbers (subst (λ (z : Point). Glued a wf l e (transitions ms) state z numbers) end_is g)
        (back_chosen (length b + width a) (fractions d b ++ fractions d q) (fractions d b ++ fractions d q) (fractions o.den (o.lasts ∷ o.from)) (fractions d (t ∷ p))
        (numbers_long d b q refl lq) (numbers_long d b q refl lq) i v (λ j h. refl) o.chosen)

    way_on : Way a wf e d y.after ms f
    way_on = record { positive = own.positive; sized = la; sized_end = own.sized_end; leads = own.leads.3 }

    pub first_jump : (i : ℕ) (v : Fraction) → i < width a → JumpOpen a e after_leg d y.after (before +ℤ t) q i v → PathTakes l state d before p (y ∷ ms) f (length b + i) v
    first_jump i v hi o =
        let (more, g) = glued_jump a wf l e state d y.after ms f (before +ℤ t) o.den o.to o.time o.from own.within own.wide own.leads.1 way_on o.ends in
        let numbers : List Fraction = (fractions d b ++ fractions o.den o.from) ++ more in
        let lf : length o.from ≡ width a = sym o.ends.jump.same_size ∙ o.ends.sized in
        let long : length (fractions d b ++ fractions o.den o.from) ≡ length b + width a =
        omega (arith, length-append (fractions d b) (fractions o.den o.from), length-fractions d b, length-fractions o.den o.from, lf) in
        closed (length b + i) v numbers (subst (λ (z : Point). Glued a wf l e (transitions ms) state z numbers) end_is g)
        (front_chosen (length b + width a) (fractions d b ++ fractions o.den o.from) (fractions d b ++ fractions d q) more (fractions d (t ∷ p)) long (numbers_long d b q refl lq) (length b + i) v (omega (arith, hi))
        (back_chosen (length b) (fractions d b) (fractions d b) (fractions o.den o.from) (fractions d q) (length-fractions d b) (length-fractions d b) i v (λ j h. refl) o.chosen))

    pub first_rest : (i : ℕ) (v : Fraction) → i < length b → PathTakes (transition_at a e).target next d (before +ℤ t) y.after ms f i v → PathTakes l state d before p (y ∷ ms) f i v
    first_rest i v hi k =
        let tr = transition_is a wf e own.fits.0 in
        let w = k.way in
        onwards
        ((jump_ends a e after_leg w.den (w.start ++ w.elapsed ∷ []) tr.relation (location_is a wf (transition_at a e).target tr.target).invariant leg_wide w.positive
        (omega (arith, length-append w.start (w.elapsed ∷ []), w.sized))).0 w.starts)
      where
        onwards : SomeJumpEnds a e after_leg (over k.way.den (k.way.start ++ k.way.elapsed ∷ [])) → PathTakes l state d before p (y ∷ ms) f i v
        onwards (c, z, x, u, J) =
            let w = k.way in
            let n : List ℤ = backwards w.start w.moves w.last in
            let (more, g) = glued_jump a wf l e state w.den w.start w.moves w.last w.elapsed c z x u own.within own.wide own.leads.1
            (record { positive = w.positive; sized = w.sized; sized_end = w.sized_end; leads = w.leads }) J in
            let numbers : List Fraction = (fractions w.den n ++ fractions c u) ++ more in
            let lu : length u ≡ width a = sym J.jump.same_size ∙ J.sized in
            let many : length n ≡ length b =
            as_many a (width a) w.den d (transition_at a e).target (transition_at a e).target w.start y.after w.moves ms w.last f w.sized la w.along w.leads own.leads.3 in
            let long : length (fractions w.den n ++ fractions c u) ≡ length b + width a =
            omega (arith, length-append (fractions w.den n) (fractions c u), length-fractions w.den n, length-fractions c u, lu, many) in
            let at : SamePoint end (over w.den (w.last.at_end ++ (w.elapsed +ℤ total w.moves w.last) ∷ [])) =
            subst (λ (z : Point). SamePoint z (over w.den (w.last.at_end ++ (w.elapsed +ℤ total w.moves w.last) ∷ []))) end_is w.ends in
            closed i v numbers
            (respelt a wf l e (transitions w.moves) (transitions ms) state (over w.den (w.last.at_end ++ (w.elapsed +ℤ total w.moves w.last) ∷ [])) end numbers numbers w.along w.positive at g.all (zip_equal numbers) g)
            (front_chosen (length b + width a) (fractions w.den n ++ fractions c u) (fractions d b ++ fractions d q) more (fractions d (t ∷ p)) long (numbers_long d b q refl lq) i v (omega (arith, hi))
            (front_chosen (length b) (fractions w.den n) (fractions d b) (fractions c u) (fractions d q) (length-fractions w.den n ∙ many) (length-fractions d b) i v hi k.chosen))
