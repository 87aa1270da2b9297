-- What the picking of a leg or of a jump leaves open, in the words of legs and jumps.
use Rattle.std.proofs.Common.{◌≡◌, ◌↔◌, ℕ, zero, suc, ◌+◌, ◌<◌, List, [], ◌∷◌, ◌++◌, length, length-append, length-take, length-drop, append_assoc, take, drop, refl, sym, ◌∙◌, ap, subst, arith, ℤ, pos, ◌<ℤ◌}
use Rattle.std.proofs.lemmas.List.{take-append-drop}
use Rattle.run_parts.proofs.Choices.{at_place, Chosen, chosen_back, back_chosen, fractions_both, at_coordinate, point_agree, agree_point}
use Rattle.run_specs.proofs.PickedLemmas.{length-fractions}
use Rattle.run_specs.proofs.StageLemmas.{leg_exact, jump_exact}
use Rattle.poly_specs.specs.Fractions.{Fraction, SameFraction, fractions}
use Rattle.poly_specs.specs.Rows.{Row, over, SamePoint, AllHold, AllWide}
use Rattle.poly_specs.specs.Pickings.{Picking, IsOpen}
use Rattle.run_specs.specs.Automaton.{Automaton, width, location_at, transition_at}
use Rattle.run_specs.specs.WellFormed.{IsLocation}
use Rattle.run_specs.specs.Stages.{leg_rows, jump_rows}
use Rattle.run_specs.specs.Ends.{EndsLeg, EndsJump}

-- ---- any picking

-- a point of the rows whose numbers before the given column are the given ones, and whose numbers after it are so chosen
pub record OpenPart (k : ℕ) (rows : List Row) (d : ℤ) (given more : List ℤ) (i : ℕ) (v : Fraction) : Type 0 where
  pub den : ℤ
  pub front : List ℤ
  pub back : List ℤ
  pub positive : pos 0 <ℤ den
  pub sized : length front ≡ k
  pub long : length back ≡ length more
  pub holds : AllHold rows (over den (front ++ back))
  pub same : SamePoint (over den front) (over d given)
  pub chosen : Chosen i v (fractions den back) (fractions d more)

-- a picking of these rows, with these numbers over d
abbrev pub picking_of : List Row → ℕ → ℤ → List ℤ → Picking
picking_of rows first d ns = record { rows = rows; first = first; numbers = fractions d ns }

module _ (k first : ℕ) (rows : List Row) (d : ℤ) (given more : List ℤ) (lg : length given ≡ k) (i : ℕ) (v : Fraction) (hi : i < length more) where
  columns : length (fractions d (given ++ more)) ≡ k + length more
  columns = omega (arith, length-fractions d (given ++ more), length-append given more, lg)

  open_to : IsOpen (picking_of rows first d (given ++ more)) (k + i) v → OpenPart k rows d given more i v
  open_to (q, c) =
      let len : length q.num ≡ k + length more = c.point.sized ∙ columns in
      let front : List ℤ = take k q.num in
      let back : List ℤ = drop k q.num in
      let lf : length front ≡ k = omega (arith, length-take k q.num, len) in
      let lb : length back ≡ length more = omega (arith, length-drop k q.num, len) in
      let parts : q.num ≡ front ++ back = sym (take-append-drop k q.num) in
      let all : Chosen (k + i) v (fractions q.den q.num) (fractions d (given ++ more)) = record {
        agree = λ j h. subst (λ x. SameFraction x (at_place j (fractions d (given ++ more)))) (sym (at_coordinate q.den q.num j (omega (arith, len, h, hi)))) (c.agrees j h);
        value = subst (λ x. SameFraction x v) (sym (at_coordinate q.den q.num (k + i) (omega (arith, len, hi)))) c.value;
      } in
      let split : Chosen (k + i) v (fractions q.den front ++ fractions q.den back) (fractions d given ++ fractions d more) =
      subst (λ xs. Chosen (k + i) v xs (fractions d given ++ fractions d more)) (ap (fractions q.den) parts ∙ fractions_both q.den front back)
      (subst (Chosen (k + i) v (fractions q.den q.num)) (fractions_both d given more) all) in
      let both = chosen_back k (fractions q.den front) (fractions d given) (fractions q.den back) (fractions d more) (length-fractions q.den front ∙ lf) (length-fractions d given ∙ lg) i v split in
      record {
        den = q.den;
        front = front;
        back = back;
        positive = c.point.positive;
        sized = lf;
        long = lb;
        holds = subst (λ ns. AllHold rows (over q.den ns)) parts c.point.holds;
        same = agree_point k q.den d front given lf lg both.0;
        chosen = both.1;
      }

  open_from : OpenPart k rows d given more i v → IsOpen (picking_of rows first d (given ++ more)) (k + i) v
  open_from o =
      let ns : List ℤ = o.front ++ o.back in
      let len : length ns ≡ k + length more = omega (arith, length-append o.front o.back, o.sized, o.long) in
      let joined = back_chosen k (fractions o.den o.front) (fractions d given) (fractions o.den o.back) (fractions d more) (length-fractions o.den o.front ∙ o.sized) (length-fractions d given ∙ lg) i v
      (point_agree k o.den d o.front given o.same) o.chosen in
      let all : Chosen (k + i) v (fractions o.den ns) (fractions d (given ++ more)) =
      subst (λ xs. Chosen (k + i) v xs (fractions d (given ++ more))) (sym (fractions_both o.den o.front o.back))
      (subst (Chosen (k + i) v (fractions o.den o.front ++ fractions o.den o.back)) (sym (fractions_both d given more)) joined) in (
        over o.den ns,
        record {
          point = record { positive = o.positive; sized = len ∙ sym columns; holds = o.holds };
          agrees = λ j h. subst (λ x. SameFraction x (at_place j (fractions d (given ++ more)))) (at_coordinate o.den ns j (omega (arith, len, h, hi))) (all.agree j h);
          value = subst (λ x. SameFraction x v) (at_coordinate o.den ns (k + i) (omega (arith, len, hi))) all.value;
        },
      )

-- ---- lists of one number more

record IsEnded (m : ℕ) (ns q : List ℤ) (e : ℤ) : Type 0 where
  is : ns ≡ q ++ e ∷ []
  long : length q ≡ m

ended : (m : ℕ) (ns : List ℤ) → length ns ≡ m + 1 → (q : List ℤ) × (e : ℤ) × IsEnded m ns q e
ended zero [] l = absurd (omega arith)
ended zero (n ∷ []) l = ([], n, record { is = refl; long = refl })
ended zero (n ∷ k ∷ ns) l = absurd (omega arith)
ended (suc m) [] l = absurd (omega arith)
ended (suc m) (n ∷ ns) l = let (q, e, s) = ended m ns (omega arith) in (n ∷ q, e, record { is = ap (λ z. n ∷ z) s.is; long = ap suc s.long })

joined_one : (q : List ℤ) (e : ℤ) (more : List ℤ) → (q ++ e ∷ []) ++ more ≡ q ++ (e ∷ more)
joined_one q e more = append_assoc q (e ∷ []) more

-- ---- legs and jumps

-- a leg from the state that ends, with the elapsed time, at the values q over d, its length and start values so chosen
pub record LegOpen (a : Automaton) (l : ℕ) (state : List Row) (d : ℤ) (q : List ℤ) (elapsed t : ℤ) (p : List ℤ) (i : ℕ) (v : Fraction) : Type 0 where
  pub den : ℤ
  pub to : List ℤ
  pub time : ℤ
  pub lasts : ℤ
  pub from : List ℤ
  pub ends : EndsLeg a l state (over d (q ++ elapsed ∷ [])) den to time lasts from
  pub chosen : Chosen i v (fractions den (lasts ∷ from)) (fractions d (t ∷ p))

-- the same of a jump, and the values before it
pub record JumpOpen (a : Automaton) (e : ℕ) (state : List Row) (d : ℤ) (q : List ℤ) (elapsed : ℤ) (p : List ℤ) (i : ℕ) (v : Fraction) : Type 0 where
  pub den : ℤ
  pub to : List ℤ
  pub time : ℤ
  pub from : List ℤ
  pub ends : EndsJump a e state (over d (q ++ elapsed ∷ [])) den to time from
  pub chosen : Chosen i v (fractions den from) (fractions d p)

module _ (a : Automaton) where
  pub leg_open : (l : ℕ) (state : List Row) (d : ℤ) (q : List ℤ) (elapsed t : ℤ) (p : List ℤ) (i : ℕ) (v : Fraction) → IsLocation (width a) (location_at a l) → AllWide (width a + 1) state →
      length q ≡ width a → length p ≡ width a → i < width a + 1 →
      IsOpen (picking_of (leg_rows a l state) (width a + 1) d (q ++ elapsed ∷ t ∷ p)) (width a + 1 + i) v ↔ LegOpen a l state d q elapsed t p i v
  leg_open l state d q elapsed t p i v is wide lq lp hi =
      let m : ℕ = width a in
      let given : List ℤ = q ++ elapsed ∷ [] in
      let lg : length given ≡ m + 1 = omega (arith, length-append q (elapsed ∷ []), lq) in
      let lm : i < length (t ∷ p) = omega (arith, hi, lp) in
      let whole : given ++ (t ∷ p) ≡ q ++ elapsed ∷ t ∷ p = joined_one q elapsed (t ∷ p) in (
        λ o. to_leg (open_to (m + 1) (m + 1) (leg_rows a l state) d given (t ∷ p) lg i v lm
            (subst (λ ns. IsOpen (picking_of (leg_rows a l state) (m + 1) d ns) (m + 1 + i) v) (sym whole) o)),
        λ o. subst (λ ns. IsOpen (picking_of (leg_rows a l state) (m + 1) d ns) (m + 1 + i) v) whole
            (open_from (m + 1) (m + 1) (leg_rows a l state) d given (t ∷ p) lg i v lm (from_leg o)),
      )
    where
      split : (back : List ℤ) → length back ≡ length (t ∷ p) → (s : ℤ) × (u : List ℤ) × (back ≡ s ∷ u) × (length u ≡ width a)
      split [] len = absurd (omega arith)
      split (s ∷ u) len = (s, u, refl, omega (arith, len, lp))

      to_leg : OpenPart (width a + 1) (leg_rows a l state) d (q ++ elapsed ∷ []) (t ∷ p) i v → LegOpen a l state d q elapsed t p i v
      to_leg o =
          let (r, e, s) = ended (width a) o.front o.sized in
          let (t', u, back_is, lu) = split o.back o.long in
          let numbers : o.front ++ o.back ≡ r ++ e ∷ t' ∷ u = ap (λ ns. ns ++ o.back) s.is ∙ ap (λ ns. (r ++ e ∷ []) ++ ns) back_is ∙ joined_one r e (t' ∷ u) in
          let both = (leg_exact a l state o.den r e t' u is wide s.long lu).0 (subst (λ ns. AllHold (leg_rows a l state) (over o.den ns)) numbers o.holds) in
          record {
            den = o.den;
            to = r;
            time = e;
            lasts = t';
            from = u;
            ends = record {
              positive = o.positive;
              sized = s.long;
              starts = both.0;
              leg = both.1;
              ends = sym (subst (λ ns. SamePoint (over o.den ns) (over d (q ++ elapsed ∷ []))) s.is o.same);
            };
            chosen = subst (λ ns. Chosen i v (fractions o.den ns) (fractions d (t ∷ p))) back_is o.chosen;
          }

      from_leg : LegOpen a l state d q elapsed t p i v → OpenPart (width a + 1) (leg_rows a l state) d (q ++ elapsed ∷ []) (t ∷ p) i v
      from_leg o =
          let c = o.ends in
          let lf : length o.from ≡ width a = sym c.leg.same_size ∙ c.sized in
          record {
            den = o.den;
            front = o.to ++ o.time ∷ [];
            back = o.lasts ∷ o.from;
            positive = c.positive;
            sized = omega (arith, length-append o.to (o.time ∷ []), c.sized);
            long = omega (arith, lf, lp);
            holds = subst (λ ns. AllHold (leg_rows a l state) (over o.den ns)) (sym (joined_one o.to o.time (o.lasts ∷ o.from)))
                ((leg_exact a l state o.den o.to o.time o.lasts o.from is wide c.sized lf).1 (c.starts, c.leg));
            same = sym c.ends;
            chosen = o.chosen;
          }

  pub jump_open : (e : ℕ) (state : List Row) (d : ℤ) (q : List ℤ) (elapsed : ℤ) (p : List ℤ) (i : ℕ) (v : Fraction) → AllWide (width a + width a) (transition_at a e).relation →
      AllWide (width a) (location_at a (transition_at a e).target).invariant → AllWide (width a + 1) state → length q ≡ width a → length p ≡ width a → i < width a →
      IsOpen (picking_of (jump_rows a e state) (width a + 1) d (q ++ elapsed ∷ p)) (width a + 1 + i) v ↔ JumpOpen a e state d q elapsed p i v
  jump_open e state d q elapsed p i v wr wi wide lq lp hi =
      let m : ℕ = width a in
      let given : List ℤ = q ++ elapsed ∷ [] in
      let lg : length given ≡ m + 1 = omega (arith, length-append q (elapsed ∷ []), lq) in
      let lm : i < length p = omega (arith, hi, lp) in
      let whole : given ++ p ≡ q ++ elapsed ∷ p = joined_one q elapsed p in (
        λ o. to_jump (open_to (m + 1) (m + 1) (jump_rows a e state) d given p lg i v lm
            (subst (λ ns. IsOpen (picking_of (jump_rows a e state) (m + 1) d ns) (m + 1 + i) v) (sym whole) o)),
        λ o. subst (λ ns. IsOpen (picking_of (jump_rows a e state) (m + 1) d ns) (m + 1 + i) v) whole
            (open_from (m + 1) (m + 1) (jump_rows a e state) d given p lg i v lm (from_jump o)),
      )
    where
      to_jump : OpenPart (width a + 1) (jump_rows a e state) d (q ++ elapsed ∷ []) p i v → JumpOpen a e state d q elapsed p i v
      to_jump o =
          let (r, x, s) = ended (width a) o.front o.sized in
          let numbers : o.front ++ o.back ≡ r ++ x ∷ o.back = ap (λ ns. ns ++ o.back) s.is ∙ joined_one r x o.back in
          let both = (jump_exact a e state o.den r x o.back wr wi wide s.long (o.long ∙ lp)).0 (subst (λ ns. AllHold (jump_rows a e state) (over o.den ns)) numbers o.holds) in
          record {
            den = o.den;
            to = r;
            time = x;
            from = o.back;
            ends = record {
              positive = o.positive;
              sized = s.long;
              starts = both.0;
              jump = both.1;
              ends = sym (subst (λ ns. SamePoint (over o.den ns) (over d (q ++ elapsed ∷ []))) s.is o.same);
            };
            chosen = o.chosen;
          }

      from_jump : JumpOpen a e state d q elapsed p i v → OpenPart (width a + 1) (jump_rows a e state) d (q ++ elapsed ∷ []) p i v
      from_jump o =
          let c = o.ends in
          let lf : length o.from ≡ width a = sym c.jump.same_size ∙ c.sized in
          record {
            den = o.den;
            front = o.to ++ o.time ∷ [];
            back = o.from;
            positive = c.positive;
            sized = omega (arith, length-append o.to (o.time ∷ []), c.sized);
            long = lf ∙ sym lp;
            holds = subst (λ ns. AllHold (jump_rows a e state) (over o.den ns)) (sym (joined_one o.to o.time o.from))
                ((jump_exact a e state o.den o.to o.time o.from wr wi wide c.sized lf).1 (c.starts, c.jump));
            same = sym c.ends;
            chosen = o.chosen;
          }
