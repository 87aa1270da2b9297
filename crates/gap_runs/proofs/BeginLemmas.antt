-- Where a leg or a jump leads to a point, its system has one that begins so, and the first level holds there.
use Rattle.std.proofs.Common.{◌≡◌, ◌↔◌, ℕ, ◌+◌, ◌-◌, ◌<◌, ◌≤◌, List, [], ◌∷◌, ◌++◌, length, length-append, length-take, take, replicate, get_or, sym, ◌∙◌, ap, subst, arith, ℤ, pos, ◌-ℤ◌, ◌*ℤ◌, ◌<ℤ◌}
use Rattle.std.proofs.Math.ListN.{get_or-append}
use Rattle.std.proofs.lemmas.List.{length-replicate, get_or-take, append_assoc}
use Rattle.poly_specs.proofs.ColumnLemmas.{coordinates, point-from_coordinates}
use Rattle.poly_specs.proofs.FractionLemmas.{same-trans}
use Rattle.poly_specs.proofs.LowestLemmas.{lowest-IsFraction, lowest-same}
use Rattle.poly_specs.specs.Arithmetic.{lowest}
use Rattle.poly_specs.specs.Fractions.{SameFraction}
use Rattle.poly_specs.specs.Lists.{number_at}
use Rattle.poly_specs.specs.Rows.{Point, Row, coordinate, over, AllHold, SameBefore, SamePoint}
use Rattle.poly_specs.specs.Systems.{System, Levels, AreLevels, IsLevel, no_system}
use Rattle.column_pick.specs.Fixed.{padded}
use Rattle.column_pick.specs.Nexts.{HasFirst}
use Rattle.column_pick.specs.Picked.{numbers_of}
use Rattle.run_specs.specs.Automaton.{Automaton, width, location_at}
use Rattle.run_specs.specs.Ends.{SomeLegEnds, SomeJumpEnds}
use Rattle.run_specs.specs.Runs.{IsLeg, IsJump}
use Rattle.run_specs.specs.Stages.{leg_point, jump_point}
use Rattle.gap_runs.specs.Befores.{leg_columns, jump_columns}
use Rattle.gap_runs.proofs.PartLemmas.{length-numbers, number_is}

-- ---- a point of the system that begins with the given numbers

pub begins : (s : System) (after : Point) (d : ℤ) (ns more : List ℤ) → pos 0 <ℤ d → pos 0 <ℤ after.den → length after.num ≡ length ns →
    SamePoint after (over d ns) → length (ns ++ more) ≡ s.width → AllHold s.rows (over d (ns ++ more)) → HasFirst s (numbers_of after) (over d (ns ++ more))
begins s after d ns more hd ha long same sized holds = record {
  point = record { positive = hd; sized = sized; holds = holds };
  agrees = λ j h.
      let lt : j < length after.num = omega (arith, h, length-numbers after) in
      let q : Point = over d (ns ++ more) in
      let there : number_at j q.num ≡ number_at j ns = get_or-append ns more (pos 0) j (omega (arith, lt, long)) in
      let given : SameFraction (coordinate j (over d ns)) (coordinate j after) = sym (coordinates after (over d ns) same j) in
      let here : SameFraction (coordinate j q) (coordinate j after) = subst (λ z. SameFraction (record { num = z; den = d }) (coordinate j after)) (sym there) given in
      subst (SameFraction (coordinate j q)) (sym (number_is after j lt))
      (same-trans (coordinate j q) (coordinate j after) (lowest (coordinate j after)) hd ha (lowest-IsFraction (coordinate j after) ha) here (sym (lowest-same (coordinate j after))));
}

-- ---- where a point of the system begins so, the first level holds

before_from : (c : ℕ) (p q : Point) → length p.num ≡ length q.num → ((j : ℕ) → j < c → SameFraction (coordinate j p) (coordinate j q)) → SameBefore c p q
before_from c p q l f =
    point-from_coordinates (over p.den (take c p.num)) (over q.den (take c q.num)) (omega (arith, length-take c p.num, length-take c q.num, l))
    (λ j h. let lt : j < c = omega (arith, h, length-take c p.num) in
    let a : number_at j (take c p.num) ≡ number_at j p.num = get_or-take c p.num j (pos 0) lt in
    let b : number_at j (take c q.num) ≡ number_at j q.num = get_or-take c q.num j (pos 0) lt in
    ap (λ z. z *ℤ q.den) a ∙ f j lt ∙ ap (λ z. z *ℤ p.den) (sym b))

pub first_holds : (s : System) (first : ℕ) (l : Levels) (p q : Point) → first ≡ length p.num → AreLevels first s l → first ≤ s.width → pos 0 <ℤ p.den →
    HasFirst s (numbers_of p) q → AllHold (get_or l.systems 0 no_system).rows (over p.den (padded s.width p.num))
first_holds s first l p q is are fits hp has =
    let n : ℕ = s.width in
    let base : Point = over p.den (padded n p.num) in
    let zeros : List ℤ = replicate (n - length p.num) (pos 0) in
    let level : IsLevel n first s.rows (get_or l.systems 0 no_system).rows = (let e : first + 0 ≡ first = omega arith in subst (λ c. IsLevel n c s.rows (get_or l.systems 0 no_system).rows) e (are.each 0 (omega (arith, fits)))) in
    let long : length base.num ≡ n = omega (arith, length-append p.num zeros, length-replicate (n - length p.num) (pos 0), fits, is) in
    let same : SameBefore first base q = before_from first base q (long ∙ sym has.point.sized)
    (λ j h. let lt : j < length p.num = omega (arith, h, is) in
    let there : number_at j base.num ≡ number_at j p.num = get_or-append p.num zeros (pos 0) j lt in
    let given : SameFraction (coordinate j q) (lowest (coordinate j p)) = subst (SameFraction (coordinate j q)) (number_is p j lt) (has.agrees j (omega (arith, lt, length-numbers p))) in
    let here : SameFraction (coordinate j q) (coordinate j p) = same-trans (coordinate j q) (lowest (coordinate j p)) (coordinate j p) has.point.positive (lowest-IsFraction (coordinate j p) hp) hp given (lowest-same (coordinate j p)) in
    subst (λ z. SameFraction (record { num = z; den = p.den }) (coordinate j q)) (sym there) (sym here)) in
    (level.same base hp long).1 (q, record { positive = has.point.positive; sized = has.point.sized; same = same; holds = has.point.holds })

-- ---- the systems of legs and jumps

pub leg_begins : (a : Automaton) (l : ℕ) (state : List Row) (s : System) (after : Point) → s ≡ leg_columns a l state →
    ((d : ℤ) (q : List ℤ) (elapsed t : ℤ) (p : List ℤ) → length q ≡ width a → length p ≡ width a →
    AllHold s.rows (leg_point d q elapsed t p) ↔ AllHold state (over d (p ++ (elapsed -ℤ t) ∷ [])) × IsLeg (location_at a l) d p t q) →
    pos 0 <ℤ after.den → length after.num ≡ width a + 1 → SomeLegEnds a l state after → (p : Point) × HasFirst s (numbers_of after) p
leg_begins a l state s after is exact ha long (d, q, elapsed, t, p, ends) =
    let start : length p ≡ width a = sym ends.leg.same_size ∙ ends.sized in
    let joined : (q ++ elapsed ∷ []) ++ t ∷ p ≡ q ++ elapsed ∷ t ∷ p = append_assoc q (elapsed ∷ []) (t ∷ p) in
    let here : length (q ++ elapsed ∷ []) ≡ width a + 1 = omega (arith, length-append q (elapsed ∷ []), ends.sized) in
    let sized : length ((q ++ elapsed ∷ []) ++ t ∷ p) ≡ s.width = (let w = ap (λ (u : System). u.width) is in omega (arith, length-append (q ++ elapsed ∷ []) (t ∷ p), here, start, w)) in
    let holds : AllHold s.rows (over d ((q ++ elapsed ∷ []) ++ t ∷ p)) = subst (λ ns. AllHold s.rows (over d ns)) (sym joined) ((exact d q elapsed t p ends.sized start).1 (ends.starts, ends.leg)) in
    (over d ((q ++ elapsed ∷ []) ++ t ∷ p), begins s after d (q ++ elapsed ∷ []) (t ∷ p) ends.positive ha (long ∙ sym here) ends.ends sized holds)

pub jump_begins : (a : Automaton) (e : ℕ) (state : List Row) (s : System) (after : Point) → s ≡ jump_columns a e state →
    ((d : ℤ) (q : List ℤ) (elapsed : ℤ) (p : List ℤ) → length q ≡ width a → length p ≡ width a →
    AllHold s.rows (jump_point d q elapsed p) ↔ AllHold state (over d (p ++ elapsed ∷ [])) × IsJump a e d p q) →
    pos 0 <ℤ after.den → length after.num ≡ width a + 1 → SomeJumpEnds a e state after → (p : Point) × HasFirst s (numbers_of after) p
jump_begins a e state s after is exact ha long (d, q, elapsed, p, ends) =
    let start : length p ≡ width a = sym ends.jump.same_size ∙ ends.sized in
    let joined : (q ++ elapsed ∷ []) ++ p ≡ q ++ elapsed ∷ p = append_assoc q (elapsed ∷ []) p in
    let here : length (q ++ elapsed ∷ []) ≡ width a + 1 = omega (arith, length-append q (elapsed ∷ []), ends.sized) in
    let sized : length ((q ++ elapsed ∷ []) ++ p) ≡ s.width = (let w = ap (λ (u : System). u.width) is in omega (arith, length-append (q ++ elapsed ∷ []) p, here, start, w)) in
    let holds : AllHold s.rows (over d ((q ++ elapsed ∷ []) ++ p)) = subst (λ ns. AllHold s.rows (over d ns)) (sym joined) ((exact d q elapsed p ends.sized start).1 (ends.starts, ends.jump)) in
    (over d ((q ++ elapsed ∷ []) ++ p), begins s after d (q ++ elapsed ∷ []) p ends.positive ha (long ∙ sym here) ends.ends sized holds)
