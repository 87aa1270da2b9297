-- Where a gap starts and where it ends, at points of its first and its last system.
use Rattle.std.proofs.Common.{◌≡◌, ℕ, ◌-◌, List, [], ◌∷◌, ◌++◌, drop, length, length-append, length-drop, map, refl, sym, ◌∙◌, ap, subst, arith, ℤ, pos, ◌+ℤ◌, ◌-ℤ◌, ◌<ℤ◌}
use Rattle.std.specs.Prelude.{All}
use Rattle.std.specs.List.{AllByRecursion, AllZip}
use Rattle.std.proofs.lemmas.Int.{ints}
use Rattle.std.proofs.lemmas.List.{length-map, map-append}
use Rattle.std.proofs.lemmas.List.Elements.{recursion_from_All, All-drop}
use Rattle.frac128.proofs.CommonLemmas.{common_positive}
use Rattle.gap_runs.proofs.AgreePicks.{zip_from}
use Rattle.gap_runs.proofs.InsideLemmas.{common_at, same_common, inside_same}
use Rattle.gap_runs.proofs.PathLemmas.{after_fractions, last_after, some_part}
use Rattle.gap_runs.specs.Befores.{common_point}
use Rattle.gap_runs.specs.Gaps.{end_of_gap}
use Rattle.gap_runs.specs.Paths.{last_system}
use Rattle.gap_runs.specs.Traces.{BackValue, after_of, IsBack}
use Rattle.poly_specs.specs.Denominators.{common_den, common_nums, num_over}
use Rattle.poly_specs.specs.Fractions.{Fraction, IsFraction, SameFraction, fractions}
use Rattle.poly_specs.specs.Rows.{Row, AllHold, AllWide, over}
use Rattle.poly_specs.specs.Systems.{System}
use Rattle.run_parts.proofs.Choices.{are_all, at_place, at_coordinate, fractions_both, same_zip, zip_of_both, zip_through}
use Rattle.run_specs.proofs.GapEnds.{start_holds}
use Rattle.run_specs.proofs.MixLemmas.{transitions}
use Rattle.run_specs.proofs.PickedLemmas.{length-fractions}
use Rattle.run_specs.proofs.PickedValues.{zip_at, zip_long}
use Rattle.run_specs.specs.Automaton.{Automaton, width, transition_at}
use Rattle.run_specs.specs.Keys.{Key, IsKey, parent_at}
use Rattle.run_specs.specs.Outcomes.{IsEnd}
use Rattle.run_specs.specs.Runs.{GapRun, Leg, Move, LeadOn, IsGapRun, total}
use Rattle.run_specs.specs.Stages.{gap_start}
use Rattle.sample_succ.specs.Parts.{AreParts, start_of}

-- ---- a point and its numbers, as fractions

pub common_zip : (xs : List Fraction) → AllByRecursion IsFraction xs → AllZip SameFraction (fractions (pos (common_den xs)) (common_nums xs)) xs
common_zip xs all =
    let d : ℤ = pos (common_den xs) in
    let ns : List ℤ = common_nums xs in
    let long : length ns ≡ length xs = length-map xs (num_over (common_den xs)) in
    let same : length (fractions d ns) ≡ length xs = length-fractions d ns ∙ long in
    zip_from (fractions d ns) xs same
    (λ j h. subst (λ x. SameFraction x (at_place j xs)) (sym (at_coordinate d ns j (omega (arith, h, length-fractions d ns)))) (common_at xs j (omega (arith, h, same)) all))

pub zip_front : (xs ys us vs : List Fraction) → length xs ≡ length ys → AllZip SameFraction (xs ++ us) (ys ++ vs) → AllZip SameFraction xs ys
zip_front [] [] us vs e f = tt
zip_front [] (y ∷ ys) us vs e f = absurd (omega (arith, e))
zip_front (x ∷ xs) [] us vs e f = absurd (omega (arith, e))
zip_front (x ∷ xs) (y ∷ ys) us vs e f = (f.0, zip_front xs ys us vs (omega (arith, e)) f.1)

-- rows that hold at these numbers hold at the point of the same fractions
inside_zip : (rows : List Row) (d : ℤ) (ns : List ℤ) (xs : List Fraction) → pos 0 <ℤ d → AllByRecursion IsFraction xs → AllZip SameFraction (fractions d ns) xs → AllHold rows (over d ns) →
    AllHold rows (common_point xs)
inside_zip rows d ns xs hd all zip holds =
    let long : length ns ≡ length xs = sym (length-fractions d ns) ∙ zip_long (fractions d ns) xs zip in
    inside_same rows d ns xs hd all
    (same_common d ns xs hd all long
    (λ j h. subst (λ x. SameFraction x (at_place j xs)) (at_coordinate d ns j (omega (arith, h, long))) (zip_at (fractions d ns) xs j zip)))
    holds

-- ---- the end

arrives : (a : Automaton) (l : ℕ) (before : System) (plain : List Row) (systems : List System) (d elapsed : ℤ) (p : List ℤ) (ms : List Move) (f : Leg) → pos 0 <ℤ d → length p ≡ width a →
    LeadOn a d l p ms f → AreParts a l (transitions ms) before plain systems → AllHold before.rows (over d (p ++ elapsed ∷ [])) →
    AllHold (last_system systems).rows (over d (f.at_end ++ (elapsed +ℤ total ms f) ∷ []))
arrives a l before plain systems d elapsed p [] f hd lp leads (s, leg, is) holds =
    let q : List ℤ = f.at_end in
    let t : ℤ = f.length_of in
    let lq : length q ≡ width a = leads.same_size ∙ lp in
    let back : elapsed ≡ (elapsed +ℤ t) -ℤ t = omega (arith, ints) in
    subst (λ (ss : List System). AllHold (last_system ss).rows (over d (q ++ (elapsed +ℤ t) ∷ []))) (sym is)
    ((leg.exact d (q ++ (elapsed +ℤ t) ∷ []) hd (omega (arith, length-append q ((elapsed +ℤ t) ∷ []), lq))).1 (
      d,
      q,
      elapsed +ℤ t,
      t,
      p,
      record { positive = hd; sized = lq; starts = subst (λ x. AllHold before.rows (over d (p ++ x ∷ []))) back holds; leg = leads; ends = refl },
    ))
arrives a l before plain systems d elapsed p (y ∷ ms) f hd lp leads (s, r, more, leg, jump, parts, is) holds =
    let q : List ℤ = y.leg.at_end in
    let t : ℤ = y.leg.length_of in
    let e : ℤ = elapsed +ℤ t in
    let lq : length q ≡ width a = leads.0.same_size ∙ lp in
    let lz : length y.after ≡ width a = leads.2.same_size ∙ lq in
    let back : elapsed ≡ e -ℤ t = omega (arith, ints) in
    let ended : AllHold s.rows (over d (q ++ e ∷ [])) =
    (leg.exact d (q ++ e ∷ []) hd (omega (arith, length-append q (e ∷ []), lq))).1
    (d, q, e, t, p, record { positive = hd; sized = lq; starts = subst (λ x. AllHold before.rows (over d (p ++ x ∷ []))) back holds; leg = leads.0; ends = refl }) in
    let jumped : AllHold r.rows (over d (y.after ++ e ∷ [])) =
    (jump.exact d (y.after ++ e ∷ []) hd (omega (arith, length-append y.after (e ∷ []), lz))).1 (d, y.after, e, q, record { positive = hd; sized = lz; starts = ended; jump = leads.2; ends = refl }) in
    let last = arrives a (transition_at a y.transition).target r _ more d e y.after ms f hd lz leads.3 parts jumped in
    let time : e +ℤ total ms f ≡ elapsed +ℤ (t +ℤ total ms f) = omega (arith, ints) in
    let same : last_system more ≡ last_system systems =
    last_after s r more (some_part a (transition_at a y.transition).target (transitions ms) r _ more parts) ∙ ap (λ (ss : List System). last_system ss) (sym is) in
    subst (λ (u : System). AllHold u.rows (over d (f.at_end ++ (elapsed +ℤ (t +ℤ total ms f)) ∷ []))) same
    (subst (λ x. AllHold (last_system more).rows (over d (f.at_end ++ x ∷ []))) time last)

-- the last values and the gap's length are the numbers with which a gap run ends
pub end_zip : (key : Key) (last : List Fraction) (g : GapRun) → length last ≡ width key.automaton → IsGapRun key.automaton key.gap g → AllZip SameFraction (fractions g.den g.last.at_end) last →
    AllZip SameFraction (fractions g.den (g.last.at_end ++ (pos 0 +ℤ total g.moves g.last) ∷ [])) (after_of (width key.automaton) (end_of_gap key last))
end_zip key last g long run zip =
    let t : ℤ = total g.moves g.last in
    let all : length last - width key.automaton ≡ 0 = omega (arith, long) in
    let none : pos 0 +ℤ t ≡ t = omega (arith, ints) in
    subst (λ k. AllZip SameFraction (fractions g.den (g.last.at_end ++ (pos 0 +ℤ t) ∷ [])) (drop k last ++ key.gap ∷ [])) (sym all)
    (subst (λ x. AllZip SameFraction (fractions g.den (g.last.at_end ++ x ∷ [])) (last ++ key.gap ∷ [])) (sym none)
    (subst (λ xs. AllZip SameFraction xs (last ++ key.gap ∷ [])) (sym (fractions_both g.den g.last.at_end (t ∷ [])))
    (zip_of_both (fractions g.den g.last.at_end) last (fractions g.den (t ∷ [])) (key.gap ∷ []) zip (run.lasts, tt))))

pub end_is_back : (key : Key) (last : List Fraction) → IsKey key → length last ≡ width key.automaton → All IsFraction last → IsBack (width key.automaton) (end_of_gap key last)
end_is_back key last is long all = record { sized = omega (arith, long); fractions = all; elapsed = is.gap.0.positive }

-- the last system holds there
pub end_inside : (key : Key) (i : ℕ) (path : List ℕ) (last : List Fraction) (systems : List System) → IsKey key → length last ≡ width key.automaton → All IsFraction last →
    AllWide (width key.automaton) (parent_at key i).rows → AreParts key.automaton (parent_at key i).loc path (start_of key i) (start_of key i).rows systems → IsEnd key i path (common_point last) →
    AllHold (last_system systems).rows (common_point (after_of (width key.automaton) (end_of_gap key last)))
end_inside key i path last systems is long all wide parts end =
    let (g, to) = end.reached in
    let a : Automaton = key.automaton in
    let m : ℕ = width a in
    let d : ℤ = g.den in
    let each = recursion_from_All IsFraction last all in
    let begins = (start_holds m d g.start (pos 0) (parent_at key i).rows to.sized wide).1 (to.allowed, refl) in
    let there = arrives a g.start_loc (start_of key i) (start_of key i).rows systems d (pos 0) g.start g.moves g.last to.gap_run.positive to.sized to.gap_run.leads
    (subst (λ l. AreParts a l (transitions g.moves) (start_of key i) (start_of key i).rows systems) (sym to.same_loc)
    (subst (λ es. AreParts a (parent_at key i).loc es (start_of key i) (start_of key i).rows systems) (sym to.along) parts)) begins in
    let values : AllZip SameFraction (fractions d g.last.at_end) last =
    zip_through (fractions d g.last.at_end) (fractions (pos (common_den last)) (common_nums last)) last (are_all (pos (common_den last)) (common_nums last) end.positive)
    (same_zip d (pos (common_den last)) g.last.at_end (common_nums last) to.same_point) (common_zip last each) in
    let back = end_is_back key last is long all in
    inside_zip (last_system systems).rows d (g.last.at_end ++ (pos 0 +ℤ total g.moves g.last) ∷ []) (after_of m (end_of_gap key last)) to.gap_run.positive
    (after_fractions m (end_of_gap key last) back) (end_zip key last g long to.gap_run values) there

-- ---- the start

-- the state's rows hold at the values that were traced back to the start
pub start_inside : (m : ℕ) (b : BackValue) (rows : List Row) → AllWide m rows → IsBack m b → AllHold (gap_start m rows) (common_point (after_of m b)) →
    AllHold rows (common_point (drop (length b.numbers - m) b.numbers))
start_inside m b rows wide is holds =
    let xs : List Fraction = drop (length b.numbers - m) b.numbers in
    let all : AllByRecursion IsFraction (xs ++ b.elapsed ∷ []) = after_fractions m b is in
    let c : ℕ = common_den (xs ++ b.elapsed ∷ []) in
    let hc : pos 0 <ℤ pos c = (let some = common_positive (xs ++ b.elapsed ∷ []) all in omega (arith, ints, some)) in
    let ns : List ℤ = map (num_over c) xs in
    let spelt : common_nums (xs ++ b.elapsed ∷ []) ≡ ns ++ num_over c b.elapsed ∷ [] = map-append (num_over c) xs (b.elapsed ∷ []) in
    let long : length ns ≡ m = (let s = is.sized in omega (arith, s, length-map xs (num_over c), length-drop (length b.numbers - m) b.numbers)) in
    let there = ((start_holds m (pos c) ns (num_over c b.elapsed) rows long wide).0 (subst (λ zs. AllHold (gap_start m rows) (over (pos c) zs)) spelt holds)).0 in
    let zip : AllZip SameFraction (fractions (pos c) ns ++ fractions (pos c) (num_over c b.elapsed ∷ [])) (xs ++ b.elapsed ∷ []) =
    subst (λ zs. AllZip SameFraction zs (xs ++ b.elapsed ∷ [])) (ap (fractions (pos c)) spelt ∙ fractions_both (pos c) ns (num_over c b.elapsed ∷ [])) (common_zip (xs ++ b.elapsed ∷ []) all) in
    inside_zip rows (pos c) ns xs hc (recursion_from_All IsFraction xs (All-drop IsFraction (length b.numbers - m) b.numbers is.fractions))
    (zip_front (fractions (pos c) ns) xs (fractions (pos c) (num_over c b.elapsed ∷ [])) (b.elapsed ∷ []) (length-fractions (pos c) ns ∙ length-map xs (num_over c)) zip) there
