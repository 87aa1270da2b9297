-- Gap runs from their numbers.
use Rattle.std.proofs.Common.{◌≡◌, inl, inr, ℕ, suc, List, [], ◌∷◌, ◌++◌, length, length-append, refl, sym, ◌∙◌, ap, subst, arith, ℤ}
use Rattle.std.specs.List.{AllByRecursion}
use Rattle.std.proofs.lemmas.List.Elements.{recursion_from_All, All-from_recursion}
use Rattle.run_specs.proofs.FirstRunLemmas.{split_same}
use Rattle.run_specs.proofs.MixLemmas.{transitions}
use Rattle.run_specs.proofs.MixRuns.{length-same_point}
use Rattle.run_parts.proofs.PathNumbers.{none_first, same_head, same_tail}
use Rattle.run_parts.specs.Widths.{IsWide}
use Rattle.poly_specs.specs.Lists.{In}
use Rattle.poly_specs.specs.Fractions.{Fraction, zero_fraction}
use Rattle.run_specs.specs.Automaton.{Automaton, width, transition_at}
use Rattle.run_specs.specs.Logs.{Sample}
use Rattle.run_specs.specs.Runs.{Leg, Move, GapRun, Place, Run, LeadOn, Follows, IsRun, path_of, end_of, start_point}
use Rattle.run_specs.specs.FirstRun.{backwards}

-- the points of the move have n values
abbrev IsWideMove : ℕ → Move → Type 0
IsWideMove n m = (length m.leg.at_end ≡ n) × (length m.after ≡ n)

-- ---- from numbers

numbers_many : (n : ℕ) (p u : List ℤ) (ms ns : List Move) (f g : Leg) → length p ≡ n → length u ≡ n → AllByRecursion (IsWideMove n) ms → AllByRecursion (IsWideMove n) ns →
    transitions ms ≡ transitions ns → length (backwards p ms f) ≡ length (backwards u ns g)
numbers_many n p u [] [] f g lp lu h k e = ap suc (lp ∙ sym lu)
numbers_many n p u [] (z ∷ ns) f g lp lu h k e = absurd (none_first z.transition (transitions ns) (sym e))
numbers_many n p u (y ∷ ms) [] f g lp lu h k e = absurd (none_first y.transition (transitions ms) e)
numbers_many n p u (y ∷ ms) (z ∷ ns) f g lp lu h k e =
    let rest = numbers_many n y.after z.after ms ns f g h.0.1 k.0.1 h.1 k.1 (same_tail y.transition z.transition (transitions ms) (transitions ns) e) in
    omega (
      arith,
      rest,
      h.0.0,
      k.0.0,
      lp,
      lu,
      length-append (backwards y.after ms f ++ y.leg.at_end) (y.leg.length_of ∷ p),
      length-append (backwards y.after ms f) y.leg.at_end,
      length-append (backwards z.after ns g ++ z.leg.at_end) (z.leg.length_of ∷ u),
      length-append (backwards z.after ns g) z.leg.at_end,
    )

head_is : (x y : ℤ) (xs ys : List ℤ) → x ∷ xs ≡ y ∷ ys → (x ≡ y) × (xs ≡ ys)
head_is x y xs ys e = let one : x ≡ y = cc in let two : xs ≡ ys = cc in (one, two)

-- equal numbers come from the same start, moves and last length
same_parts : (n : ℕ) (p u : List ℤ) (ms ns : List Move) (f g : Leg) → length p ≡ n → length u ≡ n → AllByRecursion (IsWideMove n) ms → AllByRecursion (IsWideMove n) ns →
    transitions ms ≡ transitions ns → backwards p ms f ≡ backwards u ns g → (p ≡ u) × (ms ≡ ns) × (f.length_of ≡ g.length_of)
same_parts n p u [] [] f g lp lu h k e same = let s = head_is f.length_of g.length_of p u same in (s.1, refl, s.0)
same_parts n p u [] (z ∷ ns) f g lp lu h k e same = absurd (none_first z.transition (transitions ns) (sym e))
same_parts n p u (y ∷ ms) [] f g lp lu h k e same = absurd (none_first y.transition (transitions ms) e)
same_parts n p u (y ∷ ms) (z ∷ ns) f g lp lu h k e same =
    let tail = same_tail y.transition z.transition (transitions ms) (transitions ns) e in
    let head = same_head y.transition z.transition (transitions ms) (transitions ns) e in
    let b : List ℤ = backwards y.after ms f in
    let c : List ℤ = backwards z.after ns g in
    let many : length b ≡ length c = numbers_many n y.after z.after ms ns f g h.0.1 k.0.1 h.1 k.1 tail in
    let both : length (b ++ y.leg.at_end) ≡ length (c ++ z.leg.at_end) = omega (arith, many, h.0.0, k.0.0, length-append b y.leg.at_end, length-append c z.leg.at_end) in
    let s = split_same (b ++ y.leg.at_end) (c ++ z.leg.at_end) (y.leg.length_of ∷ p) (z.leg.length_of ∷ u) both same in
    let t = split_same b c y.leg.at_end z.leg.at_end many s.0 in
    let first = head_is y.leg.length_of z.leg.length_of p u s.1 in
    let rest = same_parts n y.after z.after ms ns f g h.0.1 k.0.1 h.1 k.1 tail t.0 in (
      first.1,
      λ i. record { leg = record { length_of = first.0 i; at_end = t.1 i }; transition = head i; after = rest.0 i } ∷ rest.1 i,
      rest.2,
    )

pub equal_gaps : (n : ℕ) (g h : GapRun) → IsWide n g → IsWide n h → g.start_loc ≡ h.start_loc → path_of g ≡ path_of h → g.den ≡ h.den →
    g.last.at_end ++ backwards g.start g.moves g.last ≡ h.last.at_end ++ backwards h.start h.moves h.last → g ≡ h
equal_gaps n g h wg wh loc path den same =
    let s = split_same g.last.at_end h.last.at_end (backwards g.start g.moves g.last) (backwards h.start h.moves h.last) (wg.last ∙ sym wh.last) same in
    let r = same_parts n g.start h.start g.moves h.moves g.last h.last wg.start wh.start (recursion_from_All (IsWideMove n) g.moves wg.moves) (recursion_from_All (IsWideMove n) h.moves wh.moves) path s.1 in
    λ i. record { den = den i; start_loc = loc i; start = r.0 i; moves = r.1 i; last = record { length_of = r.2 i; at_end = s.0 i } }

-- ---- the gaps of runs

moves_wide : (a : Automaton) (d : ℤ) (l : ℕ) (p : List ℤ) (ms : List Move) (f : Leg) → length p ≡ width a → LeadOn a d l p ms f → AllByRecursion (IsWideMove (width a)) ms
moves_wide a d l p [] f lp h = tt
moves_wide a d l p (y ∷ ms) f lp h =
    let lq : length y.leg.at_end ≡ width a = h.0.same_size ∙ lp in
    let la : length y.after ≡ width a = h.2.same_size ∙ lq in ((lq, la), moves_wide a d (transition_at a y.transition).target y.after ms f la h.3)

gap_is_wide : (a : Automaton) (k : ℕ) (before : Place) (t : Fraction) (ss : List Sample) (gs : List GapRun) (x : GapRun) → length before.point.num ≡ width a → Follows a k before t ss gs →
    In x gs → IsWide (width a) x
gap_is_wide a k before t ss [] x lb f i = absurd i
gap_is_wide a k before t [] (g ∷ gs) x lb f i = absurd f
gap_is_wide a k before t (s ∷ ss) (g ∷ gs) x lb f (inl e) =
    let c = f.0 in
    let lp : length g.start ≡ width a = length-same_point (start_point g) before.point c.same_point ∙ lb in
    subst (IsWide (width a)) (sym e)
    (record {
      start = lp;
      moves = All-from_recursion (IsWideMove (width a)) g.moves (moves_wide a g.den g.start_loc g.start g.moves g.last lp c.gap_run.leads);
      last = c.passes.sized;
    })
gap_is_wide a k before t (s ∷ ss) (g ∷ gs) x lb f (inr i) = gap_is_wide a k (end_of a g) s.time ss gs x f.0.passes.sized f.1 i

pub run_gaps_wide : (a : Automaton) (k : ℕ) (log : List Sample) (run : Run) (g : GapRun) → IsRun a k log run → In g run.gaps → IsWide (width a) g
run_gaps_wide a k log run g is i = gap_is_wide a k run.start zero_fraction log run.gaps g is.starts.sized is.follows i
