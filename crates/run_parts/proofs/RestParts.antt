-- The numbers of the gaps from some gap on: what other runs leave for each, from the rows before this gap.
use Rattle.std.proofs.Common.{◌≡◌, inl, ℕ, ◌+◌, ◌<◌, ◌≤◌, List, [], ◌∷◌, ◌++◌, length, length-append, append_assoc, map, Option, refl, sym, ◌∙◌, ap, ap₂, subst, arith, pos, ◌<ℤ◌}
use Rattle.std.specs.List.{AllZip}
use Rattle.poly_specs.proofs.IntLemmas.{product_positive}
use Rattle.poly_specs.proofs.LinearLemmas.{SamePoint-trans}
use Rattle.run_specs.proofs.GapBack.{gap_back}
use Rattle.run_specs.proofs.GapEnds.{IsGapCase, gap_there}
use Rattle.run_specs.proofs.HistorySystems.{AreCells, passing_system}
use Rattle.run_specs.proofs.MixRuns.{IsAlike, all_alike, length-same_point}
use Rattle.run_specs.proofs.PickedLemmas.{length-fractions, last_numbers, before_numbers}
use Rattle.run_specs.proofs.RunEndLemmas.{all_same, IsAt, fits, length_path}
use Rattle.run_specs.proofs.ScaledRuns.{take_whole}
use Rattle.run_specs.proofs.SystemLemmas.{at_same_point}
use Rattle.run_parts.proofs.Choices.{Agree, Chosen, chosen_front, front_chosen, chosen_back, back_chosen, agree_back, point_agree, agree_point}
use Rattle.run_parts.proofs.PathNumbers.{as_many, start_same}
use Rattle.run_parts.proofs.GapParts.{GapTakes, back_of}
use Rattle.poly_specs.specs.Lists.{In}
use Rattle.poly_specs.specs.Fractions.{Fraction, IsFraction, fractions, difference}
use Rattle.poly_specs.specs.Rows.{Point, Row, over, SamePoint, AllHold, AllWide}
use Rattle.run_specs.specs.Automaton.{Automaton, width}
use Rattle.run_specs.specs.WellFormed.{IsWellFormed}
use Rattle.run_specs.specs.Logs.{Sample, IsPassing}
use Rattle.run_specs.specs.Runs.{GapRun, Place, Continues, Follows, path_of, end_of, end_loc, start_point, end_point}
use Rattle.run_specs.specs.Passes.{Fits}
use Rattle.run_specs.specs.Stages.{gap_rows}
use Rattle.run_specs.specs.Aims.{EndsWhere}
use Rattle.run_specs.specs.FirstRun.{last_values, numbers_before}

-- ---- lists

-- the numbers of these gaps, in the order in which they are picked
abbrev pub numbers_of : List GapRun → List Fraction
numbers_of gs = last_values gs ++ numbers_before gs

-- those before the numbers of the first gap: the numbers of the later gaps; where there are none, the last values
abbrev pub later : GapRun → List GapRun → List Fraction
later g [] = fractions g.den g.last.at_end
later g (h ∷ hs) = numbers_of (h ∷ hs)

pub numbers_parts : (g : GapRun) (gs : List GapRun) → numbers_of (g ∷ gs) ≡ later g gs ++ fractions g.den (back_of g)
numbers_parts g [] = refl
numbers_parts g (h ∷ hs) = sym (append_assoc (last_values (h ∷ hs)) (numbers_before (h ∷ hs)) (fractions g.den (back_of g)))

none_of : (p : List ℕ) (ps : List (List ℕ)) → [] ≡ p ∷ ps → ⊥
none_of p ps e = cc

head_of : (p r : List ℕ) (ps rs : List (List ℕ)) → p ∷ ps ≡ r ∷ rs → p ≡ r
head_of p r ps rs e = cc

tail_of : (p r : List ℕ) (ps rs : List (List ℕ)) → p ∷ ps ≡ r ∷ rs → ps ≡ rs
tail_of p r ps rs e = cc

-- ---- gap runs of one history

numbers_long : (a : Automaton) (gs hs : List GapRun) → AllZip (IsAlike a) gs hs → length (numbers_of gs) ≡ length (numbers_of hs)
numbers_long a gs hs is =
    let l = (last_numbers a (pos 1) (pos 1) gs hs is).long in
    let b = (before_numbers a (pos 1) (pos 1) gs hs is).long in
    omega (arith, l, b, length-append (last_values gs) (numbers_before gs), length-append (last_values hs) (numbers_before hs))

later_long : (a : Automaton) (x g : GapRun) (xs gs : List GapRun) → AllZip (IsAlike a) (x ∷ xs) (g ∷ gs) → length (later x xs) ≡ length (later g gs)
later_long a x g [] [] is = length-fractions x.den x.last.at_end ∙ is.0.first_end ∙ sym is.0.second_end ∙ sym (length-fractions g.den g.last.at_end)
later_long a x g [] (h ∷ gs) is = absurd is.1
later_long a x g (y ∷ xs) [] is = absurd is.1
later_long a x g (y ∷ xs) (h ∷ gs) is = numbers_long a (y ∷ xs) (h ∷ gs) is.1

-- the next gap starts where this one ends
abbrev IsJoined : GapRun → List GapRun → Type 0
IsJoined g [] = Unit {0}
IsJoined g (h ∷ hs) = SamePoint (start_point h) (end_point g)

is_joined : (a : Automaton) (k : ℕ) (g : GapRun) (t : Fraction) (ss : List Sample) (gs : List GapRun) → Follows a k (end_of a g) t ss gs → IsJoined g gs
is_joined a k g t ss [] f = tt
is_joined a k g t [] (h ∷ hs) f = absurd f
is_joined a k g t (s ∷ ss) (h ∷ hs) f = f.0.same_point

-- equal numbers of the later gaps have this gap end at equal points
ends_agree : (a : Automaton) (x g : GapRun) (xs gs : List GapRun) → AllZip (IsAlike a) (x ∷ xs) (g ∷ gs) → IsJoined x xs → IsJoined g gs →
    Agree (length (later g gs)) (later x xs) (later g gs) → SamePoint (end_point x) (end_point g)
ends_agree a x g [] [] is j k f =
    agree_point (length (later g [])) x.den g.den x.last.at_end g.last.at_end
    (is.0.first_end ∙ sym is.0.second_end ∙ sym (length-fractions g.den g.last.at_end)) (sym (length-fractions g.den g.last.at_end)) f
ends_agree a x g [] (h ∷ gs) is j k f = absurd is.1
ends_agree a x g (y ∷ xs) [] is j k f = absurd is.1
ends_agree a x g (y ∷ xs) (h ∷ gs) is j k f =
    let like = is.1.0 in
    let n : ℕ = length (later h gs) in
    let i : ℕ = length (back_of h) in
    let many : length (later h gs ++ fractions h.den (back_of h)) ≡ n + i = omega (arith, length-append (later h gs) (fractions h.den (back_of h)), length-fractions h.den (back_of h)) in
    let whole : Agree (n + i) (later y xs ++ fractions y.den (back_of y)) (later h gs ++ fractions h.den (back_of h)) =
    subst (λ m. Agree m (later y xs ++ fractions y.den (back_of y)) (later h gs ++ fractions h.den (back_of h))) many
    (subst (λ zs. Agree (length zs) (later y xs ++ fractions y.den (back_of y)) zs) (numbers_parts h gs)
    (subst (λ zs. Agree (length (numbers_of (h ∷ gs))) zs (numbers_of (h ∷ gs))) (numbers_parts y xs) f)) in
    let back = agree_back n (later y xs) (later h gs) (fractions y.den (back_of y)) (fractions h.den (back_of h)) (later_long a y h xs gs is.1) refl i whole in
    let lb : length (back_of y) ≡ i = backs_long y h like in
    let same = agree_point i y.den h.den (back_of y) (back_of h) lb refl back in
    let start : SamePoint (start_point y) (start_point h) =
    start_same a y.den h.den (width a) y.start_loc h.start_loc y.start h.start y.moves h.moves y.last h.last like.first_start like.second_start like.path like.first_leads like.second_leads same in
    SamePoint-trans (end_point x) (start_point y) (end_point g) like.first_den (sym j) (SamePoint-trans (start_point y) (start_point h) (end_point g) like.second_den start k)
  where
    backs_long : (y h : GapRun) → IsAlike a y h → length (back_of y) ≡ length (back_of h)
    backs_long y h like =
        as_many a (width a) y.den h.den y.start_loc h.start_loc y.start h.start y.moves h.moves y.last h.last like.first_start like.second_start like.path like.first_leads like.second_leads

-- ---- equal places

pub follows_from : (a : Automaton) (k : ℕ) (p r : Place) (t : Fraction) (ss : List Sample) (gs : List GapRun) → p.loc ≡ r.loc → SamePoint p.point r.point → pos 0 <ℤ p.point.den →
    Follows a k p t ss gs → Follows a k r t ss gs
follows_from a k p r t [] [] e same hp f = tt
follows_from a k p r t [] (g ∷ gs) e same hp f = absurd f
follows_from a k p r t (s ∷ ss) [] e same hp f = absurd f
follows_from a k p r t (s ∷ ss) (g ∷ gs) e same hp f =
    let c = f.0 in
    (record { same_loc = c.same_loc ∙ e; same_point = SamePoint-trans (start_point g) p.point r.point hp c.same_point same; few = c.few; gap_run = c.gap_run; passes = c.passes }, f.1)

passing_same : (a : Automaton) (cells : List (Option Fraction)) (p q : Point) → AreCells a cells → pos 0 <ℤ p.den → pos 0 <ℤ q.den → length p.num ≡ width a → length q.num ≡ width a →
    SamePoint p q → IsPassing a cells p → IsPassing a cells q
passing_same a cells p q are hp hq lp lq same h =
    let m : ℕ = width a in
    subst (λ xs. IsPassing a cells (over q.den xs)) (take_whole m q.num lq)
    (at_same_point m _ (passing_system a cells m are (omega arith)) p.den q.den p.num q.num hp hq lp lq same (subst (λ xs. IsPassing a cells (over p.den xs)) (sym (take_whole m p.num lp)) h))

-- ---- other runs from some gap on

-- the samples' cells and times are as they ought to be
abbrev pub AreSamples : Automaton → List Sample → Type 0
AreSamples a ss = (s : Sample) → In s ss → AreCells a s.cells × IsFraction s.time

module _ (a : Automaton) (k : ℕ) (wf : IsWellFormed a) (wanted : List Row) where
  -- other gap runs from a point of the rows, along the same paths, whose last values are wanted, and whose number at i is so chosen
  pub record RestTakes (l : ℕ) (t : Fraction) (ss : List Sample) (rows : List Row) (gs : List GapRun) (i : ℕ) (v : Fraction) : Type 0 where
    pub start : Point
    pub gaps : List GapRun
    pub at : IsAt a start
    pub starts : AllHold rows start
    pub follows : Follows a k (record { loc = l; point = start }) t ss gaps
    pub along : map path_of gaps ≡ map path_of gs
    pub ends : EndsWhere wanted gaps
    pub chosen : Chosen i v (numbers_of gaps) (numbers_of gs)

  -- what is known of the gap runs themselves
  pub record IsOwnRest (before : Place) (t : Fraction) (ss : List Sample) (rows : List Row) (gs : List GapRun) : Type 0 where
    pub samples : AreSamples a ss
    pub time : IsFraction t
    pub within : before.loc < length a.locations
    pub at : IsAt a before.point
    pub wide : AllWide (width a) rows
    pub follows : Follows a k before t ss gs
    pub ends : EndsWhere wanted gs

  module _ (before : Place) (t : Fraction) (s : Sample) (ss : List Sample) (rows : List Row) (g : GapRun) (gs : List GapRun) (own : IsOwnRest before t (s ∷ ss) rows (g ∷ gs)) where
    abbrev duration : Fraction
    duration = difference s.time t

    pub duration_is : IsFraction duration
    duration_is = product_positive s.time.den t.den (own.samples s (inl refl)).1 own.time

    pub own_sized : length g.start ≡ width a
    own_sized = length-same_point (start_point g) before.point own.follows.0.same_point ∙ own.at.sized

    pub own_within : g.start_loc < length a.locations
    own_within = subst (λ l. l < length a.locations) (sym own.follows.0.same_loc) own.within

    case : IsGapCase a g.start_loc s.cells rows
    case =
        let are = (own.samples s (inl refl)).0 in
        record { loc = own_within; wide = own.wide; tolerances = are.tolerances; values = are.values; sized = are.sized }

    pub own_fits : Fits a g.start_loc (path_of g)
    own_fits = fits a g.den g.start_loc g.start g.moves g.last own.follows.0.gap_run.positive own.follows.0.gap_run.leads

    -- other gap runs, the first apart
    record Split (i : ℕ) (v : Fraction) : Type 0 where
      start : Point
      first : GapRun
      more : List GapRun
      at : IsAt a start
      starts : AllHold rows start
      continues : Continues a k (record { loc = before.loc; point = start }) duration s first
      follows : Follows a k (end_of a first) s.time ss more
      along : path_of first ≡ path_of g
      later_along : map path_of more ≡ map path_of gs
      ends : EndsWhere wanted (first ∷ more)
      alike : AllZip (IsAlike a) (first ∷ more) (g ∷ gs)
      chosen : Chosen i v (later first more ++ fractions first.den (back_of first)) (later g gs ++ fractions g.den (back_of g))

    split : (i : ℕ) (v : Fraction) → RestTakes before.loc t (s ∷ ss) rows (g ∷ gs) i v → Split i v
    split i v o = go o.gaps o.follows o.along o.ends o.chosen
      where
        go : (xs : List GapRun) → Follows a k (record { loc = before.loc; point = o.start }) t (s ∷ ss) xs → map path_of xs ≡ map path_of (g ∷ gs) → EndsWhere wanted xs →
            Chosen i v (numbers_of xs) (numbers_of (g ∷ gs)) → Split i v
        go [] f along ends chosen = absurd f
        go (x ∷ xs) f along ends chosen = record {
          start = o.start;
          first = x;
          more = xs;
          at = o.at;
          starts = o.starts;
          continues = f.0;
          follows = f.1;
          along = head_of (path_of x) (path_of g) (map path_of xs) (map path_of gs) along;
          later_along = tail_of (path_of x) (path_of g) (map path_of xs) (map path_of gs) along;
          ends = ends;
          alike = all_alike a k (record { loc = before.loc; point = o.start }) before t (s ∷ ss) (x ∷ xs) (g ∷ gs)
              (record { loc = refl; first = o.at.sized; second = own.at.sized; first_den = o.at.positive; second_den = own.at.positive }) along f own.follows;
          chosen = subst (λ zs. Chosen i v zs (later g gs ++ fractions g.den (back_of g))) (numbers_parts x xs) (subst (Chosen i v (numbers_of (x ∷ xs))) (numbers_parts g gs) chosen);
        }

    starts_there : (i : ℕ) (v : Fraction) (k : Split i v) → AllHold rows (start_point k.first)
    starts_there i v k = all_same rows k.start (start_point k.first) k.at.positive k.continues.gap_run.positive (sym k.continues.same_point) k.starts

    -- ---- the first gap

    pub gap_of_rest : (i : ℕ) (v : Fraction) → RestTakes before.loc t (s ∷ ss) rows (g ∷ gs) (length (later g gs) + i) v → GapTakes a wf duration rows g i v
    gap_of_rest i v o =
        let r = split (length (later g gs) + i) v o in
        let both = chosen_back (length (later g gs)) (later r.first r.more) (later g gs) (fractions r.first.den (back_of r.first)) (fractions g.den (back_of g)) (later_long a r.first g r.more gs r.alike) refl i v r.chosen in
        record {
          other = r.first;
          loc = r.continues.same_loc ∙ sym own.follows.0.same_loc;
          sized = length-same_point (start_point r.first) r.start r.continues.same_point ∙ r.at.sized;
          starts = starts_there (length (later g gs) + i) v r;
          along = r.along;
          gap_run = r.continues.gap_run;
          ends = ends_agree a r.first g r.more gs r.alike (is_joined a k r.first s.time ss r.more r.follows) (is_joined a k g s.time ss gs own.follows.1) both.0;
          chosen = both.1;
        }

    -- the numbers after a gap that ends at the same point
    later_agree : (x : GapRun) (xs : List GapRun) → SamePoint (end_point x) (end_point g) → Agree (length (later g xs)) (later x xs) (later g xs)
    later_agree x [] same = point_agree (length (later g [])) x.den g.den x.last.at_end g.last.at_end same
    later_agree x (h ∷ hs) same = λ j hj. refl

    later_many : (x : GapRun) (xs : List GapRun) → length x.last.at_end ≡ length g.last.at_end → length (later x xs) ≡ length (later g xs)
    later_many x [] e = length-fractions x.den x.last.at_end ∙ e ∙ sym (length-fractions g.den g.last.at_end)
    later_many x (h ∷ hs) e = refl

    ends_where : (x : GapRun) (xs : List GapRun) → pos 0 <ℤ x.den → SamePoint (end_point g) (end_point x) → EndsWhere wanted (g ∷ xs) → EndsWhere wanted (x ∷ xs)
    ends_where x [] hx same e = all_same wanted (end_point g) (end_point x) own.follows.0.gap_run.positive hx same e
    ends_where x (h ∷ hs) hx same e = e

    pub rest_of_gap : (i : ℕ) (v : Fraction) → GapTakes a wf duration rows g i v → RestTakes before.loc t (s ∷ ss) rows (g ∷ gs) (length (later g gs) + i) v
    rest_of_gap i v o =
        let x : GapRun = o.other in
        let c = own.follows.0 in
        let le : length x.last.at_end ≡ length g.last.at_end = length-same_point (end_point x) (end_point g) o.ends in
        let loc : (end_of a g).loc ≡ (end_of a x).loc = ap₂ (end_loc a) (sym o.loc) (sym o.along) in
        let passes : IsPassing a s.cells (end_point x) = passing_same a s.cells (end_point g) (end_point x) (own.samples s (inl refl)).0 c.gap_run.positive o.gap_run.positive
        c.passes.sized (le ∙ c.passes.sized) (sym o.ends) c.passes in
        let few : length x.moves ≤ k = omega (arith, c.few, length_path x (path_of g) o.along, length_path g (path_of g) refl) in
        let joined = back_chosen (length (later g gs)) (later x gs) (later g gs) (fractions x.den (back_of x)) (fractions g.den (back_of g)) (later_many x gs le) refl i v (later_agree x gs o.ends) o.chosen in
        record {
          start = start_point x;
          gaps = x ∷ gs;
          at = record { positive = o.gap_run.positive; sized = o.sized };
          starts = o.starts;
          follows = (
            record { same_loc = o.loc ∙ c.same_loc; same_point = refl; few = few; gap_run = o.gap_run; passes = passes },
            follows_from a k (end_of a g) (end_of a x) s.time ss gs loc (sym o.ends) c.gap_run.positive own.follows.1,
          );
          along = ap (λ p. p ∷ map path_of gs) o.along;
          ends = ends_where x gs o.gap_run.positive (sym o.ends) own.ends;
          chosen = subst (λ zs. Chosen (length (later g gs) + i) v zs (numbers_of (g ∷ gs))) (sym (numbers_parts x gs))
              (subst (Chosen (length (later g gs) + i) v (later x gs ++ fractions x.den (back_of x))) (sym (numbers_parts g gs)) joined);
        }

    -- ---- the gaps after it

    -- the rows after the gap
    abbrev pub next : List Row
    next = gap_rows a g.start_loc (path_of g) duration s.cells rows

    chosen_next : (x y : GapRun) (xs ys : List GapRun) (i : ℕ) (v : Fraction) → AllZip (IsAlike a) (x ∷ xs) (y ∷ ys) → i < length (numbers_of ys) →
        Chosen i v (later x xs ++ fractions x.den (back_of x)) (later y ys ++ fractions y.den (back_of y)) → Chosen i v (numbers_of xs) (numbers_of ys)
    chosen_next x y xs [] i v is hi c = absurd (omega arith)
    chosen_next x y [] (h ∷ ys) i v is hi c = absurd is.1
    chosen_next x y (z ∷ xs) (h ∷ ys) i v is hi c =
        chosen_front (length (numbers_of (h ∷ ys))) (numbers_of (z ∷ xs)) (numbers_of (h ∷ ys)) (fractions x.den (back_of x)) (fractions y.den (back_of y)) (numbers_long a (z ∷ xs) (h ∷ ys) is.1) refl i v hi c

    ends_next : (x : GapRun) (xs ys : List GapRun) (i : ℕ) → i < length (numbers_of ys) → map path_of xs ≡ map path_of ys → EndsWhere wanted (x ∷ xs) → EndsWhere wanted xs
    ends_next x xs [] i hi along e = absurd (omega arith)
    ends_next x [] (h ∷ ys) i hi along e = absurd (none_of (path_of h) (map path_of ys) along)
    ends_next x (z ∷ xs) (h ∷ ys) i hi along e = e

    pub next_of_rest : (i : ℕ) (v : Fraction) → i < length (numbers_of gs) → RestTakes before.loc t (s ∷ ss) rows (g ∷ gs) i v → RestTakes (end_of a g).loc s.time ss next gs i v
    next_of_rest i v hi o =
        let r = split i v o in
        let x : GapRun = r.first in
        let c = r.continues in
        let loc : x.start_loc ≡ g.start_loc = c.same_loc ∙ sym own.follows.0.same_loc in
        let there : AllHold (gap_rows a x.start_loc (path_of x) duration s.cells rows) (end_point x) =
        (gap_there a wf duration s.cells rows x (subst (λ l. IsGapCase a l s.cells rows) (sym loc) case) (fits a x.den x.start_loc x.start x.moves x.last c.gap_run.positive c.gap_run.leads)
        (length-same_point (start_point x) r.start c.same_point ∙ r.at.sized) c.gap_run c.passes (starts_there i v r)).1 in
        record {
          start = end_point x;
          gaps = r.more;
          at = record { positive = c.gap_run.positive; sized = c.passes.sized };
          starts = subst (λ w. AllHold (gap_rows a g.start_loc w duration s.cells rows) (end_point x)) r.along
              (subst (λ l. AllHold (gap_rows a l (path_of x) duration s.cells rows) (end_point x)) loc there);
          follows = subst (λ l. Follows a k (record { loc = l; point = end_point x }) s.time ss r.more) (ap₂ (end_loc a) loc r.along) r.follows;
          along = r.later_along;
          ends = ends_next x r.more gs i hi r.later_along r.ends;
          chosen = chosen_next x g r.more gs i v r.alike hi r.chosen;
        }

    ends_more : (x : GapRun) (xs : List GapRun) → EndsWhere wanted xs → EndsWhere wanted (x ∷ xs)
    ends_more x [] e = absurd e
    ends_more x (z ∷ xs) e = e

    next_chosen : (x y : GapRun) (xs ys : List GapRun) (i : ℕ) (v : Fraction) → AllZip (IsAlike a) xs ys → i < length (numbers_of ys) →
        Chosen i v (numbers_of xs) (numbers_of ys) → Chosen i v (numbers_of (x ∷ xs)) (numbers_of (y ∷ ys))
    next_chosen x y xs [] i v is hi c = absurd (omega arith)
    next_chosen x y [] (h ∷ ys) i v is hi c = absurd is
    next_chosen x y (z ∷ xs) (h ∷ ys) i v is hi c =
        subst (λ us. Chosen i v us (numbers_of (y ∷ h ∷ ys))) (sym (numbers_parts x (z ∷ xs)))
        (subst (Chosen i v (numbers_of (z ∷ xs) ++ fractions x.den (back_of x))) (sym (numbers_parts y (h ∷ ys)))
        (front_chosen (length (numbers_of (h ∷ ys))) (numbers_of (z ∷ xs)) (numbers_of (h ∷ ys)) (fractions x.den (back_of x)) (fractions y.den (back_of y)) (numbers_long a (z ∷ xs) (h ∷ ys) is) refl i v hi c))

    pub rest_of_next : (i : ℕ) (v : Fraction) → i < length (numbers_of gs) → RestTakes (end_of a g).loc s.time ss next gs i v → RestTakes before.loc t (s ∷ ss) rows (g ∷ gs) i v
    rest_of_next i v hi o =
        let c = own.follows.0 in
        let back = gap_back a wf g.start_loc (path_of g) duration s.cells rows o.start.den o.start.num case duration_is own_fits o.at.positive o.at.sized o.starts in
        let x : GapRun = back.gap in
        let from : Place = record { loc = (end_of a g).loc; point = o.start } in
        let few : length x.moves ≤ k = omega (arith, c.few, length_path x (path_of g) back.along, length_path g (path_of g) refl) in
        let alike = all_alike a k from (end_of a g) s.time ss o.gaps gs
        (record { loc = refl; first = o.at.sized; second = c.passes.sized; first_den = o.at.positive; second_den = c.gap_run.positive }) o.along o.follows own.follows.1 in
        record {
          start = start_point x;
          gaps = x ∷ o.gaps;
          at = record { positive = back.gap_run.positive; sized = back.sized };
          starts = back.starts;
          follows = (
            record { same_loc = back.loc ∙ c.same_loc; same_point = refl; few = few; gap_run = back.gap_run; passes = back.passes },
            follows_from a k from (end_of a x) s.time ss o.gaps (sym (ap₂ (end_loc a) back.loc back.along)) (sym back.ends) o.at.positive o.follows,
          );
          along = λ j. back.along j ∷ o.along j;
          ends = ends_more x o.gaps o.ends;
          chosen = next_chosen x g o.gaps gs i v alike hi o.chosen;
        }
