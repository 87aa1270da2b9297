-- The numbers of a run of a history are a point of the history's system, and each such point gives a run.
use Rattle.std.proofs.Common.{◌≡◌, inl, inr, ℕ, zero, suc, List, [], ◌∷◌, ◌++◌, length, take, drop, map, refl, sym, ◌∙◌, ap, subst, arith, ℤ, pos, ◌*ℤ◌, ◌<ℤ◌}
use Rattle.std.specs.Prelude.{All}
use Rattle.std.specs.List.{AllZip, list_any}
use Rattle.std.proofs.lemmas.Int.{ints}
use Rattle.std.proofs.lemmas.List.{append-nil, map-append, take_all, drop_all}
use Rattle.std.proofs.lemmas.List.Folds.{Any-from_list_any, list_any-from_Any}
use Rattle.poly_specs.proofs.IntLemmas.{product_positive}
use Rattle.run_specs.proofs.MixRuns.{IsAlike, all_alike, start_places, length-same_point}
use Rattle.run_specs.proofs.SystemLemmas.{at_same_point}
use Rattle.run_specs.proofs.HistorySystems.{StartsAt, HistoryHolds, columns, gaps_columns, GapsFrom, start_system, AreCells}
use Rattle.run_specs.proofs.HistoryRuns.{backs, ends, AllOver, gaps_in, gaps_out}
use Rattle.run_specs.proofs.RespelledRuns.{IsRespelled, IsWritten, AllPositive, AllOf, product, product_is_positive, commons, commons_spell, commons_over, gaps_respelled, gaps_count}
use Rattle.run_specs.proofs.LeastDenominators.{AllReduced, least_points, all_reduced}
use Rattle.poly_specs.specs.Lists.{In, scaled}
use Rattle.poly_specs.specs.Fractions.{Fraction, SameFraction, fractions, zero_fraction}
use Rattle.poly_specs.specs.Rows.{Point, over, SamePoint}
use Rattle.run_specs.specs.Automaton.{Automaton, width}
use Rattle.run_specs.specs.WellFormed.{IsLocation}
use Rattle.run_specs.specs.Logs.{Sample}
use Rattle.run_specs.specs.Runs.{GapRun, Place, Run, Follows, IsStart, IsRun, VisitsUnsafe, path_of, end_of, goes_unsafe, start_point}
use Rattle.run_specs.specs.Histories.{History, history_of}
use Rattle.run_specs.specs.FirstRun.{backwards, numbers_before, last_values, picked, IsReduced}

-- ---- lists of numbers

same_fractions : (d c : ℤ) (ns ms : List ℤ) → scaled c ns ≡ scaled d ms → AllZip SameFraction (fractions d ns) (fractions c ms)
same_fractions d c [] [] e = tt
same_fractions d c [] (m ∷ ms) e = absurd (let b : ⊥ = cc in b)
same_fractions d c (n ∷ ns) [] e = absurd (let b : ⊥ = cc in b)
same_fractions d c (n ∷ ns) (m ∷ ms) e =
    let head : n *ℤ c ≡ m *ℤ d = cc in let tail : scaled c ns ≡ scaled d ms = cc in (head, same_fractions d c ns ms tail)

zip_both : (xs ys us vs : List Fraction) → AllZip SameFraction xs ys → AllZip SameFraction us vs → AllZip SameFraction (xs ++ us) (ys ++ vs)
zip_both [] [] us vs h g = g
zip_both [] (y ∷ ys) us vs h g = absurd h
zip_both (x ∷ xs) [] us vs h g = absurd h
zip_both (x ∷ xs) (y ∷ ys) us vs h g = (h.0, zip_both xs ys us vs h.1 g)

last_same : (gs hs : List GapRun) → AllZip IsRespelled gs hs → AllZip SameFraction (last_values gs) (last_values hs)
last_same [] [] is = tt
last_same [] (h ∷ hs) is = absurd is
last_same (g ∷ gs) [] is = absurd is
last_same (g ∷ []) (h ∷ []) is = same_fractions g.den h.den g.last.at_end h.last.at_end is.0.end
last_same (g ∷ []) (h ∷ h' ∷ hs) is = absurd is.1
last_same (g ∷ g' ∷ gs) (h ∷ []) is = absurd is.1
last_same (g ∷ g' ∷ gs) (h ∷ h' ∷ hs) is = last_same (g' ∷ gs) (h' ∷ hs) is.1

before_same : (gs hs : List GapRun) → AllZip IsRespelled gs hs → AllZip SameFraction (numbers_before gs) (numbers_before hs)
before_same [] [] is = tt
before_same [] (h ∷ hs) is = absurd is
before_same (g ∷ gs) [] is = absurd is
before_same (g ∷ gs) (h ∷ hs) is =
    zip_both (numbers_before gs) (numbers_before hs) (fractions g.den (backwards g.start g.moves g.last)) (fractions h.den (backwards h.start h.moves h.last))
    (before_same gs hs is.1) (same_fractions g.den h.den (backwards g.start g.moves g.last) (backwards h.start h.moves h.last) is.0.back)

picked_same : (gs hs : List GapRun) → AllZip IsRespelled gs hs → AllZip SameFraction (last_values gs ++ numbers_before gs) (last_values hs ++ numbers_before hs)
picked_same gs hs is = zip_both (last_values gs) (last_values hs) (numbers_before gs) (numbers_before hs) (last_same gs hs is) (before_same gs hs is)

last_over : (d : ℤ) (p : List ℤ) (g : GapRun) (gs : List GapRun) → AllOver d (g ∷ gs) → last_values (g ∷ gs) ≡ fractions d (ends p (g ∷ gs))
last_over d p g [] h = ap (λ x. fractions x g.last.at_end) h.0
last_over d p g (g' ∷ gs) h = last_over d g.last.at_end g' gs h.1

before_over : (d : ℤ) (gs : List GapRun) → AllOver d gs → numbers_before gs ≡ fractions d (backs gs)
before_over d [] h = refl
before_over d (g ∷ gs) h =
    let b : List ℤ = backwards g.start g.moves g.last in
    ap (λ xs. xs ++ fractions g.den b) (before_over d gs h.1) ∙ ap (λ x. fractions d (backs gs) ++ fractions x b) h.0
    ∙ sym (map-append (λ n. record { num = n; den = d }) (backs gs) b)

picked_over : (d : ℤ) (p : List ℤ) (g : GapRun) (gs : List GapRun) → AllOver d (g ∷ gs) → last_values (g ∷ gs) ++ numbers_before (g ∷ gs) ≡ fractions d (ends p (g ∷ gs) ++ backs (g ∷ gs))
picked_over d p g gs h =
    ap (λ xs. xs ++ numbers_before (g ∷ gs)) (last_over d p g gs h) ∙ ap (λ xs. fractions d (ends p (g ∷ gs)) ++ xs) (before_over d (g ∷ gs) h)
    ∙ sym (map-append (λ n. record { num = n; den = d }) (ends p (g ∷ gs)) (backs (g ∷ gs)))

-- ---- what is known of respelled gaps

written_over : (d : ℤ) (gs : List GapRun) (qs : List Point) → AllZip IsWritten gs qs → AllOf d qs → AllOver d gs
written_over d [] [] w h = tt
written_over d [] (q ∷ qs) w h = absurd w
written_over d (g ∷ gs) [] w h = absurd w
written_over d (g ∷ gs) (q ∷ qs) w h = (w.0.den ∙ h.0, written_over d gs qs w.1 h.1)

paths_same : (gs hs : List GapRun) → AllZip IsRespelled gs hs → map path_of hs ≡ map path_of gs
paths_same [] [] is = refl
paths_same [] (h ∷ hs) is = absurd is
paths_same (g ∷ gs) [] is = absurd is
paths_same (g ∷ gs) (h ∷ hs) is = λ i. is.0.path i ∷ paths_same gs hs is.1 i

all_positive : (a : Automaton) (k : ℕ) (before : Place) (t : Fraction) (ss : List Sample) (gs : List GapRun) → Follows a k before t ss gs → AllPositive gs
all_positive a k before t ss [] h = tt
all_positive a k before t [] (g ∷ gs) h = absurd h
all_positive a k before t (s ∷ ss) (g ∷ gs) h = (h.0.gap_run.positive, all_positive a k (end_of a g) s.time ss gs h.1)

starts_sized : (a : Automaton) (k : ℕ) (before : Place) (t : Fraction) (ss : List Sample) (gs : List GapRun) → length before.point.num ≡ width a → Follows a k before t ss gs →
    (g : GapRun) → In g gs → length g.start ≡ width a
starts_sized a k before t ss [] l h g i = absurd i
starts_sized a k before t [] (x ∷ gs) l h g i = absurd h
starts_sized a k before t (s ∷ ss) (x ∷ gs) l h g (inl e) =
    ap (λ (y : GapRun). length y.start) e ∙ length-same_point (start_point x) before.point h.0.same_point ∙ l
starts_sized a k before t (s ∷ ss) (x ∷ gs) l h g (inr i) = starts_sized a k (end_of a x) s.time ss gs h.0.passes.sized h.1 g i

-- ---- from a run to numbers

-- a denominator, and numbers over it in which the history of the run holds, equal to those that are picked
pub record RunNumbers (a : Automaton) (k : ℕ) (log : List Sample) (run : Run) : Type 0 where
  pub den : ℤ
  pub numbers : List ℤ
  pub positive : pos 0 <ℤ den
  pub long : length numbers ≡ columns a (history_of run)
  pub holds : HistoryHolds a k log (history_of run) den numbers
  pub same : AllZip SameFraction (picked run) (fractions den numbers)

numbers_over : (a : Automaton) (k : ℕ) (log : List Sample) (start : Place) (gs hs : List GapRun) (d : ℤ) → (gs ≡ [] → ⊥) → pos 0 <ℤ d → IsStart a start →
    Follows a k start zero_fraction log hs → AllZip IsRespelled gs hs → AllOver d hs → RunNumbers a k log (record { start = start; gaps = gs })
numbers_over a k log start [] hs d some hd st h is dens = absurd (some refl)
numbers_over a k log start (g ∷ gs) [] d some hd st h is dens = absurd is
numbers_over a k [] start (g ∷ gs) (x ∷ hs) d some hd st h is dens = absurd h
numbers_over a k (s ∷ ss) start (g ∷ gs) (x ∷ hs) d some hd st h is dens =
    let m : ℕ = width a in
    let p : List ℤ = x.start in
    let lp : length p ≡ m = length-same_point (start_point x) start.point h.0.same_point ∙ st.sized in
    let at : SamePoint (over d p) start.point = subst (λ y. SamePoint (over y p) start.point) dens.0 h.0.same_point in
    let begin : StartsAt a start.loc d p = at_same_point m (StartsAt a start.loc) (start_system a start.loc) start.point.den d start.point.num p st.positive hd st.sized lp (sym at) st.allowed in
    let all : List ℤ = ends p (x ∷ hs) ++ backs (x ∷ hs) in
    let plain : ends p (x ∷ hs) ++ (backs (x ∷ hs) ++ []) ≡ all = ap (λ xs. ends p (x ∷ hs) ++ xs) (append-nil (backs (x ∷ hs))) in
    let paths : map path_of (x ∷ hs) ≡ map path_of (g ∷ gs) = paths_same (g ∷ gs) (x ∷ hs) is in
    let inside = gaps_in a k start.loc start zero_fraction (s ∷ ss) (x ∷ hs) (StartsAt a start.loc) d p []
    (record { loc = refl; positive = st.positive; point = at; sized = lp }) hd dens h (subst (StartsAt a start.loc d) (sym (append-nil p)) begin) in
    let count = gaps_count a k start zero_fraction (s ∷ ss) (x ∷ hs) p [] lp h (starts_sized a k start zero_fraction (s ∷ ss) (x ∷ hs) st.sized h) in
    record {
      den = d;
      numbers = all;
      positive = hd;
      long = ap length (sym plain) ∙ count ∙ ap (λ w. gaps_columns m w (length (p ++ []))) paths ∙ ap (gaps_columns m (map path_of (g ∷ gs))) (ap length (append-nil p) ∙ lp);
      holds = subst (λ w. GapsFrom a k start.loc zero_fraction (s ∷ ss) w (StartsAt a start.loc) d all) paths
          (subst (GapsFrom a k start.loc zero_fraction (s ∷ ss) (map path_of (x ∷ hs)) (StartsAt a start.loc) d) plain inside);
      same = subst (λ ys. AllZip SameFraction (last_values (g ∷ gs) ++ numbers_before (g ∷ gs)) ys) (picked_over d p x hs dens) (picked_same (g ∷ gs) (x ∷ hs) is);
    }

pub run_numbers : (a : Automaton) (k : ℕ) (log : List Sample) (run : Run) → All (IsLocation (width a)) a.locations → ((s : Sample) → In s log → AreCells a s.cells) →
    (run.gaps ≡ [] → ⊥) → IsRun a k log run → RunNumbers a k log run
run_numbers a k log run locs are some is =
    let positive = all_positive a k run.start zero_fraction log run.gaps is.follows in
    let d : ℤ = pos 1 *ℤ product run.gaps in
    let r = gaps_respelled a k run.start run.start zero_fraction log run.gaps (commons (pos 1) run.gaps) locs are
    (record { loc = refl; sized = is.starts.sized; positive = is.starts.positive; other_positive = is.starts.positive; point = refl })
    is.follows (commons_spell (pos 1) run.gaps (omega (arith, ints)) positive) in
    numbers_over a k log run.start run.gaps r.gaps d some (product_positive (pos 1) (product run.gaps) (omega (arith, ints)) (product_is_positive run.gaps positive)) is.starts
    r.follows r.same (written_over d r.gaps (commons (pos 1) run.gaps) r.written (commons_over (pos 1) d run.gaps refl))

-- ---- from numbers to a run

pub record NumbersRun (a : Automaton) (k : ℕ) (log : List Sample) (h : History) (d : ℤ) (ns : List ℤ) : Type 0 where
  pub run : Run
  pub is : IsRun a k log run
  pub history : history_of run ≡ h
  pub picks : picked run ≡ fractions d ns

picked_all : (a : Automaton) (k : ℕ) (before : Place) (log : List Sample) (d : ℤ) (p ns : List ℤ) (gs : List GapRun) → (log ≡ [] → ⊥) → Follows a k before zero_fraction log gs → AllOver d gs →
    ns ≡ ends p gs ++ backs gs → last_values gs ++ numbers_before gs ≡ fractions d ns
picked_all a k before [] d p ns gs some h dens e = absurd (some refl)
picked_all a k before (s ∷ ss) d p ns [] some h dens e = absurd h
picked_all a k before (s ∷ ss) d p ns (g ∷ gs) some h dens e = picked_over d p g gs dens ∙ ap (fractions d) (sym e)

pub numbers_run : (a : Automaton) (k : ℕ) (log : List Sample) (h : History) (d : ℤ) (ns : List ℤ) → (log ≡ [] → ⊥) → pos 0 <ℤ d → length ns ≡ columns a h →
    HistoryHolds a k log h d ns → NumbersRun a k log h d ns
numbers_run a k log h d ns some hd len holds =
    let m : ℕ = width a in
    let r = gaps_out a k h.start zero_fraction log h.paths m (StartsAt a h.start) d ns (omega arith) len hd holds in
    let p : List ℤ = take m r.rest in
    let whole : p ≡ r.rest = take_all m r.rest (omega (arith, r.long)) in
    let none : drop m r.rest ≡ [] = drop_all m r.rest (omega (arith, r.long)) in
    let parts : ns ≡ ends p r.gaps ++ backs r.gaps = r.numbers ∙ ap (λ xs. ends p r.gaps ++ (backs r.gaps ++ xs)) none ∙ ap (λ xs. ends p r.gaps ++ xs) (append-nil (backs r.gaps)) in
    let start : Place = record { loc = h.start; point = over d p } in
    record {
      run = record { start = start; gaps = r.gaps };
      is = record {
        starts = record { positive = hd; sized = ap length whole ∙ r.long; allowed = subst (StartsAt a h.start d) (sym whole) r.before };
        follows = r.follows;
      };
      history = λ i. record { start = h.start; paths = r.paths_are i };
      picks = picked_all a k start log d p ns r.gaps some r.follows r.dens parts;
    }

-- ---- a run over least denominators

pub record ReducedRun (a : Automaton) (k : ℕ) (log : List Sample) (run : Run) : Type 0 where
  pub reduced : Run
  pub is : IsRun a k log reduced
  pub history : history_of reduced ≡ history_of run
  pub same : AllZip SameFraction (picked run) (picked reduced)
  pub gaps : All IsReduced reduced.gaps

from_reduced : (gs : List GapRun) → AllReduced gs → All IsReduced gs
from_reduced [] h i d lt = absurd (omega arith)
from_reduced (g ∷ gs) h zero d lt = h.0
from_reduced (g ∷ gs) h (suc i) d lt = from_reduced gs h.1 i d (omega arith)

pub reduced_run : (a : Automaton) (k : ℕ) (log : List Sample) (run : Run) → All (IsLocation (width a)) a.locations → ((s : Sample) → In s log → AreCells a s.cells) →
    IsRun a k log run → ReducedRun a k log run
reduced_run a k log run locs are is =
    let l = least_points run.gaps (all_positive a k run.start zero_fraction log run.gaps is.follows) in
    let r = gaps_respelled a k run.start run.start zero_fraction log run.gaps l.points locs are
    (record { loc = refl; sized = is.starts.sized; positive = is.starts.positive; other_positive = is.starts.positive; point = refl }) is.follows l.spell in
    record {
      reduced = record { start = run.start; gaps = r.gaps };
      is = record { starts = is.starts; follows = r.follows };
      history = λ i. record { start = run.start.loc; paths = paths_same run.gaps r.gaps r.same i };
      same = picked_same run.gaps r.gaps r.same;
      gaps = from_reduced r.gaps (all_reduced r.gaps l.points r.written l.primitive);
    }

-- ---- runs of one history visit alike

unsafe_same : (a : Automaton) (gs hs : List GapRun) → AllZip (IsAlike a) gs hs →
    list_any (λ g. goes_unsafe a g.start_loc (path_of g)) hs ≡ list_any (λ g. goes_unsafe a g.start_loc (path_of g)) gs
unsafe_same a [] [] is = refl
unsafe_same a [] (h ∷ hs) is = absurd is
unsafe_same a (g ∷ gs) [] is = absurd is
unsafe_same a (g ∷ gs) (h ∷ hs) is =
    let here : goes_unsafe a h.start_loc (path_of h) ≡ goes_unsafe a g.start_loc (path_of g) =
    ap (λ l. goes_unsafe a l (path_of h)) (sym is.0.loc) ∙ ap (goes_unsafe a g.start_loc) (sym is.0.path) in
    let rest = unsafe_same a gs hs is.1 in cc

pub visits_same : (a : Automaton) (k : ℕ) (log : List Sample) (r s : Run) → history_of r ≡ history_of s → IsRun a k log r → IsRun a k log s → VisitsUnsafe a r → VisitsUnsafe a s
visits_same a k log r s same one two visits =
    let is = all_alike a k r.start s.start zero_fraction log r.gaps s.gaps (start_places a r s same one.starts two.starts) (ap (λ (h : History). h.paths) same) one.follows two.follows in
    Any-from_list_any (λ g. goes_unsafe a g.start_loc (path_of g)) s.gaps
    (unsafe_same a r.gaps s.gaps is ∙ list_any-from_Any (λ g. goes_unsafe a g.start_loc (path_of g)) r.gaps visits)
