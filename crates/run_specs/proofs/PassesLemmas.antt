-- What passes for a log passes for each log that it begins.
use Rattle.std.proofs.Common.{ℤ, pos, negsuc, map, ◌+◌, ◌*◌, ◌≡◌, ℕ, List, [], ◌∷◌, ◌++◌, length, length-append, arith, Option, Some, None, IsSomeAnd, inl, inr}
use Rattle.std.specs.List.{flat_map}
use Rattle.poly_specs.proofs.InclusionLemmas.{among_map, among_append, among_eliminated_each}
use Rattle.poly_specs.specs.Lists.{IsAmong}
use Rattle.poly_specs.specs.Fractions.{Fraction, zero_fraction, difference}
use Rattle.poly_specs.specs.Rows.{Row}
use Rattle.run_specs.specs.Automaton.{Automaton, location_at, width, transition_at}
use Rattle.run_specs.specs.Logs.{Sample}
use Rattle.run_specs.specs.Runs.{end_loc}
use Rattle.poly_specs.specs.Columns.{cut}
use Rattle.run_specs.specs.Stages.{Stage, SomeReachedPasses, gaps_stages, gap_stages, gap_rows, opening_stage, rows_after, leg_stage, leg_rows, leg_before, jump_stage, jump_rows, jump_before, path_rows, gap_start, sample_rows, row_of, leg_slope, at_most, at_least, seen_rows, below}
use Rattle.run_specs.specs.Passes.{OpeningPasses, AllFit, LogPasses, history_stages}

reached_more : (xs ys zs : List Stage) → (SomeReachedPasses ys → SomeReachedPasses zs) → SomeReachedPasses (xs ++ ys) → SomeReachedPasses (xs ++ zs)
reached_more [] ys zs f h = f h
reached_more (x ∷ xs) ys zs f (inl h) = inl h
reached_more (x ∷ xs) ys zs f (inr h) = inr (h.0, reached_more xs ys zs f h.1)

-- a path for each further gap: none jumps
still : List Sample → List (List ℕ)
still [] = []
still (s ∷ ss) = [] ∷ still ss

length-still : (ss : List Sample) → length (still ss) ≡ length ss
unfolding still
length-still [] = omega arith
length-still (s ∷ ss) = omega (arith, length-still ss)

fit_still : (a : Automaton) (k l : ℕ) (ts : List Sample) → AllFit a k l (still ts)
unfolding still
fit_still a k l [] = tt
fit_still a k l (t ∷ ts) = (omega arith, tt, fit_still a k l ts)

fit_more : (a : Automaton) (k l : ℕ) (paths : List (List ℕ)) (ts : List Sample) → AllFit a k l paths → AllFit a k l (paths ++ still ts)
fit_more a k l [] ts h = fit_still a k l ts
fit_more a k l (path ∷ paths) ts h = (h.0, h.1, fit_more a k (end_loc a l path) paths ts h.2)

gaps_more : (a : Automaton) (l : ℕ) (t : Fraction) (ss ts : List Sample) (paths more : List (List ℕ)) (rows : List Row) →
    length paths ≡ length ss → SomeReachedPasses (gaps_stages a l t ss paths rows) → SomeReachedPasses (gaps_stages a l t (ss ++ ts) (paths ++ more) rows)
gaps_more a l t [] ts paths more rows e h = absurd h
gaps_more a l t (s ∷ ss) ts [] more rows e h = absurd h
gaps_more a l t (s ∷ ss) ts (path ∷ paths) more rows e h =
    reached_more (gap_stages a l path (difference s.time t) s.cells rows) _ _
    (λ g. gaps_more a (end_loc a l path) s.time ss ts paths more (gap_rows a l path (difference s.time t) s.cells rows) (omega arith) g) h

some_more : {A : Type 0} (P Q : A → Type 0) (o : Option A) → ((x : A) → P x → Q x) → IsSomeAnd o P → IsSomeAnd o Q
some_more P Q None f h = h
some_more P Q (Some x) f h = f x h

pub LogPasses-longer : (a : Automaton) (k : ℕ) (ss ts : List Sample) → LogPasses a k ss → LogPasses a k (ss ++ ts)
LogPasses-longer a k ss ts (l, paths, h) = (
  l,
  paths ++ still ts,
  record {
    one_for_each_gap = (let e = h.one_for_each_gap in omega (arith, length-append paths (still ts), length-append ss ts, length-still ts));
    fit = fit_more a k l paths ts h.fit;
    passes = some_more _ _ (location_at a l).init (λ init. longer init) h.passes;
  },
)
  where
    longer : (init : List Row) → SomeReachedPasses (history_stages a ss l paths init) → SomeReachedPasses (history_stages a (ss ++ ts) l (paths ++ still ts) init)
    longer init (inl g) = inl g
    longer init (inr g) = inr (g.0, gaps_more a l zero_fraction ss ts paths (still ts) (rows_after (opening_stage a l init)) h.one_for_each_gap g.1)

-- where the opening passes, so does every log
pub LogPasses-opening : (a : Automaton) (k : ℕ) (ss : List Sample) → OpeningPasses a → LogPasses a k ss
LogPasses-opening a k ss (l, h) = (
  l,
  still ss,
  record {
    one_for_each_gap = length-still ss;
    fit = fit_still a k l ss;
    passes = some_more _ _ (location_at a l).init (λ init g. inl g) h;
  },
)

-- ---- fewer rows before a gap are fewer rows after it

pub same_in : {A : Type 0} (xs : List A) → IsAmong xs xs
same_in xs x i = i

pub after_more : (columns : List ℕ) (again : List Row) (left : ℕ) (sums : List ℤ) (rows more : List Row) → IsAmong rows more →
    IsAmong (rows_after (record { rows = rows; columns = columns; again = again; left = left; sums = sums }))
    (rows_after (record { rows = more; columns = columns; again = again; left = left; sums = sums }))
unfolding rows_after
after_more columns again left sums rows more h =
    among_map (cut left) _ _ (among_append _ _ _ _ (among_eliminated_each columns rows more h) (same_in again))

pub leg_rows_more : (a : Automaton) (l : ℕ) (rows more : List Row) → IsAmong rows more → IsAmong (leg_rows a l rows) (leg_rows a l more)
leg_rows_more a l rows more h =
    among_append _ _ _ _ (among_append _ _ _ _ (among_append _ _ _ _ (among_map (leg_before (width a)) rows more h) (same_in _)) (same_in _))
    (same_in (row_of (2 * width a + 2) (width a + 1) (negsuc 0) (pos 0) ∷ map (leg_slope (width a)) (location_at a l).slopes))

pub leg_more : (a : Automaton) (l : ℕ) (rows more : List Row) → IsAmong rows more → IsAmong (rows_after (leg_stage a l rows)) (rows_after (leg_stage a l more))
leg_more a l rows more h = after_more _ _ _ _ (leg_rows a l rows) (leg_rows a l more) (leg_rows_more a l rows more h)

pub jump_rows_more : (a : Automaton) (e : ℕ) (rows more : List Row) → IsAmong rows more → IsAmong (jump_rows a e rows) (jump_rows a e more)
jump_rows_more a e rows more h =
    among_append _ _ _ _ (among_append _ _ _ _ (among_map (jump_before (width a)) rows more h) (same_in _)) (same_in _)

pub jump_more : (a : Automaton) (e : ℕ) (rows more : List Row) → IsAmong rows more → IsAmong (rows_after (jump_stage a e rows)) (rows_after (jump_stage a e more))
jump_more a e rows more h = after_more _ _ _ _ (jump_rows a e rows) (jump_rows a e more) (jump_rows_more a e rows more h)

path_more : (a : Automaton) (l : ℕ) (path : List ℕ) (rows more : List Row) → IsAmong rows more → IsAmong (path_rows a l path rows) (path_rows a l path more)
path_more a l [] rows more h = leg_more a l rows more h
path_more a l (e ∷ path) rows more h =
    path_more a (transition_at a e).target path (rows_after (jump_stage a e (rows_after (leg_stage a l rows)))) (rows_after (jump_stage a e (rows_after (leg_stage a l more))))
    (jump_more a e (rows_after (leg_stage a l rows)) (rows_after (leg_stage a l more)) (leg_more a l rows more h))

pub start_more : (m : ℕ) (rows more : List Row) → IsAmong rows more → IsAmong (gap_start m rows) (gap_start m more)
start_more m rows more h =
    among_append _ _ _ _ (among_map _ rows more h) (same_in (row_of (m + 1) m (pos 1) (pos 0) ∷ row_of (m + 1) m (negsuc 0) (pos 0) ∷ []))

pub sample_rows_more : (a : Automaton) (duration : Fraction) (cells : List (Option Fraction)) (rows more : List Row) →
    IsAmong rows more → IsAmong (sample_rows a duration cells rows) (sample_rows a duration cells more)
sample_rows_more a duration cells rows more h =
    among_append _ _ _ _ h (same_in (at_most (width a + 1) (width a) duration ∷ at_least (width a + 1) (width a) duration ∷ flat_map (seen_rows a cells) (below (width a))))

pub gap_more : (a : Automaton) (l : ℕ) (path : List ℕ) (duration : Fraction) (cells : List (Option Fraction)) (rows more : List Row) →
    IsAmong rows more → IsAmong (gap_rows a l path duration cells rows) (gap_rows a l path duration cells more)
gap_more a l path duration cells rows more h =
    after_more _ _ _ _ (sample_rows a duration cells (path_rows a l path (gap_start (width a) rows))) (sample_rows a duration cells (path_rows a l path (gap_start (width a) more)))
    (sample_rows_more a duration cells (path_rows a l path (gap_start (width a) rows)) (path_rows a l path (gap_start (width a) more))
    (path_more a l path (gap_start (width a) rows) (gap_start (width a) more) (start_more (width a) rows more h)))
