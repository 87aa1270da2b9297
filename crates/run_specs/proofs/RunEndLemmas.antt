-- Where runs end, and their last gaps.
use Rattle.std.proofs.Common.{◌≡◌, inl, inr, ℕ, ◌<◌, Bool, true, false, ◌||◌, List, [], ◌∷◌, ◌++◌, length, map, refl, sym, ◌∙◌, ap, subst, arith, ℤ, pos, ◌<ℤ◌}
use Rattle.std.specs.List.{list_any}
use Rattle.std.proofs.lemmas.Int.{ints}
use Rattle.std.proofs.lemmas.Bool.{cases_lt}
use Rattle.std.proofs.lemmas.List.{length-map, map-append, get_or_past}
use Rattle.std.proofs.lemmas.List.Elements.{All-weaker}
use Rattle.poly_specs.proofs.IntLemmas.{product_positive}
use Rattle.poly_specs.proofs.LinearLemmas.{Holds-same_point}
use Rattle.poly_specs.proofs.FractionLemmas.{same-trans}
use Rattle.poly_specs.proofs.LowestLemmas.{lowest-same}
use Rattle.poly_specs.proofs.EliminationLemmas.{AllHold-at_in}
use Rattle.run_specs.proofs.MixRuns.{length-same_point}
use Rattle.run_specs.proofs.SessionLemmas.{last_from}
use Rattle.poly_specs.specs.Fractions.{Fraction, IsFraction, SameFraction, difference, zero_fraction}
use Rattle.poly_specs.specs.Arithmetic.{lowest}
use Rattle.poly_specs.specs.Rows.{Point, Row, over, SamePoint, Holds, AllHold}
use Rattle.run_specs.specs.Automaton.{Automaton, width, never, no_transition, location_at, transition_at}
use Rattle.run_specs.specs.Logs.{Sample, IsSample}
use Rattle.run_specs.specs.Runs.{Leg, Move, GapRun, Place, Run, LeadOn, IsGapRun, Continues, Follows, IsRun, path_of, end_of, end_loc, start_point, goes_unsafe}
use Rattle.run_specs.specs.Passes.{Fits}
use Rattle.run_specs.specs.Histories.{history_of}
use Rattle.run_specs.specs.Keys.{Key}
use Rattle.run_specs.specs.SessionHistories.{Entry, IsEntry}
use Rattle.run_specs.specs.StateHistories.{followed, place_after, run_end}

pub all_same : (rows : List Row) (p q : Point) → pos 0 <ℤ p.den → pos 0 <ℤ q.den → SamePoint p q → AllHold rows p → AllHold rows q
all_same rows p q hp hq e h = All-weaker (λ r. Holds r p) (λ r. Holds r q) (λ r. Holds-same_point r p q hp hq e) rows h

-- one of these gap runs goes to an unsafe location
abbrev pub marked : Automaton → List GapRun → Bool
marked a gs = list_any (λ g. goes_unsafe a g.start_loc (path_of g)) gs

pub marked-append : (a : Automaton) (gs : List GapRun) (g : GapRun) → marked a (gs ++ g ∷ []) ≡ (marked a gs || goes_unsafe a g.start_loc (path_of g))
marked-append a [] g = or_false (goes_unsafe a g.start_loc (path_of g))
  where
    or_false : (b : Bool) → (b || false) ≡ b
    or_false true = refl
    or_false false = refl
marked-append a (h ∷ gs) g =
    ap (λ b. goes_unsafe a h.start_loc (path_of h) || b) (marked-append a gs g) ∙ assoc (goes_unsafe a h.start_loc (path_of h)) (marked a gs) (goes_unsafe a g.start_loc (path_of g))
  where
    assoc : (x y z : Bool) → (x || (y || z)) ≡ ((x || y) || z)
    assoc true y z = refl
    assoc false y z = refl

-- ---- a run and one more gap

-- the run, and then this gap run
abbrev pub extended : Run → GapRun → Run
extended run g = record run { gaps = run.gaps ++ g ∷ [] }

pub place-append : (a : Automaton) (p : Place) (gs : List GapRun) (g : GapRun) → place_after a p (gs ++ g ∷ []) ≡ end_of a g
place-append a p [] g = refl
place-append a p (h ∷ gs) g = place-append a (end_of a h) gs g

pub history-extended : (run : Run) (g : GapRun) → history_of (extended run g) ≡ followed (history_of run) (path_of g)
history-extended run g = ap (λ (paths : List (List ℕ)). record { start = run.start.loc; paths = paths }) (map-append path_of run.gaps (g ∷ []))

pub follows_more : (a : Automaton) (k : ℕ) (p : Place) (t : Fraction) (ss : List Sample) (s : Sample) (gs : List GapRun) (g : GapRun) → Follows a k p t ss gs →
    Continues a k (place_after a p gs) (difference s.time (last_from t ss)) s g → Follows a k p t (ss ++ s ∷ []) (gs ++ g ∷ [])
follows_more a k p t [] s [] g h c = (c, tt)
follows_more a k p t [] s (x ∷ gs) g h c = absurd h
follows_more a k p t (y ∷ ss) s [] g h c = absurd h
follows_more a k p t (y ∷ ss) s (x ∷ gs) g h c = (h.0, follows_more a k (end_of a x) y.time ss s gs g h.1 c)

record LastGap (a : Automaton) (k : ℕ) (p : Place) (t : Fraction) (ss : List Sample) (s : Sample) (gs before : List GapRun) (g : GapRun) : Type 0 where
  is : gs ≡ before ++ g ∷ []
  follows : Follows a k p t ss before
  continues : Continues a k (place_after a p before) (difference s.time (last_from t ss)) s g

last_gap : (a : Automaton) (k : ℕ) (p : Place) (t : Fraction) (ss : List Sample) (s : Sample) (gs : List GapRun) → Follows a k p t (ss ++ s ∷ []) gs →
    (before : List GapRun) × (g : GapRun) × LastGap a k p t ss s gs before g
last_gap a k p t [] s [] h = absurd h
last_gap a k p t [] s (g ∷ []) h = ([], g, record { is = refl; follows = tt; continues = h.0 })
last_gap a k p t [] s (g ∷ x ∷ gs) h = absurd h.1
last_gap a k p t (y ∷ ss) s [] h = absurd h
last_gap a k p t (y ∷ ss) s (x ∷ gs) h =
    let (before, g, l) = last_gap a k (end_of a x) y.time ss s gs h.1 in
    (x ∷ before, g, record { is = ap (λ z. x ∷ z) l.is; follows = (h.0, l.follows); continues = l.continues })

-- the point is a point of the automaton
pub record IsAt (a : Automaton) (q : Point) : Type 0 where
  pub positive : pos 0 <ℤ q.den
  pub sized : length q.num ≡ width a

-- a gap run to the sample, from the end of a run before it
pub record IsNextGap (a : Automaton) (k : ℕ) (ss : List Sample) (s : Sample) (before : Run) (g : GapRun) : Type 0 where
  pub run_of : IsRun a k ss before
  pub continues : Continues a k (run_end a before) (difference s.time (last_from zero_fraction ss)) s g

pub run-extended : (a : Automaton) (k : ℕ) (ss : List Sample) (s : Sample) (before : Run) (g : GapRun) → IsNextGap a k ss s before g → IsRun a k (ss ++ s ∷ []) (extended before g)
run-extended a k ss s before g n =
    record { starts = n.run_of.starts; follows = follows_more a k before.start zero_fraction ss s before.gaps g n.run_of.follows n.continues }

pub before_gap : (a : Automaton) (k : ℕ) (ss : List Sample) (s : Sample) (run : Run) → IsRun a k (ss ++ s ∷ []) run →
    (before : Run) × (g : GapRun) × (run ≡ extended before g) × IsNextGap a k ss s before g
before_gap a k ss s run r =
    let (gs, g, l) = last_gap a k run.start zero_fraction ss s run.gaps r.follows in (
      record { start = run.start; gaps = gs },
      g,
      ap (λ (x : List GapRun). record { start = run.start; gaps = x }) l.is,
      record { run_of = record { starts = r.starts; follows = l.follows }; continues = l.continues },
    )

-- a gap run's path leaves its start location
pub fits : (a : Automaton) (d : ℤ) (l : ℕ) (p : List ℤ) (ms : List Move) (f : Leg) → pos 0 <ℤ d → LeadOn a d l p ms f → Fits a l (map (λ m. m.transition) ms)
fits a d l p [] f hd h = tt
fits a d l p (m ∷ ms) f hd h = (exists, h.1, fits a d (transition_at a m.transition).target m.after ms f hd h.3)
  where
    exists : m.transition < length a.transitions
    exists = elim (cases_lt m.transition (length a.transitions)) [
      | inl lt ↦ lt
      | inr ge ↦ absurd (
          let past : transition_at a m.transition ≡ no_transition = get_or_past a.transitions m.transition no_transition ge in
          let none : AllHold (never ∷ []) (over d (m.leg.at_end ++ m.after)) = subst (λ e. AllHold e.relation (over d (m.leg.at_end ++ m.after))) past h.2.related in
          let r : Holds never (over d (m.leg.at_end ++ m.after)) = AllHold-at_in (never ∷ []) (over d (m.leg.at_end ++ m.after)) none never (inl refl) in
          omega (arith, ints, r, hd))
    ]

pub starts_inside : (a : Automaton) (d : ℤ) (l : ℕ) (p : List ℤ) (ms : List Move) (f : Leg) → LeadOn a d l p ms f → AllHold (location_at a l).invariant (over d p)
starts_inside a d l p [] f h = h.inside_before
starts_inside a d l p (m ∷ ms) f h = h.0.inside_before

pub ends_inside : (a : Automaton) (d : ℤ) (l : ℕ) (p : List ℤ) (ms : List Move) (f : Leg) → LeadOn a d l p ms f →
    AllHold (location_at a (end_loc a l (map (λ m. m.transition) ms))).invariant (over d f.at_end)
ends_inside a d l p [] f h = h.inside_after
ends_inside a d l p (m ∷ ms) f h = ends_inside a d (transition_at a m.transition).target m.after ms f h.3

-- ---- where a run of a log stands

-- the place is a point of the automaton, inside its location's invariant
pub record IsInside (a : Automaton) (place : Place) : Type 0 where
  pub at : IsAt a place.point
  pub inside : AllHold (location_at a place.loc).invariant place.point

end_inside : (a : Automaton) (k : ℕ) (place : Place) (t : Fraction) (s : Sample) (g : GapRun) → Continues a k place t s g → IsInside a (end_of a g)
end_inside a k place t s g c = record {
  at = record { positive = c.gap_run.positive; sized = c.passes.sized };
  inside = ends_inside a g.den g.start_loc g.start g.moves g.last c.gap_run.leads;
}

stays_inside : (a : Automaton) (k : ℕ) (place : Place) (t : Fraction) (ss : List Sample) (gs : List GapRun) → IsInside a place → Follows a k place t ss gs → IsInside a (place_after a place gs)
stays_inside a k place t [] [] is h = is
stays_inside a k place t [] (g ∷ gs) is h = absurd h
stays_inside a k place t (s ∷ ss) [] is h = absurd h
stays_inside a k place t (s ∷ ss) (g ∷ gs) is h = stays_inside a k (end_of a g) s.time ss gs (end_inside a k place (difference s.time t) s g h.0) h.1

-- a run of a log of at least one sample ends inside an invariant
pub run_inside : (a : Automaton) (k : ℕ) (log : List Sample) (run : Run) → 0 < length log → IsRun a k log run → IsInside a (run_end a run)
run_inside a k log run h r = go a k run.start zero_fraction log run.gaps h r.follows
  where
    go : (a : Automaton) (k : ℕ) (place : Place) (t : Fraction) (log : List Sample) (gs : List GapRun) → 0 < length log → Follows a k place t log gs → IsInside a (place_after a place gs)
    go a k place t [] gs h f = absurd (omega arith)
    go a k place t (s ∷ ss) [] h f = absurd f
    go a k place t (s ∷ ss) (g ∷ gs) h f = stays_inside a k (end_of a g) s.time ss gs (end_inside a k place (difference s.time t) s g f.0) f.1

end_sized : (a : Automaton) (k : ℕ) (p : Place) (t : Fraction) (ss : List Sample) (gs : List GapRun) → length p.point.num ≡ width a → Follows a k p t ss gs → length (place_after a p gs).point.num ≡ width a
end_sized a k p t [] [] l h = l
end_sized a k p t [] (g ∷ gs) l h = absurd h
end_sized a k p t (s ∷ ss) [] l h = absurd h
end_sized a k p t (s ∷ ss) (g ∷ gs) l h = end_sized a k (end_of a g) s.time ss gs h.0.passes.sized h.1

-- the next gap starts at a point of the automaton, inside the invariant of where the run before ends
pub gap_start : (a : Automaton) (k : ℕ) (ss : List Sample) (s : Sample) (before : Run) (g : GapRun) → IsNextGap a k ss s before g →
    IsAt a (start_point g) × AllHold (location_at a (run_end a before).loc).invariant (start_point g)
gap_start a k ss s before g n =
    let c = n.continues in (
      record {
        positive = c.gap_run.positive;
        sized = length-same_point (start_point g) (run_end a before).point c.same_point ∙ end_sized a k before.start zero_fraction ss before.gaps n.run_of.starts.sized n.run_of.follows;
      },
      subst (λ l. AllHold (location_at a l).invariant (start_point g)) c.same_loc (starts_inside a g.den g.start_loc g.start g.moves g.last c.gap_run.leads),
    )

-- ---- what a gap's key says

-- what a gap's key says of its sample
pub record IsKeyOf (ss : List Sample) (s : Sample) (key : Key) : Type 0 where
  pub gap : SameFraction key.gap (difference s.time (last_from zero_fraction ss))
  pub gap_is : IsFraction key.gap
  pub duration_is : IsFraction (difference s.time (last_from zero_fraction ss))
  pub seen : key.seen ≡ s.cells

pub other_duration : (a : Automaton) (x y : Fraction) (g : GapRun) → IsFraction x → IsFraction y → SameFraction x y → IsGapRun a x g → IsGapRun a y g
other_duration a x y g hx hy e is =
    record { positive = is.positive; leads = is.leads; lasts = same-trans (record { num = _; den = g.den }) x y is.positive hx hy is.lasts e }

pub length_path : (g : GapRun) (path : List ℕ) → path_of g ≡ path → length g.moves ≡ length path
length_path g path e = sym (length-map g.moves (λ m. m.transition)) ∙ ap length e

pub last_from-append : (t : Fraction) (ss : List Sample) (s : Sample) → last_from t (ss ++ s ∷ []) ≡ s.time
last_from-append t [] s = refl
last_from-append t (x ∷ ss) s = last_from-append x.time ss s

pub key_of : (before : List Sample) (s : Sample) (t : Fraction) (m : ℕ) (e : Entry) → IsEntry e → IsSample m s → t ≡ last_from zero_fraction before → IsFraction t →
    e.key.gap ≡ lowest (difference s.time t) → e.key.seen ≡ s.cells → IsKeyOf before s e.key
key_of before s t m e entry sample et ht eg es =
    let hd : IsFraction (difference s.time t) = product_positive s.time.den t.den sample.time.positive ht in
    let same : SameFraction e.key.gap (difference s.time t) = subst (λ x. SameFraction x (difference s.time t)) (sym eg) (lowest-same (difference s.time t)) in
    record {
      gap = subst (λ u. SameFraction e.key.gap (difference s.time u)) et same;
      gap_is = entry.key.gap.0.positive;
      duration_is = subst (λ u. IsFraction (difference s.time u)) et hd;
      seen = es;
    }
