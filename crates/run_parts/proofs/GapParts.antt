-- The numbers of a gap: what other gap runs with the same ends leave for each is what other paths leave for it.
use Rattle.std.proofs.Common.{◌≡◌, ℕ, ◌<◌, List, [], ◌∷◌, length, refl, sym, ◌∙◌, ap, subst, arith, ℤ, pos, ◌+ℤ◌, ◌*ℤ◌}
use Rattle.std.proofs.lemmas.Int.{ints}
use Rattle.run_specs.proofs.FirstRunExists.{same-through}
use Rattle.run_specs.proofs.GapEnds.{start_holds}
use Rattle.run_specs.proofs.HistoryRuns.{lead_sized}
use Rattle.run_specs.proofs.RunEndLemmas.{fits}
use Rattle.run_specs.proofs.ScaledRuns.{last_same}
use Rattle.run_specs.proofs.StageWidths.{start_wide}
use Rattle.run_parts.proofs.Choices.{Chosen, at_place, pick_of_equal}
use Rattle.run_parts.proofs.PathNumbers.{parts_join, same_one}
use Rattle.run_parts.proofs.PathParts.{PathTakes}
use Rattle.run_parts.proofs.PathPicks.{path_picked}
use Rattle.poly_specs.specs.Lists.{In}
use Rattle.poly_specs.specs.Fractions.{Fraction, IsFraction, fractions}
use Rattle.poly_specs.specs.Rows.{Row, SamePoint, AllHold, AllWide}
use Rattle.poly_specs.specs.Picks.{IsPick}
use Rattle.poly_specs.specs.Pickings.{Picking, ArePicked}
use Rattle.run_specs.specs.Automaton.{Automaton, width}
use Rattle.run_specs.specs.WellFormed.{IsWellFormed}
use Rattle.run_specs.specs.Runs.{GapRun, LeadOn, IsGapRun, path_of, total, start_point, end_point}
use Rattle.run_specs.specs.FirstRun.{backwards}
use Rattle.run_specs.specs.Stages.{gap_start}
use Rattle.run_specs.specs.RunPasses.{path_pickings}

-- the gap's numbers before its last values
abbrev pub back_of : GapRun → List ℤ
back_of g = backwards g.start g.moves g.last

module _ (a : Automaton) (wf : IsWellFormed a) where
  -- another gap run from the rows, along the same path to the same point, whose number at i is so chosen
  pub record GapTakes (duration : Fraction) (rows : List Row) (g : GapRun) (i : ℕ) (v : Fraction) : Type 0 where
    pub other : GapRun
    pub loc : other.start_loc ≡ g.start_loc
    pub sized : length other.start ≡ width a
    pub starts : AllHold rows (start_point other)
    pub along : path_of other ≡ path_of g
    pub gap_run : IsGapRun a duration other
    pub ends : SamePoint (end_point other) (end_point g)
    pub chosen : Chosen i v (fractions other.den (back_of other)) (fractions g.den (back_of g))

  -- each number of the gap is the pick of what other gap runs leave for it
  abbrev pub GapPicks : Fraction → List Row → GapRun → Type 0
  GapPicks duration rows g = (i : ℕ) → i < length (back_of g) → IsPick (GapTakes duration rows g i) (at_place i (fractions g.den (back_of g)))

  module _ (duration : Fraction) (rows : List Row) (g : GapRun) (hf : IsFraction duration) (wide : AllWide (width a) rows) (lp : length g.start ≡ width a) (own : IsGapRun a duration g) where
    abbrev start : List Row
    start = gap_start (width a) rows

    -- from a time of 0, equal fractions are equal times
    from_zero : (x y d c : ℤ) → x *ℤ c ≡ y *ℤ d → (pos 0 +ℤ x) *ℤ c ≡ (pos 0 +ℤ y) *ℤ d
    from_zero x y d c e = let one : pos 0 +ℤ x ≡ x = omega (arith, ints) in let two : pos 0 +ℤ y ≡ y = omega (arith, ints) in ap (λ z. z *ℤ c) one ∙ e ∙ ap (λ z. z *ℤ d) (sym two)

    path_of_gap : (i : ℕ) (v : Fraction) → GapTakes duration rows g i v → PathTakes a wf g.start_loc start g.den (pos 0) g.start g.moves g.last i v
    path_of_gap i v o =
        let h : GapRun = o.other in
        let d : ℤ = g.den in
        let c : ℤ = h.den in
        let x : ℤ = total g.moves g.last in
        let y : ℤ = total h.moves h.last in
        let time : x *ℤ c ≡ y *ℤ d = same-through (record { num = x; den = d }) duration (record { num = y; den = c }) hf own.lasts (sym o.gap_run.lasts) in
        record {
          way = record {
            den = c;
            start = h.start;
            elapsed = pos 0;
            moves = h.moves;
            last = h.last;
            positive = o.gap_run.positive;
            sized = o.sized;
            sized_end = lead_sized a c h.start_loc h.start h.moves h.last o.sized o.gap_run.leads;
            starts = (start_holds (width a) c h.start (pos 0) rows o.sized wide).1 (o.starts, refl);
            leads = subst (λ l. LeadOn a c l h.start h.moves h.last) o.loc o.gap_run.leads;
            along = o.along;
            ends = parts_join d c g.last.at_end h.last.at_end ((pos 0 +ℤ x) ∷ []) ((pos 0 +ℤ y) ∷ []) (sym o.ends) (same_one d c (pos 0 +ℤ x) (pos 0 +ℤ y) (from_zero x y d c time));
          };
          chosen = o.chosen;
        }

    gap_of_path : (i : ℕ) (v : Fraction) → PathTakes a wf g.start_loc start g.den (pos 0) g.start g.moves g.last i v → GapTakes duration rows g i v
    gap_of_path i v k =
        let w = k.way in
        let d : ℤ = g.den in
        let c : ℤ = w.den in
        let x : ℤ = total g.moves g.last in
        let y : ℤ = total w.moves w.last in
        let begins = (start_holds (width a) c w.start w.elapsed rows w.sized wide).0 w.starts in
        let joined = last_same d c (pos 0 +ℤ x) (w.elapsed +ℤ y) g.last.at_end w.last.at_end
        (lead_sized a d g.start_loc g.start g.moves g.last lp own.leads ∙ sym w.sized_end) w.ends in
        let one : pos 0 +ℤ x ≡ x = omega (arith, ints) in
        let two : w.elapsed +ℤ y ≡ y = (let z = begins.1 in omega (arith, ints, z)) in
        let time : x *ℤ c ≡ y *ℤ d = ap (λ z. z *ℤ c) (sym one) ∙ joined.1 ∙ ap (λ z. z *ℤ d) two in
        record {
          other = record { den = c; start_loc = g.start_loc; start = w.start; moves = w.moves; last = w.last };
          loc = refl;
          sized = w.sized;
          starts = begins.0;
          along = w.along;
          gap_run = record {
            positive = w.positive;
            leads = w.leads;
            lasts = same-through (record { num = y; den = c }) (record { num = x; den = d }) duration own.positive (sym time) own.lasts;
          };
          ends = sym joined.0;
          chosen = k.chosen;
        }

    pub gap_picked : g.start_loc < length a.locations → GapPicks duration rows g → (pk : Picking) → In pk (path_pickings a g.den g.start_loc (pos 0) start g.start g.moves g.last) → ArePicked pk
    gap_picked hl picks =
        path_picked a wf g.start_loc start g.den (pos 0) g.start g.moves g.last
        (record {
          positive = own.positive;
          sized = lp;
          sized_end = lead_sized a g.den g.start_loc g.start g.moves g.last lp own.leads;
          leads = own.leads;
          within = hl;
          fits = fits a g.den g.start_loc g.start g.moves g.last own.positive own.leads;
          wide = start_wide (width a) rows wide;
        })
        (λ i hi. pick_of_equal (GapTakes duration rows g i) (PathTakes a wf g.start_loc start g.den (pos 0) g.start g.moves g.last i) (at_place i (fractions g.den (back_of g)))
        (λ v hv o. path_of_gap i v o, λ v hv o. gap_of_path i v o) (picks i hi))
