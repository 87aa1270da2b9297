-- A whole gap: where going back over it passes, a reached plain stage does, or picking its numbers, or writing them over one denominator.
use Rattle.std.proofs.Common.{◌≡◌, inl, inr, ℕ, ◌+◌, List, [], ◌∷◌, ◌++◌, length, sym, subst, arith, pos}
use Rattle.std.specs.Prelude.{All}
use Rattle.std.proofs.lemmas.Int.{ints}
use Rattle.gap_runs.proofs.AgreeGap.{gap_along, gap_ends_back, gap_given, gap_numbers_same, gap_parts, gap_plain}
use Rattle.gap_runs.proofs.LicencePath.{PathPasses, trace_pass}
use Rattle.gap_runs.specs.Befores.{common_point}
use Rattle.gap_runs.specs.Gaps.{ArePlain, IsPickedGap, IsTracedGap, GapBackPasses, end_of_gap}
use Rattle.gap_runs.specs.Paths.{TracePasses}
use Rattle.gap_runs.specs.Traces.{BackValue, IsBack}
use Rattle.poly_specs.proofs.InclusionLemmas.{among_formed_each}
use Rattle.poly_specs.specs.Bits.{SomePasses}
use Rattle.poly_specs.specs.Denominators.{common_numbers}
use Rattle.poly_specs.specs.Elimination.{columns_down}
use Rattle.poly_specs.specs.Fractions.{Fraction, IsFraction}
use Rattle.poly_specs.specs.Lists.{IsAmong}
use Rattle.poly_specs.specs.Rows.{Row}
use Rattle.poly_specs.specs.Systems.{System}
use Rattle.run_specs.proofs.MixLemmas.{transitions}
use Rattle.run_specs.proofs.OverflowLemmas.{end_there}
use Rattle.run_specs.proofs.PassesLemmas.{leg_rows_more, leg_more, jump_rows_more, jump_more}
use Rattle.run_specs.specs.Automaton.{Automaton, width, transition_at}
use Rattle.run_specs.specs.Keys.{Key, IsKey, no_state, parent_at}
use Rattle.run_specs.specs.Outcomes.{MayTake, IsEnd}
use Rattle.run_specs.specs.PlainHistories.{AllReached}
use Rattle.run_specs.specs.Runs.{GapRun}
use Rattle.run_specs.specs.Stages.{Stage, SomeReachedPasses, gap_stages, gap_start, leg_rows, leg_stage, path_rows, path_stages, rows_after, sample_stage}
use Rattle.run_specs.specs.WellFormed.{IsWellFormed}
use Rattle.sample_succ.proofs.PlainLemmas.{formed_pass}
use Rattle.sample_succ.proofs.StageFacts.{passes_more}
use Rattle.sample_succ.specs.Parts.{AreParts, SomeFormedPasses, StagesPass, start_of}

-- ---- stages

formed_more : (a : Automaton) (l : ℕ) (path : List ℕ) (rows more : List Row) → IsAmong rows more → SomeFormedPasses (path_stages a l path rows) → SomeFormedPasses (path_stages a l path more)
formed_more a l [] rows more h (inl p) =
    inl (passes_more _ _ (among_formed_each (columns_down (width a + 1) (width a + 1)) (leg_rows a l rows) (leg_rows a l more) (leg_rows_more a l rows more h)) p)
formed_more a l [] rows more h (inr p) = absurd p
formed_more a l (e ∷ path) rows more h (inl p) =
    inl (passes_more _ _ (among_formed_each (columns_down (width a + 1) (width a + 1)) (leg_rows a l rows) (leg_rows a l more) (leg_rows_more a l rows more h)) p)
formed_more a l (e ∷ path) rows more h (inr (inl p)) =
    let after = leg_more a l rows more h in
    inr (inl (passes_more _ _ (among_formed_each (columns_down (width a + 1) (width a)) _ _ (jump_rows_more a e (rows_after (leg_stage a l rows)) (rows_after (leg_stage a l more)) after)) p))
formed_more a l (e ∷ path) rows more h (inr (inr p)) =
    let after = leg_more a l rows more h in
    inr (inr (formed_more a (transition_at a e).target path _ _ (jump_more a e (rows_after (leg_stage a l rows)) (rows_after (leg_stage a l more)) after) p))

formed_reached : (stages rest : List Stage) → AllReached (stages ++ rest) → SomeFormedPasses stages → SomeReachedPasses (stages ++ rest)
formed_reached [] rest h p = absurd p
formed_reached (s ∷ stages) rest h (inl p) = inl (formed_pass s p)
formed_reached (s ∷ stages) rest h (inr p) = inr (h.0, formed_reached stages rest h.1 p)

-- ---- the gap

module _ (key : Key) (i : ℕ) (path : List ℕ) (last : List Fraction) (wf : IsWellFormed key.automaton) (is_key : IsKey key) (may : MayTake key i path) (long : length last ≡ width key.automaton)
    (all : All IsFraction last) (end : IsEnd key i path (common_point last)) where
  abbrev a : Automaton
  a = key.automaton

  abbrev m : ℕ
  m = width key.automaton

  abbrev loc : ℕ
  loc = (parent_at key i).loc

  module _ (plain : List Row) (g : GapRun) (are : ArePlain m (parent_at key i).rows plain) (picked : IsPickedGap key i path plain last g) where
    abbrev start : List Row
    start = gap_start m plain

    reached : AllReached (gap_stages a loc path key.gap key.seen plain)
    reached =
        (end_there key i path plain (common_point last) wf is_key (is_key.belief i no_state may.parent).loc may.fits are.wide (λ q hq lq h. (are.plain.same q hq lq).0 h) end).0

    formed_in : SomeFormedPasses (path_stages a loc path start) → SomeReachedPasses (gap_stages a loc path key.gap key.seen plain)
    formed_in h = formed_reached (path_stages a loc path start) (sample_stage a key.gap key.seen (path_rows a loc path start) ∷ []) reached h

    stages_in : StagesPass key i path → SomeReachedPasses (gap_stages a loc path key.gap key.seen plain)
    stages_in h = formed_in (formed_more a loc path (start_of key i).rows start (gap_plain key i path last wf is_key may long all plain g are picked).among h)

    path_passes : (systems : List System) → AreParts a loc path (start_of key i) (start_of key i).rows systems → TracePasses a loc path (start_of key i) systems (end_of_gap key last) →
        PathPasses a wf g.start_loc start g.den (pos 0) g.start g.moves g.last
    path_passes systems parts h =
        trace_pass a wf g.start_loc (start_of key i) start systems g.den (pos 0) g.start g.moves g.last (end_of_gap key last) (gap_along key i path last wf is_key may long all plain g are picked)
        (omega (arith, ints)) (gap_plain key i path last wf is_key may long all plain g are picked) (gap_parts key i path last wf is_key may long all plain g are picked systems parts)
        (gap_ends_back key i path last wf is_key may long all plain g are picked) is_key.gap.0 (gap_given key i path last wf is_key may long all plain g are picked)
        (subst (λ es. TracePasses a g.start_loc es (start_of key i) systems (end_of_gap key last)) (sym picked.along)
        (subst (λ l. TracePasses a l path (start_of key i) systems (end_of_gap key last)) (sym picked.same_loc) h))

  pub stages_pass : StagesPass key i path → GapBackPasses key i path last
  stages_pass h plain g are picked = inl (stages_in plain g are picked h)

  pub trace_passes : (systems : List System) → AreParts key.automaton (parent_at key i).loc path (start_of key i) (start_of key i).rows systems →
      TracePasses key.automaton (parent_at key i).loc path (start_of key i) systems (end_of_gap key last) → GapBackPasses key i path last
  trace_passes systems parts h plain g are picked = elim (path_passes plain g are picked systems parts h) [
    | inl formed ↦ inl (formed_in plain g are picked
        (subst (λ es. SomeFormedPasses (path_stages a loc es (gap_start m plain))) picked.along
        (subst (λ l. SomeFormedPasses (path_stages a l (transitions g.moves) (gap_start m plain))) picked.same_loc formed)))
    | inr found ↦ inr (inl found)
  ]

  pub numbers_pass : (b : BackValue) → IsBack (width key.automaton) b → IsTracedGap key i path last b → SomePasses (common_numbers b.numbers) → GapBackPasses key i path last
  numbers_pass b whole traced h plain g are picked =
      inr (inr (subst SomePasses (sym (gap_numbers_same key i path last wf is_key may long all plain g are picked b traced whole.fractions)) h))
