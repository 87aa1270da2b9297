-- The gap run whose numbers are picked from plain rows is the one that is traced back.
use Rattle.std.proofs.Common.{◌≡◌, ℕ, zero, suc, ◌+◌, ◌*◌, ◌-◌, ◌<◌, List, [], ◌∷◌, ◌++◌, drop, get_or, length, length-append, length-drop, sym, ◌∙◌, ap, subst, arith, ℤ, pos}
use Rattle.std.specs.Prelude.{All}
use Rattle.std.specs.List.{AllZip}
use Rattle.std.proofs.lemmas.List.{length-map}
use Rattle.gap_runs.proofs.AgreePath.{IsAlong, IsGiven, Agreed, traced_agree}
use Rattle.gap_runs.proofs.ArriveLemmas.{end_zip, end_is_back, zip_front}
use Rattle.gap_runs.proofs.GapShapes.{count, path_is, shaped_numbers, shaped_wide}
use Rattle.gap_runs.specs.Befores.{common_point}
use Rattle.gap_runs.specs.Gaps.{GapValue, ArePlain, IsPickedGap, IsGapBack, IsTracedGap, end_of_gap}
use Rattle.gap_runs.specs.Paths.{AreTraced, system_at}
use Rattle.gap_runs.specs.Shapes.{shaped, step}
use Rattle.gap_runs.specs.Traces.{BackValue, IsBack}
use Rattle.poly_specs.specs.Denominators.{common_den, common_nums, common_numbers, num_over}
use Rattle.poly_specs.specs.Fractions.{Fraction, IsFraction, SameFraction, fractions}
use Rattle.poly_specs.specs.Lists.{IsAmong, number_at}
use Rattle.poly_specs.specs.Rows.{Row, AllHold, AllWide, over}
use Rattle.poly_specs.specs.Systems.{System}
use Rattle.run_parts.proofs.Choices.{fractions_both, zip_of_both}
use Rattle.run_parts.proofs.LeastNumbers.{equal_numbers}
use Rattle.run_parts.proofs.WideGaps.{equal_gaps}
use Rattle.run_specs.proofs.GapEnds.{start_holds}
use Rattle.run_specs.proofs.GapPasses.{IsWithin}
use Rattle.run_specs.proofs.MixLemmas.{transitions}
use Rattle.run_specs.proofs.PassesLemmas.{start_more, leg_more, jump_more}
use Rattle.run_specs.proofs.PickedLemmas.{length-fractions}
use Rattle.run_specs.proofs.RunEndLemmas.{fits}
use Rattle.run_specs.proofs.SampleEnds.{split_last}
use Rattle.run_specs.proofs.StageWidths.{start_wide}
use Rattle.run_specs.specs.Automaton.{Automaton, width, transition_at}
use Rattle.run_specs.specs.FirstRun.{backwards}
use Rattle.run_specs.specs.Keys.{Key, IsKey, no_state, parent_at}
use Rattle.run_specs.specs.Outcomes.{MayTake}
use Rattle.run_specs.specs.RunPasses.{gap_numbers}
use Rattle.run_specs.specs.Runs.{GapRun}
use Rattle.run_specs.specs.Stages.{gap_start, leg_stage, rows_after}
use Rattle.run_specs.specs.WellFormed.{IsWellFormed}
use Rattle.sample_succ.specs.Parts.{AreParts, IsAfterLeg, start_of}
use Rattle.sample_succ.specs.Plain.{IsPlain}

-- ---- more plain rows

pub parts_more : (a : Automaton) (l : ℕ) (path : List ℕ) (before : System) (least plain : List Row) (systems : List System) → IsAmong least plain → AreParts a l path before least systems →
    AreParts a l path before plain systems
parts_more a l [] before least plain systems h (s, leg, is) = (s, leg_of a l before s least plain h leg, is)
  where
    leg_of : (a : Automaton) (l : ℕ) (before s : System) (least plain : List Row) → IsAmong least plain → IsAfterLeg a l before s least → IsAfterLeg a l before s plain
    leg_of a l before s least plain h leg = record { wide = leg.wide; exact = leg.exact; plain_rows = λ r i. leg_more a l least plain h r (leg.plain_rows r i) }
parts_more a l (e ∷ path) before least plain systems h (s, t, more, leg, jump, parts, is) =
    let after : IsAmong (rows_after (leg_stage a l least)) (rows_after (leg_stage a l plain)) = leg_more a l least plain h in
    let next = jump_more a e (rows_after (leg_stage a l least)) (rows_after (leg_stage a l plain)) after in (
      s,
      t,
      more,
      record { wide = leg.wide; exact = leg.exact; plain_rows = λ r i. after r (leg.plain_rows r i) },
      record { wide = jump.wide; exact = jump.exact; plain_rows = λ r i. next r (jump.plain_rows r i) },
      parts_more a (transition_at a e).target path t _ _ more next parts,
      is,
    )

start_within : (m : ℕ) (rows more : List Row) → AllWide m rows → AllWide m more → IsWithin m rows more → IsWithin (m + 1) (gap_start m rows) (gap_start m more)
start_within m rows more wr wm within p hp lp h =
    let (v, e, s) = split_last m p.num lp in
    let there = (start_holds m p.den v e rows s.sized wr).0 (subst (λ z. AllHold (gap_start m rows) (over p.den z)) s.is h) in
    subst (λ z. AllHold (gap_start m more) (over p.den z)) (sym s.is)
    ((start_holds m p.den v e more s.sized wm).1 (within (over p.den v) hp s.sized there.0, there.1))

pub start_plain : (m : ℕ) (rows plain : List Row) → AllWide m rows → ArePlain m rows plain → IsPlain (m + 1) (gap_start m rows) (gap_start m plain)
start_plain m rows plain wide are = record {
  among = start_more m rows plain are.plain.among;
  same = λ p hp lp. (
    start_within m rows plain wide are.wide (λ q hq lq. (are.plain.same q hq lq).0) p hp lp,
    start_within m plain rows are.wide wide (λ q hq lq. (are.plain.same q hq lq).1) p hp lp,
  );
}

-- ---- how many numbers are traced

traced_many : (a : Automaton) (l : ℕ) (path : List ℕ) (before : System) (systems : List System) (old new : BackValue) → AreTraced a l path before systems old new →
    length new.numbers ≡ length old.numbers + (length path * step (width a) + (width a + 1))
traced_many a l [] before systems old new g =
    omega (arith, ap (λ (xs : List Fraction). length xs) g.more, length-append old.numbers (drop (width a + 1) g.numbers), length-drop (width a + 1) g.numbers, g.picked.picked.sized)
traced_many a l (e ∷ path) before systems old new (later, between, t, j, g) =
    let rest = traced_many a (transition_at a e).target path (system_at systems 1) (drop 2 systems) old later t in
    omega (
      arith,
      rest,
      ap (λ (xs : List Fraction). length xs) g.more,
      length-append between.numbers (drop (width a + 1) g.numbers),
      length-drop (width a + 1) g.numbers,
      g.picked.picked.sized,
      ap (λ (xs : List Fraction). length xs) j.more,
      length-append later.numbers (drop (width a + 1) j.numbers),
      length-drop (width a + 1) j.numbers,
      j.picked.picked.sized,
    )

pub gap_many : (key : Key) (i : ℕ) (path : List ℕ) (last : List Fraction) (b : BackValue) → length last ≡ width key.automaton → IsTracedGap key i path last b →
    length (common_nums b.numbers) ≡ count (width key.automaton) (length path)
gap_many key i path last b long is =
    let a : Automaton = key.automaton in
    let many = traced_many a (parent_at key i).loc path (start_of key i) is.systems (end_of_gap key last) b is.traced in
    omega (arith, many, long, length-map b.numbers (num_over (common_den b.numbers)))

-- ---- the whole gap

module _ (key : Key) (i : ℕ) (path : List ℕ) (last : List Fraction) (wf : IsWellFormed key.automaton) (is_key : IsKey key) (may : MayTake key i path) (long : length last ≡ width key.automaton)
    (all : All IsFraction last) (plain : List Row) (g : GapRun) (are : ArePlain (width key.automaton) (parent_at key i).rows plain) (picked : IsPickedGap key i path plain last g) where
  abbrev a : Automaton
  a = key.automaton

  abbrev m : ℕ
  m = width key.automaton

  parent_wide : AllWide m (parent_at key i).rows
  parent_wide = (is_key.belief i no_state may.parent).wide

  parent_within : g.start_loc < length key.automaton.locations
  parent_within = subst (λ l. l < length a.locations) (sym picked.same_loc) (is_key.belief i no_state may.parent).loc

  -- the plain rows at the start
  abbrev pub start : List Row
  start = gap_start (width key.automaton) plain

  pub gap_along : IsAlong key.automaton wf g.start_loc (gap_start (width key.automaton) plain) g.den (pos 0) g.start g.moves g.last
  gap_along = record {
    positive = picked.gap_run.positive;
    within = parent_within;
    fits = fits a g.den g.start_loc g.start g.moves g.last picked.gap_run.positive picked.gap_run.leads;
    wide = start_wide m plain are.wide;
    sized = picked.wide.start;
    leads = picked.gap_run.leads;
    picked = picked.picked;
  }

  pub gap_plain : IsPlain (width key.automaton + 1) (start_of key i).rows (gap_start (width key.automaton) plain)
  gap_plain = start_plain m (parent_at key i).rows plain parent_wide are

  pub gap_parts : (systems : List System) → AreParts key.automaton (parent_at key i).loc path (start_of key i) (start_of key i).rows systems →
      AreParts key.automaton g.start_loc (transitions g.moves) (start_of key i) (gap_start (width key.automaton) plain) systems
  gap_parts systems parts =
      subst (λ es. AreParts a g.start_loc es (start_of key i) start systems) (sym picked.along)
      (subst (λ l. AreParts a l path (start_of key i) start systems) (sym picked.same_loc)
      (parts_more a (parent_at key i).loc path (start_of key i) (start_of key i).rows start systems gap_plain.among parts))

  pub gap_given : IsGiven key.automaton wf g.den (pos 0) g.moves g.last (end_of_gap key last)
  gap_given = end_zip key last g long picked.gap_run picked.ends

  pub gap_ends_back : IsBack (width key.automaton) (end_of_gap key last)
  gap_ends_back = end_is_back key last is_key long all

  module _ (b : BackValue) (traced : IsTracedGap key i path last b) where
    agreed : Agreed a wf g.den (pos 0) g.start g.moves g.last (end_of_gap key last) b
    agreed =
        traced_agree a wf g.start_loc (start_of key i) start traced.systems g.den (pos 0) g.start g.moves g.last (end_of_gap key last) b gap_along gap_plain (gap_parts traced.systems traced.parts)
        gap_ends_back gap_given
        (subst (λ es. AreTraced a g.start_loc es (start_of key i) traced.systems (end_of_gap key last) b) (sym picked.along)
        (subst (λ l. AreTraced a l path (start_of key i) traced.systems (end_of_gap key last) b) (sym picked.same_loc) traced.traced))

    pub numbers_same : AllZip SameFraction (gap_numbers g) b.numbers
    numbers_same =
        let ns : List ℤ = g.last.at_end in
        let bs : List ℤ = backwards g.start g.moves g.last in
        subst (AllZip SameFraction (gap_numbers g)) (sym agreed.grown)
        (subst (λ xs. AllZip SameFraction xs (last ++ agreed.more)) (sym (fractions_both g.den ns bs)) (zip_of_both (fractions g.den ns) last (fractions g.den bs) agreed.more picked.ends agreed.same))

    start_same : AllZip SameFraction (fractions g.den g.start) (drop (length b.numbers - m) b.numbers)
    start_same =
        let xs : List Fraction = drop (length b.numbers - m) b.numbers in
        let n : length (fractions g.den g.start) ≡ length xs =
        (let s = agreed.back.sized in omega (arith, s, length-fractions g.den g.start, picked.wide.start, length-drop (length b.numbers - m) b.numbers)) in
        zip_front (fractions g.den g.start) xs (fractions g.den (pos 0 ∷ [])) (b.elapsed ∷ []) n
        (subst (λ zs. AllZip SameFraction zs (xs ++ b.elapsed ∷ [])) (fractions_both g.den g.start (pos 0 ∷ [])) agreed.start)

    all_positive : (ns : List ℤ) → All IsFraction (fractions g.den ns)
    all_positive ns k d h = go ns k h
      where
        go : (ns : List ℤ) (k : ℕ) → k < length (fractions g.den ns) → IsFraction (get_or (fractions g.den ns) k d)
        go [] k h = absurd (omega (arith, h))
        go (n ∷ ns) zero h = picked.gap_run.positive
        go (n ∷ ns) (suc k) h = go ns k (omega (arith, h))

    pub gap_numbers_same : All IsFraction b.numbers → common_numbers (gap_numbers g) ≡ common_numbers b.numbers
    gap_numbers_same fit = equal_numbers (gap_numbers g) b.numbers (all_positive (g.last.at_end ++ backwards g.start g.moves g.last)) fit numbers_same

    pub gap_same : All IsFraction b.numbers → (shaped (width key.automaton) (parent_at key i).loc path (common_point b.numbers) ≡ g)
        × AllZip SameFraction (fractions g.den g.start) (drop (length b.numbers - width key.automaton) b.numbers)
    gap_same fit =
        let loc : ℕ = (parent_at key i).loc in
        let p = common_point b.numbers in
        let sized = gap_many key i path last b long traced in
        let same : common_numbers b.numbers ≡ g.den ∷ (g.last.at_end ++ backwards g.start g.moves g.last) = sym (gap_numbers_same fit) ∙ picked.least in
        let den : p.den ≡ g.den = ap (number_at 0) same in
        let nums : p.num ≡ g.last.at_end ++ backwards g.start g.moves g.last = ap (drop 1) same in (
          equal_gaps m (shaped m loc path p) g (shaped_wide m loc path p sized) picked.wide (sym picked.same_loc) (path_is m loc path p sized ∙ sym picked.along) den
              (shaped_numbers m loc path p sized ∙ nums),
          start_same,
        )

-- the answer
pub gap_back_is : (key : Key) (i : ℕ) (path : List ℕ) (last : List Fraction) (back : BackValue) (b : GapValue) → IsWellFormed key.automaton → IsKey key → MayTake key i path →
    length last ≡ width key.automaton → All IsFraction last → IsBack (width key.automaton) back → IsTracedGap key i path last back →
    b.gap ≡ shaped (width key.automaton) (parent_at key i).loc path (common_point back.numbers) → b.start ≡ drop (length back.numbers - width key.automaton) back.numbers → IsGapBack key i path last b
gap_back_is key i path last back b wf is may long all whole traced gap start plain g are picked =
    let same = gap_same key i path last wf is may long all plain g are picked back traced whole.fractions in
    (gap ∙ same.0, subst (AllZip SameFraction (fractions g.den g.start)) (sym start) same.1)
