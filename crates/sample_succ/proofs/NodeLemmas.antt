-- What holds at a node of the walk: the code's rows say what the plain ones do, and what passes there passes for the key.
use Rattle.std.proofs.Common.{◌≡◌, ◌↔◌, inl, inr, ℕ, ◌+◌, ◌<◌, List, [], ◌∷◌, ◌++◌, length, append_assoc, length-append, sym, ◌∙◌, ap, subst, arith, pos, ◌<ℤ◌}
use Rattle.std.proofs.lemmas.List.{append-nil}
use Rattle.poly_specs.specs.Bits.{SomePasses}
use Rattle.poly_specs.specs.Rows.{Point, Row, over, AllHold, AllWide, HasPoint}
use Rattle.poly_specs.specs.Systems.{System}
use Rattle.run_specs.specs.PlainHistories.{AllReached}
use Rattle.sample_succ.proofs.StageFacts.{passes_more, numbers_more, leg_within, jump_within}
use Rattle.run_specs.proofs.PassesLemmas.{after_more, leg_more, leg_rows_more, jump_more, jump_rows_more, sample_rows_more}
use Rattle.run_specs.proofs.SampleEnds.{sample_ends}
use Rattle.run_specs.proofs.StageWidths.{location_is, transition_is, end_within, start_wide, leg_after_wide, jump_wide_of}
use Rattle.run_specs.specs.Automaton.{Automaton, width, transition_at}
use Rattle.run_specs.specs.Ends.{SomeSampleEnds}
use Rattle.run_specs.specs.Keys.{Key, IsKey, no_state, parent_at}
use Rattle.run_specs.specs.Outcomes.{MayTake, IsEnd, KeyPasses, loc_after}
use Rattle.run_specs.specs.Stages.{Stage, SomeReachedPasses, rows_after, stage_numbers, gap_start, leg_rows, leg_stage, jump_rows, jump_stage, sample_rows, sample_stage, path_rows, path_stages, gap_stages, gap_rows}
use Rattle.run_specs.specs.WellFormed.{IsWellFormed}
use Rattle.sample_succ.specs.Plain.{IsPlain, in_time}
use Rattle.sample_succ.specs.Walks.{before_stages, HavePoints, plain_before, plain_after, IsNodeAt, IsAfter}
use Rattle.run_specs.proofs.GapExact.{gap_case, gap_exact, all_reached}
use Rattle.sample_succ.proofs.LateLemmas.{starts_in_time}
use Rattle.sample_succ.proofs.PathLemmas.{fits_rest, before_more, stages_more, path_stages_at, path_rows_at, path_rows_end, before_wide}
use Rattle.sample_succ.proofs.PlainLemmas.{plain_then}

-- ---- points

reached_then : (xs ys : List Stage) → HavePoints xs → SomeReachedPasses ys → SomeReachedPasses (xs ++ ys)
reached_then [] ys h p = p
reached_then (x ∷ xs) ys h p = inr (h.0, reached_then xs ys h.1 p)

have_both : (xs ys : List Stage) → HavePoints xs → HavePoints ys → HavePoints (xs ++ ys)
have_both [] ys h g = g
have_both (x ∷ xs) ys h g = (h.0, have_both xs ys h.1 g)

reached_rest : (xs ys : List Stage) → AllReached (xs ++ ys) → AllReached ys
reached_rest [] ys h = h
reached_rest (x ∷ xs) ys h = reached_rest xs ys h.1

pub point_same : (n : ℕ) (rows plain : List Row) → IsPlain n rows plain → HasPoint n rows → HasPoint n plain
point_same n rows plain is (p, hp, lp, h) = (p, hp, lp, (is.same p hp lp).0 h)

pub point_back : (n : ℕ) (rows plain : List Row) → IsPlain n rows plain → HasPoint n plain → HasPoint n rows
point_back n rows plain is (p, hp, lp, h) = (p, hp, lp, (is.same p hp lp).1 h)

module _ (key : Key) (wf : IsWellFormed key.automaton) (is : IsKey key) where
  abbrev a : Automaton
  a = key.automaton

  abbrev m : ℕ
  m = width key.automaton

  pub loc_within : (i : ℕ) (path : List ℕ) → MayTake key i path → loc_after key i path < length key.automaton.locations
  loc_within i path may = end_within a wf (parent_at key i).loc path (is.belief i no_state may.parent).loc may.fits

  pub rows_start_wide : (i : ℕ) → i < length key.belief → AllWide (width key.automaton + 1) (gap_start (width key.automaton) (parent_at key i).rows)
  rows_start_wide i h = start_wide m (parent_at key i).rows (is.belief i no_state h).wide

  pub plain_wide : (i : ℕ) (path : List ℕ) → MayTake key i path → AllWide (width key.automaton + 1) (plain_before key i path)
  plain_wide i path may =
      before_wide a wf (parent_at key i).loc path (gap_start m (parent_at key i).rows) (is.belief i no_state may.parent).loc may.fits (rows_start_wide i may.parent)

  pub after_wide : (i : ℕ) (path : List ℕ) → MayTake key i path → AllWide (width key.automaton + 1) (plain_after key i path)
  after_wide i path may = leg_after_wide a (loc_after key i path) (plain_before key i path) (location_is a wf (loc_after key i path) (loc_within i path may)) (plain_wide i path may)

  -- ---- the stages of the code's rows

  pub leg_plain : (l : ℕ) (before plain : List Row) → l < length key.automaton.locations → AllWide (width key.automaton + 1) before → AllWide (width key.automaton + 1) plain →
      IsPlain (width key.automaton + 1) before plain →
      IsPlain (width key.automaton + 1) (rows_after (leg_stage key.automaton l before)) (rows_after (leg_stage key.automaton l plain))
  leg_plain l before plain hl wb wp h = record {
    among = leg_more a l before plain h.among;
    same = λ p hp lp. (
      leg_within a wf l before plain hl wb wp (λ q hq lq. (h.same q hq lq).0) p hp lp,
      leg_within a wf l plain before hl wp wb (λ q hq lq. (h.same q hq lq).1) p hp lp,
    );
  }

  pub jump_plain : (e : ℕ) (before plain : List Row) → e < length key.automaton.transitions → AllWide (width key.automaton + 1) before → AllWide (width key.automaton + 1) plain →
      IsPlain (width key.automaton + 1) before plain →
      IsPlain (width key.automaton + 1) (rows_after (jump_stage key.automaton e before)) (rows_after (jump_stage key.automaton e plain))
  jump_plain e before plain he wb wp h = record {
    among = jump_more a e before plain h.among;
    same = λ p hp lp. (
      jump_within a wf e before plain he wb wp (λ q hq lq. (h.same q hq lq).0) p hp lp,
      jump_within a wf e plain before he wp wb (λ q hq lq. (h.same q hq lq).1) p hp lp,
    );
  }

  sample_from : (before plain : List Row) (p : Point) → ((q : Point) → pos 0 <ℤ q.den → length q.num ≡ width key.automaton + 1 → AllHold before q → AllHold plain q) →
      SomeSampleEnds key.automaton key.gap key.seen before p → SomeSampleEnds key.automaton key.gap key.seen plain p
  sample_from before plain p within (d, q, e, s) = (
    d,
    q,
    e,
    record {
      positive = s.positive;
      sized = s.sized;
      starts = within (over d (q ++ e ∷ [])) s.positive (omega (arith, length-append q (e ∷ []), s.sized)) s.starts;
      lasts = s.lasts;
      passes = s.passes;
      ends = s.ends;
    },
  )

  pub sample_plain : (i : ℕ) (before plain s : List Row) → i < length key.belief → AllWide (width key.automaton + 1) before → AllWide (width key.automaton + 1) plain →
      IsPlain (width key.automaton + 1) before plain → IsPlain (width key.automaton) s (rows_after (sample_stage key.automaton key.gap key.seen before)) →
      IsPlain (width key.automaton) s (rows_after (sample_stage key.automaton key.gap key.seen plain))
  sample_plain i before plain s hi wb wp h given =
      let case = gap_case key i wf is hi in
      plain_then m s (rows_after (sample_stage a key.gap key.seen before)) (rows_after (sample_stage a key.gap key.seen plain)) given (record {
        among = after_more _ _ _ _ (sample_rows a key.gap key.seen before) (sample_rows a key.gap key.seen plain) (sample_rows_more a key.gap key.seen before plain h.among);
        same = λ p hp lp.
            let one = sample_ends a key.gap key.seen before p.den p.num case.tolerances case.values case.sized wb hp lp in
            let two = sample_ends a key.gap key.seen plain p.den p.num case.tolerances case.values case.sized wp hp lp in (
              λ g. two.1 (sample_from before plain p (λ q hq lq. (h.same q hq lq).0) (one.0 g)),
              λ g. one.1 (sample_from plain before p (λ q hq lq. (h.same q hq lq).1) (two.0 g)),
            );
      })

  -- ---- what passes

  fault_at : (i : ℕ) (path other : List ℕ) → MayTake key i (path ++ other) → HavePoints (before_stages key.automaton (parent_at key i).loc path (gap_start (width key.automaton) (parent_at key i).rows)) →
      SomeReachedPasses (path_stages key.automaton (loc_after key i path) other (plain_before key i path)
      ++ sample_stage key.automaton key.gap key.seen (path_rows key.automaton (loc_after key i path) other (plain_before key i path)) ∷ []) → KeyPasses key
  fault_at i path other may points h =
      let l : ℕ = (parent_at key i).loc in
      let start : List Row = gap_start m (parent_at key i).rows in
      let stages : List Stage = path_stages a (loc_after key i path) other (plain_before key i path) in
      let last : Stage = sample_stage a key.gap key.seen (path_rows a (loc_after key i path) other (plain_before key i path)) in
      let same : gap_stages a l (path ++ other) key.gap key.seen (parent_at key i).rows ≡ before_stages a l path start ++ (stages ++ last ∷ []) =
      ap (λ ss. ss ++ sample_stage a key.gap key.seen (path_rows a l (path ++ other) start) ∷ []) (path_stages_at a l path other start)
      ∙ ap (λ rows. (before_stages a l path start ++ stages) ++ sample_stage a key.gap key.seen rows ∷ []) (path_rows_at a l path other start)
      ∙ append_assoc (before_stages a l path start) stages (last ∷ []) in
      (i, path ++ other, record { may_take = may; passes = subst SomeReachedPasses (sym same) (reached_then (before_stages a l path start) (stages ++ last ∷ []) points h) })

  pub leg_fault : (i : ℕ) (path : List ℕ) (before : System) → IsNodeAt key i path before → SomePasses (stage_numbers (leg_stage key.automaton (loc_after key i path) before.rows)) → KeyPasses key
  leg_fault i path before node h =
      let l : ℕ = loc_after key i path in
      let more = passes_more _ _ (numbers_more _ _ _ _ (leg_rows a l before.rows) (leg_rows a l (plain_before key i path)) (leg_rows_more a l before.rows (plain_before key i path) node.plain.among)) h in
      fault_at i path [] (subst (MayTake key i) (sym (append-nil path)) node.may_take) node.reached (inl more)

  pub sample_fault : (i : ℕ) (path : List ℕ) (before after : System) → IsNodeAt key i path before → IsAfter key i path after →
      SomePasses (stage_numbers (sample_stage key.automaton key.gap key.seen after.rows)) → KeyPasses key
  sample_fault i path before after node at h =
      let plain : List Row = plain_after key i path in
      let more = passes_more _ _ (numbers_more _ _ _ _ (sample_rows a key.gap key.seen after.rows) (sample_rows a key.gap key.seen plain) (sample_rows_more a key.gap key.seen after.rows plain at.plain.among)) h in
      fault_at i path [] (subst (MayTake key i) (sym (append-nil path)) node.may_take) node.reached (inr (point_same (m + 1) after.rows plain at.plain at.some_point, inl more))

  pub jump_fault : (i : ℕ) (path : List ℕ) (e : ℕ) (before after : System) → IsNodeAt key i path before → IsAfter key i path after → MayTake key i (path ++ e ∷ []) →
      SomePasses (stage_numbers (jump_stage key.automaton e after.rows)) → KeyPasses key
  jump_fault i path e before after node at may h =
      let plain : List Row = plain_after key i path in
      let more = passes_more _ _ (numbers_more _ _ _ _ (jump_rows a e after.rows) (jump_rows a e plain) (jump_rows_more a e after.rows plain at.plain.among)) h in
      fault_at i path (e ∷ []) may node.reached (inr (point_same (m + 1) after.rows plain at.plain at.some_point, inl more))

  -- ---- where no run goes

  rest_reached : (i : ℕ) (path other : List ℕ) (q : Point) → MayTake key i (path ++ other) → IsEnd key i (path ++ other) q →
      AllReached (path_stages key.automaton (loc_after key i path) other (plain_before key i path)
      ++ sample_stage key.automaton key.gap key.seen (path_rows key.automaton (parent_at key i).loc (path ++ other) (gap_start (width key.automaton) (parent_at key i).rows)) ∷ [])
  rest_reached i path other q may e =
      let l : ℕ = (parent_at key i).loc in
      let start : List Row = gap_start m (parent_at key i).rows in
      let stages : List Stage = path_stages a (loc_after key i path) other (plain_before key i path) in
      let last : Stage = sample_stage a key.gap key.seen (path_rows a l (path ++ other) start) in
      let same : gap_stages a l (path ++ other) key.gap key.seen (parent_at key i).rows ≡ before_stages a l path start ++ (stages ++ last ∷ []) =
      ap (λ ss. ss ++ last ∷ []) (path_stages_at a l path other start) ∙ append_assoc (before_stages a l path start) stages (last ∷ []) in
      reached_rest (before_stages a l path start) (stages ++ last ∷ []) (subst AllReached same (all_reached key i (path ++ other) q wf is may e))

  first_point : (l : ℕ) (other : List ℕ) (state : List Row) (zs : List Stage) → AllReached (path_stages key.automaton l other state ++ zs) →
      HasPoint (width key.automaton + 1) (rows_after (leg_stage key.automaton l state))
  first_point l [] state zs h = h.0
  first_point l (e ∷ other) state zs h = h.0

  pub no_leg : (i : ℕ) (path other : List ℕ) (q : Point) → (HasPoint (width key.automaton + 1) (plain_after key i path) → ⊥) → MayTake key i (path ++ other) → IsEnd key i (path ++ other) q → ⊥
  no_leg i path other q none may e = none (first_point (loc_after key i path) other (plain_before key i path) _ (rest_reached i path other q may e))

  pub no_jump : (i : ℕ) (path : List ℕ) (e : ℕ) (other : List ℕ) (q : Point) → MayTake key i path →
      (HasPoint (width key.automaton + 1) (in_time key (rows_after (jump_stage key.automaton e (plain_after key i path)))) → ⊥) →
      MayTake key i (path ++ e ∷ other) → IsEnd key i (path ++ e ∷ other) q → ⊥
  no_jump i path e other q here none may end =
      let l : ℕ = (parent_at key i).loc in
      let target : ℕ = (transition_at a e).target in
      let start : List Row = gap_start m (parent_at key i).rows in
      let next : List Row = rows_after (jump_stage a e (plain_after key i path)) in
      let fits = fits_rest a l path (e ∷ other) may.fits in
      let wide : AllWide (m + 1) next = jump_wide_of a wf e (plain_after key i path) fits.0 (after_wide i path here) in
      let held : AllHold (gap_rows a l (path ++ e ∷ other) key.gap key.seen (parent_at key i).rows) q = (gap_exact key i (path ++ e ∷ other) q wf is may end.positive end.sized).1 end in
      let same : path_rows a l (path ++ e ∷ other) start ≡ path_rows a target other next = path_rows_at a l path (e ∷ other) start in
      let after : AllHold (rows_after (sample_stage a key.gap key.seen (path_rows a target other next))) q =
      subst (λ rs. AllHold (rows_after (sample_stage a key.gap key.seen rs)) q) same held in
      let case = gap_case key i wf is may.parent in
      none (starts_in_time a wf target other key.gap key.seen next q.den q.num case.tolerances case.values case.sized is.gap.0.positive
      (transition_is a wf e fits.0).target fits.2 wide end.positive end.sized after)

  -- ---- the next node

  pub next_node : (i : ℕ) (path : List ℕ) (e : ℕ) (before after next : System) → IsNodeAt key i path before → IsAfter key i path after → MayTake key i (path ++ e ∷ []) →
      next.width ≡ width key.automaton + 1 → IsPlain (width key.automaton + 1) next.rows (rows_after (jump_stage key.automaton e (plain_after key i path))) → HasPoint (width key.automaton + 1) next.rows →
      IsNodeAt key i (path ++ e ∷ []) next
  next_node i path e before after next node at may w plain point =
      let l : ℕ = (parent_at key i).loc in
      let start : List Row = gap_start m (parent_at key i).rows in
      let jumped : Stage = jump_stage a e (plain_after key i path) in
      let points : HavePoints (leg_stage a (loc_after key i path) (plain_before key i path) ∷ jumped ∷ []) =
      (point_same (m + 1) after.rows (plain_after key i path) at.plain at.some_point, (point_same (m + 1) next.rows (rows_after jumped) plain point, tt)) in
      record {
        may_take = may;
        wide = w;
        plain = subst (IsPlain (m + 1) next.rows) (sym (before_more a l path e start)) plain;
        reached = subst HavePoints (sym (stages_more a l path e start)) (have_both (before_stages a l path start) (leg_stage a (loc_after key i path) (plain_before key i path) ∷ jumped ∷ []) node.reached points);
      }

  -- ---- the end of the gap

  -- the rows hold exactly at the ends
  pub rows_are_ends : (i : ℕ) (path : List ℕ) (rows : List Row) → MayTake key i path → IsPlain (width key.automaton) rows (rows_after (sample_stage key.automaton key.gap key.seen (plain_after key i path))) →
      (q : Point) → pos 0 <ℤ q.den → length q.num ≡ width key.automaton → AllHold rows q ↔ IsEnd key i path q
  rows_are_ends i path rows may plain q hq lq =
      let same = path_rows_end a (parent_at key i).loc path (gap_start m (parent_at key i).rows) in
      let exact = gap_exact key i path q wf is may hq lq in
      let at = plain.same q hq lq in
      let there : AllHold (rows_after (sample_stage a key.gap key.seen (plain_after key i path))) q ↔ IsEnd key i path q =
      subst (λ rs. AllHold (rows_after (sample_stage a key.gap key.seen rs)) q ↔ IsEnd key i path q) same exact in
      (λ h. there.0 (at.0 h), λ e. at.1 (there.1 e))
