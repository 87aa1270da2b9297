-- Where a run ends the gap, the last leg's system has a point at which the sample's rows hold too.
use Rattle.std.proofs.Common.{◌≡◌, ◌↔◌, ℕ, ◌+◌, ◌*◌, ◌<◌, ◌≤◌, List, [], ◌∷◌, ◌++◌, length, append_assoc, map, Option, Some, None, sym, ◌∙◌, ap, subst, refl, arith, ℤ, pos, ◌<ℤ◌}
use Rattle.std.proofs.lemmas.Int.{ints}
use Rattle.std.proofs.lemmas.List.{length-append, append-nil}
use Rattle.std.proofs.lemmas.List.Elements.{All-nil}
use Rattle.poly_specs.proofs.EliminationLemmas.{AllHold-from_in, AllHold-at_in}
use Rattle.poly_specs.proofs.LinearLemmas.{Holds-same_point, dot-append}
use Rattle.poly_specs.specs.KeptRows.{IsKeptRow}
use Rattle.poly_specs.specs.Systems.{System}
use Rattle.poly_specs.specs.Rows.{Point, Row, over, Holds, AllHold, AllWide, HasPoint, with_coef}
use Rattle.poly_specs.specs.Lists.{dot}
use Rattle.run_specs.proofs.EndLemmas.{leg_ends, wide_moved}
use Rattle.run_specs.proofs.GapEnds.{IsGapCase}
use Rattle.run_specs.proofs.GapExact.{gap_case, gap_exact}
use Rattle.run_specs.proofs.SampleEnds.{sample_ends, sample_wide}
use Rattle.run_specs.proofs.SampleLemmas.{sample_exact}
use Rattle.run_specs.proofs.StageLemmas.{length-zeros, dot-zeros, holds_both, holds_moved, by_value, leg_exact}
use Rattle.run_specs.proofs.StageWidths.{location_is}
use Rattle.run_specs.specs.Automaton.{Automaton, width}
use Rattle.run_specs.specs.Ends.{SomeLegEnds, SomeSampleEnds}
use Rattle.run_specs.specs.Keys.{Key, IsKey, parent_at}
use Rattle.run_specs.specs.Outcomes.{MayTake, IsEnd, loc_after}
use Rattle.run_specs.specs.Stages.{zeros, rows_after, gap_start, leg_point, leg_rows, leg_stage, sample_rows, sample_stage}
use Rattle.run_specs.specs.WellFormed.{IsWellFormed}
use Rattle.stage_rows.proofs.RespellingLemmas.{parts, respelled, both, left, of_zeros}
use Rattle.sample_succ.specs.declared.finding.Found.{Found}
use Rattle.sample_succ.specs.declared.finding.Node.{Node}
use Rattle.sample_succ.specs.Covers.{items_of, AreWide}
use Rattle.sample_succ.specs.Plain.{IsPlain}
use Rattle.sample_succ.proofs.ItemLemmas.{none_walked}
use Rattle.sample_succ.proofs.NodeLemmas.{loc_within, plain_wide, after_wide, leg_plain}
use Rattle.sample_succ.proofs.PathLemmas.{path_rows_end}
use Rattle.sample_succ.proofs.WalkLemmas.{walked_all}
use Rattle.sample_succ.specs.LastLegs.{at_leg_end, sample_at_end, last_system}
use Rattle.sample_succ.specs.Walks.{plain_before, plain_after, IsNode, AreFound, WalkedTo, IsVisited}

-- ---- a row at the end of a leg

pub end_kept : (m : ℕ) (r : Row) (x y z : List ℤ) → m ≤ 6 → IsKeptRow r → length r.coef ≡ m + 1 → x ≡ r.coef → y ≡ [] → z ≡ zeros (m + 1) → IsKeptRow (with_coef (x ++ y ++ z) r)
end_kept m r x y z few kept wide e f g =
    subst (λ cs. IsKeptRow (with_coef cs r)) (sym (parts r.coef [] (zeros (m + 1)) x y z e f g))
    (respelled (r.coef ++ zeros (m + 1)) r (omega (arith, length-append r.coef (zeros (m + 1)), length-zeros (m + 1)))
    (λ P n h. both P r.coef (zeros (m + 1)) h (of_zeros P (m + 1) n)) (λ P z h. left P r.coef (zeros (m + 1)) h) kept)

end_holds : (m : ℕ) (d : ℤ) (q : List ℤ) (e t : ℤ) (p : List ℤ) → length q ≡ m → (r : Row) → length r.coef ≡ m + 1 →
    Holds (at_leg_end m r) (leg_point d q e t p) ↔ Holds r (over d (q ++ e ∷ []))
end_holds m d q e t p lq r lr =
    by_value r.strict _ _
    (let l : length (q ++ e ∷ []) ≡ m + 1 = omega (arith, length-append q (e ∷ []), lq) in
    let a = dot-append r.coef (zeros (m + 1)) (q ++ e ∷ []) (t ∷ p) (lr ∙ sym l) in
    let z = dot-zeros (m + 1) (t ∷ p) in
    let same : (q ++ e ∷ []) ++ (t ∷ p) ≡ q ++ e ∷ t ∷ p = append_assoc q (e ∷ []) (t ∷ p) in
    let b = ap (dot (r.coef ++ zeros (m + 1))) same in
    omega (arith, ints, a, z, b))

ends_wide : (m : ℕ) (rows : List Row) → AllWide (m + 1) rows → AllWide (2 * m + 2) (map (at_leg_end m) rows)
ends_wide m rows wide = wide_moved (m + 1) (2 * m + 2) (at_leg_end m) rows wide (λ r e. omega (arith, e, length-append r.coef (zeros (m + 1)), length-zeros (m + 1)))

-- the two rows of the elapsed time, and those of the observed variables
abbrev pub seen_rows : Key → List Row
seen_rows key = sample_rows key.automaton key.gap key.seen []

pub seen_wide : (key : Key) → AllWide (width key.automaton + 1) (seen_rows key)
seen_wide key = sample_wide key.automaton key.gap key.seen [] (All-nil (λ r. length r.coef ≡ width key.automaton + 1))

pub sample_at_end_wide : (key : Key) → AllWide (2 * width key.automaton + 2) (sample_at_end key)
sample_at_end_wide key = ends_wide (width key.automaton) (seen_rows key) (seen_wide key)

-- ---- a run that ends the gap

module _ (key : Key) (wf : IsWellFormed key.automaton) (is : IsKey key) (i : ℕ) (path : List ℕ) (before : List Row) (may : MayTake key i path)
    (wide : AllWide (width key.automaton + 1) before) where
  abbrev a : Automaton
  a = key.automaton

  abbrev m : ℕ
  m = width key.automaton

  abbrev seen : List Row
  seen = seen_rows key

  no_rows : (p : Point) → AllHold [] p
  no_rows p = All-nil (λ r. Holds r p)

  -- the end of a leg at which they hold
  at_sample : (l : ℕ) (c : ℤ) (v : List ℤ) (el : ℤ) → l < length a.locations → pos 0 <ℤ c → AllHold seen (over c (v ++ el ∷ [])) →
      SomeLegEnds a l before (over c (v ++ el ∷ [])) → HasPoint (2 * m + 2) (last_system key l before).rows
  at_sample l c v el hl hc here (d, q, e, t, p, E) =
      let at : Point = leg_point d q e t p in
      let lp : length p ≡ m = sym E.leg.same_size ∙ E.sized in
      let legs : AllHold (leg_rows a l before) at = (leg_exact a l before d q e t p (location_is a wf l hl) wide E.sized lp).1 (E.starts, E.leg) in
      let there : AllHold seen (over d (q ++ e ∷ [])) =
      AllHold-from_in seen (over d (q ++ e ∷ [])) (λ r j. Holds-same_point r (over c (v ++ el ∷ [])) (over d (q ++ e ∷ [])) hc E.positive E.ends (AllHold-at_in seen (over c (v ++ el ∷ [])) here r j)) in
      let moved : AllHold (sample_at_end key) at = (holds_moved (m + 1) (at_leg_end m) at (over d (q ++ e ∷ [])) (end_holds m d q e t p E.sized) seen (seen_wide key)).1 there in
      (at, E.positive, omega (arith, length-append q (e ∷ t ∷ p), lp, E.sized), (holds_both (leg_rows a l before) (sample_at_end key) at).1 (legs, moved))

  -- the end of a run
  pub end_point : IsPlain (m + 1) before (plain_before key i path) → (q : Point) → IsEnd key i path q → HasPoint (2 * m + 2) (last_system key (loc_after key i path) before).rows
  end_point plain q end = from_sample ((sample_ends a key.gap key.seen after q.den q.num case.tolerances case.values case.sized (after_wide key wf is i path may) end.positive end.sized).0 passed)
    where
      l : ℕ
      l = loc_after key i path

      after : List Row
      after = plain_after key i path

      start : List Row
      start = gap_start m (parent_at key i).rows

      case : IsGapCase a (parent_at key i).loc key.seen (parent_at key i).rows
      case = gap_case key i wf is may.parent

      passed : AllHold (rows_after (sample_stage a key.gap key.seen after)) q
      passed = subst (λ rs. AllHold (rows_after (sample_stage a key.gap key.seen rs)) q) (path_rows_end a (parent_at key i).loc path start)
          ((gap_exact key i path q wf is may end.positive end.sized).1 end)

      from_sample : SomeSampleEnds a key.gap key.seen after q → HasPoint (2 * m + 2) (last_system key l before).rows
      from_sample (c, v, el, S) =
          let hl = loc_within key wf is i path may in
          let lve : length (v ++ el ∷ []) ≡ m + 1 = omega (arith, length-append v (el ∷ []), S.sized) in
          let there : AllHold (rows_after (leg_stage a l before)) (over c (v ++ el ∷ [])) =
          ((leg_plain key wf is l before (plain_before key i path) hl wide (plain_wide key wf is i path may) plain).same (over c (v ++ el ∷ [])) S.positive lve).1 S.starts in
          let here = (sample_exact a key.gap key.seen [] c v el case.tolerances case.values case.sized S.sized).1 (no_rows (over c (v ++ el ∷ [])), S.lasts, S.passes) in
          at_sample l c v el hl S.positive here ((leg_ends a l before c (v ++ el ∷ []) (location_is a wf l hl) wide S.positive lve).0 there)

-- ---- what is shown of the last system

module _ (key : Key) (wf : IsWellFormed key.automaton) (is : IsKey key) (n : Node) (node : IsNode key n) (wide : AllWide (width key.automaton + 1) n.before.rows) where
  pub ends_nowhere : (HasPoint (last_system key n.loc n.before.rows).width (last_system key n.loc n.before.rows).rows → ⊥) →
      (q : Point) → IsEnd key n.parent n.path.items q → ⊥
  ends_nowhere none q end =
      let here : HasPoint (2 * width key.automaton + 2) (last_system key (loc_after key n.parent n.path.items) n.before.rows).rows =
      end_point key wf is n.parent n.path.items n.before.rows node.at.may_take wide node.at.plain q end in
      none (subst (λ l. HasPoint (2 * width key.automaton + 2) (last_system key l n.before.rows).rows) (sym node.loc) here)

  -- a path that may jump no more and ends nowhere
  pub last_walked : (fs : List Found) → length n.path.items ≡ key.jumps → AreWide (width key.automaton) fs → AreFound key (items_of fs) →
      ((q : Point) → IsEnd key n.parent n.path.items q → ⊥) → WalkedTo key n.parent n.path.items (length key.automaton.transitions) fs fs
  last_walked fs full each found none =
      none_walked key wf is n.parent n.path.items (length key.automaton.transitions) fs each found (λ other q may e.
      let nil : other ≡ [] = no_more other (let f = may.few in omega (arith, f, full, length-append n.path.items other)) in
      none q (subst (λ p. IsEnd key n.parent p q) (ap (λ o. n.path.items ++ o) nil ∙ append-nil n.path.items) e))
    where
      no_more : (other : List ℕ) → length other ≡ 0 → other ≡ []
      no_more [] e = refl
      no_more (x ∷ other) e = absurd (omega (arith, e))

-- a path that may jump no more, and was visited
pub last_visited : (key : Key) (i : ℕ) (path : List ℕ) (old new : List Found) (o : Option System) → length path ≡ key.jumps → IsVisited key i path old new o →
    WalkedTo key i path (length key.automaton.transitions) old new
last_visited key i path old new None full visited = visited
last_visited key i path old new (Some after) full visited = walked_all key i path old new full visited.0
