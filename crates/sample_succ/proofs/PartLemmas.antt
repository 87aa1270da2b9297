-- The systems along a path, beside the plain stages.
use Rattle.std.proofs.Common.{◌≡◌, ◌↔◌, inl, inr, ℕ, ◌+◌, List, [], ◌∷◌, length, sym, ◌∙◌, ap, subst, ℤ, pos, ◌<ℤ◌}
use Rattle.poly_specs.specs.Bits.{SomePasses}
use Rattle.poly_specs.specs.Elimination.{formed_each, columns_down}
use Rattle.poly_specs.specs.Lists.{In, IsAmong}
use Rattle.poly_specs.specs.Rows.{Row, over, AllHold}
use Rattle.poly_specs.specs.Systems.{System}
use Rattle.poly_specs.proofs.InclusionLemmas.{among_formed_each}
use Rattle.sample_succ.proofs.StageFacts.{passes_more}
use Rattle.run_specs.proofs.PassesLemmas.{leg_more, leg_rows_more, jump_more, jump_rows_more}
use Rattle.run_specs.specs.Automaton.{Automaton, width, transition_at}
use Rattle.run_specs.specs.Ends.{SomeLegEnds, SomeJumpEnds}
use Rattle.run_specs.specs.Keys.{Key, parent_at}
use Rattle.run_specs.specs.Stages.{rows_after, leg_rows, leg_stage, jump_rows, jump_stage, path_stages}
use Rattle.sample_succ.specs.Parts.{IsAfterLeg, IsAfterJump, AreParts, AreStages, SomeFormedPasses, StagesPass, start_of}

module _ (b a : Automaton) (same : b ≡ a) (before : System) where
  pub leg_part : (l : ℕ) (s : System) (plain : List Row) → IsAmong before.rows plain → s.width ≡ width b + 1 →
      ((d : ℤ) (end : List ℤ) → pos 0 <ℤ d → length end ≡ width b + 1 → AllHold s.rows (over d end) ↔ SomeLegEnds b l before.rows (over d end)) →
      IsAmong s.rows (rows_after (leg_stage b l before.rows)) → IsAfterLeg a l before s plain
  leg_part l s plain h wide exact among = subst (λ c. IsAfterLeg c l before s plain) same (record {
    wide = wide;
    exact = exact;
    plain_rows = λ r i. leg_more b l before.rows plain h r (among r i);
  })

  pub jump_part : (e : ℕ) (s : System) (plain : List Row) → IsAmong before.rows plain → s.width ≡ width b + 1 →
      ((d : ℤ) (end : List ℤ) → pos 0 <ℤ d → length end ≡ width b + 1 → AllHold s.rows (over d end) ↔ SomeJumpEnds b e before.rows (over d end)) →
      IsAmong s.rows (rows_after (jump_stage b e before.rows)) → IsAfterJump a e before s plain
  jump_part e s plain h wide exact among = subst (λ c. IsAfterJump c e before s plain) same (record {
    wide = wide;
    exact = exact;
    plain_rows = λ r i. jump_more b e before.rows plain h r (among r i);
  })

  pub leg_part_passes : (l : ℕ) (plain : List Row) → IsAmong before.rows plain → SomePasses (formed_each (leg_stage b l before.rows).columns (leg_rows b l before.rows)) →
      SomePasses (formed_each (leg_stage a l plain).columns (leg_stage a l plain).rows)
  leg_part_passes l plain h passes = subst (λ c. SomePasses (formed_each (leg_stage c l plain).columns (leg_stage c l plain).rows)) same
      (passes_more _ _ (among_formed_each (columns_down (width b + 1) (width b + 1)) (leg_rows b l before.rows) (leg_rows b l plain) (leg_rows_more b l before.rows plain h)) passes)

  pub jump_part_passes : (e : ℕ) (plain : List Row) → IsAmong before.rows plain → SomePasses (formed_each (jump_stage b e before.rows).columns (jump_rows b e before.rows)) →
      SomePasses (formed_each (jump_stage a e plain).columns (jump_stage a e plain).rows)
  jump_part_passes e plain h passes = subst (λ c. SomePasses (formed_each (jump_stage c e plain).columns (jump_stage c e plain).rows)) same
      (passes_more _ _ (among_formed_each (columns_down (width b + 1) (width b)) (jump_rows b e before.rows) (jump_rows b e plain) (jump_rows_more b e before.rows plain h)) passes)

-- ---- the first parts of a path

pub first_formed : (a : Automaton) (l : ℕ) (path : List ℕ) (plain : List Row) → SomePasses (formed_each (leg_stage a l plain).columns (leg_stage a l plain).rows) → SomeFormedPasses (path_stages a l path plain)
first_formed a l [] plain h = inl h
first_formed a l (e ∷ path) plain h = inl h

pub second_formed : (a : Automaton) (l e : ℕ) (path rest : List ℕ) (plain : List Row) → path ≡ e ∷ rest →
    SomePasses (formed_each (jump_stage a e (rows_after (leg_stage a l plain))).columns (jump_stage a e (rows_after (leg_stage a l plain))).rows) → SomeFormedPasses (path_stages a l path plain)
second_formed a l e path rest plain same h = subst (λ p. SomeFormedPasses (path_stages a l p plain)) (sym same) (inr (inl h))

pub rest_formed : (a : Automaton) (l e : ℕ) (path rest : List ℕ) (plain : List Row) → path ≡ e ∷ rest →
    SomeFormedPasses (path_stages a (transition_at a e).target rest (rows_after (jump_stage a e (rows_after (leg_stage a l plain))))) → SomeFormedPasses (path_stages a l path plain)
rest_formed a l e path rest plain same h = subst (λ p. SomeFormedPasses (path_stages a l p plain)) (sym same) (inr (inr h))

pub last_part : (a : Automaton) (l : ℕ) (path : List ℕ) (before s : System) (plain : List Row) (systems : List System) → path ≡ [] → IsAfterLeg a l before s plain → systems ≡ s ∷ [] → AreParts a l path before plain systems
last_part a l path before s plain systems same leg e = subst (λ p. AreParts a l p before plain systems) (sym same) (s, leg, e)

pub more_parts : (a : Automaton) (l e : ℕ) (path rest : List ℕ) (before s t : System) (plain : List Row) (systems more : List System) → path ≡ e ∷ rest → IsAfterLeg a l before s plain →
    IsAfterJump a e s t (rows_after (leg_stage a l plain)) → AreParts a (transition_at a e).target rest t (rows_after (jump_stage a e (rows_after (leg_stage a l plain)))) more → systems ≡ s ∷ t ∷ more →
    AreParts a l path before plain systems
more_parts a l e path rest before s t plain systems more same leg jump parts f = subst (λ p. AreParts a l p before plain systems) (sym same) (s, t, more, leg, jump, parts, f)

-- ---- from a parent

module _ (key : Key) (i : ℕ) (path : List ℕ) (loc : ℕ) (start : System) where
  pub stages_are : (rest systems : List System) → loc ≡ (parent_at key i).loc → start ≡ start_of key i →
      ((plain : List Row) → IsAmong start.rows plain → AreParts key.automaton loc path start plain rest) → systems ≡ start ∷ rest → AreStages key i path systems
  stages_are rest systems e f h g = (
    rest,
    subst (λ l. AreParts key.automaton l path (start_of key i) (start_of key i).rows rest) e (subst (λ s. AreParts key.automaton loc path s s.rows rest) f (h start.rows (λ r j. j))),
    g ∙ ap (λ s. s ∷ rest) f,
  )

  pub stages_pass : loc ≡ (parent_at key i).loc → start ≡ start_of key i → ((plain : List Row) → IsAmong start.rows plain → SomeFormedPasses (path_stages key.automaton loc path plain)) → StagesPass key i path
  stages_pass e f h = subst (λ l. SomeFormedPasses (path_stages key.automaton l path (start_of key i).rows)) e (h (start_of key i).rows (λ r j. subst (λ s. In r s.rows) f j))
