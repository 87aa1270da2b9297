-- The systems along a path.
use Rattle.std.proofs.Common.{◌≡◌, inl, inr, ℕ, suc, ◌+◌, ◌-◌, ◌≤◌, List, [], ◌∷◌, length, length-append, drop, get_or, sym, ◌∙◌, ap, subst, arith, pos, ◌<ℤ◌}
use Rattle.std.specs.List.{AllByRecursion}
use Rattle.std.proofs.lemmas.Int.{ints}
use Rattle.std.proofs.lemmas.List.{length-map, length-drop}
use Rattle.std.proofs.lemmas.List.Elements.{recursion_from_All, All-drop, All-push}
use Rattle.frac128.proofs.CommonLemmas.{common_positive}
use Rattle.poly_specs.specs.Denominators.{common_den, common_nums, num_over}
use Rattle.poly_specs.specs.Fractions.{Fraction, IsFraction}
use Rattle.poly_specs.specs.Rows.{Row, AllHold}
use Rattle.poly_specs.specs.Systems.{System, no_system}
use Rattle.run_specs.specs.Automaton.{Automaton, width, transition_at}
use Rattle.run_specs.specs.Ends.{SomeLegEnds, SomeJumpEnds}
use Rattle.sample_succ.specs.Parts.{AreParts, IsAfterLeg, IsAfterJump}
use Rattle.gap_runs.specs.Befores.{common_point}
use Rattle.gap_runs.specs.Traces.{BackValue, after_of, IsBack, IsLegBack, IsJumpBack, LegBackPasses, JumpBackPasses}
use Rattle.gap_runs.specs.Paths.{system_at, last_system, ArePath, AreTraced, TracePasses}

-- ---- the point after a part

after_sized : (m : ℕ) (b : BackValue) → IsBack m b → length (common_nums (after_of m b)) ≡ m + 1
after_sized m b is =
    let h = is.sized in
    length-map (after_of m b) (num_over (common_den (after_of m b)))
    ∙ omega (arith, length-append (drop (length b.numbers - m) b.numbers) (b.elapsed ∷ []), length-drop (length b.numbers - m) b.numbers, h)

pub after_fractions : (m : ℕ) (b : BackValue) → IsBack m b → AllByRecursion IsFraction (after_of m b)
after_fractions m b is =
    let values : List Fraction = drop (length b.numbers - m) b.numbers in
    recursion_from_All IsFraction (after_of m b) (All-push IsFraction values b.elapsed (All-drop IsFraction (length b.numbers - m) b.numbers is.fractions) is.elapsed)

after_positive : (m : ℕ) (b : BackValue) → IsBack m b → pos 0 <ℤ pos (common_den (after_of m b))
after_positive m b is = let h = common_positive (after_of m b) (after_fractions m b is) in omega (arith, ints, h)

-- ---- the parts of a path with a transition

pub record Steps (a : Automaton) (l e : ℕ) (rest : List ℕ) (before : System) (systems : List System) : Type 0 where
  pub two : 2 ≤ length systems
  pub first_wide : (system_at systems 0).width ≡ width a + 1
  pub second_wide : (system_at systems 1).width ≡ width a + 1
  pub leg : (b : BackValue) → IsBack (width a) b → AllHold (system_at systems 0).rows (common_point (after_of (width a) b)) → SomeLegEnds a l before.rows (common_point (after_of (width a) b))
  pub jump : (b : BackValue) → IsBack (width a) b → AllHold (system_at systems 1).rows (common_point (after_of (width a) b)) →
      SomeJumpEnds a e (system_at systems 0).rows (common_point (after_of (width a) b))
  pub path : ArePath a (transition_at a e).target rest (system_at systems 1) (drop 2 systems)
  pub last : last_system (drop 2 systems) ≡ last_system systems

leg_reached : (a : Automaton) (l : ℕ) (before after : System) (plain : List Row) (b : BackValue) → IsAfterLeg a l before after plain → IsBack (width a) b →
    AllHold after.rows (common_point (after_of (width a) b)) → SomeLegEnds a l before.rows (common_point (after_of (width a) b))
leg_reached a l before after plain b is h holds =
    (is.exact (pos (common_den (after_of (width a) b))) (common_nums (after_of (width a) b)) (after_positive (width a) b h) (after_sized (width a) b h)).0 holds

jump_reached : (a : Automaton) (e : ℕ) (before after : System) (plain : List Row) (b : BackValue) → IsAfterJump a e before after plain → IsBack (width a) b →
    AllHold after.rows (common_point (after_of (width a) b)) → SomeJumpEnds a e before.rows (common_point (after_of (width a) b))
jump_reached a e before after plain b is h holds =
    (is.exact (pos (common_den (after_of (width a) b))) (common_nums (after_of (width a) b)) (after_positive (width a) b h) (after_sized (width a) b h)).0 holds

pub some_part : (a : Automaton) (l : ℕ) (path : List ℕ) (before : System) (plain : List Row) (systems : List System) → AreParts a l path before plain systems → 1 ≤ length systems
some_part a l [] before plain systems (s, after, is) = let h = ap length is in omega (arith, h)
some_part a l (e ∷ path) before plain systems (s, t, rest, leg, jump, parts, is) = let h = ap length is in omega (arith, h)

pub last_after : (s t : System) (rest : List System) → 1 ≤ length rest → last_system rest ≡ last_system (s ∷ t ∷ rest)
last_after s t [] h = absurd (omega (arith, h))
last_after s t (r ∷ rest) h =
    let one : length (r ∷ rest) - 1 ≡ length rest = omega arith in
    let two : suc (suc (length rest)) ≡ length (s ∷ t ∷ r ∷ rest) - 1 = omega arith in
    ap (λ n. get_or (r ∷ rest) n no_system) one ∙ ap (λ n. get_or (s ∷ t ∷ r ∷ rest) n no_system) two

steps_of : (a : Automaton) (l e : ℕ) (rest : List ℕ) (before : System) (systems : List System) → ArePath a l (e ∷ rest) before systems → Steps a l e rest before systems
steps_of a l e rest before systems (plain, (s, t, more, leg, jump, parts, is)) = subst (λ xs. Steps a l e rest before xs) (sym is) (record {
  two = (let h : 2 ≤ 2 + length more = omega arith in omega (arith, h));
  first_wide = leg.wide;
  second_wide = jump.wide;
  leg = λ b h holds. leg_reached a l before s plain b leg h holds;
  jump = λ b h holds. jump_reached a e s t _ b jump h holds;
  path = (_, parts);
  last = last_after s t more (some_part a (transition_at a e).target rest t _ more parts);
})

pub steps : (a : Automaton) (l e : ℕ) (path rest : List ℕ) (before : System) (systems : List System) → ArePath a l path before systems → path ≡ e ∷ rest → Steps a l e rest before systems
steps a l e path rest before systems are is = steps_of a l e rest before systems (subst (λ ps. ArePath a l ps before systems) is are)

-- ---- the last leg

pub last_reached : (a : Automaton) (l : ℕ) (before : System) (systems : List System) (b : BackValue) → ArePath a l [] before systems → IsBack (width a) b →
    AllHold (last_system systems).rows (common_point (after_of (width a) b)) → SomeLegEnds a l before.rows (common_point (after_of (width a) b))
last_reached a l before systems b (plain, (s, after, is)) h holds =
    leg_reached a l before s plain b after h (subst (λ xs. AllHold (last_system xs).rows (common_point (after_of (width a) b))) is holds)

-- ---- the whole path

pub traced_last : (a : Automaton) (l : ℕ) (path : List ℕ) (before : System) (systems : List System) (old new : BackValue) → path ≡ [] → IsLegBack a l before.rows old new →
    AreTraced a l path before systems old new
traced_last a l path before systems old new is back = subst (λ ps. AreTraced a l ps before systems old new) (sym is) back

pub passes_last : (a : Automaton) (l : ℕ) (path : List ℕ) (before : System) (systems : List System) (old : BackValue) → path ≡ [] → LegBackPasses a l before.rows old →
    TracePasses a l path before systems old
passes_last a l path before systems old is p = subst (λ ps. TracePasses a l ps before systems old) (sym is) p

module _ (a : Automaton) (l e : ℕ) (path rest : List ℕ) (before start ended : System) (systems more : List System) (target : ℕ) (some : path ≡ e ∷ rest)
    (leads : target ≡ (transition_at a e).target) (first : ended ≡ system_at systems 0) (second : start ≡ system_at systems 1) (others : more ≡ drop 2 systems) where
  later_is : (old later : BackValue) → AreTraced a target rest start more old later → AreTraced a (transition_at a e).target rest (system_at systems 1) (drop 2 systems) old later
  later_is old later t =
      subst (λ k. AreTraced a k rest (system_at systems 1) (drop 2 systems) old later) leads
      (subst (λ s. AreTraced a target rest s (drop 2 systems) old later) second (subst (λ ss. AreTraced a target rest start ss old later) others t))

  jump_is : (later between : BackValue) → IsJumpBack a e ended.rows later between → IsJumpBack a e (system_at systems 0).rows later between
  jump_is later between j = subst (λ s. IsJumpBack a e s.rows later between) first j

  pub traced_more : (old later between new : BackValue) → AreTraced a target rest start more old later → IsJumpBack a e ended.rows later between → IsLegBack a l before.rows between new →
      AreTraced a l path before systems old new
  traced_more old later between new t j g =
      subst (λ ps. AreTraced a l ps before systems old new) (sym some) (later, between, later_is old later t, jump_is later between j, g)

  pub passes_later : (old : BackValue) → TracePasses a target rest start more old → TracePasses a l path before systems old
  passes_later old t =
      subst (λ ps. TracePasses a l ps before systems old) (sym some) (inl (
      subst (λ k. TracePasses a k rest (system_at systems 1) (drop 2 systems) old) leads
      (subst (λ s. TracePasses a target rest s (drop 2 systems) old) second (subst (λ ss. TracePasses a target rest start ss old) others t))))

  pub passes_jump : (old later : BackValue) → AreTraced a target rest start more old later → JumpBackPasses a e ended.rows later → TracePasses a l path before systems old
  passes_jump old later t p =
      subst (λ ps. TracePasses a l ps before systems old) (sym some) (inr (later, later_is old later t, inl (subst (λ s. JumpBackPasses a e s.rows later) first p)))

  pub passes_leg : (old later between : BackValue) → AreTraced a target rest start more old later → IsJumpBack a e ended.rows later between → LegBackPasses a l before.rows between →
      TracePasses a l path before systems old
  passes_leg old later between t j p =
      subst (λ ps. TracePasses a l ps before systems old) (sym some) (inr (later, later_is old later t, inr (between, jump_is later between j, p)))
