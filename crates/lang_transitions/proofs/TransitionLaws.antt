-- Reading a transition accepts what spells it and nothing else, and each state can be completed: all from what is known of the
-- lines of its guard and of its acts.
use Rattle.std.proofs.Common.{◌≡◌, ◌⊎◌, inl, inr, ℕ, Bool, true, false, if◌then◌else◌, List, [], ◌∷◌, ◌++◌, Option, Some, None, Ok, refl, sym, ap, ◌∙◌, subst, append_assoc}
use Rattle.std.proofs.lemmas.List.{append-nil}
use Rattle.lang_specs.specs.declared.Which.{Which}
use Rattle.lang_specs.specs.declared.Which.TheVariants.{Automata, Variables, Locations, Transitions, Rows, Terms, NameBytes, Digits}
use Rattle.lang_specs.specs.declared.Kind.TheVariants.{Name, As, When, Set, Arrow, EndLine}
use Rattle.lang_specs.specs.Tokens.{Placed}
use Rattle.lang_specs.specs.Marks.{Mark, the, a_name}
use Rattle.lang_specs.specs.Trees.{RowTree, Act, TransTree}
use Rattle.lang_specs.specs.Expressions.{AreJoined, IsAct, AreRows, IsGuard, AreActs}
use Rattle.lang_tokens.specs.Kinds.{same_kind}
use Rattle.lang_tokens.specs.Machines.{LineMachine, run}
use Rattle.lang_tokens.specs.LineFaults.{marks, AreLiterals, IsLine, marks_keep, IsLineWithin, IsLineFault}
use Rattle.lang_tokens.specs.declared.faults.LineFault.{LineFault}
use Rattle.lang_tokens.specs.Gives.{FailsSo}
use Rattle.lang_tokens.proofs.LiteralMarks.{literals_front, literals_rest, literals_append}
use Rattle.lang_tokens.proofs.LimitLemmas.{both_so, last_same, ArePlain, plain_keep}
use Rattle.lang_tokens.proofs.LineLaws.{LineLaws, reads_start, reads_run, line_fault, line_within}
use Rattle.lang_tokens.proofs.Walks.{both, IsClean, is_the, is_a_name, if_some, walk, and_walk, walk_on, walk_more, walk_step}
use Rattle.lang_rows.specs.RowMachine.{row_limits}
use Rattle.lang_transitions.specs.ActMachine.{act_limits}
use Rattle.lang_transitions.specs.TransitionMachine.{IsTransition, transition_limits, Names, State, at_from, at_arrow, at_to, at_as, at_label, behind_label, has_ended, in_guard, in_acts, names, in_guard_if, begins_acts, in_acts_if, next_state, guard_fits, fits_so, transitions, names_of, GuardSays, Says}

-- the names of a transition, with the signs between
abbrev pub head : Names → List Mark
head n = a_name n.from ∷ the Arrow ∷ a_name n.to ∷ the As ∷ a_name n.label ∷ []

abbrev tree : Names → List RowTree → List Act → TransTree
tree n rs acts = record { line = 0; from = n.from; to = n.to; label = n.label; guard = rs; acts = acts }

-- ---- limits

no_rows_keep : (which : Which) → row_limits which [] ≡ true
no_rows_keep Automata = refl
no_rows_keep Variables = refl
no_rows_keep Locations = refl
no_rows_keep Transitions = refl
no_rows_keep Rows = refl
no_rows_keep Terms = refl
no_rows_keep NameBytes = refl
no_rows_keep Digits = refl

no_acts_keep : (which : Which) → act_limits which [] ≡ true
no_acts_keep Automata = refl
no_acts_keep Variables = refl
no_acts_keep Locations = refl
no_acts_keep Transitions = refl
no_acts_keep Rows = refl
no_acts_keep Terms = refl
no_acts_keep NameBytes = refl
no_acts_keep Digits = refl

-- a transition keeps to a limit where its guard and its acts do
parts_keep : (which : Which) (t : TransTree) → row_limits which t.guard ≡ true → act_limits which t.acts ≡ true → transition_limits which t ≡ true
parts_keep Automata t h k = refl
parts_keep Variables t h k = refl
parts_keep Locations t h k = refl
parts_keep Transitions t h k = refl
parts_keep Rows t h k = h
parts_keep Terms t h k = both_so (row_limits Terms t.guard) (act_limits Terms t.acts) h k
parts_keep NameBytes t h k = refl
parts_keep Digits t h k = refl

keep_parts : (which : Which) (t : TransTree) → transition_limits which t ≡ true → (row_limits which t.guard ≡ true) × (act_limits which t.acts ≡ true)
keep_parts Automata t h = (refl, refl)
keep_parts Variables t h = (refl, refl)
keep_parts Locations t h = (refl, refl)
keep_parts Transitions t h = (refl, refl)
keep_parts Rows t h = (h, refl)
keep_parts Terms t h = both (row_limits Terms t.guard) (act_limits Terms t.acts) h
keep_parts NameBytes t h = (refl, refl)
keep_parts Digits t h = (refl, refl)

-- ---- choices that gave something

if_next : {A : Type 0} (b : Bool) (x y : A) (o : Option A) → (if b then Some x else o) ≡ Some y → ((b ≡ true) × (x ≡ y)) ⊎ (o ≡ Some y)
if_next true x y o e = inl (refl, cc)
if_next false x y o e = inr e

end_is_clean : IsClean (the EndLine)
end_is_clean = record { clean = λ e. refl }

-- a walk over a last mark is a walk to it, and a step
before_last : {S : Type 0} (next : S → Mark → Option S) (s u : S) (ms : List Mark) (m : Mark) → walk next s (ms ++ m ∷ []) ≡ Some u →
    (v : S) × (walk next s ms ≡ Some v) × (next v m ≡ Some u)
unfolding walk and_walk
before_last {S = S} next s u [] m e =
    elim (next s m) as (λ o. next s m ≡ o → and_walk o (λ v. Some v) ≡ Some u → (v : S) × (Some s ≡ Some v) × (next v m ≡ Some u)) [
      | None ↦ λ n k. absurd cc
      | Some v ↦ λ n k. (s, refl, n ∙ k)
    ] refl e
before_last {S = S} next s u (x ∷ ms) m e =
    elim (next s x) as (λ o. and_walk o (λ v. walk next v (ms ++ m ∷ [])) ≡ Some u → (v : S) × (and_walk o (λ w. walk next w ms) ≡ Some v) × (next v m ≡ Some u)) [
      | None ↦ λ k. absurd cc
      | Some w ↦ λ k. before_last next w u ms m k
    ] e

-- nothing is read where no mark goes on
nothing_more : {S : Type 0} (next : S → Mark → Option S) (s u : S) (ms : List Mark) → ((m : Mark) → next s m ≡ None) → walk next s ms ≡ Some u → ms ≡ []
unfolding walk and_walk
nothing_more next s u [] stops e = refl
nothing_more next s u (m ∷ ms) stops e =
    let no : None ≡ Some u = subst (λ o. and_walk o (λ v. walk next v ms) ≡ Some u) (stops m) e in absurd cc

-- what a line says that ends behind these marks
inside_says : {X : Type 0} (Is : List Mark → X → Type 0) (inside more : List Mark) (y : X) → more ≡ [] → IsLine Is ((inside ++ the EndLine ∷ []) ++ more) y → Is inside y
inside_says Is inside more y none (found, parts, is) =
    let whole : inside ++ the EndLine ∷ [] ≡ found ++ the EndLine ∷ [] =
    sym (append-nil (inside ++ the EndLine ∷ [])) ∙ ap (λ z. (inside ++ the EndLine ∷ []) ++ z) (sym none) ∙ parts in
    subst (λ z. Is z y) (sym (last_same inside found (the EndLine) (the EndLine) whole).0) is

are_acts : (ms : List Mark) (ys : List Act) → AreJoined IsAct ms ys → AreActs (the Set ∷ ms) ys
are_acts ms [] h = absurd h
are_acts ms (y ∷ ys) h = (ms, refl, h)

module _ {G A : Type 0} (rows : LineMachine G) (acts : LineMachine A) where
  abbrev S : Type 0
  S = State G A

  guard_is : (n : Names) (o : Option G) (u : S) → in_guard_if n o ≡ Some u → (g : G) × (o ≡ Some g) × (in_guard n g ≡ u)
  guard_is n None u e = absurd cc
  guard_is n (Some g) u e = (g, refl, cc)

  begins_is : (n : Names) (o : Option G) (u : S) → begins_acts acts n o ≡ Some u → (g : G) × (o ≡ Some g) × (in_acts n (Some g) acts.start ≡ u)
  begins_is n None u e = absurd cc
  begins_is n (Some g) u e = (g, refl, cc)

  acts_is : (n : Names) (g : Option G) (o : Option A) (u : S) → in_acts_if n g o ≡ Some u → (a : A) × (o ≡ Some a) × (in_acts n g a ≡ u)
  acts_is n g None u e = absurd cc
  acts_is n g (Some a) u e = (a, refl, cc)

  module _ (strict : Bool) (SaidRows : G → List Mark → Type 0) (SaidActs : A → List Mark → Type 0)
      (rows_laws : LineLaws rows SaidRows (AreRows strict) row_limits) (acts_laws : LineLaws acts SaidActs (AreJoined IsAct) act_limits)
      (no_set : (g : G) (m : Mark) → same_kind m.kind Set ≡ true → rows.next g m ≡ None)
      (stops : (g h : G) → rows.next g (the EndLine) ≡ Some h → (m : Mark) → rows.next h m ≡ None) where
    -- a guard that has ended, as the end of a line of constraints ends them
    abbrev SaidGuard : Option G → List Mark → Type 0
    SaidGuard None when = when ≡ []
    SaidGuard (Some g) when =
        (inside : List Mark) × (when ≡ the When ∷ inside) × SaidRows g (inside ++ the EndLine ∷ []) × (walk rows.next rows.start (inside ++ the EndLine ∷ []) ≡ Some g)
        × ((m : Mark) → rows.next g m ≡ None)

    -- what was read up to a state
    abbrev pub Said : S → List Mark → Type 0
    Said at_from ms = ms ≡ []
    Said (at_arrow f) ms = ms ≡ a_name f ∷ []
    Said (at_to f) ms = ms ≡ a_name f ∷ the Arrow ∷ []
    Said (at_as f t) ms = ms ≡ a_name f ∷ the Arrow ∷ a_name t ∷ []
    Said (at_label f t) ms = ms ≡ a_name f ∷ the Arrow ∷ a_name t ∷ the As ∷ []
    Said (behind_label n) ms = ms ≡ head n
    Said (has_ended n) ms = ms ≡ head n ++ the EndLine ∷ []
    Said (in_guard n g) ms = (inside : List Mark) × (ms ≡ head n ++ the When ∷ inside) × SaidRows g inside × (walk rows.next rows.start inside ≡ Some g)
    Said (in_acts n g a) ms = (when inside : List Mark) × (ms ≡ head n ++ when ++ the Set ∷ inside) × SaidGuard g when × SaidActs a inside

    one_more : (b : Bool) (x u : S) (m : Mark) (ms : List Mark) → (b ≡ true → Said x (ms ++ m ∷ [])) → (if b then Some x else None) ≡ Some u → Said u (ms ++ m ∷ [])
    one_more b x u m ms f e = let h = if_some b x u e in subst (λ v. Said v (ms ++ m ∷ [])) h.1 (f h.0)

    said_behind : (n : Names) (u : S) (m : Mark) (ms : List Mark) → IsClean m → ms ≡ head n → next_state rows acts (behind_label n) m ≡ Some u → Said u (ms ++ m ∷ [])
    unfolding next_state walk
    said_behind n u m ms c h e =
        elim (if_next (same_kind m.kind When) (in_guard n rows.start) u _ e) [
          | inl k ↦ subst (λ v. Said v (ms ++ m ∷ [])) k.1 ([], ap (λ z. z ++ m ∷ []) h ∙ ap (λ z. head n ++ z ∷ []) (is_the m When c refl k.0), rows_laws.start_said, refl)
          | inr e1 ↦ elim (if_next (same_kind m.kind Set) (in_acts n None acts.start) u _ e1) [
            | inl k ↦ subst (λ v. Said v (ms ++ m ∷ [])) k.1 ([], [], ap (λ z. z ++ m ∷ []) h ∙ ap (λ z. head n ++ z ∷ []) (is_the m Set c refl k.0), refl, acts_laws.start_said)
            | inr e2 ↦ one_more (same_kind m.kind EndLine) (has_ended n) u m ms (λ b. ap (λ z. z ++ m ∷ []) h ∙ ap (λ z. head n ++ z ∷ []) (is_the m EndLine c refl b)) e2
          ]
        ]

    said_guard : (n : Names) (g : G) (u : S) (m : Mark) (ms : List Mark) → IsClean m → Said (in_guard n g) ms → next_state rows acts (in_guard n g) m ≡ Some u → Said u (ms ++ m ∷ [])
    unfolding next_state
    said_guard n g u m ms c h e =
        elim (same_kind m.kind Set) as (λ b. same_kind m.kind Set ≡ b → (if b then begins_acts acts n (rows.next g (the EndLine)) else in_guard_if n (rows.next g m)) ≡ Some u → Said u (ms ++ m ∷ [])) [
          | true ↦ λ b k.
              let i = begins_is n (rows.next g (the EndLine)) u k in
              subst (λ v. Said v (ms ++ m ∷ [])) i.2 (
                the When ∷ h.0,
                [],
                ap (λ z. z ++ m ∷ []) h.1 ∙ ap (λ z. head n ++ the When ∷ h.0 ++ z ∷ []) (is_the m Set c refl b),
                (h.0, refl, rows_laws.said_next g i.0 (the EndLine) h.0 end_is_clean h.2 i.1, walk_more rows.next rows.start g h.0 (the EndLine) h.3 ∙ i.1, stops g i.0 i.1),
                acts_laws.start_said,
              )
          | false ↦ λ b k.
              let i = guard_is n (rows.next g m) u k in
              subst (λ v. Said v (ms ++ m ∷ [])) i.2
              (h.0 ++ m ∷ [], ap (λ z. z ++ m ∷ []) h.1, rows_laws.said_next g i.0 m h.0 c h.2 i.1, walk_more rows.next rows.start g h.0 m h.3 ∙ i.1)
        ] refl e

    said_next : (s u : S) (m : Mark) (ms : List Mark) → IsClean m → Said s ms → next_state rows acts s m ≡ Some u → Said u (ms ++ m ∷ [])
    unfolding next_state
    said_next at_from u m ms c h e = one_more (same_kind m.kind Name) (at_arrow m.text) u m ms (λ b. ap (λ z. z ++ m ∷ []) h ∙ ap (λ z. z ∷ []) (is_a_name m b)) e
    said_next (at_arrow f) u m ms c h e = one_more (same_kind m.kind Arrow) (at_to f) u m ms (λ b. ap (λ z. z ++ m ∷ []) h ∙ ap (λ z. a_name f ∷ z ∷ []) (is_the m Arrow c refl b)) e
    said_next (at_to f) u m ms c h e = one_more (same_kind m.kind Name) (at_as f m.text) u m ms (λ b. ap (λ z. z ++ m ∷ []) h ∙ ap (λ z. a_name f ∷ the Arrow ∷ z ∷ []) (is_a_name m b)) e
    said_next (at_as f t) u m ms c h e = one_more (same_kind m.kind As) (at_label f t) u m ms (λ b. ap (λ z. z ++ m ∷ []) h ∙ ap (λ z. a_name f ∷ the Arrow ∷ a_name t ∷ z ∷ []) (is_the m As c refl b)) e
    said_next (at_label f t) u m ms c h e =
        one_more (same_kind m.kind Name) (behind_label (names f t m.text)) u m ms (λ b. ap (λ z. z ++ m ∷ []) h ∙ ap (λ z. a_name f ∷ the Arrow ∷ a_name t ∷ the As ∷ z ∷ []) (is_a_name m b)) e
    said_next (behind_label n) u m ms c h e = said_behind n u m ms c h e
    said_next (has_ended n) u m ms c h e = absurd cc
    said_next (in_guard n g) u m ms c h e = said_guard n g u m ms c h e
    said_next (in_acts n g a) u m ms c h e =
        let i = acts_is n g (acts.next a m) u e in
        subst (λ v. Said v (ms ++ m ∷ [])) i.2 (
          h.0,
          h.1 ++ m ∷ [],
          ap (λ z. z ++ m ∷ []) h.2 ∙ ap (λ z. head n ++ z) (append_assoc h.0 (the Set ∷ h.1) (m ∷ [])),
          h.3,
          acts_laws.said_next a i.0 m h.1 c h.4 i.1,
        )

    -- ---- what is spelled is taken

    guard_next : (n : Names) (g k : G) (m : Mark) → rows.next g m ≡ Some k → next_state rows acts (in_guard n g) m ≡ Some (in_guard n k)
    unfolding next_state
    guard_next n g k m e =
        elim (same_kind m.kind Set) as (λ b. same_kind m.kind Set ≡ b → (if b then begins_acts acts n (rows.next g (the EndLine)) else in_guard_if n (rows.next g m)) ≡ Some (in_guard n k)) [
          | true ↦ λ b. (let no : None ≡ Some k = sym (no_set g m b) ∙ e in absurd cc)
          | false ↦ λ b. ap (in_guard_if n) e
        ] refl

    in_guard_walk : (n : Names) (g k : G) (ms : List Mark) → walk rows.next g ms ≡ Some k → walk (next_state rows acts) (in_guard n g) ms ≡ Some (in_guard n k)
    unfolding walk and_walk
    in_guard_walk n g k [] e = let same : g ≡ k = cc in ap (λ z. Some (in_guard n z)) same
    in_guard_walk n g k (m ∷ ms) e =
        elim (rows.next g m) as (λ o. rows.next g m ≡ o → and_walk o (λ v. walk rows.next v ms) ≡ Some k → walk (next_state rows acts) (in_guard n g) (m ∷ ms) ≡ Some (in_guard n k)) [
          | None ↦ λ i h. absurd cc
          | Some v ↦ λ i h. walk_step (next_state rows acts) (in_guard n g) (in_guard n v) m ms (guard_next n g v m i) ∙ in_guard_walk n v k ms h
        ] refl e

    in_acts_walk : (n : Names) (g : Option G) (a k : A) (ms : List Mark) → walk acts.next a ms ≡ Some k → walk (next_state rows acts) (in_acts n g a) ms ≡ Some (in_acts n g k)
    unfolding walk and_walk next_state
    in_acts_walk n g a k [] e = let same : a ≡ k = cc in ap (λ z. Some (in_acts n g z)) same
    in_acts_walk n g a k (m ∷ ms) e =
        elim (acts.next a m) as (λ o. and_walk o (λ v. walk acts.next v ms) ≡ Some k → and_walk (in_acts_if n g o) (λ v. walk (next_state rows acts) v ms) ≡ Some (in_acts n g k)) [
          | None ↦ λ h. absurd cc
          | Some v ↦ λ h. in_acts_walk n g v k ms h
        ] e

    -- the guard of a line that ends behind it
    abbrev EndsGuard : Names → List Mark → List RowTree → Type 0
    EndsGuard n when ys =
        (u : S) × (walk (next_state rows acts) (behind_label n) (when ++ the EndLine ∷ []) ≡ Some u) × ((which : Which) → row_limits which ys ≡ true → fits_so rows acts which u ≡ true)

    ends_guard : (n : Names) (when : List Mark) (ys : List RowTree) → IsGuard strict when ys → EndsGuard n when ys
    unfolding walk and_walk next_state
    ends_guard n when ys (inl (no_marks, none)) = (has_ended n, ap (λ z. walk (next_state rows acts) (behind_label n) (z ++ the EndLine ∷ [])) no_marks, λ which h. refl)
    ends_guard n when ys (inr (inside, parts, is)) =
        let t = rows_laws.taken (inside ++ the EndLine ∷ []) ys (inside, refl, is) in (
          in_guard n t.0,
          ap (λ z. walk (next_state rows acts) (behind_label n) (z ++ the EndLine ∷ [])) parts ∙ in_guard_walk n rows.start t.0 (inside ++ the EndLine ∷ []) t.1,
          t.2,
        )

    -- the guard of a line that goes on with acts
    abbrev BeforeActs : Names → List Mark → List RowTree → Type 0
    BeforeActs n when ys =
        (g : Option G) × ((rest : List Mark) → walk (next_state rows acts) (behind_label n) (when ++ the Set ∷ rest) ≡ walk (next_state rows acts) (in_acts n g acts.start) rest)
        × ((which : Which) → row_limits which ys ≡ true → guard_fits rows which g ≡ true)

    set_next : (n : Names) (g k : G) → rows.next g (the EndLine) ≡ Some k → next_state rows acts (in_guard n g) (the Set) ≡ Some (in_acts n (Some k) acts.start)
    unfolding next_state
    set_next n g k e = ap (begins_acts acts n) e

    when_walk : (n : Names) (rest : List Mark) → walk (next_state rows acts) (behind_label n) (the When ∷ rest) ≡ walk (next_state rows acts) (in_guard n rows.start) rest
    unfolding walk and_walk next_state
    when_walk n rest = refl

    set_walk : (n : Names) (rest : List Mark) → walk (next_state rows acts) (behind_label n) (the Set ∷ rest) ≡ walk (next_state rows acts) (in_acts n None acts.start) rest
    unfolding walk and_walk next_state
    set_walk n rest = refl

    before_acts : (n : Names) (when : List Mark) (ys : List RowTree) → IsGuard strict when ys → BeforeActs n when ys
    before_acts n when ys (inl (no_marks, none)) =
        (None, λ rest. ap (λ z. walk (next_state rows acts) (behind_label n) (z ++ the Set ∷ rest)) no_marks ∙ set_walk n rest, λ which h. refl)
    before_acts n when ys (inr (inside, parts, is)) =
        let t = rows_laws.taken (inside ++ the EndLine ∷ []) ys (inside, refl, is) in
        let last = before_last rows.next rows.start t.0 inside (the EndLine) t.1 in (
          Some t.0,
          λ rest.
              ap (λ z. walk (next_state rows acts) (behind_label n) (z ++ the Set ∷ rest)) parts
              ∙ when_walk n (inside ++ the Set ∷ rest)
              ∙ walk_on (next_state rows acts) (in_guard n rows.start) (in_guard n last.0) inside (the Set ∷ rest) (in_guard_walk n rows.start last.0 inside last.1)
              ∙ walk_step (next_state rows acts) (in_guard n last.0) (in_acts n (Some t.0) acts.start) (the Set) rest (set_next n last.0 t.0 last.2),
          t.2,
        )

    head_walk : (n : Names) (rest : List Mark) → walk (next_state rows acts) at_from (head n ++ rest) ≡ walk (next_state rows acts) (behind_label n) rest
    unfolding walk and_walk next_state
    head_walk n rest = refl

    -- a line is taken, and the state behind it fits where the line keeps to a limit
    abbrev IsTaken : List Mark → TransTree → Type 0
    IsTaken ms t = (u : S) × (walk (next_state rows acts) at_from ms ≡ Some u) × ((which : Which) → transition_limits which t ≡ true → fits_so rows acts which u ≡ true)

    taken_with : (t : TransTree) (ms when set : List Mark) (is : List Act) → t.acts ≡ is → ms ≡ head (names_of t) ++ (when ++ set) ++ the EndLine ∷ [] →
        IsGuard strict when t.guard → AreActs set is → IsTaken ms t
    taken_with t ms when set [] is parts guard none =
        let e = ends_guard (names_of t) when t.guard guard in
        let short : when ++ set ≡ when = ap (λ z. when ++ z) none ∙ append-nil when in (
          e.0,
          ap (walk (next_state rows acts) at_from) (parts ∙ ap (λ z. head (names_of t) ++ z ++ the EndLine ∷ []) short) ∙ head_walk (names_of t) (when ++ the EndLine ∷ []) ∙ e.1,
          λ which h. e.2 which (keep_parts which t h).0,
        )
    taken_with t ms when set (y ∷ ys) is parts guard (inside, spelled, joined) =
        let n = names_of t in
        let b = before_acts n when t.guard guard in
        let a = acts_laws.taken (inside ++ the EndLine ∷ []) (y ∷ ys) (inside, refl, joined) in
        let whole : (when ++ set) ++ the EndLine ∷ [] ≡ when ++ the Set ∷ (inside ++ the EndLine ∷ []) =
        ap (λ z. (when ++ z) ++ the EndLine ∷ []) spelled ∙ append_assoc when (the Set ∷ inside) (the EndLine ∷ []) in (
          in_acts n b.0 a.0,
          ap (walk (next_state rows acts) at_from) (parts ∙ ap (λ z. head n ++ z) whole)
              ∙ head_walk n (when ++ the Set ∷ (inside ++ the EndLine ∷ []))
              ∙ b.1 (inside ++ the EndLine ∷ [])
              ∙ in_acts_walk n b.0 acts.start a.0 (inside ++ the EndLine ∷ []) a.1,
          λ which h.
              let k = keep_parts which t h in
              both_so (guard_fits rows which b.0) (acts.fits which a.0) (b.2 which k.0) (a.2 which (subst (λ z. act_limits which z ≡ true) is k.1)),
        )

    taken : (ms : List Mark) (t : TransTree) → IsLine (IsTransition strict) ms t → IsTaken ms t
    taken ms t (inside, parts, (when, set, spelled, guard, is)) =
        taken_with t ms when set t.acts refl (parts ∙ ap (λ z. z ++ the EndLine ∷ []) spelled) guard is

    -- ---- limits are kept from the start on

    fits_guard : (which : Which) (n : Names) (g : G) (u : S) (m : Mark) → next_state rows acts (in_guard n g) m ≡ Some u → fits_so rows acts which u ≡ true → rows.fits which g ≡ true
    unfolding next_state
    fits_guard which n g u m e f =
        elim (same_kind m.kind Set) as (λ b. (if b then begins_acts acts n (rows.next g (the EndLine)) else in_guard_if n (rows.next g m)) ≡ Some u → rows.fits which g ≡ true) [
          | true ↦ λ k.
              let i = begins_is n (rows.next g (the EndLine)) u k in
              let both_fit = both (rows.fits which i.0) (acts.fits which acts.start) (subst (λ v. fits_so rows acts which v ≡ true) (sym i.2) f) in
              rows_laws.fits_before which g i.0 (the EndLine) i.1 both_fit.0
          | false ↦ λ k.
              let i = guard_is n (rows.next g m) u k in
              rows_laws.fits_before which g i.0 m i.1 (subst (λ v. fits_so rows acts which v ≡ true) (sym i.2) f)
        ] e

    fits_before : (which : Which) (s u : S) (m : Mark) → next_state rows acts s m ≡ Some u → fits_so rows acts which u ≡ true → fits_so rows acts which s ≡ true
    unfolding next_state
    fits_before which at_from u m e f = refl
    fits_before which (at_arrow x) u m e f = refl
    fits_before which (at_to x) u m e f = refl
    fits_before which (at_as x y) u m e f = refl
    fits_before which (at_label x y) u m e f = refl
    fits_before which (behind_label n) u m e f = refl
    fits_before which (has_ended n) u m e f = refl
    fits_before which (in_guard n g) u m e f = fits_guard which n g u m e f
    fits_before which (in_acts n g a) u m e f =
        let i = acts_is n g (acts.next a m) u e in
        let p = both (guard_fits rows which g) (acts.fits which i.0) (subst (λ v. fits_so rows acts which v ≡ true) (sym i.2) f) in
        both_so (guard_fits rows which g) (acts.fits which a) p.0 (acts_laws.fits_before which a i.0 m i.1 p.1)

    -- ---- each state can be completed

    abbrev Completes : S → List Mark → Type 0
    Completes s ms =
        (more : List Mark) × (t : TransTree) × IsLine (IsTransition strict) (ms ++ more) t
        × ((which : Which) → fits_so rows acts which s ≡ true → (transition_limits which t ≡ true) × (marks_keep which more ≡ true))

    -- by these marks to a line without a guard and without acts
    completes_bare : (s : S) (n : Names) (ms more : List Mark) → ms ++ more ≡ head n ++ the EndLine ∷ [] → ArePlain more → Completes s ms
    completes_bare s n ms more e plain =
        (more, tree n [] [], (head n, e, ([], [], refl, inl (refl, refl), refl)), λ which f. (parts_keep which (tree n [] []) (no_rows_keep which) (no_acts_keep which), plain_keep which more plain))

    some_name : List ℕ
    some_name = 120 ∷ []

    completes_guard : (n : Names) (g : G) (ms : List Mark) → AreLiterals ms → Said (in_guard n g) ms → Completes (in_guard n g) ms
    completes_guard n g ms read (inside, parts, said, walked) =
        let c = rows_laws.completes g inside (literals_rest (head n ++ the When ∷ []) inside (subst AreLiterals parts read)) said in
        let line = c.2 in (
          c.0,
          tree n c.1 [],
          (
            head n ++ the When ∷ line.0,
            ap (λ z. z ++ c.0) parts ∙ ap (λ z. head n ++ the When ∷ z) line.1,
            (the When ∷ line.0, [], ap (λ z. head n ++ z) (sym (append-nil (the When ∷ line.0))), inr (line.0, refl, line.2), refl),
          ),
          λ which f. (parts_keep which (tree n c.1 []) (c.3 which f).0 (no_acts_keep which), (c.3 which f).1),
        )

    -- what a guard says that has ended, within each limit that fits
    guard_says : (g : Option G) (when : List Mark) → AreLiterals when → SaidGuard g when →
        (ys : List RowTree) × IsGuard strict when ys × ((which : Which) → guard_fits rows which g ≡ true → row_limits which ys ≡ true)
    guard_says None when read said = ([], inl (said, refl), λ which f. no_rows_keep which)
    guard_says (Some g) when read (inside, parts, said, walked, ended) =
        let literals : AreLiterals inside = literals_rest (the When ∷ []) inside (subst AreLiterals parts read) in
        let c = rows_laws.completes g (inside ++ the EndLine ∷ []) (literals_append inside (the EndLine ∷ []) literals (refl, tt)) said in
        let t = rows_laws.taken ((inside ++ the EndLine ∷ []) ++ c.0) c.1 c.2 in
        let none : c.0 ≡ [] = nothing_more rows.next g t.0 c.0 ended (sym (walk_on rows.next rows.start g (inside ++ the EndLine ∷ []) c.0 walked) ∙ t.1) in
        (c.1, inr (inside, parts, inside_says (AreRows strict) inside c.0 c.1 none c.2), λ which f. (c.3 which f).0)

    completes_acts : (n : Names) (g : Option G) (a : A) (ms : List Mark) → AreLiterals ms → Said (in_acts n g a) ms → Completes (in_acts n g a) ms
    completes_acts n g a ms read (when, inside, parts, said, acts_said) =
        let literals = literals_rest (head n) (when ++ the Set ∷ inside) (subst AreLiterals parts read) in
        let guard = guard_says g when (literals_front when (the Set ∷ inside) literals) said in
        let c = acts_laws.completes a inside (literals_rest (the Set ∷ []) inside (literals_rest when (the Set ∷ inside) literals)) acts_said in
        let line = c.2 in (
          c.0,
          tree n guard.0 c.1,
          (
            head n ++ when ++ the Set ∷ line.0,
            ap (λ z. z ++ c.0) parts ∙ ap (λ z. head n ++ z) (
                append_assoc when (the Set ∷ inside) c.0 ∙ ap (λ z. when ++ the Set ∷ z) line.1 ∙ sym (append_assoc when (the Set ∷ line.0) (the EndLine ∷ []))),
            (when, the Set ∷ line.0, refl, guard.1, are_acts line.0 c.1 line.2),
          ),
          λ which f.
              let p = both (guard_fits rows which g) (acts.fits which a) f in
              let k = c.3 which p.1 in
              (parts_keep which (tree n guard.0 c.1) (guard.2 which p.0) k.0, k.1),
        )

    completes : (s : S) (ms : List Mark) → AreLiterals ms → Said s ms → Completes s ms
    unfolding some_name
    completes at_from ms read h =
        completes_bare at_from (names some_name some_name some_name) ms (head (names some_name some_name some_name) ++ the EndLine ∷ []) (ap (λ z. z ++ (head (names some_name some_name some_name) ++ the EndLine ∷ [])) h) (refl, (refl, (refl, (refl, (refl, (refl, tt))))))
    completes (at_arrow f) ms read h =
        let more : List Mark = the Arrow ∷ a_name some_name ∷ the As ∷ a_name some_name ∷ the EndLine ∷ [] in
        completes_bare (at_arrow f) (names f some_name some_name) ms more (ap (λ z. z ++ more) h) (refl, (refl, (refl, (refl, (refl, tt)))))
    completes (at_to f) ms read h =
        let more : List Mark = a_name some_name ∷ the As ∷ a_name some_name ∷ the EndLine ∷ [] in
        completes_bare (at_to f) (names f some_name some_name) ms more (ap (λ z. z ++ more) h) (refl, (refl, (refl, (refl, tt))))
    completes (at_as f t) ms read h =
        let more : List Mark = the As ∷ a_name some_name ∷ the EndLine ∷ [] in
        completes_bare (at_as f t) (names f t some_name) ms more (ap (λ z. z ++ more) h) (refl, (refl, (refl, tt)))
    completes (at_label f t) ms read h =
        let more : List Mark = a_name some_name ∷ the EndLine ∷ [] in
        completes_bare (at_label f t) (names f t some_name) ms more (ap (λ z. z ++ more) h) (refl, (refl, tt))
    completes (behind_label n) ms read h = completes_bare (behind_label n) n ms (the EndLine ∷ []) (ap (λ z. z ++ the EndLine ∷ []) h) (refl, tt)
    completes (has_ended n) ms read h = completes_bare (has_ended n) n ms [] (append-nil ms ∙ h) tt
    completes (in_guard n g) ms read h = completes_guard n g ms read h
    completes (in_acts n g a) ms read h = completes_acts n g a ms read h

    pub transition_laws : LineLaws (transitions rows acts) Said (IsTransition strict) transition_limits
    transition_laws = record {
      start_said = refl;
      start_fits = λ which. refl;
      said_next = said_next;
      taken = taken;
      fits_before = fits_before;
      completes = completes;
    }

    -- ---- what is read

    module _ (RowsSay : G → List RowTree → Type 0) (ActsSay : A → List Act → Type 0)
        (rows_say : (g : G) (ms : List Mark) (ys : List RowTree) → SaidRows g ms → RowsSay g ys → IsLine (AreRows strict) ms ys)
        (acts_say : (a : A) (ms : List Mark) (ys : List Act) → SaidActs a ms → ActsSay a ys → IsLine (AreJoined IsAct) ms ys)
        (rows_keep : (g : G) (ys : List RowTree) → RowsSay g ys → (which : Which) → rows.fits which g ≡ true → row_limits which ys ≡ true)
        (acts_keep : (a : A) (ys : List Act) → ActsSay a ys → (which : Which) → acts.fits which a ≡ true → act_limits which ys ≡ true) where
      guard_said : (g : Option G) (when : List Mark) (ys : List RowTree) → SaidGuard g when → GuardSays RowsSay g ys → IsGuard strict when ys
      guard_said None when ys said e = inl (said, e)
      guard_said (Some g) when ys (inside, parts, said, walked, ended) e =
          let line = subst (λ z. IsLine (AreRows strict) z ys) (sym (append-nil (inside ++ the EndLine ∷ []))) (rows_say g (inside ++ the EndLine ∷ []) ys said e) in
          inr (inside, parts, inside_says (AreRows strict) inside [] ys refl line)

      guard_keeps : (which : Which) (g : Option G) (ys : List RowTree) → GuardSays RowsSay g ys → guard_fits rows which g ≡ true → row_limits which ys ≡ true
      guard_keeps which None ys e f = subst (λ z. row_limits which z ≡ true) (sym e) (no_rows_keep which)
      guard_keeps which (Some g) ys e f = rows_keep g ys e which f

      says : (u : S) (ms : List Mark) (t : TransTree) → Said u ms → Says RowsSay ActsSay u t → IsLine (IsTransition strict) ms t
      says at_from ms t h e = absurd e
      says (at_arrow f) ms t h e = absurd e
      says (at_to f) ms t h e = absurd e
      says (at_as f l) ms t h e = absurd e
      says (at_label f l) ms t h e = absurd e
      says (behind_label n) ms t h e = absurd e
      says (has_ended n) ms t h e = (head n, h, ([], [], ap head (sym e.0), inl (refl, e.1), subst (λ z. AreActs [] z) (sym e.2) refl))
      says (in_guard n g) ms t (inside, parts, said, walked) e =
          let line = rows_say g inside t.guard said e.1 in
          let spelled : head n ++ the When ∷ line.0 ≡ head (names_of t) ++ (the When ∷ line.0) ++ [] =
          ap (λ z. head z ++ the When ∷ line.0) (sym e.0) ∙ ap (λ z. head (names_of t) ++ z) (sym (append-nil (the When ∷ line.0))) in
          (head n ++ the When ∷ line.0, parts ∙ ap (λ z. head n ++ the When ∷ z) line.1, (the When ∷ line.0, [], spelled, inr (line.0, refl, line.2), subst (λ z. AreActs [] z) (sym e.2) refl))
      says (in_acts n g a) ms t (when, inside, parts, said, acts_said) e =
          let line = acts_say a inside t.acts acts_said e.2 in (
            head n ++ when ++ the Set ∷ line.0,
            parts ∙ ap (λ z. head n ++ z) (ap (λ z. when ++ the Set ∷ z) line.1 ∙ sym (append_assoc when (the Set ∷ line.0) (the EndLine ∷ []))),
            (when, the Set ∷ line.0, ap (λ z. head z ++ when ++ the Set ∷ line.0) (sym e.0), guard_said g when t.guard said e.1, are_acts line.0 t.acts line.2),
          )

      keeps : (u : S) (t : TransTree) → Says RowsSay ActsSay u t → (which : Which) → fits_so rows acts which u ≡ true → transition_limits which t ≡ true
      keeps at_from t e which f = absurd e
      keeps (at_arrow x) t e which f = absurd e
      keeps (at_to x) t e which f = absurd e
      keeps (at_as x y) t e which f = absurd e
      keeps (at_label x y) t e which f = absurd e
      keeps (behind_label n) t e which f = absurd e
      keeps (has_ended n) t e which f =
          parts_keep which t (subst (λ z. row_limits which z ≡ true) (sym e.1) (no_rows_keep which)) (subst (λ z. act_limits which z ≡ true) (sym e.2) (no_acts_keep which))
      keeps (in_guard n g) t e which f = parts_keep which t (rows_keep g t.guard e.1 which f) (subst (λ z. act_limits which z ≡ true) (sym e.2) (no_acts_keep which))
      keeps (in_acts n g a) t e which f =
          let p = both (guard_fits rows which g) (acts.fits which a) f in parts_keep which t (guard_keeps which g t.guard e.1 p.0) (acts_keep a t.acts e.2 which p.1)

      pub transition_found : (u : S) (ts : List Placed) (t : TransTree) → AreLiterals (marks ts) → run (transitions rows acts) at_from ts ≡ Ok u → Says RowsSay ActsSay u t →
          IsLineWithin (IsTransition strict) transition_limits (marks ts) t
      transition_found u ts t read e s =
          let reads = reads_run (transitions rows acts) Said (IsTransition strict) transition_limits transition_laws at_from u ts []
          (reads_start (transitions rows acts) Said (IsTransition strict) transition_limits transition_laws) read e in
          line_within (transitions rows acts) Said (IsTransition strict) transition_limits transition_laws u ts t read e (says u (marks ts) t reads.said_so s) (keeps u t s)

    pub transition_fault : (ts : List Placed) (e : LineFault) → AreLiterals (marks ts) → FailsSo e (run (transitions rows acts) at_from ts) → IsLineFault (IsTransition strict) transition_limits ts e
    transition_fault ts e read h = line_fault (transitions rows acts) Said (IsTransition strict) transition_limits transition_laws ts e read h
