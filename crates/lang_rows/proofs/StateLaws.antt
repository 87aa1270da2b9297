-- Reading `true` or constraints with commas between finds what a line says, or its first fault.
use Rattle.std.proofs.Common.{◌≡◌, Bool, true, false, if◌then◌else◌, List, [], ◌∷◌, ◌++◌, Option, Some, None, Result, Ok, refl, sym, ap, ◌∙◌, subst}
use Rattle.std.proofs.lemmas.List.{append-nil}
use Rattle.lang_specs.specs.declared.Which.{Which}
use Rattle.lang_specs.specs.declared.Which.TheVariants.{Automata, Variables, Locations, Transitions, Rows, Terms, NameBytes, Digits}
use Rattle.lang_specs.specs.declared.Kind.TheVariants.{True, EndLine}
use Rattle.lang_specs.specs.Tokens.{Placed}
use Rattle.lang_specs.specs.Marks.{Mark, the}
use Rattle.lang_specs.specs.Trees.{RowTree}
use Rattle.lang_specs.specs.Expressions.{AreJoined, IsRow, AreRows}
use Rattle.lang_tokens.specs.Kinds.{same_kind}
use Rattle.lang_tokens.specs.Machines.{LineMachine, Machine, Reading, AllValues, start_of, next, listed, run}
use Rattle.lang_tokens.specs.LineFaults.{marks, AreLiterals, IsLine, marks_keep, IsLineWithin, IsLineFault}
use Rattle.lang_tokens.specs.declared.faults.LineFault.{LineFault}
use Rattle.lang_tokens.specs.Gives.{FailsSo}
use Rattle.lang_tokens.proofs.LimitLemmas.{plain_keep}
use Rattle.lang_tokens.proofs.LineLaws.{LineLaws, reads_start, reads_run, line_fault, line_within}
use Rattle.lang_tokens.proofs.JoinedLaws.{Said, ended_said, ended, joined, joined_spells, line_laws}
use Rattle.lang_tokens.proofs.Walks.{IsClean, is_the, same_kind-true, walk, and_walk}
use Rattle.lang_rows.specs.Texts.{Row, IsRowValue}
use Rattle.lang_rows.specs.ExprMachine.{in_term}
use Rattle.lang_rows.specs.RowMachine.{Place, in_row, fits_rows, rows, row_limits, State, at_first, behind_true, true_ended, in_rows, go_on, next_row, fits_state, row_line, Ends}
use Rattle.lang_rows.proofs.RowLaws.{spell_row, said_row, GoodRow, FinePlace, row_laws, row_values}
use Rattle.lang_rows.proofs.RowLimits.{limit_laws, end_says}

abbrev R : Type 0
R = Reading Place Row

go_is : (o : Option R) (u : State) → go_on o ≡ Some u → (r : R) × (o ≡ Some r) × (in_rows r ≡ u)
go_is None u e = absurd cc
go_is (Some r) u e = (r, refl, cc)

not_nil : (xs : List Mark) (x : Mark) → [] ≡ xs ++ x ∷ [] → ⊥
not_nil [] x e = cc
not_nil (y ∷ xs) x e = cc

true_keeps : (which : Which) → row_limits which [] ≡ true
true_keeps Automata = refl
true_keeps Variables = refl
true_keeps Locations = refl
true_keeps Transitions = refl
true_keeps Rows = refl
true_keeps Terms = refl
true_keeps NameBytes = refl
true_keeps Digits = refl

module _ (strict : Bool) where
  abbrev Inside : R → List Mark → Type 0
  Inside r ms = Said (rows strict) spell_row said_row (GoodRow strict) (FinePlace strict) (row_laws strict) r ms

  inner : LineLaws (listed (rows strict)) Inside (AreJoined (IsRow strict)) row_limits
  inner = line_laws (rows strict) spell_row said_row (GoodRow strict) (FinePlace strict) (row_laws strict) (IsRow strict) IsRowValue (row_values strict) row_limits (limit_laws strict)

  -- what was read up to a state
  abbrev pub SaidAt : State → List Mark → Type 0
  SaidAt at_first ms = ms ≡ []
  SaidAt behind_true ms = ms ≡ the True ∷ []
  SaidAt true_ended ms = ms ≡ the True ∷ the EndLine ∷ []
  SaidAt (in_rows r) ms = Inside r ms

  are_rows : (ms : List Mark) (ys : List RowTree) → AreJoined (IsRow strict) ms ys → AreRows strict ms ys
  are_rows ms [] h = absurd h
  are_rows ms (y ∷ ys) h = h

  said_on : (r : R) (m : Mark) (u : State) (ms : List Mark) → IsClean m → Inside r ms → go_on (next (rows strict) r m) ≡ Some u → SaidAt u (ms ++ m ∷ [])
  said_on r m u ms c h e =
      let g = go_is (next (rows strict) r m) u e in subst (λ v. SaidAt v (ms ++ m ∷ [])) g.2 (inner.said_next r g.0 m ms c h g.1)

  said_next : (s u : State) (m : Mark) (ms : List Mark) → IsClean m → SaidAt s ms → next_row strict s m ≡ Some u → SaidAt u (ms ++ m ∷ [])
  unfolding next_row
  said_next at_first u m ms c h e =
      elim (same_kind m.kind True) as (λ b. same_kind m.kind True ≡ b → (if b then Some behind_true else go_on (next (rows strict) (start_of (rows strict)) m)) ≡ Some u → SaidAt u (ms ++ m ∷ [])) [
        | true ↦ λ k f.
            let same : behind_true ≡ u = cc in
            subst (λ v. SaidAt v (ms ++ m ∷ [])) same (ap (λ z. z ++ m ∷ []) h ∙ ap (λ z. z ∷ []) (is_the m True c refl k))
        | false ↦ λ k f. said_on (start_of (rows strict)) m u ms c (subst (Inside (start_of (rows strict))) (sym h) inner.start_said) f
      ] refl e
  said_next behind_true u m ms c h e =
      elim (same_kind m.kind EndLine) as (λ b. same_kind m.kind EndLine ≡ b → (if b then Some true_ended else None) ≡ Some u → SaidAt u (ms ++ m ∷ [])) [
        | true ↦ λ k f.
            let same : true_ended ≡ u = cc in
            subst (λ v. SaidAt v (ms ++ m ∷ [])) same (ap (λ z. z ++ m ∷ []) h ∙ ap (λ z. the True ∷ z ∷ []) (is_the m EndLine c refl k))
        | false ↦ λ k f. absurd cc
      ] refl e
  said_next true_ended u m ms c h e = absurd cc
  said_next (in_rows r) u m ms c h e = said_on r m u ms c h e

  no_true : (m : Mark) → same_kind m.kind True ≡ true → next (rows strict) (start_of (rows strict)) m ≡ None
  unfolding in_row in_term
  no_true m e = subst (λ k. next (rows strict) (start_of (rows strict)) (record { kind = k; text = m.text }) ≡ None) (sym (same_kind-true m.kind True e)) refl

  lift_rows : (r u : R) (ms : List Mark) → walk (next (rows strict)) r ms ≡ Some u → walk (next_row strict) (in_rows r) ms ≡ Some (in_rows u)
  unfolding walk and_walk next_row
  lift_rows r u [] h = let same : r ≡ u = cc in ap (λ z. Some (in_rows z)) same
  lift_rows r u (m ∷ ms) h =
      elim (next (rows strict) r m) as (λ o. and_walk o (λ v. walk (next (rows strict)) v ms) ≡ Some u → and_walk (go_on o) (λ v. walk (next_row strict) v ms) ≡ Some (in_rows u)) [
        | None ↦ λ k. absurd cc
        | Some v ↦ λ k. lift_rows v u ms k
      ] h

  lift_first : (u : R) (m : Mark) (ms : List Mark) → walk (next (rows strict)) (start_of (rows strict)) (m ∷ ms) ≡ Some u → walk (next_row strict) at_first (m ∷ ms) ≡ Some (in_rows u)
  unfolding walk and_walk next_row
  lift_first u m ms h =
      elim (next (rows strict) (start_of (rows strict)) m) as (λ o. next (rows strict) (start_of (rows strict)) m ≡ o → and_walk o (λ v. walk (next (rows strict)) v ms) ≡ Some u →
      and_walk (if same_kind m.kind True then Some behind_true else go_on o) (λ v. walk (next_row strict) v ms) ≡ Some (in_rows u)) [
        | None ↦ λ n k. absurd cc
        | Some v ↦ λ n k.
            elim (same_kind m.kind True) as (λ b. same_kind m.kind True ≡ b → and_walk (if b then Some behind_true else Some (in_rows v)) (λ v. walk (next_row strict) v ms) ≡ Some (in_rows u)) [
              | true ↦ λ t. (let no : None ≡ Some v = sym (no_true m t) ∙ n in absurd cc)
              | false ↦ λ t. lift_rows v u ms k
            ] refl
      ] refl h

  lifted : (ms : List Mark) (u : R) (inside : List Mark) → ms ≡ inside ++ the EndLine ∷ [] → walk (next (rows strict)) (start_of (rows strict)) ms ≡ Some u → walk (next_row strict) at_first ms ≡ Some (in_rows u)
  lifted [] u inside e h = absurd (not_nil inside (the EndLine) e)
  lifted (m ∷ ms) u inside e h = lift_first u m ms h

  true_walks : walk (next_row strict) at_first (the True ∷ the EndLine ∷ []) ≡ Some true_ended
  unfolding walk and_walk next_row
  true_walks = refl

  taken : (ms : List Mark) (ys : List RowTree) → IsLine (AreRows strict) ms ys →
      (u : State) × (walk (next_row strict) at_first ms ≡ Some u) × ((which : Which) → row_limits which ys ≡ true → fits_state which u ≡ true)
  taken ms [] (inside, parts, h) = (true_ended, ap (walk (next_row strict) at_first) (parts ∙ ap (λ z. z ++ the EndLine ∷ []) h) ∙ true_walks, λ which k. refl)
  taken ms (y ∷ ys) line = let t = inner.taken ms (y ∷ ys) line in (in_rows t.0, lifted ms t.0 line.0 line.1 t.1, t.2)

  fits_before : (which : Which) (s u : State) (m : Mark) → next_row strict s m ≡ Some u → fits_state which u ≡ true → fits_state which s ≡ true
  unfolding next_row
  fits_before which at_first u m e f = refl
  fits_before which behind_true u m e f = refl
  fits_before which true_ended u m e f = refl
  fits_before which (in_rows r) u m e f =
      let g = go_is (next (rows strict) r m) u e in inner.fits_before which r g.0 m g.1 (subst (λ v. fits_state which v ≡ true) (sym g.2) f)

  completes : (s : State) (ms : List Mark) → AreLiterals ms → SaidAt s ms →
      (more : List Mark) × (ys : List RowTree) × IsLine (AreRows strict) (ms ++ more) ys × ((which : Which) → fits_state which s ≡ true → (row_limits which ys ≡ true) × (marks_keep which more ≡ true))
  completes at_first ms read h =
      let c = inner.completes (start_of (rows strict)) ms read (subst (Inside (start_of (rows strict))) (sym h) inner.start_said) in
      (c.0, c.1, (c.2.0, c.2.1, are_rows c.2.0 c.1 c.2.2), λ which f. c.3 which (inner.start_fits which))
  completes behind_true ms read h =
      (the EndLine ∷ [], [], (the True ∷ [], ap (λ z. z ++ the EndLine ∷ []) h, refl), λ which f. (true_keeps which, plain_keep which (the EndLine ∷ []) (refl, tt)))
  completes true_ended ms read h = ([], [], (the True ∷ [], append-nil ms ∙ h, refl), λ which f. (true_keeps which, refl))
  completes (in_rows r) ms read h = let c = inner.completes r ms read h in (c.0, c.1, (c.2.0, c.2.1, are_rows c.2.0 c.1 c.2.2), c.3)

  pub state_laws : LineLaws (row_line strict) SaidAt (AreRows strict) row_limits
  state_laws = record {
    start_said = refl;
    start_fits = λ which. refl;
    said_next = said_next;
    taken = taken;
    fits_before = fits_before;
    completes = completes;
  }

  -- ---- what is read

  pub says : (u : State) (ms : List Mark) (ys : List RowTree) → SaidAt u ms → Ends u ys → IsLine (AreRows strict) ms ys
  says at_first ms ys h e = absurd e
  says behind_true ms ys h e = absurd e
  says true_ended ms ys h e = (the True ∷ [], h, subst (AreRows strict (the True ∷ [])) (sym e) refl)
  says (in_rows r) ms ys h e =
      let line = ended_said (rows strict) spell_row said_row (GoodRow strict) (FinePlace strict) (row_laws strict) r.has_ended r.done r.place ms e.0 h in (
        joined spell_row r.done,
        line.0.1 ∙ ap (λ z. z ++ the EndLine ∷ []) line.0.2.1,
        are_rows (joined spell_row r.done) ys (joined_spells spell_row (IsRow strict) IsRowValue (GoodRow strict) (row_values strict) r.done ys line.0.2.0 line.1 e.1),
      )

  pub limits_say : (u : State) (ys : List RowTree) → Ends u ys → (which : Which) → fits_state which u ≡ true → row_limits which ys ≡ true
  limits_say at_first ys e which f = absurd e
  limits_say behind_true ys e which f = absurd e
  limits_say true_ended ys e which f = subst (λ z. row_limits which z ≡ true) (sym e) (true_keeps which)
  limits_say (in_rows r) ys e which f = end_says which r ys e.0 e.1 f

  pub rows_found : (u : State) (ts : List Placed) (ys : List RowTree) → AreLiterals (marks ts) → run (row_line strict) at_first ts ≡ Ok u → Ends u ys → IsLineWithin (AreRows strict) row_limits (marks ts) ys
  rows_found u ts ys read e ends =
      let reads = reads_run (row_line strict) SaidAt (AreRows strict) row_limits state_laws at_first u ts [] (reads_start (row_line strict) SaidAt (AreRows strict) row_limits state_laws) read e in
      line_within (row_line strict) SaidAt (AreRows strict) row_limits state_laws u ts ys read e (says u (marks ts) ys reads.said_so ends) (limits_say u ys ends)

  pub rows_fault : (ts : List Placed) (e : LineFault) → AreLiterals (marks ts) → FailsSo e (run (row_line strict) at_first ts) → IsLineFault (AreRows strict) row_limits ts e
  rows_fault ts e read h = line_fault (row_line strict) SaidAt (AreRows strict) row_limits state_laws ts e read h
