-- Reading a transition with its guard and its acts finds what a line says, or its first fault.
use Rattle.std.proofs.Common.{◌≡◌, Bool, true, false, if◌then◌else◌, List, Some, None, Ok, refl, sym, ap, ◌∙◌, subst}
use Rattle.std.proofs.Math.Bool.{and-true}
use Rattle.lang_specs.specs.declared.Which.{Which}
use Rattle.lang_specs.specs.declared.Which.TheVariants.{Automata, Variables, Locations, Transitions, Rows, Terms, NameBytes, Digits}
use Rattle.lang_specs.specs.Tokens.{Placed}
use Rattle.lang_specs.specs.Marks.{Mark}
use Rattle.lang_specs.specs.Trees.{Act, TransTree}
use Rattle.lang_specs.specs.Expressions.{AreJoined, IsAct}
use Rattle.lang_tokens.specs.Machines.{fits_on, passed, passed_alone, listed, run}
use Rattle.lang_tokens.specs.LineFaults.{marks, AreLiterals, IsLine, IsLineWithin, IsLineFault}
use Rattle.lang_tokens.specs.declared.faults.LineFault.{LineFault}
use Rattle.lang_tokens.specs.Gives.{FailsSo}
use Rattle.lang_rows.specs.RowMachine as rows
use Rattle.lang_rows.specs.RowMachine.{row_line, Ends}
use Rattle.lang_rows.proofs.RowLimits.{free}
use Rattle.lang_rows.proofs.StateLaws as guards
use Rattle.lang_transitions.specs.ActMachine.{acts, act_limits}
use Rattle.lang_transitions.proofs.ActLine.{SaidActs, act_line_laws, acts_said}
use Rattle.lang_transitions.proofs.ActLimits.{limit_laws}
use Rattle.lang_transitions.specs.TransitionMachine.{IsTransition, transition_limits, at_from, at_arrow, at_to, at_as, at_label, behind_label, has_ended, in_guard, in_acts, Says}
use Rattle.lang_transitions.specs.Views.{Acts, State, transition, ActsEnd}
use Rattle.lang_transitions.proofs.GuardEnds.{no_set, end_stops}
use Rattle.lang_transitions.proofs.TransitionLaws.{transition_found, transition_fault}

acts_say : (a : Acts) (ms : List Mark) (ys : List Act) → SaidActs a ms → ActsEnd a ys → IsLine (AreJoined IsAct) ms ys
acts_say a ms ys said e = acts_said a ms ys e.0 e.1 said

acts_keep : (a : Acts) (ys : List Act) → ActsEnd a ys → (which : Which) → acts.fits which a ≡ true → act_limits which ys ≡ true
acts_keep a ys e which f =
    sym (limit_laws.at_end which a.done ys e.1) ∙ limit_laws.ended_alike which a.done a.place (subst (λ b. acts.fits which (record { done = a.done; place = a.place; has_ended = b }) ≡ true) e.0 f)

module _ (strict : Bool) where
  pub found : (u : State) (ts : List Placed) (t : TransTree) → AreLiterals (marks ts) → run (transition strict) at_from ts ≡ Ok u → Says Ends ActsEnd u t →
      IsLineWithin (IsTransition strict) transition_limits (marks ts) t
  found u ts t read e s =
      transition_found (row_line strict) (listed acts) strict (guards.SaidAt strict) SaidActs (guards.state_laws strict) act_line_laws (no_set strict) (end_stops strict)
      Ends ActsEnd (guards.says strict) acts_say (guards.limits_say strict) acts_keep u ts t read e s

  pub fault : (ts : List Placed) (e : LineFault) → AreLiterals (marks ts) → FailsSo e (run (transition strict) at_from ts) → IsLineFault (IsTransition strict) transition_limits ts e
  fault ts e read h =
      transition_fault (row_line strict) (listed acts) strict (guards.SaidAt strict) SaidActs (guards.state_laws strict) act_line_laws (no_set strict) (end_stops strict) ts e read h

  -- ---- the limit that is told at a token

  -- the limits that a line of a transition passes are two
  abbrev IsFree : State → Type 0
  IsFree s =
      ((transition strict).fits Automata s ≡ true) × ((transition strict).fits Variables s ≡ true) × ((transition strict).fits Locations s ≡ true)
      × ((transition strict).fits Transitions s ≡ true) × ((transition strict).fits NameBytes s ≡ true) × ((transition strict).fits Digits s ≡ true)

  all_free : (s : State) → IsFree s
  all_free at_from = (refl, refl, refl, refl, refl, refl)
  all_free (at_arrow f) = (refl, refl, refl, refl, refl, refl)
  all_free (at_to f) = (refl, refl, refl, refl, refl, refl)
  all_free (at_as f t) = (refl, refl, refl, refl, refl, refl)
  all_free (at_label f t) = (refl, refl, refl, refl, refl, refl)
  all_free (behind_label n) = (refl, refl, refl, refl, refl, refl)
  all_free (has_ended n) = (refl, refl, refl, refl, refl, refl)
  all_free (in_guard n g) = free strict g
  all_free (in_acts n None a) = (refl, refl, refl, refl, refl, refl)
  all_free (in_acts n (Some g) a) =
      let f = free strict g in (
        and-true (rows.fits_state Automata g) ∙ f.0,
        and-true (rows.fits_state Variables g) ∙ f.1,
        and-true (rows.fits_state Locations g) ∙ f.2,
        and-true (rows.fits_state Transitions g) ∙ f.3,
        and-true (rows.fits_state NameBytes g) ∙ f.4,
        and-true (rows.fits_state Digits g) ∙ f.5,
      )

  abbrev Fits : Which → State → Bool
  Fits which s = (transition strict).fits which s

  told : (s u : State) (m : Mark) → IsFree u → passed (transition strict) s u m ≡
      (if fits_on (Fits Rows s) (Fits Rows u) m then (if fits_on (Fits Terms s) (Fits Terms u) m then passed_alone m else Some Terms) else Some Rows)
  told s u m f =
      elim (fits_on (Fits Rows s) (Fits Rows u) m) as (λ b. fits_on (Fits Rows s) (Fits Rows u) m ≡ b → passed (transition strict) s u m ≡
      (if b then (if fits_on (Fits Terms s) (Fits Terms u) m then passed_alone m else Some Terms) else Some Rows)) [
        | true ↦ λ e.
            elim (fits_on (Fits Terms s) (Fits Terms u) m) as (λ d. fits_on (Fits Terms s) (Fits Terms u) m ≡ d → passed (transition strict) s u m ≡
            (if d then passed_alone m else Some Terms)) [
              | true ↦ λ k. rw (f.0, e, k) refl
              | false ↦ λ k. rw (f.0, e, k) refl
            ] refl
        | false ↦ λ e. rw (f.0, e) refl
      ] refl

  pub told_by : (s u : State) (m : Mark) (a b c d : Bool) → a ≡ Fits Rows s → b ≡ Fits Rows u → c ≡ Fits Terms s → d ≡ Fits Terms u →
      (if fits_on a b m then (if fits_on c d m then passed_alone m else Some Terms) else Some Rows) ≡ passed (transition strict) s u m
  told_by s u m a b c d h i j k =
      ap (λ x. if fits_on x b m then (if fits_on c d m then passed_alone m else Some Terms) else Some Rows) h
      ∙ ap (λ x. if fits_on (Fits Rows s) x m then (if fits_on c d m then passed_alone m else Some Terms) else Some Rows) i
      ∙ ap (λ x. if fits_on (Fits Rows s) (Fits Rows u) m then (if fits_on x d m then passed_alone m else Some Terms) else Some Rows) j
      ∙ ap (λ x. if fits_on (Fits Rows s) (Fits Rows u) m then (if fits_on (Fits Terms s) x m then passed_alone m else Some Terms) else Some Rows) k
      ∙ sym (told s u m (all_free u))
