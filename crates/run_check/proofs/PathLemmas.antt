-- How far the check of a path has come.
use Rattle.std.proofs.Common.{◌≡◌, ℕ, ◌+◌, ◌<◌, ◌≤◌, Bool, true, false, ◌||◌, List, ◌∷◌, ◌++◌, length, map, drop, get_or, sym, ◌∙◌, ap, subst, append_assoc, ℤ, Result, Ok, Err}
use Rattle.std.specs.Prelude.{⊤}
use Rattle.std.proofs.lemmas.List.{drop_more, drop_all}
use Rattle.replay_specs.specs.declared.checks.Stop.{Stop}
use Rattle.run_specs.specs.Automaton.{Automaton, width, location_at, transition_at}
use Rattle.run_specs.specs.Runs.{Leg, Move, end_loc, goes_unsafe}
use Rattle.replay_specs.specs.RunChecks.{Step, Answers, leg_steps, jump_steps, path_steps}
use Rattle.run_check.proofs.StepLemmas.{Leads, leads_then, leads_stop}

-- a move's leg and its jump
abbrev pub move_steps : Automaton → ℕ → ℤ → List ℤ → Move → List Step
move_steps a l d p m = leg_steps (location_at a l) d p m.leg ++ jump_steps a l d m

-- a part of the path begins in location l with the values p, and what follows of the path decides
pub record PathSoFar (a : Automaton) (d : ℤ) (last : Leg) (all : List Step) (l : ℕ) (p : List ℤ) (ms : List Move) : Type 0 where
  pub inside : l < length a.locations
  pub sized : length p ≡ width a
  pub leads : Leads (path_steps a d l p ms last) all

module _ (a : Automaton) (d : ℤ) (last : Leg) (all : List Step) (l : ℕ) (p : List ℤ) (ms : List Move) (i : ℕ) (m : Move) (lt : i < length ms)
    (is : m ≡ get_or ms i m) (so_far : PathSoFar a d last all l p (drop i ms)) where
  abbrev path_rest : List Step
  path_rest = path_steps a d (transition_at a m.transition).target m.after (drop (i + 1) ms) last

  path_from_here : Leads (move_steps a l d p m ++ path_rest) all
  path_from_here = subst (λ ss. Leads ss all) (sym (append_assoc (leg_steps (location_at a l) d p m.leg) (jump_steps a l d m) path_rest))
      (subst (λ (x : Move). Leads (path_steps a d l p (x ∷ drop (i + 1) ms) last) all) (sym is)
      (subst (λ (xs : List Move). Leads (path_steps a d l p xs last) all) (drop_more ms i m lt) so_far.leads))

  pub path_stop : (x y : Result ⊤ Stop) (how : Stop) → y ≡ Err how → x ≡ y → Answers (move_steps a l d p m) y → Answers all x
  path_stop x y how was same h = leads_stop (move_steps a l d p m) path_rest all x y how was same h path_from_here

  pub path_more : (y : Result ⊤ Stop) → y ≡ Ok tt → Answers (move_steps a l d p m) y → (transition_at a m.transition).target < length a.locations →
      length m.after ≡ width a → PathSoFar a d last all (transition_at a m.transition).target m.after (drop (i + 1) ms)
  path_more y was h within sized = record { inside = within; sized = sized; leads = leads_then (move_steps a l d p m) path_rest all y was h path_from_here }

pub path_end : (a : Automaton) (d : ℤ) (last : Leg) (all : List Step) (l : ℕ) (p : List ℤ) (ms : List Move) (i : ℕ) (x : Result ⊤ Stop) → length ms ≤ i →
    PathSoFar a d last all l p (drop i ms) → Answers (leg_steps (location_at a l) d p last) x → Answers all x
path_end a d last all l p ms i x le so_far h =
    (subst (λ (xs : List Move). Leads (path_steps a d l p xs last) all) (drop_all i ms le) so_far.leads).leads x h

-- ---- locations along a path

abbrev pub transitions_of : List Move → List ℕ
transitions_of ms = map (λ m. m.transition) ms

module _ (a : Automaton) (l : ℕ) (ms : List Move) (i : ℕ) (m : Move) (lt : i < length ms) (is : m ≡ get_or ms i m) where
  path_next : transitions_of (drop i ms) ≡ m.transition ∷ transitions_of (drop (i + 1) ms)
  path_next = ap transitions_of (drop_more ms i m lt) ∙ ap (λ (x : Move). x.transition ∷ transitions_of (drop (i + 1) ms)) (sym is)

  pub end_more : (e : ℕ) → end_loc a l (transitions_of (drop i ms)) ≡ e → end_loc a (transition_at a m.transition).target (transitions_of (drop (i + 1) ms)) ≡ e
  end_more e h = sym (ap (end_loc a l) path_next) ∙ h

  pub unsafe_more : (e : Bool) → goes_unsafe a l (transitions_of (drop i ms)) ≡ e → (location_at a l).is_unsafe ≡ false →
      goes_unsafe a (transition_at a m.transition).target (transitions_of (drop (i + 1) ms)) ≡ e
  unsafe_more e h safe = ap (λ b. b || goes_unsafe a (transition_at a m.transition).target (transitions_of (drop (i + 1) ms))) (sym safe) ∙ sym (ap (goes_unsafe a l) path_next) ∙ h

  pub unsafe_here : (e : Bool) → goes_unsafe a l (transitions_of (drop i ms)) ≡ e → (location_at a l).is_unsafe ≡ true → e ≡ true
  unsafe_here e h bad = sym h ∙ ap (goes_unsafe a l) path_next ∙ ap (λ b. b || goes_unsafe a (transition_at a m.transition).target (transitions_of (drop (i + 1) ms))) bad

pub end_last : (a : Automaton) (l : ℕ) (ms : List Move) (i : ℕ) (e : ℕ) → length ms ≤ i → end_loc a l (transitions_of (drop i ms)) ≡ e → l ≡ e
end_last a l ms i e le h = sym (ap (λ xs. end_loc a l (transitions_of xs)) (drop_all i ms le)) ∙ h

pub unsafe_last : (a : Automaton) (l : ℕ) (ms : List Move) (i : ℕ) (e : Bool) → length ms ≤ i → goes_unsafe a l (transitions_of (drop i ms)) ≡ e →
    (location_at a l).is_unsafe ≡ e
unsafe_last a l ms i e le h = sym (ap (λ xs. goes_unsafe a l (transitions_of xs)) (drop_all i ms le)) ∙ h
