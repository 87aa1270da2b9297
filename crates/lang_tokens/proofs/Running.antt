-- Reading what is left of a line, behind the tokens that were read.
use Rattle.std.proofs.Common.{◌≡◌, ℕ, ◌+◌, ◌<◌, ◌≤◌, List, [], ◌∷◌, length, get_or, drop, map, Some, None, true, Result, Ok, Err, refl, sym, ap, ◌∙◌, arith, zero, suc, add-one}
use Rattle.std.specs.Prelude.{MatchOption}
use Rattle.lang_specs.specs.Tokens.{Placed}
use Rattle.lang_tokens.specs.declared.tokens.Token.{Token}
use Rattle.lang_tokens.specs.declared.faults.Stop.{Stop}
use Rattle.lang_tokens.specs.declared.faults.LineFault.{LineFault}
use Rattle.lang_tokens.specs.declared.faults.LineFault.TheVariants as faults
use Rattle.lang_tokens.specs.Places.{placed_of}
use Rattle.lang_specs.specs.declared.Which.{Which}
use Rattle.lang_specs.specs.declared.Which.TheVariants.{Automata, Variables, Locations, Transitions, Rows, Terms, NameBytes, Digits}
use Rattle.lang_specs.specs.Marks.{Mark, mark}
use Rattle.lang_tokens.specs.Machines.{LineMachine, Stopped, passed, passed_alone, unless, allowed, step, run, and_then}
use Rattle.lang_tokens.specs.Gives.{Advances, GivesAt, Fails, FailsSo}

module _ {S : Type 0} (machine : LineMachine S) (line : ℕ) where
  pub run_rest : (s : S) (ts : List Token) (n : ℕ) (other : Token) → n < length ts →
      run machine s (map (placed_of line) (drop n ts)) ≡ and_then (placed_of line (get_or ts n other)) (step machine s (placed_of line (get_or ts n other))) (λ u. run machine u (map (placed_of line) (drop (n + 1) ts)))
  unfolding run
  run_rest s [] n other lt = absurd (omega arith)
  run_rest s (t ∷ ts) zero other lt = refl
  run_rest s (t ∷ ts) (suc n) other lt = rw (add-one) (run_rest s ts n other (omega arith) ∙ rw (add-one) refl)

  pub run_ended : (s : S) (ts : List Token) (n : ℕ) → length ts ≤ n → run machine s (map (placed_of line) (drop n ts)) ≡ Ok s
  unfolding run
  run_ended s [] zero le = refl
  run_ended s [] (suc n) le = refl
  run_ended s (t ∷ ts) zero le = absurd (omega arith)
  run_ended s (t ∷ ts) (suc n) le = run_ended s ts n (omega arith)

  pub fails : (e : LineFault) (t : Placed) (r : Result S Stop) (f : S → Result S Stopped) (whole : Result S Stopped) →
      Fails t e r → and_then t r f ≡ whole → FailsSo e whole
  fails faults.Memory t r f whole h e = tt
  fails (faults.Syntax column) t r f whole h e = (t, sym e ∙ ap (λ z. and_then t z f) h.0, h.1)
  fails (faults.Limit which) t r f whole h e = (t, sym e ∙ ap (λ z. and_then t z f) h)

  pub goes_on : (t : Placed) (r : Result S Stop) (u : S) (f : S → Result S Stopped) (whole : Result S Stopped) →
      r ≡ Ok u → and_then t r f ≡ whole → f u ≡ whole
  goes_on t r u f whole h e = sym (ap (λ z. and_then t z f) h) ∙ e

  -- a step of the code that advances, and then tells the limit that is passed
  pub limit_told : {X : Type 0} (view : X → S) (s : S) (x : X) (t : Placed) (r : Result X LineFault) → machine.next s (mark t) ≡ Some (view x) →
      MatchOption (passed machine s (view x) (mark t)) (r ≡ Ok x) (λ which. r ≡ Err (faults.Limit which)) → GivesAt view t r (step machine s t)
  limit_told view s x t r n h =
      rw n (elim (passed machine s (view x) (mark t)) as (λ w. MatchOption w (r ≡ Ok x) (λ which. r ≡ Err (faults.Limit which)) → GivesAt view t r (unless w (view x))) [
        | None ↦ λ k. rw k refl
        | Some which ↦ λ k. rw k refl
      ] h)

  pub stopped : {X : Type 0} (view : X → S) (s : S) (t : Placed) (e : LineFault) → (let r : Result X LineFault = Err e in Advances view t r (machine.next s (mark t))) →
      Fails t e (step machine s t)
  stopped view s t faults.Memory h = tt
  stopped view s t (faults.Syntax column) h = (ap (allowed machine s (mark t)) h.0, h.1)
  stopped view s t (faults.Limit which) h = absurd h

-- a machine that nothing limits but names and literals by themselves
pub passed_plain : {S : Type 0} (machine : LineMachine S) (s u : S) (m : Mark) → ((which : Which) → machine.fits which u ≡ true) → passed machine s u m ≡ passed_alone m
passed_plain machine s u m h =
    rw (h Automata, h Variables, h Locations, h Transitions, h Rows, h Terms, h NameBytes, h Digits) refl
