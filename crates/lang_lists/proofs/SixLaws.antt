-- A list of which six may stand keeps to its limit exactly where the reader finds room.
use Rattle.std.proofs.Common.{◌≡◌, ℕ, suc, ◌≤◌, true, false, if◌then◌else◌, List, [], ◌∷◌, ◌++◌, length, Option, Some, refl, ap, arith}
use Rattle.std.specs.Prelude.{nat_le}
use Rattle.std.proofs.lemmas.Bool.{leb-true, le-leb}
use Rattle.std.proofs.lemmas.List.{length-append}
use Rattle.lang_specs.specs.declared.Which.{Which}
use Rattle.lang_specs.specs.declared.Which.TheVariants.{Automata, Variables, Locations, Transitions, Rows, Terms, NameBytes, Digits}
use Rattle.lang_specs.specs.Marks.{Mark}
use Rattle.lang_tokens.specs.Machines.{Machine, Reading, AllValues, fits_on, listed, passed, passed_alone}
use Rattle.lang_tokens.proofs.JoinedLaws.{LimitLaws}
use Rattle.lang_lists.specs.SixAtMost.{has_room, fits_six, six_at_most}

room_moves : {P X : Type 0} (r s : Reading P X) → (fits_six Variables r ≡ true → fits_six Variables s ≡ true) → (which : Which) → fits_six which r ≡ true → fits_six which s ≡ true
room_moves r s h Automata f = refl
room_moves r s h Variables f = h f
room_moves r s h Locations f = refl
room_moves r s h Transitions f = refl
room_moves r s h Rows f = refl
room_moves r s h Terms f = refl
room_moves r s h NameBytes f = refl
room_moves r s h Digits f = refl

start_fits : {P : Type 0} (X : Type 0) (p : P) (which : Which) → (let r : Reading P X = record { done = []; place = p; has_ended = false } in fits_six which r) ≡ true
start_fits X p Automata = refl
start_fits X p Variables = refl
start_fits X p Locations = refl
start_fits X p Transitions = refl
start_fits X p Rows = refl
start_fits X p Terms = refl
start_fits X p NameBytes = refl
start_fits X p Digits = refl

one_fewer : {X : Type 0} (n k : ℕ) (xs : List X) (x : X) → n ≤ suc k → nat_le (length (xs ++ x ∷ [])) n ≡ true → nat_le (length xs) k ≡ true
one_fewer n k xs x h e = let more = leb-true (length (xs ++ x ∷ [])) n e in le-leb (length xs) k (omega (arith, length-append xs (x ∷ [])))

one_more : {X : Type 0} (k : ℕ) (xs : List X) (x : X) → nat_le (length xs) k ≡ true → nat_le (length (xs ++ x ∷ [])) (suc k) ≡ true
one_more k xs x e = let few = leb-true (length xs) k e in le-leb (length (xs ++ x ∷ [])) (suc k) (omega (arith, length-append xs (x ∷ [])))

alike : {X Y : Type 0} (Value : X → Y → Type 0) (xs : List X) (ys : List Y) → AllValues Value xs ys → length xs ≡ length ys
alike Value [] [] h = refl
alike Value [] (y ∷ ys) h = absurd h
alike Value (x ∷ xs) [] h = absurd h
alike Value (x ∷ xs) (y ∷ ys) h = ap suc (alike Value xs ys h.1)

module _ {P X Y : Type 0} (start : P) (next : P → Mark → Option P) (made : P → Option X) (finish : P → X) (Value : X → Y → Type 0) where
  abbrev machine : Machine P X
  machine = record { start = start; next = next; made = made; fits = fits_six }

  end_fits : (which : Which) (xs : List X) (ys : List Y) → length xs ≡ length ys → fits_six which (let r : Reading P X = record { done = xs; place = start; has_ended = true } in r) ≡ six_at_most which ys
  end_fits Automata xs ys e = refl
  end_fits Variables xs ys e = ap (λ n. nat_le n 6) e
  end_fits Locations xs ys e = refl
  end_fits Transitions xs ys e = refl
  end_fits Rows xs ys e = refl
  end_fits Terms xs ys e = refl
  end_fits NameBytes xs ys e = refl
  end_fits Digits xs ys e = refl

  pub six_laws : LimitLaws machine finish Value six_at_most
  six_laws = record {
    at_start = start_fits X start;
    inside = λ which done p q m e. room_moves (record { done = done; place = q; has_ended = false }) (record { done = done; place = p; has_ended = false }) (λ h. h) which;
    over_comma = λ which done p x e. room_moves (record { done = done ++ x ∷ []; place = start; has_ended = false }) (record { done = done; place = p; has_ended = false })
        (λ h. one_fewer 5 5 done x (omega arith) h) which;
    over_end = λ which done p x e. room_moves (record { done = done ++ x ∷ []; place = start; has_ended = true }) (record { done = done; place = p; has_ended = false })
        (λ h. one_fewer 6 5 done x (omega arith) h) which;
    finished = λ which done p. room_moves (record { done = done; place = p; has_ended = false }) (record { done = done ++ finish p ∷ []; place = start; has_ended = true })
        (λ h. one_more 5 done (finish p) h) which;
    ended_alike = λ which xs p. room_moves (record { done = xs; place = p; has_ended = true }) (record { done = xs; place = start; has_ended = true }) (λ h. h) which;
    at_end = λ which xs ys h. end_fits which xs ys (alike Value xs ys h);
  }

  -- the limit that is told at a token
  pub six_passed : (s u : Reading P X) (m : Mark) →
      passed (listed machine) s u m ≡ (if fits_on (has_room s.has_ended (length s.done)) (has_room u.has_ended (length u.done)) m then passed_alone m else Some Variables)
  six_passed s u m =
      elim (fits_on (has_room s.has_ended (length s.done)) (has_room u.has_ended (length u.done)) m) as (λ b. fits_on (has_room s.has_ended (length s.done)) (has_room u.has_ended (length u.done)) m ≡ b →
      passed (listed machine) s u m ≡ (if b then passed_alone m else Some Variables)) [
        | true ↦ λ e. rw e refl
        | false ↦ λ e. rw e refl
      ] refl
