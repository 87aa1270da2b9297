-- Pieces of a text, and what follows the beginning of a line.
use Rattle.std.proofs.Common.{◌≡◌, ◌≢◌, ℕ, suc, ◌+◌, ◌-◌, ◌<◌, Bool, true, false, cond, List, [], ◌∷◌, ◌++◌, length, get_or, take, drop, Option, Some, None, refl, sym, ◌∙◌, ap, ap₂, arith, All, Bor, drop-cons}
use Rattle.std.specs.Prelude.{option_map, MatchOption, ◌==◌}
use Rattle.std.specs.List.{slice_split}
use Rattle.std.proofs.lemmas.Bool.{ne_eqb, eq-eqb, eqb-true}
use Rattle.std.proofs.lemmas.List.{take-append-drop, take_rest}
use Rattle.std.proofs.lemmas.List.Splits.{slice_split_none, slice_split_at}
use Rattle.replay_specs.specs.RunTextFaults.{behind}

-- ---- the first piece

differ : (c : ℕ) (bytes : List ℕ) → All (λ b. b ≢ c) bytes → All (λ b. b == c ≡ false) bytes
differ c bytes h k d lt = ne_eqb (get_or bytes k d) c (h k d lt)

pub place_cuts : (c at : ℕ) (text : List ℕ) → at < length text → get_or text at 0 ≡ c →
    text ≡ take at text ++ c ∷ take (length text - (at + 1)) (drop (at + 1) text)
place_cuts c at text lt e =
    sym (take-append-drop at text)
    ∙ ap (λ t. take at text ++ t) (drop-cons text at 0 lt ∙ ap₂ (λ b t. b ∷ t) e (sym (take_rest text (suc at))))
    ∙ (let same : suc at ≡ at + 1 = omega arith in ap (λ k. take at text ++ c ∷ take (length text - k) (drop k text)) same)

pub place_splits : (c at : ℕ) (text : List ℕ) → at < length text → get_or text at 0 ≡ c → All (λ b. b ≢ c) (take at text) →
    slice_split (λ b. b == c) text ≡ take at text ∷ slice_split (λ b. b == c) (take (length text - (at + 1)) (drop (at + 1) text))
place_splits c at text lt e h =
    ap (slice_split (λ b. b == c)) (place_cuts c at text lt e)
    ∙ slice_split_at (λ b. b == c) (take at text) c (take (length text - (at + 1)) (drop (at + 1) text)) (differ c (take at text) h) (eq-eqb c c refl)

pub one_piece : (c : ℕ) (text : List ℕ) → All (λ b. b ≢ c) text → slice_split (λ b. b == c) text ≡ text ∷ []
one_piece c text h = slice_split_none (λ b. b == c) text (differ c text h)

-- ---- what follows the beginning

pub behind_is : (word rest : List ℕ) → behind word (word ++ rest) ≡ Some rest
behind_is [] rest = refl
behind_is (w ∷ word) rest = ap (λ t. cond t (behind word (word ++ rest)) None) (eq-eqb w w refl) ∙ behind_is word rest

first_differs : (w b : ℕ) (word line : List ℕ) (t : Bool) → w == b ≡ t → ((rest : List ℕ) → b ∷ line ≢ w ∷ word ++ rest) →
    (((rest : List ℕ) → line ≢ word ++ rest) → behind word line ≡ None) → cond t (behind word line) None ≡ None
first_differs w b word line true e h later = later (λ rest same. h rest (ap₂ (λ x xs. x ∷ xs) (sym (eqb-true w b e)) same))
first_differs w b word line false e h later = refl

behind_none : (word line : List ℕ) → ((rest : List ℕ) → line ≢ word ++ rest) → behind word line ≡ None
behind_none [] line h = absurd (h line refl)
behind_none (w ∷ word) [] h = refl
behind_none (w ∷ word) (b ∷ line) h = first_differs w b word line (w == b) refl h (behind_none word line)

pub stripped : (word line : List ℕ) (r : Option (Bor (List ℕ))) → MatchOption r ((rest : List ℕ) → line ≢ word ++ rest) (λ x. line ≡ word ++ x.now) →
    option_map (λ x. x.now) r ≡ behind word line
stripped word line None h = sym (behind_none word line h)
stripped word line (Some x) h = sym (ap (behind word) h ∙ behind_is word x.now)

pub stripped_whole : (word line : List ℕ) (r : Option (Bor (List ℕ))) → MatchOption r ((rest : List ℕ) → line ≢ word ++ rest) (λ x. line ≡ word ++ x.now) →
    MatchOption r (Unit {0}) (λ x. line ≡ word ++ x.now)
stripped_whole word line None h = tt
stripped_whole word line (Some x) h = h
