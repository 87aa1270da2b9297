-- Pieces, one behind the other.
use Rattle.std.proofs.Common.{◌≡◌, ℕ, suc, ◌+◌, List, ◌++◌, append_assoc, refl, rules, arith, ◌∙◌, ap, sym}
use Rattle.wave_log.specs.Waves.{each_below}

next_piece : (n : ℕ) (piece : ℕ → List ℕ) → each_below (suc n) piece ≡ each_below n piece ++ piece n
unfolding each_below
next_piece n piece = refl

each_more : (n : ℕ) (piece : ℕ → List ℕ) → each_below (n + 1) piece ≡ each_below n piece ++ piece n
each_more n piece = let on : n + 1 ≡ suc n = omega arith in ap (λ k. each_below k piece) on ∙ next_piece n piece

-- none yet
pub none_yet : (before : List ℕ) (piece : ℕ → List ℕ) → before ≡ before ++ each_below 0 piece
unfolding each_below
none_yet before piece = search rules

-- and one more
pub one_more : (before now after : List ℕ) (n : ℕ) (piece : ℕ → List ℕ) →
    now ≡ before ++ each_below n piece → after ≡ now ++ piece n → after ≡ before ++ each_below (n + 1) piece
one_more before now after n piece so_far added =
    added ∙ ap (λ bytes. bytes ++ piece n) so_far ∙ (append_assoc before (each_below n piece) (piece n)
    ∙ ap (λ bytes. before ++ bytes) (sym (each_more n piece)))
