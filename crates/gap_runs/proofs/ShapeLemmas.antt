-- The moves of a path, one after the other.
use Rattle.std.proofs.Common.{◌≡◌, ℕ, ◌+◌, ◌-◌, ◌<◌, ◌≤◌, List, [], ◌∷◌, ◌++◌, append_assoc, drop, length, get_or, sym, ◌∙◌, ap, arith, ℤ}
use Rattle.std.proofs.lemmas.List.{length-drop, drop_all, drop_more, append-nil}
use Rattle.run_specs.specs.Runs.{Move}
use Rattle.gap_runs.specs.Shapes.{move_at, moves_of}

pub one_more : (m : ℕ) (path : List ℕ) (nums : List ℤ) (i : ℕ) (e : ℕ) (old new : List Move) → i < length path → e ≡ get_or path i 0 →
    new ≡ old ++ move_at m nums e (length path - i - 1) ∷ [] → old ++ moves_of m (drop i path) nums ≡ moves_of m path nums →
    new ++ moves_of m (drop (i + 1) path) nums ≡ moves_of m path nums
one_more m path nums i e old new h is put before =
    let rest : List ℕ = drop (i + 1) path in
    let split : drop i path ≡ e ∷ rest = drop_more path i 0 h ∙ ap (λ x. x ∷ rest) (sym is) in
    let left : length rest ≡ length path - i - 1 = omega (arith, length-drop (i + 1) path, h) in
    ap (λ vs. vs ++ moves_of m rest nums) put
    ∙ append_assoc old (move_at m nums e (length path - i - 1) ∷ []) (moves_of m rest nums)
    ∙ ap (λ n. old ++ move_at m nums e n ∷ moves_of m rest nums) (sym left)
    ∙ ap (λ p. old ++ moves_of m p nums) (sym split) ∙ before

pub all_done : (m : ℕ) (path : List ℕ) (nums : List ℤ) (i : ℕ) (old : List Move) → length path ≤ i → old ++ moves_of m (drop i path) nums ≡ moves_of m path nums → old ≡ moves_of m path nums
all_done m path nums i old h before =
    sym (append-nil old) ∙ ap (λ p. old ++ moves_of m p nums) (sym (drop_all i path h)) ∙ before
