-- A read into the front of a buffer is a read into the buffer.
use Rattle.std.proofs.Common.{◌≡◌, ◌≤◌, ◌++◌, ℕ, List, length, take, drop, append_assoc, arith, length-take, ap, sym, ◌∙◌}
use Rattle.std.proofs.lemmas.List.{take-append-drop, drop-append-le}

pub front_filled : (room n : ℕ) (buf left front : List ℕ) → room ≤ length buf → n ≤ room →
    front ≡ take n left ++ drop n (take room buf) → front ++ drop room buf ≡ take n left ++ drop n buf
front_filled room n buf left front fits le e =
    let short : n ≤ length (take room buf) = omega (arith, length-take room buf) in
    let rest : drop n buf ≡ drop n (take room buf) ++ drop room buf =
    ap (λ w. drop n w) (sym (take-append-drop room buf)) ∙ drop-append-le n (take room buf) (drop room buf) short in
    ap (λ w. w ++ drop room buf) e ∙ append_assoc (take n left) (drop n (take room buf)) (drop room buf) ∙ ap (λ w. take n left ++ w) (sym rest)
