-- The rows of a jump's system are divided, and their numbers fit.
use Rattle.std.proofs.Common.{◌≡◌, ℕ, ◌+◌, ◌≤◌, List, [], ◌∷◌, ◌++◌, length, take, drop, sym, subst, arith, ℤ, pos}
use Rattle.std.proofs.lemmas.List.{length-append, length-take, length-drop}
use Rattle.poly_specs.specs.KeptRows.{IsKeptRow}
use Rattle.poly_specs.specs.Lists.{number_at}
use Rattle.poly_specs.specs.Rows.{Row, with_coef}
use Rattle.run_specs.proofs.StageLemmas.{length-zeros}
use Rattle.run_specs.specs.Stages.{zeros}
use Rattle.stage_rows.proofs.RespellingLemmas.{parts, respelled, both, left, right, of_zeros, of_taken, of_dropped, of_parts, of_number, of_last}

module _ (m : ℕ) (r : Row) (few : m ≤ 6) (kept : IsKeptRow r) (x y z : List ℤ) where
  pub before_kept : length r.coef ≡ m + 1 → x ≡ zeros m → y ≡ number_at m r.coef ∷ [] → z ≡ take m r.coef → IsKeptRow (with_coef (x ++ y ++ z) r)
  before_kept wide e f g =
      let c : ℤ = number_at m r.coef in
      let start : List ℤ = take m r.coef in
      let sized : length (zeros m ++ c ∷ start) ≤ 14 = omega (arith, length-append (zeros m) (c ∷ start), length-zeros m, length-take m r.coef) in
      subst (λ cs. IsKeptRow (with_coef cs r)) (sym (parts (zeros m) (number_at m r.coef ∷ []) (take m r.coef) x y z e f g)) (respelled (zeros m ++ c ∷ start) r sized
      (λ P n h. both P (zeros m) (c ∷ start) (of_zeros P m n) (of_number P m r.coef n h, of_taken P m r.coef h))
      (λ P n h. let p = right P (zeros m) (c ∷ start) h in of_last P m r.coef wide p.1 p.0) kept)

  pub related_kept : length r.coef ≡ m + m → x ≡ drop m r.coef → y ≡ pos 0 ∷ [] → z ≡ take m r.coef → IsKeptRow (with_coef (x ++ y ++ z) r)
  related_kept wide e f g =
      let end : List ℤ = drop m r.coef in
      let start : List ℤ = take m r.coef in
      let sized : length (end ++ pos 0 ∷ start) ≤ 14 = omega (arith, length-append end (pos 0 ∷ start), length-drop m r.coef, length-take m r.coef) in
      subst (λ cs. IsKeptRow (with_coef cs r)) (sym (parts (drop m r.coef) (pos 0 ∷ []) (take m r.coef) x y z e f g)) (respelled (end ++ pos 0 ∷ start) r sized
      (λ P n h. both P end (pos 0 ∷ start) (of_dropped P m r.coef h) (n, of_taken P m r.coef h))
      (λ P n h. of_parts P m r.coef (right P end (pos 0 ∷ start) h).1 (left P end (pos 0 ∷ start) h)) kept)

  pub inside_after_kept : length r.coef ≡ m → x ≡ r.coef → y ≡ [] → z ≡ zeros (m + 1) → IsKeptRow (with_coef (x ++ y ++ z) r)
  inside_after_kept wide e f g =
      subst (λ cs. IsKeptRow (with_coef cs r)) (sym (parts r.coef [] (zeros (m + 1)) x y z e f g)) (respelled (r.coef ++ zeros (m + 1)) r
      (omega (arith, length-append r.coef (zeros (m + 1)), length-zeros (m + 1)))
      (λ P n h. both P r.coef (zeros (m + 1)) h (of_zeros P (m + 1) n)) (λ P n h. left P r.coef (zeros (m + 1)) h) kept)
