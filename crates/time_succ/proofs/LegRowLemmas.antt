-- The rows of a leg's system are divided, and their numbers fit.
use Rattle.std.proofs.Common.{◌≡◌, ℕ, zero, suc, ◌+◌, ◌*◌, ◌<◌, ◌≤◌, false, List, [], ◌∷◌, ◌++◌, length, take, map, set, refl, sym, ◌∙◌, ap, subst, arith, ℤ, pos, negsuc, neg_ℤ, unsigned_abs}
use Rattle.std.proofs.lemmas.List.{length-append, length-take, length-map, length-set}
use Rattle.std.proofs.lemmas.List.Elements.{All-nil, All-cons}
use Rattle.poly_specs.specs.Bits.{FitsBits}
use Rattle.poly_specs.specs.Elimination.{gcd, divisor, divided}
use Rattle.poly_specs.specs.KeptRows.{IsKeptRow}
use Rattle.poly_specs.specs.Lists.{number_at}
use Rattle.poly_specs.specs.Rows.{Row, with_coef}
use Rattle.run_specs.proofs.StageLemmas.{length-zeros}
use Rattle.run_specs.specs.Stages.{zeros, row_of}
use Rattle.stage_rows.proofs.RespellingLemmas.{Sizes, parts, respelled, both, left, right, of_zeros, of_taken, of_number, of_last, turned, of_negated}

module _ (m : ℕ) (r : Row) (few : m ≤ 6) (kept : IsKeptRow r) (x y z : List ℤ) where
  pub before_kept : length r.coef ≡ m + 1 → x ≡ zeros m → y ≡ number_at m r.coef ∷ neg_ℤ (number_at m r.coef) ∷ [] → z ≡ take m r.coef → IsKeptRow (with_coef (x ++ y ++ z) r)
  before_kept wide e f g =
      let c : ℤ = number_at m r.coef in
      let start : List ℤ = take m r.coef in
      let sized : length (zeros m ++ c ∷ neg_ℤ c ∷ start) ≤ 14 =
      omega (arith, length-append (zeros m) (c ∷ neg_ℤ c ∷ start), length-zeros m, length-take m r.coef) in
      subst (λ cs. IsKeptRow (with_coef cs r)) (sym (parts (zeros m) (number_at m r.coef ∷ neg_ℤ (number_at m r.coef) ∷ []) (take m r.coef) x y z e f g)) (respelled (zeros m ++ c ∷ neg_ℤ c ∷ start) r sized
      (λ P n h. let p = of_number P m r.coef n h in both P (zeros m) _ (of_zeros P m n) (p, (turned P c p, of_taken P m r.coef h)))
      (λ P n h. let p = right P (zeros m) (c ∷ neg_ℤ c ∷ start) h in of_last P m r.coef wide p.1.1 p.0) kept)

  pub inside_before_kept : length r.coef ≡ m → x ≡ zeros (m + 2) → y ≡ [] → z ≡ r.coef → IsKeptRow (with_coef (x ++ y ++ z) r)
  inside_before_kept wide e f g =
      subst (λ cs. IsKeptRow (with_coef cs r)) (sym (parts (zeros (m + 2)) [] r.coef x y z e f g)) (respelled (zeros (m + 2) ++ r.coef) r (omega (arith, length-append (zeros (m + 2)) r.coef, length-zeros (m + 2)))
      (λ P n h. both P (zeros (m + 2)) r.coef (of_zeros P (m + 2) n) h) (λ P z h. right P (zeros (m + 2)) r.coef h) kept)

  pub inside_after_kept : length r.coef ≡ m → x ≡ r.coef → y ≡ [] → z ≡ zeros (m + 2) → IsKeptRow (with_coef (x ++ y ++ z) r)
  inside_after_kept wide e f g =
      subst (λ cs. IsKeptRow (with_coef cs r)) (sym (parts r.coef [] (zeros (m + 2)) x y z e f g)) (respelled (r.coef ++ zeros (m + 2)) r (omega (arith, length-append r.coef (zeros (m + 2)), length-zeros (m + 2)))
      (λ P n h. both P r.coef (zeros (m + 2)) h (of_zeros P (m + 2) n)) (λ P z h. left P r.coef (zeros (m + 2)) h) kept)

  pub slope_kept : length r.coef ≡ m + 1 → x ≡ take m r.coef → y ≡ pos 0 ∷ number_at m r.coef ∷ [] → z ≡ map neg_ℤ (take m r.coef) → IsKeptRow (with_coef (x ++ y ++ z) r)
  slope_kept wide e f g =
      let c : ℤ = number_at m r.coef in
      let end : List ℤ = take m r.coef in
      let sized : length (end ++ pos 0 ∷ c ∷ map neg_ℤ end) ≤ 14 =
      omega (arith, length-append end (pos 0 ∷ c ∷ map neg_ℤ end), length-map end neg_ℤ, length-take m r.coef) in
      subst (λ cs. IsKeptRow (with_coef cs r)) (sym (parts (take m r.coef) (pos 0 ∷ number_at m r.coef ∷ []) (map neg_ℤ (take m r.coef)) x y z e f g)) (respelled (end ++ pos 0 ∷ c ∷ map neg_ℤ end) r sized
      (λ P n h. let p = of_taken P m r.coef h in both P end _ p (n, (of_number P m r.coef n h, of_negated P end p)))
      (λ P z h. of_last P m r.coef wide (left P end _ h) (right P end (pos 0 ∷ c ∷ map neg_ℤ end) h).1.0) kept)

-- ---- a row with one coefficient, -1

abbrev unit : Row
unit = record { coef = negsuc 0 ∷ []; cst = pos 0; strict = false }

unit_kept : IsKeptRow unit
unfolding gcd divisor divided
unit_kept = record {
  few = omega arith;
  lowest_terms = refl;
  coef_fits = All-cons FitsBits (negsuc 0) [] (omega arith) (All-nil FitsBits);
  cst_fits = omega arith;
}

module _ (P : ℕ → Type 0) (z : P 0) where
  of_one : (n x : ℕ) → P 1 → Sizes P (set (zeros n) x (negsuc 0))
  of_one zero x h = tt
  of_one (suc n) zero h = (h, of_zeros P n z)
  of_one (suc n) (suc x) h = (z, of_one n x h)

  the_one : (n x : ℕ) → x < n → Sizes P (set (zeros n) x (negsuc 0)) → P 1
  the_one zero x lt h = absurd (omega arith)
  the_one (suc n) zero lt h = h.0
  the_one (suc n) (suc x) lt h = the_one n x (omega arith) h.1

pub lasting_row : (m : ℕ) (ns : List ℤ) (r : Row) → m ≤ 6 → ns ≡ set (zeros (2 * m + 2)) (m + 1) (negsuc 0) →
    r ≡ divided (record { coef = ns; cst = pos 0; strict = false }) → r ≡ row_of (2 * m + 2) (m + 1) (negsuc 0) (pos 0)
lasting_row m ns r few e is =
    let one : List ℤ = set (zeros (2 * m + 2)) (m + 1) (negsuc 0) in
    let kept = respelled one unit (omega (arith, length-set (zeros (2 * m + 2)) (m + 1) (negsuc 0), length-zeros (2 * m + 2)))
    (λ P z h. of_one P z (2 * m + 2) (m + 1) h.0) (λ P z h. (the_one P z (2 * m + 2) (m + 1) (omega arith) h, tt)) unit_kept in
    is ∙ ap (λ cs. divided (record { coef = cs; cst = pos 0; strict = false })) e ∙ kept.lowest_terms
