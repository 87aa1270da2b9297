-- The rows at the start of a gap are divided, and their numbers fit.
use Rattle.std.proofs.Common.{◌≡◌, ℕ, zero, suc, ◌+◌, ◌<◌, ◌≤◌, Bool, ◌||◌, false, List, [], ◌∷◌, ◌++◌, length, length-append, length-take, take, take_all, set, refl, sym, ◌∙◌, ap, subst, arith, ℤ, pos, negsuc, unsigned_abs}
use Rattle.std.proofs.lemmas.List.{length-set}
use Rattle.std.proofs.lemmas.List.Elements.{All-nil, All-cons}
use Rattle.poly_specs.specs.Bits.{FitsBits}
use Rattle.poly_specs.specs.Elimination.{gcd, divisor, divided}
use Rattle.poly_specs.specs.KeptRows.{IsKeptRow}
use Rattle.poly_specs.specs.Rows.{Row, with_coef}
use Rattle.poly_specs.specs.Systems.{System}
use Rattle.run_specs.specs.Automaton.{width, location_at}
use Rattle.run_specs.specs.Keys.{Key, parent_at}
use Rattle.run_specs.specs.Outcomes.{loc_after, mark_after}
use Rattle.sample_succ.specs.Walks.{IsNodeAt}
use Rattle.sample_succ.proofs.WalkLemmas.{root_node}
use Rattle.run_specs.proofs.StageLemmas.{length-zeros}
use Rattle.run_specs.specs.Stages.{zeros, row_of, gap_start}
use Rattle.stage_rows.proofs.RespellingLemmas.{Sizes, parts, respelled, both, left, of_zeros, of_taken}

pub timed_kept : (m : ℕ) (r : Row) → m ≤ 6 → IsKeptRow r → (x y z : List ℤ) → length r.coef ≡ m → x ≡ [] → y ≡ take m r.coef → z ≡ pos 0 ∷ [] → IsKeptRow (with_coef (x ++ y ++ z) r)
timed_kept m r few kept x y z wide e f g =
    let ns : List ℤ = take m r.coef ++ pos 0 ∷ [] in
    let whole : take m r.coef ≡ r.coef = take_all m r.coef (omega (arith, wide)) in
    subst (λ cs. IsKeptRow (with_coef cs r)) (sym (parts [] (take m r.coef) (pos 0 ∷ []) x y z e f g))
    (respelled ns r (omega (arith, length-append (take m r.coef) (pos 0 ∷ []), length-take m r.coef, few))
    (λ P n h. both P (take m r.coef) (pos 0 ∷ []) (of_taken P m r.coef h) (n, tt))
    (λ P n h. subst (Sizes P) whole (left P (take m r.coef) (pos 0 ∷ []) h)) kept)

-- ---- a row with one coefficient, 1 or -1

abbrev unit : ℤ → Row
unit c = record { coef = c ∷ []; cst = pos 0; strict = false }

one_kept : IsKeptRow (unit (pos 1))
unfolding gcd divisor divided
one_kept = record {
  few = omega arith;
  lowest_terms = refl;
  coef_fits = All-cons FitsBits (pos 1) [] (omega arith) (All-nil FitsBits);
  cst_fits = omega arith;
}

minus_kept : IsKeptRow (unit (negsuc 0))
unfolding gcd divisor divided
minus_kept = record {
  few = omega arith;
  lowest_terms = refl;
  coef_fits = All-cons FitsBits (negsuc 0) [] (omega arith) (All-nil FitsBits);
  cst_fits = omega arith;
}

module _ (P : ℕ → Type 0) (z : P 0) (c : ℤ) where
  of_one : (n x : ℕ) → P (unsigned_abs c) → Sizes P (set (zeros n) x c)
  of_one zero x h = tt
  of_one (suc n) zero h = (h, of_zeros P n z)
  of_one (suc n) (suc x) h = (z, of_one n x h)

  the_one : (n x : ℕ) → x < n → Sizes P (set (zeros n) x c) → P (unsigned_abs c)
  the_one zero x lt h = absurd (omega arith)
  the_one (suc n) zero lt h = h.0
  the_one (suc n) (suc x) lt h = the_one n x (omega arith) h.1

one_row : (c : ℤ) (m : ℕ) (ns : List ℤ) (r : Row) → IsKeptRow (unit c) → m ≤ 6 → ns ≡ set (zeros (m + 1)) m c → r ≡ divided (record { coef = ns; cst = pos 0; strict = false }) → r ≡ row_of (m + 1) m c (pos 0)
one_row c m ns r kept few e is =
    let one : List ℤ = set (zeros (m + 1)) m c in
    let all = respelled one (unit c) (omega (arith, few, length-set (zeros (m + 1)) m c, length-zeros (m + 1)))
    (λ P z h. of_one P z c (m + 1) m h.0) (λ P z h. (the_one P z c (m + 1) m (omega arith) h, tt)) kept in
    is ∙ ap (λ cs. divided (record { coef = cs; cst = pos 0; strict = false })) e ∙ all.lowest_terms

pub no_more_row : (m : ℕ) (ns : List ℤ) (r : Row) → m ≤ 6 → ns ≡ set (zeros (m + 1)) m (pos 1) → r ≡ divided (record { coef = ns; cst = pos 0; strict = false }) → r ≡ row_of (m + 1) m (pos 1) (pos 0)
no_more_row m ns r = one_row (pos 1) m ns r one_kept

pub no_less_row : (m : ℕ) (ns : List ℤ) (r : Row) → m ≤ 6 → ns ≡ set (zeros (m + 1)) m (negsuc 0) → r ≡ divided (record { coef = ns; cst = pos 0; strict = false }) → r ≡ row_of (m + 1) m (negsuc 0) (pos 0)
no_less_row m ns r = one_row (negsuc 0) m ns r minus_kept

pub start_is : (m n : ℕ) (old rows all : List Row) (s : System) → n ≡ m → old ≡ rows → all ≡ gap_start n old → s ≡ record { width = n + 1; rows = all } →
    s ≡ record { width = m + 1; rows = gap_start m rows }
start_is m n old rows all s e f g h =
    h ∙ ap (λ rs. record { width = n + 1; rows = rs }) (g ∙ ap (gap_start n) f) ∙ ap (λ k. record { width = k + 1; rows = gap_start k rows }) e

pub node_is : (key : Key) (i : ℕ) (path : List ℕ) (loc : ℕ) (mark : Bool) (before : System) → i < length key.belief → path ≡ [] → loc ≡ (parent_at key i).loc →
    mark ≡ ((parent_at key i).seen_unsafe || (location_at key.automaton loc).is_unsafe) →
    before ≡ record { width = width key.automaton + 1; rows = gap_start (width key.automaton) (parent_at key i).rows } →
    (loc ≡ loc_after key i path) × (mark ≡ mark_after key i path) × IsNodeAt key i path before
node_is key i path loc mark before h e f g k = (
  f ∙ ap (loc_after key i) (sym e),
  g ∙ ap (λ l. (parent_at key i).seen_unsafe || (location_at key.automaton l).is_unsafe) f ∙ ap (mark_after key i) (sym e),
  subst (λ p. IsNodeAt key i p before) (sym e) (root_node key i before h k),
)
