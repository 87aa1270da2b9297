-- Evaluating a row at padded numbers takes the same numbers, and zeros.
use Rattle.std.proofs.Common.{◌≡◌, ℕ, zero, suc, ◌-◌, ◌+◌, List, [], ◌∷◌, ◌++◌, length, replicate, sym, subst, arith, ℤ, pos, ◌+ℤ◌, ◌*ℤ◌}
use Rattle.std.proofs.lemmas.Int.{ints}
use Rattle.std.proofs.lemmas.List.Elements.{All-from_recursion, recursion_from_All}
use Rattle.fm_eliminate.proofs.HoldingLemmas.{some_passes}
use Rattle.lin_row.proofs.FitLemmas.{AllFit, AllFit-front, AllFit-back, AllFit-append}
use Rattle.poly_specs.specs.Bits.{FitsBits, PassesBits, NonePasses, SomePasses}
use Rattle.poly_specs.specs.Denominators.{common_den, common_nums}
use Rattle.poly_specs.specs.Evaluation.{running, eval_numbers}
use Rattle.poly_specs.specs.Fractions.{Fraction}
use Rattle.poly_specs.specs.Lists.{dot}
use Rattle.poly_specs.specs.Rows.{Row}
use Rattle.poly_specs.specs.Systems.{System, IsLevel}
use Rattle.column_pick.specs.Fixed.{fixed_point}
use Rattle.column_pick.specs.Nexts.{AnyPasses, RowPasses}

nothing_passes : (ns : List ℤ) → NonePasses ns → SomePasses ns → ⊥
nothing_passes ns fits (k, z, h, at, passes) = let f = fits k z h in go z (subst FitsBits at f) passes
  where
    go : (z : ℤ) → FitsBits z → PassesBits z → ⊥
    go z f p = absurd (omega (arith, f, p))

zeros_fit : (so_far : ℤ) (cs : List ℤ) (k : ℕ) → FitsBits so_far → AllFit (running so_far cs (replicate k (pos 0)))
zeros_fit s [] k h = tt
zeros_fit s (c ∷ cs) zero h = tt
zeros_fit s (c ∷ cs) (suc k) h =
    let none : c *ℤ pos 0 ≡ pos 0 = omega (arith, ints) in
    let same : s +ℤ c *ℤ pos 0 ≡ s = omega (arith, ints, none) in
    let here : FitsBits (s +ℤ c *ℤ pos 0) = subst FitsBits (sym same) h in
    (subst FitsBits (sym none) small_fits, (here, zeros_fit (s +ℤ c *ℤ pos 0) cs k here))
  where
    small_fits : FitsBits (pos 0)
    small_fits = omega arith

padded_fit : (so_far : ℤ) (cs ns : List ℤ) (k : ℕ) → FitsBits so_far → AllFit (running so_far cs ns) → AllFit (running so_far cs (ns ++ replicate k (pos 0)))
padded_fit s [] ns k h all = tt
padded_fit s (c ∷ cs) [] k h all = zeros_fit s (c ∷ cs) k h
padded_fit s (c ∷ cs) (n ∷ ns) k h all = (all.0, (all.1.0, padded_fit (s +ℤ c *ℤ n) cs ns k all.1.0 all.1.1))

dot-zeros : (cs : List ℤ) (k : ℕ) → dot cs (replicate k (pos 0)) ≡ pos 0
dot-zeros [] k = omega (arith, ints)
dot-zeros (c ∷ cs) zero = omega (arith, ints)
dot-zeros (c ∷ cs) (suc k) = omega (arith, ints, dot-zeros cs k)

dot-padded : (cs ns : List ℤ) (k : ℕ) → dot cs (ns ++ replicate k (pos 0)) ≡ dot cs ns
dot-padded [] ns k = omega (arith, ints)
dot-padded (c ∷ cs) [] k = dot-zeros (c ∷ cs) k
dot-padded (c ∷ cs) (n ∷ ns) k = omega (arith, ints, dot-padded cs ns k)

-- where no number of the evaluation passes, none does with zeros after the others
padded_none : (r : Row) (ns : List ℤ) (d : ℤ) (k : ℕ) → NonePasses (eval_numbers r ns d) → NonePasses (eval_numbers r (ns ++ replicate k (pos 0)) d)
padded_none r ns d k none =
    let all = recursion_from_All FitsBits (eval_numbers r ns d) none in
    let tail : List ℤ = (r.cst *ℤ d) ∷ (dot r.coef ns +ℤ r.cst *ℤ d) ∷ [] in
    let end = AllFit-back (running (pos 0) r.coef ns) tail all in
    let sum : FitsBits (dot r.coef (ns ++ replicate k (pos 0)) +ℤ r.cst *ℤ d) = subst (λ z. FitsBits (z +ℤ r.cst *ℤ d)) (sym (dot-padded r.coef ns k)) end.1.0 in
    All-from_recursion FitsBits (eval_numbers r (ns ++ replicate k (pos 0)) d)
    (AllFit-append (running (pos 0) r.coef (ns ++ replicate k (pos 0))) ((r.cst *ℤ d) ∷ (dot r.coef (ns ++ replicate k (pos 0)) +ℤ r.cst *ℤ d) ∷ [])
    (padded_fit (pos 0) r.coef ns k zero_fits (AllFit-front (running (pos 0) r.coef ns) tail all)) (end.0, (sum, tt)))
  where
    zero_fits : FitsBits (pos 0)
    zero_fits = omega arith

padded_passes : (r : Row) (ns : List ℤ) (d : ℤ) (k : ℕ) → SomePasses (eval_numbers r (ns ++ replicate k (pos 0)) d) → SomePasses (eval_numbers r ns d)
padded_passes r ns d k some = some_passes (eval_numbers r ns d) (λ none. nothing_passes (eval_numbers r (ns ++ replicate k (pos 0)) d) (padded_none r ns d k none) some)

-- a row of the level passes only where a plain row does
pub level_passes : (s : System) (given : List Fraction) (level : List Row) → IsLevel s.width (length given + 1) s.rows level →
    AnyPasses (fixed_point s.width given) level → RowPasses s given
level_passes s given level is (r, at, passes) =
    (r, is.plain r at, padded_passes r (common_nums given) (pos (common_den given)) (s.width - length (common_nums given)) passes)
