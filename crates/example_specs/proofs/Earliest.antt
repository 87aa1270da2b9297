-- The earliest history of one gap: from the first location, with no jump.
use Rattle.std.proofs.Common.{◌≡◌, ℕ, zero, suc, List, [], ◌∷◌, map, sym, ap, arith}
use Rattle.std.specs.Ordering.{nat_cmp, ordering_then}
use Rattle.std.specs.Cmp.{nat_cmp_is}
use Rattle.std.specs.Cmp.Lexicographic.{slice_cmp}
use Rattle.std.specs.declared.cmp.Ordering.TheVariants.{Less, Greater}
use Rattle.poly_specs.specs.Fractions.{zero_fraction}
use Rattle.run_specs.specs.Automaton.{Automaton}
use Rattle.run_specs.specs.Logs.{Sample}
use Rattle.run_specs.specs.Runs.{GapRun, Run, IsRun, Follows, path_of}
use Rattle.run_specs.specs.Histories.{History, history_of, history_cmp, IsEarlier}

abbrev pub earliest : History
earliest = record { start = 0; paths = [] ∷ [] }

none_less : (l : ℕ) (path : List ℕ) → history_cmp (record { start = l; paths = path ∷ [] }) earliest ≡ Less → ⊥
none_less zero [] e = cc
none_less zero (x ∷ path) e = cc
none_less (suc l) path e =
    let above : Greater ≡ nat_cmp (suc l) 0 = nat_cmp_is (suc l) 0 Greater (omega arith) in
    let f : history_cmp (record { start = suc l; paths = path ∷ [] }) earliest ≡ Greater = ap (λ o. ordering_then o (slice_cmp (slice_cmp nat_cmp) (path ∷ []) ([] ∷ []))) (sym above) in
    let b : ⊥ = cc in b

pub none_earlier : (a : Automaton) (k : ℕ) (s : Sample) (other : Run) → IsRun a k (s ∷ []) other → IsEarlier (history_of other) earliest → ⊥
none_earlier a k s other is e = go other.gaps e is.follows
  where
    go : (gs : List GapRun) → history_cmp (record { start = other.start.loc; paths = map path_of gs }) earliest ≡ Less → Follows a k other.start zero_fraction (s ∷ []) gs → ⊥
    go [] e h = h
    go (g ∷ k ∷ gs) e h = h.1
    go (g ∷ []) e h = none_less other.start.loc (path_of g) e
