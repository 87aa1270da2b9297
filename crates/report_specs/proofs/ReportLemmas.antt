-- A report goes on where it ended.
use Rattle.std.proofs.Common.{◌≡◌, ℕ, suc, ◌+◌, List, [], ◌∷◌, ◌++◌, length, sym, ◌∙◌, ap, subst, append_assoc, arith}
use Rattle.run_specs.specs.declared.Verdict.{Verdict}
use Rattle.report_specs.specs.Report.{Rules, AreBlocks}

no_more : (n : ℕ) → n + 0 ≡ n
no_more n = omega arith

one_more : (n k : ℕ) → n + suc k ≡ suc n + k
one_more n k = omega arith

pub blocks_join : {K : Type 0} (rules : Rules K) (lines others : List (List ℕ)) (known mid after : K) (n : ℕ) (x y : List ℕ) (rs qs : List Verdict) →
    AreBlocks rules known n lines x rs mid → AreBlocks rules mid (n + length lines) others y qs after →
    AreBlocks rules known n (lines ++ others) (x ++ y) (rs ++ qs) after
blocks_join {K} rules [] others known mid after n x y rs qs p q =
    let P : List ℕ → List Verdict → K → ℕ → Type 0 = λ z zs m k. AreBlocks rules m k others (z ++ y) (zs ++ qs) after in
    subst (λ z. P z rs known n) (sym p.0) (subst (λ zs. P [] zs known n) (sym p.1) (subst (λ m. P [] [] m n) p.2 (subst (λ k. P [] [] mid k) (no_more n) q)))
blocks_join {K} rules (line ∷ lines) others known mid after n x y rs qs p q = (
  p.0,
  p.1 ++ y,
  p.2,
  p.3 ++ qs,
  p.4,
  ap (λ z. z ++ y) p.5 ∙ append_assoc p.0 p.1 y,
  ap (λ z. z ++ qs) p.6 ∙ append_assoc p.2 p.3 qs,
  p.7,
  blocks_join rules lines others p.4 mid after (suc n) p.1 y p.3 qs p.8 (subst (λ k. AreBlocks rules mid k others y qs after) (one_more n (length lines)) q),
)
