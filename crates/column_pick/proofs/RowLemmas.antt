-- The ranges of rows, a row at a time.
use Rattle.std.proofs.Common.{◌≡◌, Bool, List, [], ◌∷◌, ◌++◌, Option, Some, None, ℕ, sym, subst, ℤ, pos, ◌+ℤ◌, ◌*ℤ◌, ◌<ℤ◌}
use Rattle.std.specs.Prelude.{All, SomeIff, IfSome}
use Rattle.std.specs.List.{AllByRecursion}
use Rattle.std.proofs.lemmas.List.Elements.{All-nil, All-push, All-from_recursion, recursion_from_All}
use Rattle.lin_row.proofs.FitLemmas.{AllFit-back}
use Rattle.fm_eliminate.proofs.HoldingLemmas.{some_passes}
use Rattle.poly_specs.specs.Bits.{FitsBits, NonePasses, SomePasses}
use Rattle.poly_specs.specs.Evaluation.{running, eval_numbers}
use Rattle.poly_specs.specs.Lists.{dot}
use Rattle.poly_specs.specs.Rows.{Point, Row, over, row_value, coef_at}
use Rattle.column_pick.specs.Ranges.{IsWithin, IsNarrowed, IsRangeOf}
use Rattle.column_pick.specs.declared.ranges.Range.{Range}

all_push : (P : Row → Type 0) (rows : List Row) (r : Row) → All P (rows ++ r ∷ []) → All P rows × P r
all_push P rows r h = let k = go rows (recursion_from_All P (rows ++ r ∷ []) h) in (All-from_recursion P rows k.0, k.1)
  where
    go : (rows : List Row) → AllByRecursion P (rows ++ r ∷ []) → AllByRecursion P rows × P r
    go [] h = (tt, h.0)
    go (s ∷ rows) h = let k = go rows h.1 in ((h.0, k.0), k.1)

pub no_rows : (x : ℕ) (q : Point) → IsRangeOf x q [] (record { up = None; down = None })
no_rows x q v hv = (λ h. All-nil (λ r. IsWithin x q r v), λ h. (tt, tt))

pub one_row_more : (x : ℕ) (q : Point) (rows : List Row) (r : Row) (range more : Range) (a c : ℤ) (s : Bool) → pos 0 <ℤ q.den →
    a ≡ coef_at x r → c ≡ row_value r q → s ≡ r.strict → IsNarrowed range a c s more → IsRangeOf x q rows range → IsRangeOf x q (rows ++ r ∷ []) more
one_row_more x q rows r range more a c s hq ea ec es n is = go (subst (λ z. IsNarrowed range (coef_at x r) (row_value r q) z more) es
    (subst (λ z. IsNarrowed range (coef_at x r) z s more) ec (subst (λ z. IsNarrowed range z c s more) ea n)))
  where
    go : IsNarrowed range (coef_at x r) (row_value r q) r.strict more → IsRangeOf x q (rows ++ r ∷ []) more
    go n v hv = (
      λ h. (let k = (n q.den v hq hv).0 h in All-push (λ t. IsWithin x q t v) rows r ((is v hv).0 k.0) k.1),
      λ h. (let k = all_push (λ t. IsWithin x q t v) rows r h in (n q.den v hq hv).1 ((is v hv).1 k.0, k.1)),
    )

-- the value of a row is one of the numbers that evaluating it takes
pub value_fits : (r : Row) (ns : List ℤ) (d : ℤ) → NonePasses (eval_numbers r ns d) → FitsBits (row_value r (over d ns))
value_fits r ns d h =
    let k = AllFit-back (running (pos 0) r.coef ns) ((r.cst *ℤ d) ∷ (dot r.coef ns +ℤ r.cst *ℤ d) ∷ []) (recursion_from_All FitsBits (eval_numbers r ns d) h) in
    k.1.0

-- what `eval` says of a row's value
pub evaluated : (o : Option ℤ) (r : Row) (q : Point) → SomeIff o (NonePasses (eval_numbers r q.num q.den)) (row_value r q) →
    IfSome o (λ v. (v ≡ row_value r q) × FitsBits v)
evaluated None r q said = tt
evaluated (Some v) r q said = (said.1, subst FitsBits (sym said.1) (value_fits r q.num q.den said.0))

pub not_evaluated : (o : Option ℤ) (r : Row) (q : Point) → SomeIff o (NonePasses (eval_numbers r q.num q.den)) (row_value r q) → o ≡ None →
    SomePasses (eval_numbers r q.num q.den)
not_evaluated None r q said e = some_passes (eval_numbers r q.num q.den) said
not_evaluated (Some v) r q said e = absurd (let f : ⊥ = cc in f)
