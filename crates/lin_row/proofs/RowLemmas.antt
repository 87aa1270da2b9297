-- What `==` says of two rows.
use Rattle.std.proofs.Common.{◌≡◌, refl, ap, ◌&&◌}
use Rattle.std.proofs.Math.Bool.{beq}
use Rattle.std.specs.Bool.{Decides}
use Rattle.std.specs.Cmp.{booleans_Decides}
use Rattle.std.specs.Cmp.Lexicographic.{pointwise}
use Rattle.std.specs.Ordering.{int_eq}
use Rattle.std.proofs.lemmas.Bool.Decides.{Decides-int_eq, Decides-and, Decides-like}
use Rattle.std.proofs.lemmas.Slice.Eq.{slice_eq-Decides}
use Rattle.poly_specs.specs.Rows.{Row}

pub row_eq-Decides : (a b : Row) → Decides (pointwise int_eq a.coef b.coef && (int_eq a.cst b.cst && beq a.strict b.strict)) (a ≡ b)
row_eq-Decides a b =
    let coef : Decides (pointwise int_eq a.coef b.coef) (a.coef ≡ b.coef) = slice_eq-Decides Decides-int_eq a.coef b.coef (pointwise int_eq a.coef b.coef) refl in
    let rest = Decides-and (int_eq a.cst b.cst) (beq a.strict b.strict) (Decides-int_eq a.cst b.cst) (booleans_Decides a.strict b.strict) in
    Decides-like (pointwise int_eq a.coef b.coef && (int_eq a.cst b.cst && beq a.strict b.strict))
    (λ e i. record { coef = e.0 i; cst = e.1.0 i; strict = e.1.1 i })
    (λ e. (ap (λ (r : Row). r.coef) e, (ap (λ (r : Row). r.cst) e, ap (λ (r : Row). r.strict) e)))
    (Decides-and (pointwise int_eq a.coef b.coef) (int_eq a.cst b.cst && beq a.strict b.strict) coef rest)
