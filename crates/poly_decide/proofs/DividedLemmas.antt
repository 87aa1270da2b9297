-- Rows with a new number in front of their coefficients stay without a common divisor.
use Rattle.std.proofs.Common.{◌≡◌, Bool, List, ◌∷◌, refl, sym, ◌∙◌, ap, subst, max, ℤ, pos, negsuc, unsigned_abs, []}
use Rattle.lin_row.proofs.DivisorLemmas.{shared, divisor-shared, gcd-one, divided-from_one, one_from_divided}
use Rattle.poly_specs.specs.Elimination.{gcd, divisor, divided, numbers}
use Rattle.poly_specs.specs.Rows.{Row}

abbrev with_front : ℤ → Row → Row
with_front z r = record { coef = z ∷ r.coef; cst = r.cst; strict = r.strict }

divisor-zero_front : (r : Row) → divisor (with_front (pos 0) r) ≡ divisor r
unfolding divisor gcd
divisor-zero_front r = refl

pub zero_front_divided : (r : Row) → divided r ≡ r → divided (with_front (pos 0) r) ≡ with_front (pos 0) r
zero_front_divided r e = divided-from_one (with_front (pos 0) r) (divisor-zero_front r ∙ one_from_divided r e)

-- nothing but 1 is shared with 1
shared-one : (zs : List ℤ) → shared 1 zs ≡ 1
shared-one [] = refl
shared-one (z ∷ zs) = subst (λ g. shared g zs ≡ 1) (sym (gcd-one (unsigned_abs z))) (shared-one zs)

divisor-one_front : (r : Row) → divisor (with_front (pos 1) r) ≡ 1
unfolding gcd
divisor-one_front r = divisor-shared (with_front (pos 1) r) ∙ ap (max 1) (shared-one (numbers r))

pub one_front_divided : (r : Row) → divided (with_front (pos 1) r) ≡ with_front (pos 1) r
one_front_divided r = divided-from_one (with_front (pos 1) r) (divisor-one_front r)

divisor-minus_front : (r : Row) → divisor (with_front (negsuc 0) r) ≡ 1
unfolding gcd
divisor-minus_front r = divisor-shared (with_front (negsuc 0) r) ∙ ap (max 1) (shared-one (numbers r))

pub minus_front_divided : (r : Row) → divided (with_front (negsuc 0) r) ≡ with_front (negsuc 0) r
minus_front_divided r = divided-from_one (with_front (negsuc 0) r) (divisor-minus_front r)

-- the row that is made of such numbers
pub made_with_front : (z : ℤ) (r made : Row) (cs : List ℤ) (k : ℤ) (s : Bool) → divided (with_front z r) ≡ with_front z r →
    made ≡ divided (record { coef = cs; cst = k; strict = s }) → cs ≡ z ∷ r.coef → k ≡ r.cst → s ≡ r.strict → made ≡ with_front z r
made_with_front z r made cs k s stays e ec ek es =
    let same : ◌≡◌ {A = Row} (record { coef = cs; cst = k; strict = s }) (with_front z r) = λ i. record { coef = ec i; cst = ek i; strict = es i } in
    e ∙ ap divided same ∙ stays
