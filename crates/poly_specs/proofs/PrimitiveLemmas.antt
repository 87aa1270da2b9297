-- Numbers over their least denominator: such a spelling is the only one.
use Rattle.std.proofs.Common.{◌≡◌, ℕ, zero, suc, ◌*◌, ◌/◌, ◌<◌, List, [], ◌∷◌, refl, sym, ◌∙◌, ap, subst, arith, ℤ, pos, negsuc, ◌*ℤ◌, ◌<ℤ◌, unsigned_abs}
use Rattle.std.specs.Prelude.{All}
use Rattle.std.specs.Int.{◌∣◌}
use Rattle.std.proofs.Math.Nat.{mul-div_cancel', dvd-mul_left, eq_of_mul-eq-mul_right}
use Rattle.std.proofs.lemmas.Int.{ints, unsigned_abs-mul}
use Rattle.std.proofs.lemmas.Nat.Gcd.{dvd-zero}
use Rattle.std.proofs.lemmas.List.Elements.{All-from_recursion}
use Rattle.std.specs.List.{AllByRecursion}
use Rattle.poly_specs.proofs.IntLemmas.{same_cancel, mul_comm_int}
use Rattle.poly_specs.proofs.CombinationLemmas.{gcd-IsGcd}
use Rattle.poly_specs.proofs.GcdLemmas.{gcd-swap, gcd-positive, gcd-parts, dvd-coprime}
use Rattle.poly_specs.specs.Lists.{scaled}
use Rattle.poly_specs.specs.Elimination.{gcd}

-- no number but 1 divides the denominator and all the numbers
abbrev pub IsPrimitive : ℤ → List ℤ → Type 0
IsPrimitive d ns = (k : ℕ) → k ∣ unsigned_abs d → All (λ n. k ∣ unsigned_abs n) ns → k ≡ 1

size_positive : (z : ℤ) → pos 0 <ℤ z → 0 < unsigned_abs z
size_positive (pos n) h = omega (arith, ints)
size_positive (negsuc n) h = absurd (omega (arith, ints))

-- n * c = m * d, where d = e * g and c = f * g: e divides n where it shares no factor with f
part_divides : (e f g : ℕ) (n m : ℕ) → 0 < g → gcd e f ≡ 1 → n * (g * f) ≡ m * (g * e) → e ∣ n
part_divides e f g zero m hg one same = dvd-zero e
part_divides e f g (suc n) m hg one same =
    let k : ℕ = suc n in
    let left : k * (g * f) ≡ (f * k) * g = omega arith in
    let right : m * (g * e) ≡ (m * e) * g = omega arith in
    let t : f * k ≡ m * e = eq_of_mul-eq-mul_right g hg (f * k) (m * e) (sym left ∙ same ∙ right) in
    dvd-coprime e f k one (subst (λ z. e ∣ z) (sym t) (dvd-mul_left e m)) (omega arith)

parts_divide : (e f g : ℕ) (c d : ℤ) (ns ms : List ℤ) → 0 < g → gcd e f ≡ 1 → unsigned_abs c ≡ g * f → unsigned_abs d ≡ g * e → scaled c ns ≡ scaled d ms →
    AllByRecursion (λ n. e ∣ unsigned_abs n) ns
parts_divide e f g c d [] ms hg one hc hd same = tt
parts_divide e f g c d (n ∷ ns) [] hg one hc hd same = absurd (let b : ⊥ = cc in b)
parts_divide e f g c d (n ∷ ns) (m ∷ ms) hg one hc hd same =
    let head : n *ℤ c ≡ m *ℤ d = cc in
    let tail : scaled c ns ≡ scaled d ms = cc in
    let sizes : unsigned_abs n * (g * f) ≡ unsigned_abs m * (g * e) =
    ap (λ z. unsigned_abs n * z) (sym hc) ∙ sym (unsigned_abs-mul n c) ∙ ap unsigned_abs head ∙ unsigned_abs-mul m d ∙ ap (λ z. unsigned_abs m * z) hd in
    (part_divides e f g (unsigned_abs n) (unsigned_abs m) hg one sizes, parts_divide e f g c d ns ms hg one hc hd tail)

-- numbers that are equal when scaled by one positive factor
pub same_list : (c : ℤ) (ns ms : List ℤ) → pos 0 <ℤ c → scaled c ns ≡ scaled c ms → ns ≡ ms
same_list c [] [] hc same = refl
same_list c [] (m ∷ ms) hc same = absurd (let b : ⊥ = cc in b)
same_list c (n ∷ ns) [] hc same = absurd (let b : ⊥ = cc in b)
same_list c (n ∷ ns) (m ∷ ms) hc same =
    let head : n *ℤ c ≡ m *ℤ c = cc in
    let tail : scaled c ns ≡ scaled c ms = cc in
    let here : n ≡ m = same_cancel c n m hc (mul_comm_int c n ∙ head ∙ mul_comm_int m c) in
    let rest = same_list c ns ms hc tail in cc

-- equal points over their least denominators are spelt alike
pub one_spelling : (d c : ℤ) (ns ms : List ℤ) → pos 0 <ℤ d → pos 0 <ℤ c → IsPrimitive d ns → IsPrimitive c ms → scaled c ns ≡ scaled d ms → (d ≡ c) × (ns ≡ ms)
one_spelling d c ns ms hd hc pd pc same =
    let a : ℕ = unsigned_abs d in
    let b : ℕ = unsigned_abs c in
    let g : ℕ = gcd a b in
    let is = gcd-IsGcd a b in
    let e : ℕ = a / g in
    let f : ℕ = b / g in
    let ea : g * e ≡ a = mul-div_cancel' g is.0 in
    let fb : g * f ≡ b = mul-div_cancel' g is.1 in
    let hg : 0 < g = gcd-positive a b (size_positive c hc) in
    let ee : e * g ≡ a = omega (arith, ea) in
    let ff : f * g ≡ b = omega (arith, fb) in
    let whole : gcd (e * g) (f * g) ≡ g = ap (λ z. gcd z (f * g)) ee ∙ ap (λ z. gcd a z) ff in
    let coprime : gcd e f ≡ 1 = gcd-parts e f g hg whole in
    let one : e ≡ 1 = pd e (subst (λ z. e ∣ z) ea (dvd-mul_left e g))
    (All-from_recursion (λ n. e ∣ unsigned_abs n) ns (parts_divide e f g c d ns ms hg coprime (sym fb) (sym ea) same)) in
    let two : f ≡ 1 = pc f (subst (λ z. f ∣ z) fb (dvd-mul_left f g))
    (All-from_recursion (λ n. f ∣ unsigned_abs n) ms (parts_divide f e g d c ms ns hg (gcd-swap f e ∙ coprime) (sym ea) (sym fb) (sym same))) in
    let sizes : a ≡ b = omega (arith, ap (λ z. g * z) one, ap (λ z. g * z) two, ea, fb) in
    let dens : d ≡ c = omega (arith, ints, sizes) in
    (dens, same_list d ns ms hd (subst (λ z. scaled z ns ≡ scaled d ms) (sym dens) same))
