-- Numbers over a denominator have a spelling over their least denominator.
use Rattle.std.proofs.Common.{◌≡◌, ℕ, zero, suc, ◌*◌, ◌<◌, List, [], ◌∷◌, map, fold, refl, sym, ◌∙◌, ap, subst, arith, ℤ, pos, negsuc, ◌*ℤ◌, ◌≤ℤ◌, ◌<ℤ◌, unsigned_abs}
use Rattle.std.specs.Prelude.{All, int_div}
use Rattle.std.specs.Int.{◌∣◌}
use Rattle.std.specs.List.{AllZip, AllByRecursion}
use Rattle.std.proofs.Math.Nat.{mul-dvd-mul_left, dvd_of_mul-dvd-mul_left, eq-one_of_dvd-one, eq-zero_of_zero-dvd}
use Rattle.std.proofs.lemmas.Int.{ints, unsigned_abs-mul}
use Rattle.std.proofs.lemmas.List.Elements.{recursion_from_All}
use Rattle.poly_specs.proofs.IntLemmas.{products}
use Rattle.poly_specs.proofs.CombinationLemmas.{gcd-IsGcd, fold_divides, exact}
use Rattle.poly_specs.proofs.PrimitiveLemmas.{IsPrimitive}
use Rattle.run_specs.proofs.RespelledRuns.{IsSpelling, IsWritten, AllPositive, numbers_of}
use Rattle.poly_specs.specs.Lists.{scaled}
use Rattle.poly_specs.specs.Elimination.{gcd}
use Rattle.poly_specs.specs.Rows.{Point, over, SamePoint}
use Rattle.run_specs.specs.Runs.{GapRun}
use Rattle.run_specs.specs.FirstRun.{IsReduced}

-- the greatest common divisor of a number and the numbers of a list
abbrev common : ℕ → List ℤ → ℕ
common g zs = fold (λ h z. gcd h (unsigned_abs z)) g zs

common_greatest : (k g : ℕ) (zs : List ℤ) → k ∣ g → AllByRecursion (λ z. k ∣ unsigned_abs z) zs → k ∣ common g zs
common_greatest k g [] h all = h
common_greatest k g (z ∷ zs) h all = common_greatest k (gcd g (unsigned_abs z)) zs ((gcd-IsGcd g (unsigned_abs z)).2 k h all.0) all.1

-- ---- division by it

abbrev quotients : ℕ → List ℤ → List ℤ
quotients g zs = map (λ z. int_div z (pos g)) zs

spelling : (g : ℕ) (d : ℤ) (zs : List ℤ) → g ∣ unsigned_abs d → AllByRecursion (λ z. g ∣ unsigned_abs z) zs → scaled (int_div d (pos g)) zs ≡ scaled d (quotients g zs)
spelling g d [] hd h = refl
spelling g d (z ∷ zs) hd h =
    let y : ℤ = int_div z (pos g) in
    let e : ℤ = int_div d (pos g) in
    let a : pos g *ℤ y ≡ z = exact g z h.0 in
    let b : pos g *ℤ e ≡ d = exact g d hd in
    let here : z *ℤ e ≡ y *ℤ d = ap (λ x. x *ℤ e) (sym a) ∙ moved (pos g) y e ∙ ap (λ x. y *ℤ x) b in
    let rest = spelling g d zs hd h.1 in cc
  where
    moved : (g y e : ℤ) → (g *ℤ y) *ℤ e ≡ y *ℤ (g *ℤ e)
    moved g y e = omega (arith, products)

size_of : (g : ℕ) (z : ℤ) → g ∣ unsigned_abs z → g * unsigned_abs (int_div z (pos g)) ≡ unsigned_abs z
size_of g z h = sym (unsigned_abs-mul (pos g) (int_div z (pos g))) ∙ ap unsigned_abs (exact g z h)

multiples : (g k : ℕ) (zs : List ℤ) → AllByRecursion (λ z. g ∣ unsigned_abs z) zs → AllByRecursion (λ z. k ∣ unsigned_abs z) (quotients g zs) →
    AllByRecursion (λ z. (g * k) ∣ unsigned_abs z) zs
multiples g k [] h all = tt
multiples g k (z ∷ zs) h all = (subst (λ n. (g * k) ∣ n) (size_of g z h.0) (mul-dvd-mul_left k g all.0), multiples g k zs h.1 all.1)

quotient_positive : (g : ℕ) (z : ℤ) → pos 0 <ℤ z → g ∣ unsigned_abs z → pos 0 <ℤ int_div z (pos g)
quotient_positive g z hz h = go (int_div z (pos g)) (exact g z h)
  where
    go : (y : ℤ) → pos g *ℤ y ≡ z → pos 0 <ℤ y
    go (pos zero) e = absurd (let f : pos g *ℤ pos 0 ≡ pos 0 = omega (arith, ints) in omega (arith, ints, e, f, hz))
    go (pos (suc n)) e = omega (arith, ints)
    go (negsuc n) e = absurd (let f = negative_product g n in omega (arith, ints, e, f, hz))
      where
        negative_product : (g n : ℕ) → (pos g *ℤ negsuc n) ≤ℤ pos 0
        negative_product zero n = omega (arith, ints)
        negative_product (suc g) n = omega (arith, ints)

-- ---- the least denominator

pub record Least (d : ℤ) (ns : List ℤ) : Type 0 where
  pub point : Point
  pub positive : pos 0 <ℤ point.den
  pub same : SamePoint (over d ns) point
  pub primitive : IsPrimitive point.den point.num

pub least : (d : ℤ) (ns : List ℤ) → pos 0 <ℤ d → Least d ns
least d ns hd =
    let g : ℕ = common (unsigned_abs d) ns in
    let div = fold_divides (unsigned_abs d) ns in
    record {
      point = over (int_div d (pos g)) (quotients g ns);
      positive = quotient_positive g d hd div.0;
      same = spelling g d ns div.0 div.1;
      primitive = λ k kd kn.
          let whole : (g * k) ∣ g =
          common_greatest (g * k) (unsigned_abs d) ns (subst (λ n. (g * k) ∣ n) (size_of g d div.0) (mul-dvd-mul_left k g kd))
          (multiples g k ns div.1 (recursion_from_All (λ n. k ∣ unsigned_abs n) (quotients g ns) kn)) in
          let whole' : (g * k) ∣ (g * 1) = subst (λ n. (g * k) ∣ n) (let e : g ≡ g * 1 = omega arith in e) whole in
          eq-one_of_dvd-one (dvd_of_mul-dvd-mul_left k (positive g div.0) whole');
    }
  where
    size : (z : ℤ) → pos 0 <ℤ z → 0 < unsigned_abs z
    size (pos n) h = omega (arith, ints)
    size (negsuc n) h = absurd (omega (arith, ints))

    positive : (g : ℕ) → g ∣ unsigned_abs d → 0 < g
    positive zero h = absurd (let e = eq-zero_of_zero-dvd h in let s = size d hd in omega (arith, e, s))
    positive (suc g) h = omega arith

-- ---- all gaps, each over its least denominator

abbrev pub AllReduced : List GapRun → Type 0
AllReduced [] = Unit {0}
AllReduced (g ∷ gs) = IsReduced g × AllReduced gs

abbrev pub AllPrimitive : List Point → Type 0
AllPrimitive [] = Unit {0}
AllPrimitive (q ∷ qs) = IsPrimitive q.den q.num × AllPrimitive qs

pub record LeastPoints (gs : List GapRun) : Type 0 where
  pub points : List Point
  pub spell : AllZip IsSpelling gs points
  pub primitive : AllPrimitive points

pub least_points : (gs : List GapRun) → AllPositive gs → LeastPoints gs
least_points [] h = record { points = []; spell = tt; primitive = tt }
least_points (g ∷ gs) h =
    let l = least g.den (numbers_of g) h.0 in
    let r = least_points gs h.1 in
    record { points = l.point ∷ r.points; spell = (record { positive = l.positive; same = l.same }, r.spell); primitive = (l.primitive, r.primitive) }

written_reduced : (g : GapRun) (q : Point) → IsWritten g q → IsPrimitive q.den q.num → IsReduced g
written_reduced g q w p k kd kn =
    p k (subst (λ d. k ∣ unsigned_abs d) w.den kd) (subst (λ ns. All (λ n. k ∣ unsigned_abs n) ns) w.numbers kn)

pub all_reduced : (gs : List GapRun) (qs : List Point) → AllZip IsWritten gs qs → AllPrimitive qs → AllReduced gs
all_reduced [] [] w p = tt
all_reduced [] (q ∷ qs) w p = absurd w
all_reduced (g ∷ gs) [] w p = absurd w
all_reduced (g ∷ gs) (q ∷ qs) w p = (written_reduced g q w.0 p.0, all_reduced gs qs w.1 p.1)
