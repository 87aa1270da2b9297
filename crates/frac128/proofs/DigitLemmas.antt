-- Digits alone: what is kept of them with one digit more.
use Rattle.std.proofs.Common.{◌≡◌, ℕ, ◌+◌, ◌-◌, ◌*◌, ◌^◌, ◌<◌, ◌≤◌, Bool, true, false, if◌then◌else◌, List, [], ◌∷◌, length, take, drop, get_or, Option, Some, None, refl, sym, ◌∙◌, ap, subst, arith}
use Rattle.std.specs.Prelude.{◌&&◌}
use Rattle.std.proofs.Math.Nat.{mul-le-mul_left}
use Rattle.std.proofs.lemmas.List.{take_all}
use Rattle.std.proofs.lemmas.Bool.{le-leb, lt-leb}
use Rattle.std.proofs.lemmas.Nat.{pow-add}
use Rattle.number_specs.specs.Digits.{is_digit, numeral_from, numeral_of}
use Rattle.number_specs.specs.LogNumbers.{small_from}
use Rattle.frac128.proofs.RangeLemmas.{powers}
use Rattle.frac128.specs.Readings.{KeepsValue}

pub keeps_few : (number count value d : ℕ) → count < 9 → d < 10 → KeepsValue number count value → KeepsValue (number * 10 + d) (count + 1) (value * 10 + d)
keeps_few number count value d few small h =
    let e = h.exact (omega (arith, few)) in
    let most : 10 ^ count ≤ 10 ^ 8 = powers count 8 (omega (arith, few)) in
    record {
      exact = λ l. (omega (arith, e.0), omega (arith, pow-add 10 count 1, e.1, small));
      zero = (λ z. omega (arith, e.0, z), λ z. omega (arith, e.0, z));
      small = omega (arith, e.0, e.1, most, small);
    }

-- the bytes behind the first one
pub tail_is : (b : ℕ) (bs : List ℕ) → take (length (b ∷ bs) - 1) (drop 1 (b ∷ bs)) ≡ bs
tail_is b bs = take_all _ bs (omega arith)

-- what a loop over digits knows
pub record NumeralSoFar (bytes rest : List ℕ) (count value : ℕ) : Type 0 where
  pub number : ℕ
  pub same : numeral_of bytes ≡ numeral_from number count rest
  pub kept : KeepsValue number count value
  pub size : count + length rest ≡ length bytes

pub numeral_step : (bytes rest : List ℕ) (count value next : ℕ) → 1 ≤ length rest → is_digit (get_or rest 0 0) ≡ true →
    ((v : ℕ) → KeepsValue v count value → KeepsValue (v * 10 + (get_or rest 0 0 - 48)) (count + 1) next) →
    NumeralSoFar bytes rest count value → NumeralSoFar bytes (take (length rest - 1) (drop 1 rest)) (count + 1) next
numeral_step bytes [] count value next some digit step h = absurd (omega (arith, some))
numeral_step bytes (b ∷ bs) count value next some digit step h =
    let v = h.number in
    let same : numeral_from v count (b ∷ bs) ≡ numeral_from (v * 10 + (b - 48)) (count + 1) bs =
    ap (λ t. if t then numeral_from (v * 10 + (b - 48)) (count + 1) bs else record { value = v; count = count; rest = b ∷ bs }) digit in
    subst (λ r. NumeralSoFar bytes r (count + 1) next) (sym (tail_is b bs)) (record {
      number = v * 10 + (b - 48);
      same = h.same ∙ same;
      kept = step v h.kept;
      size = omega (arith, h.size);
    })

-- ---- exponents

none_of : (t : Bool) (x : Option ℕ) → x ≡ None → (if t then x else None) ≡ None
none_of true x e = e
none_of false x e = refl

pub small_long : (bytes : List ℕ) (v c : ℕ) → 4 < c + length bytes → small_from v c bytes ≡ None
small_long [] v c h = λ i. if le-leb 1 c (omega (arith, h)) i && lt-leb c 4 (omega (arith, h)) i then Some v else None
small_long (b ∷ bytes) v c h = none_of (is_digit b) (small_from (v * 10 + (b - 48)) (c + 1) bytes) (small_long bytes (v * 10 + (b - 48)) (c + 1) (omega (arith, h)))

-- ---- a literal

-- the digits before and behind a point
pub joined_fits : (n d k : ℕ) → n < 10 ^ 9 → d < 10 ^ 9 → k ≤ 9 → n * 10 ^ k + d < 2 ^ 64
joined_fits n d k hn hd le =
    let most : 10 ^ k ≤ 10 ^ 9 = powers k 9 le in
    let product : n * 10 ^ k ≤ n * 10 ^ 9 = mul-le-mul_left n most in
    omega (arith, product, hn, hd)
