-- The whole numbers within a cap, by the whole part of its end.
use Rattle.std.proofs.Common.{◌≡◌, ◌↔◌, Bool, true, false, not, Option, Some, None, sym, subst, arith, ℤ, pos, ◌+ℤ◌, ◌*ℤ◌, ◌≤ℤ◌, ◌<ℤ◌, neg_ℤ}
use Rattle.std.specs.Prelude.{MatchBool, MatchOption}
use Rattle.std.proofs.lemmas.Int.{ints, by_lt_z}
use Rattle.poly_specs.proofs.IntLemmas.{products, neg_mul, mul_le, mul_comm_int, product_positive}
use Rattle.poly_specs.specs.Fractions.{Fraction, IsFraction, opposite}
use Rattle.poly_specs.specs.Arithmetic.{IsKept}
use Rattle.poly_specs.specs.Bits.{FitsBits}
use Rattle.column_pick.proofs.RangeLemmas.{up_to_most}
use Rattle.column_pick.specs.Ranges.{parted, IsUpTo, IsUnder, whole, IsFloor, IsLeastWhole, HasNoWhole}
use Rattle.column_pick.specs.declared.ranges.Cap.{Cap}

-- ---- the whole part

-- m is at most the whole part exactly where m * by is at most the number
pub floor_at_least : (number by q m : ℤ) → pos 0 <ℤ by → IsFloor number by q → (m ≤ℤ q) ↔ ((m *ℤ by) ≤ℤ number)
floor_at_least number by q m hb f = (
  λ le. (let a = mul_le by m q hb le in omega (arith, ints, a, f.reached)),
  λ le. by_lt_z q m (λ lt. (
      let step : (q +ℤ pos 1) ≤ℤ m = omega (arith, ints, lt) in
      let a = mul_le by (q +ℤ pos 1) m hb step in
      absurd (omega (arith, ints, a, le, f.next, mul_comm_int by (q +ℤ pos 1), mul_comm_int by m)))) (λ at. at),
)

-- the next whole number is the least that exceeds the quotient
pub floor_next : (number by q m : ℤ) → pos 0 <ℤ by → IsFloor number by q → number <ℤ (m *ℤ by) → (q +ℤ pos 1) ≤ℤ m
floor_next number by q m hb f lt =
    by_lt_z q m (λ up. omega (arith, ints, up)) (λ le. (let a = (floor_at_least number by q m hb f).0 le in absurd (omega (arith, ints, a, lt))))

-- by two divisors, one after the other
pub floor_twice : (number a b p q : ℤ) → pos 0 <ℤ a → pos 0 <ℤ b → IsFloor number a p → IsFloor p b q → IsFloor number (a *ℤ b) q
floor_twice number a b p q ha hb f g = record {
  least = g.least;
  reached =
      let m = mul_le a (q *ℤ b) p ha g.reached in
      let e : q *ℤ (a *ℤ b) ≡ a *ℤ (q *ℤ b) = omega (arith, products) in
      omega (arith, ints, m, e, f.reached, mul_comm_int a p);
  next =
      let step : (p +ℤ pos 1) ≤ℤ ((q +ℤ pos 1) *ℤ b) = omega (arith, ints, g.next) in
      let m = mul_le a (p +ℤ pos 1) ((q +ℤ pos 1) *ℤ b) ha step in
      let e = moved (q +ℤ pos 1) in
      omega (arith, ints, m, e, f.next, mul_comm_int a (p +ℤ pos 1));
}
  where
    moved : (n : ℤ) → n *ℤ (a *ℤ b) ≡ a *ℤ (n *ℤ b)
    moved n = omega (arith, products)

-- ---- whole numbers within a cap

-- m within the cap of this end: m * by is at most j, which is the end's numerator, or one less where the end is open
pub whole_under : (o : Bool) (e : Fraction) (p j m : ℤ) → MatchBool o (j +ℤ pos 1 ≡ e.num) (j ≡ e.num) →
    IsUpTo o (parted p e) (whole m) ↔ ((m *ℤ (e.den *ℤ p)) ≤ℤ j)
whole_under true e p j m is = (λ h. omega (arith, ints, h, is), λ h. omega (arith, ints, h, is))
whole_under false e p j m is = (λ h. omega (arith, ints, h, is), λ h. omega (arith, ints, h, is))

-- -m within it: m * by exceeds k, which is the opposite of the end's numerator, or one less where the end is not open
pub opposite_under : (o : Bool) (e : Fraction) (p k m : ℤ) → MatchBool (not o) (k +ℤ pos 1 ≡ neg_ℤ e.num) (k ≡ neg_ℤ e.num) →
    IsUpTo o (parted p e) (opposite (whole m)) ↔ (k <ℤ (m *ℤ (e.den *ℤ p)))
opposite_under true e p k m is = let n = neg_mul m (e.den *ℤ p) in (λ h. omega (arith, ints, h, is, n), λ h. omega (arith, ints, h, is, n))
opposite_under false e p k m is = let n = neg_mul m (e.den *ℤ p) in (λ h. omega (arith, ints, h, is, n), λ h. omega (arith, ints, h, is, n))

pub least_whole : (near : Cap) (p k q : ℤ) → IsFraction near.end → pos 0 <ℤ p → MatchBool (not near.is_open) (k +ℤ pos 1 ≡ neg_ℤ near.end.num) (k ≡ neg_ℤ near.end.num) →
    IsFloor k (near.end.den *ℤ p) q → IsLeastWhole p near (q +ℤ pos 1)
least_whole near p k q he hp is f =
    let hd = product_positive near.end.den p he hp in
    record {
      above = let l = f.least in omega (arith, ints, l);
      inside = (opposite_under near.is_open near.end p k (q +ℤ pos 1) is).1 f.next;
      least = λ m h. floor_next k (near.end.den *ℤ p) q m hd f ((opposite_under near.is_open near.end p k m is).0 h);
    }

-- a cap whose end is not above 0 has no whole number above 0
pub none_under : (o : Bool) (e : Fraction) (p m : ℤ) → IsFraction e → pos 0 <ℤ p → pos 0 <ℤ m → e.num ≤ℤ pos 0 → IsUpTo o (parted p e) (whole m) → ⊥
none_under o e p m he hp hm le h =
    let most = up_to_most o (parted p e) (whole m) h in
    let up = product_positive m (e.den *ℤ p) hm (product_positive e.den p he hp) in
    omega (arith, ints, most, up, le)

-- whether the whole part tells it
pub tells_under : (cap : Cap) (p j q m : ℤ) → IsFraction cap.end → pos 0 <ℤ p → MatchBool cap.is_open (j +ℤ pos 1 ≡ cap.end.num) (j ≡ cap.end.num) →
    IsFloor j (cap.end.den *ℤ p) q → (m ≤ℤ q) ↔ IsUnder p (Some cap) (whole m)
tells_under cap p j q m he hp is f =
    let hd = product_positive cap.end.den p he hp in
    let a = floor_at_least j (cap.end.den *ℤ p) q m hd f in
    let b = whole_under cap.is_open cap.end p j m is in
    (λ le. b.1 (a.0 le), λ h. a.1 (b.0 h))

-- with a whole number above 0 a cap has the lesser ones
lesser_under : (o : Bool) (e : Fraction) (p n m : ℤ) → IsFraction e → pos 0 <ℤ p → n ≤ℤ m → IsUpTo o (parted p e) (whole m) → IsUpTo o (parted p e) (whole n)
lesser_under true e p n m he hp le h =
    let a = mul_le (e.den *ℤ p) n m (product_positive e.den p he hp) le in
    omega (arith, ints, a, h, mul_comm_int (e.den *ℤ p) n, mul_comm_int (e.den *ℤ p) m)
lesser_under false e p n m he hp le h =
    let a = mul_le (e.den *ℤ p) n m (product_positive e.den p he hp) le in
    omega (arith, ints, a, h, mul_comm_int (e.den *ℤ p) n, mul_comm_int (e.den *ℤ p) m)

-- where the least one is not within the other cap, no whole number is within both
pub none_in_both : (near far : Cap) (p n : ℤ) → IsFraction far.end → pos 0 <ℤ p → IsLeastWhole p near n → (IsUnder p (Some far) (whole n) → ⊥) → HasNoWhole p near far
none_in_both near far p n hf hp l out m h g = out (lesser_under far.is_open far.end p n m hf hp (l.least m h) g)

-- a whole number that passes 128 bits is within no cap whose end does not
passing_not_under : (far : Cap) (p n : ℤ) → IsKept far.end → pos 0 <ℤ p → pos 0 <ℤ n → (FitsBits n → ⊥) → IsUnder p (Some far) (whole n) → ⊥
passing_not_under far p n kept hp hn passes h =
    let most = up_to_most far.is_open (parted p far.end) (whole n) h in
    let hd = product_positive far.end.den p kept.positive hp in
    let a = mul_le n (pos 1) (far.end.den *ℤ p) hn (omega (arith, ints, hd)) in
    let fits = kept.num_fits in
    passes (omega (arith, ints, most, a, fits, hn))

-- what is said of the nearest one
abbrev NearestSays : Cap → Cap → ℤ → Option ℤ → Type 0
NearestSays near far p o = MatchOption o (HasNoWhole p near far) (λ n. IsLeastWhole p near n × IsUnder p (Some far) (whole n))

pub passing_nearest : (near far : Cap) (p n : ℤ) (o : Option ℤ) → o ≡ None → IsKept far.end → pos 0 <ℤ p → IsLeastWhole p near n → (FitsBits n → ⊥) → NearestSays near far p o
passing_nearest near far p n o e kept hp l passes =
    subst (NearestSays near far p) (sym e) (none_in_both near far p n kept.positive hp l (passing_not_under far p n kept hp l.above passes))
