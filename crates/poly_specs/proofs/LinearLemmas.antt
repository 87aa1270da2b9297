-- Laws of `dot`, of rows and of points.
use Rattle.std.proofs.Common.{◌≡◌, ℕ, ◌+◌, ◌<◌, List, [], ◌∷◌, ◌++◌, length, length-take, map, take, get_or, refl, sym, ◌∙◌, ap, subst, arith, ℤ, pos, negsuc, Bool, true, false, ◌||◌, ◌+ℤ◌, ◌*ℤ◌, ◌≤ℤ◌, ◌<ℤ◌}
use Rattle.std.proofs.lemmas.Int.{ints}
use Rattle.std.proofs.lemmas.List.{take_more}
use Rattle.poly_specs.proofs.IntLemmas.{products, expand, add_mul, mul_add, mul_le_pos, mul_le_cancel, mul_lt_pos, mul_lt_cancel, same_cancel}
use Rattle.poly_specs.specs.Lists.{scaled, dot}
use Rattle.poly_specs.specs.Rows.{Point, Row, SamePoint, row_value, Allows, Holds}

pub dot-nil : (cs : List ℤ) → dot cs [] ≡ pos 0
dot-nil [] = refl
dot-nil (c ∷ cs) = refl

pub dot-append : (cs ds ms ns : List ℤ) → length cs ≡ length ms → dot (cs ++ ds) (ms ++ ns) ≡ dot cs ms +ℤ dot ds ns
dot-append [] ds [] ns e = omega (arith, ints)
dot-append [] ds (m ∷ ms) ns e = absurd (omega arith)
dot-append (c ∷ cs) ds [] ns e = absurd (omega arith)
dot-append (c ∷ cs) ds (m ∷ ms) ns e = omega (arith, ints, dot-append cs ds ms ns (omega arith))

pub dot-scaled : (k : ℤ) (cs ns : List ℤ) → dot cs (scaled k ns) ≡ dot cs ns *ℤ k
dot-scaled k [] ns = omega (arith, ints)
dot-scaled k (c ∷ cs) [] = omega (arith, ints)
dot-scaled k (c ∷ cs) (n ∷ ns) = rw (add_mul (c *ℤ n) (dot cs ns) k) (omega (arith, products, dot-scaled k cs ns))

-- a multiple of one row's coefficients and a multiple of another's, added
pub dot-scaled_row : (k : ℤ) (cs ns : List ℤ) → dot (map (λ c. k *ℤ c) cs) ns ≡ k *ℤ dot cs ns
dot-scaled_row k [] ns = omega (arith, ints)
dot-scaled_row k (c ∷ cs) [] = omega (arith, ints)
dot-scaled_row k (c ∷ cs) (n ∷ ns) = rw (mul_add k (c *ℤ n) (dot cs ns)) (omega (arith, products, dot-scaled_row k cs ns))

-- the step of a loop over the columns
pub dot-take_more : (cs ns : List ℤ) (j : ℕ) → j < length cs → j < length ns →
    dot (take (j + 1) cs) (take (j + 1) ns) ≡ dot (take j cs) (take j ns) +ℤ get_or cs j (pos 0) *ℤ get_or ns j (pos 0)
dot-take_more cs ns j h k =
    rw (take_more cs j (pos 0), take_more ns j (pos 0))
    (dot-append (take j cs) _ (take j ns) _ (omega (arith, length-take j cs, length-take j ns)) ∙ omega (arith, ints))

-- ---- what a row allows

pub Allows-at_most : (s : Bool) (v : ℤ) → Allows s v → v ≤ℤ pos 0
Allows-at_most true v h = omega (arith, ints)
Allows-at_most false v h = h

pub Allows-below : (s : Bool) (v : ℤ) → v <ℤ pos 0 → Allows s v
Allows-below true v h = h
Allows-below false v h = omega (arith, ints)

pub Allows-scaled : (s : Bool) (k : ℕ) (v : ℤ) → 0 < k → Allows s v → Allows s (pos k *ℤ v)
Allows-scaled true k v p h = let m = mul_lt_pos k v (pos 0) p h in omega (arith, ints, m)
Allows-scaled false k v p h = let m = mul_le_pos k v (pos 0) h in omega (arith, ints, m)

pub Allows-cancel : (s : Bool) (k : ℕ) (v : ℤ) → 0 < k → Allows s (pos k *ℤ v) → Allows s v
Allows-cancel true k v p h = mul_lt_cancel k v (pos 0) (omega (arith, ints))
Allows-cancel false k v p h = mul_le_cancel k v (pos 0) p (omega (arith, ints))

Allows-sum : (s t : Bool) (v w : ℤ) → Allows s v → Allows t w → Allows (s || t) (v +ℤ w)
Allows-sum true t v w h g = let m = Allows-at_most t w g in omega (arith, ints, m)
Allows-sum false true v w h g = omega (arith, ints)
Allows-sum false false v w h g = omega (arith, ints)

-- a sum of positive multiples
pub Allows-mix : (s t : Bool) (k m : ℕ) (v w : ℤ) → 0 < k → 0 < m → Allows s v → Allows t w → Allows (s || t) (pos k *ℤ v +ℤ pos m *ℤ w)
Allows-mix s t k m v w hk hm h g =
    Allows-sum s t (pos k *ℤ v) (pos m *ℤ w) (Allows-scaled s k v hk h) (Allows-scaled t m w hm g)

-- the same where the first is any number that is at most 0
pub Allows-more : (s : Bool) (k m : ℕ) (v w : ℤ) → 0 < m → v ≤ℤ pos 0 → Allows s w → Allows s (pos k *ℤ v +ℤ pos m *ℤ w)
Allows-more s k m v w hm h g =
    Allows-sum false s (pos k *ℤ v) (pos m *ℤ w) (let n = mul_le_pos k v (pos 0) h in omega (arith, ints, n)) (Allows-scaled s m w hm g)

pub Allows-left : (s t : Bool) (v : ℤ) → Allows (s || t) v → Allows s v
Allows-left true t v h = h
Allows-left false t v h = Allows-at_most t v h

pub Allows-right : (s t : Bool) (v : ℤ) → Allows (s || t) v → Allows t v
Allows-right true t v h = Allows-below t v h
Allows-right false t v h = h

pub scaled_by : (s : Bool) (k v : ℤ) → pos 0 <ℤ k → Allows s v → Allows s (k *ℤ v)
scaled_by s (pos k) v p h = Allows-scaled s k v (omega (arith, ints)) h
scaled_by s (negsuc k) v p h = absurd (omega (arith, ints))

pub cancelled_by : (s : Bool) (k v : ℤ) → pos 0 <ℤ k → Allows s (k *ℤ v) → Allows s v
cancelled_by s (pos k) v p h = Allows-cancel s k v (omega (arith, ints)) h
cancelled_by s (negsuc k) v p h = absurd (omega (arith, ints))

-- a row holds at equal points alike
pub Holds-same_point : (r : Row) (p q : Point) → pos 0 <ℤ p.den → pos 0 <ℤ q.den → SamePoint p q → Holds r p → Holds r q
Holds-same_point r p q hp hq e h =
    let s : dot r.coef p.num *ℤ q.den ≡ dot r.coef q.num *ℤ p.den =
    sym (dot-scaled q.den r.coef p.num) ∙ ap (dot r.coef) e ∙ dot-scaled p.den r.coef q.num in
    let v : q.den *ℤ row_value r p ≡ p.den *ℤ row_value r q = simp expand (omega (arith, products, s)) in
    cancelled_by r.strict p.den (row_value r q) hp (subst (Allows r.strict) v (scaled_by r.strict q.den (row_value r p) hq h))

-- points that equal a third are equal
pub SamePoint-trans : (p q r : Point) → pos 0 <ℤ q.den → SamePoint p q → SamePoint q r → SamePoint p r
SamePoint-trans p q r hq e f = go p.num q.num r.num e f
  where
    go : (ps qs rs : List ℤ) → scaled q.den ps ≡ scaled p.den qs → scaled r.den qs ≡ scaled q.den rs → scaled r.den ps ≡ scaled p.den rs
    go [] [] [] e f = refl
    go [] [] (z ∷ rs) e f = cc
    go [] (y ∷ qs) rs e f = cc
    go (x ∷ ps) [] rs e f = cc
    go (x ∷ ps) (y ∷ qs) [] e f = cc
    go (x ∷ ps) (y ∷ qs) (z ∷ rs) e f =
        let a : x *ℤ q.den ≡ y *ℤ p.den = cc in
        let b : y *ℤ r.den ≡ z *ℤ q.den = cc in
        let c : q.den *ℤ (x *ℤ r.den) ≡ q.den *ℤ (z *ℤ p.den) = omega (arith, products, ap (λ n. n *ℤ r.den) a, ap (λ n. n *ℤ p.den) b) in
        let same : x *ℤ r.den ≡ z *ℤ p.den = same_cancel q.den (x *ℤ r.den) (z *ℤ p.den) hq c in
        let e' : scaled q.den ps ≡ scaled p.den qs = cc in
        let f' : scaled r.den qs ≡ scaled q.den rs = cc in
        let rest = go ps qs rs e' f' in cc
