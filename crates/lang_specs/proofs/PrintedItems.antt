-- The canonical tokens of what tokens spell: they spell the same, and can be written. Numbers, expressions and constraints.
use Rattle.std.proofs.Common.{◌≡◌, inl, inr, ℕ, zero, suc, Bool, true, false, if◌then◌else◌, ℤ, pos, negsuc, List, [], ◌∷◌, ◌++◌, Option, Some, None, refl, sym, ap, ◌∙◌, subst, append-nil, arith}
use Rattle.std.proofs.lemmas.Bool.{lt-leb}
use Rattle.std.proofs.lemmas.Int.{ints}
use Rattle.std.specs.List.{flat_map}
use Rattle.std.specs.Ordering.{int_eq}
use Rattle.std.proofs.lemmas.Bool.Decides.{Decides-int_eq}
use Rattle.poly_specs.specs.Fractions.{Fraction}
use Rattle.number_specs.specs.FractionTexts.{fraction_text}
use Rattle.number_specs.specs.Literals.{read_literal, IsLiteralNumber}
use Rattle.number_specs.proofs.LiteralLemmas.{literals_are, literals_back}
use Rattle.lang_specs.specs.declared.Kind.TheVariants as kinds
use Rattle.lang_specs.specs.declared.Sign.{Sign}
use Rattle.lang_specs.specs.declared.Sign.TheVariants as signs
use Rattle.lang_specs.specs.Marks.{Mark, has_text, the, a_name}
use Rattle.lang_specs.specs.Limits.{is_in_range}
use Rattle.lang_specs.specs.Trees.{Term, RowTree}
use Rattle.lang_specs.specs.Expressions.{AreJoined, IsValue, IsLiteral, IsNum, minus_if, signed, one, IsFactor, minus_or_plus, AreMoreTerms, IsExpr, sign_mark, IsAllowed, IsRow, AreRows, IsBetween}
use Rattle.lang_specs.specs.Canonical.{joined, number_tokens, num_tokens, is_one, factor_tokens, more_term_tokens, expr_tokens, row_tokens, rows_tokens, between_tokens}
use Rattle.lang_specs.proofs.SplitLemmas.{HeadIn, apart, both_left, both_right, head_front}
use Rattle.lang_specs.proofs.EachLemmas.{Each, each_front, each_rest}
use Rattle.lang_specs.proofs.CutLemmas.{AreWritable, writable_append}
use Rattle.lang_specs.proofs.SoundLemmas.{IsSound}

-- each name is one, and each literal is read
abbrev pub AreSound : List Mark → Type 0
AreSound ms = Each (λ m. IsSound m.kind m.text) ms

abbrev SoundMark : Mark → Type 0
SoundMark m = IsSound m.kind m.text

pub sound_front : (xs ys : List Mark) → AreSound (xs ++ ys) → AreSound xs
sound_front xs ys h = each_front SoundMark xs ys h

pub sound_rest : (xs ys : List Mark) → AreSound (xs ++ ys) → AreSound ys
sound_rest xs ys h = each_rest SoundMark xs ys h

-- ---- numbers

value_number : (text : List ℕ) (v : Fraction) → IsValue text v → is_in_range (read_literal text) ≡ true → IsLiteralNumber v
value_number text v (inl e) h = literals_are text v e
value_number text v (inr e) h = apart (sym h ∙ ap is_in_range e)

pub literal_number : (ms : List Mark) (v : Fraction) → IsLiteral ms v → AreSound ms → IsLiteralNumber v
literal_number ms v (text, e, h) sound = value_number text v h (subst AreSound e sound).0

pub number_is : (v : Fraction) → IsLiteralNumber v → IsLiteral (number_tokens v) v
number_is v h = (fraction_text v, refl, inl (literals_back v h))

pub number_writable : (v : Fraction) → IsLiteralNumber v → AreWritable (number_tokens v)
number_writable v h = ((v, refl, h), tt, tt)

-- what is printed of a thing spells it, and can be written
abbrev pub IsPrinted : {X : Type 0} → (List Mark → X → Type 0) → (X → List Mark) → X → Type 0
IsPrinted Is tokens x = Is (tokens x) x × AreWritable (tokens x)

pub literal_printed : (ms : List Mark) (v : Fraction) → IsLiteral ms v → AreSound ms → IsPrinted IsLiteral number_tokens v
literal_printed ms v h sound = let n = literal_number ms v h sound in (number_is v n, number_writable v n)

-- a literal number, and its opposite
signed_printed : (neg : Bool) (n d : ℤ) → IsLiteralNumber (record { num = n; den = d }) → IsPrinted IsNum num_tokens (signed neg (record { num = n; den = d }))
signed_printed false (pos m) d h =
    let size : Fraction = record { num = pos m; den = d } in
    let plain : num_tokens size ≡ number_tokens size = ap (λ t. minus_if t ++ number_tokens size) (lt-leb (suc m) 0 (omega arith)) in
    ((false, size, number_tokens size, plain, number_is size h, refl), subst AreWritable (sym plain) (number_writable size h))
signed_printed true (pos zero) d h =
    let size : Fraction = record { num = pos zero; den = d } in ((false, size, number_tokens size, refl, number_is size h, refl), number_writable size h)
signed_printed true (pos (suc m)) d h =
    let size : Fraction = record { num = pos (suc m); den = d } in
    ((true, size, number_tokens size, refl, number_is size h, refl), (refl, refl, number_writable size h))
signed_printed neg (negsuc m) d h = absurd (omega (arith, ints, h.at_least_zero))

pub num_printed : (ms : List Mark) (v : Fraction) → IsNum ms v → AreSound ms → IsPrinted IsNum num_tokens v
num_printed ms v (neg, size, front, e, lit, same) sound =
    let number = literal_number front size lit (sound_rest (minus_if neg) front (subst AreSound e sound)) in
    subst (IsPrinted IsNum num_tokens) (sym same) (signed_printed neg size.num size.den number)

-- ---- expressions

one_is : (v : Fraction) → is_one v ≡ true → v ≡ one
one_is v h =
    let num : v.num ≡ pos 1 = (Decides-int_eq v.num (pos 1)).0 (both_left (int_eq v.num (pos 1)) (int_eq v.den (pos 1)) h) in
    let den : v.den ≡ pos 1 = (Decides-int_eq v.den (pos 1)).0 (both_right (int_eq v.num (pos 1)) (int_eq v.den (pos 1)) h) in
    ap (λ z. record { num = z; den = v.den }) num ∙ ap (λ z. record { num = pos 1; den = z }) den

-- a printed factor; it begins with a name or a number
pub record IsPrintedFactor (v : Fraction) (var : Option (List ℕ)) (ms : List Mark) : Type 0 where
  pub is : IsFactor ms v var
  pub writable : AreWritable ms
  pub head : HeadIn has_text ms

abbrev name_factor : Bool → Fraction → List ℕ → List Mark
name_factor b v name = if b then a_name name ∷ [] else number_tokens v ++ the kinds.Times ∷ a_name name ∷ []

times_printed : (b : Bool) (v : Fraction) (name : List ℕ) → is_one v ≡ b → IsLiteralNumber v → IsSound kinds.Name name →
    IsPrintedFactor v (Some name) (name_factor b v name)
times_printed true v name e h n = record { is = inr (refl, one_is v e); writable = (n, tt, tt); head = refl }
times_printed false v name e h n = record {
  is = inl (number_tokens v, refl, number_is v h);
  writable = ((v, refl, h), tt, (refl, tt, (n, tt, tt)));
  head = refl;
}

pub factor_printed : (ms : List Mark) (v : Fraction) (var : Option (List ℕ)) → IsFactor ms v var → AreSound ms → IsPrintedFactor v var (factor_tokens v var)
factor_printed ms v None h sound =
    let n = literal_number ms v h sound in record { is = number_is v n; writable = number_writable v n; head = refl }
factor_printed ms v (Some name) (inl (front, e, h)) sound =
    let parts = subst AreSound e sound in
    let n = literal_number front v h (sound_front front (the kinds.Times ∷ a_name name ∷ []) parts) in
    times_printed (is_one v) v name refl n (sound_rest front (the kinds.Times ∷ a_name name ∷ []) parts).1.0
factor_printed ms v (Some name) (inr (e, same)) sound =
    let name_is = (subst AreSound e sound).0 in
    subst (λ z. IsPrintedFactor z (Some name) (factor_tokens z (Some name))) (sym same)
    (record { is = inr (refl, refl); writable = (name_is, tt, tt); head = refl })

joint_writable : (neg : Bool) (ms : List Mark) → HeadIn has_text ms → AreWritable ms → AreWritable (minus_or_plus neg ∷ ms)
joint_writable true ms h w = (refl, h, w)
joint_writable false ms h w = (refl, tt, w)

lead_writable : (neg : Bool) (ms : List Mark) → HeadIn has_text ms → AreWritable ms → AreWritable (minus_if neg ++ ms)
lead_writable true ms h w = (refl, h, w)
lead_writable false ms h w = w

abbrev pub more_tokens : List Term → List Mark
more_tokens ts = flat_map more_term_tokens ts

more_printed : (ms : List Mark) (ts : List Term) → AreMoreTerms ms ts → AreSound ms → IsPrinted AreMoreTerms more_tokens ts
more_printed ms [] h sound = (refl, tt)
more_printed ms (t ∷ ts) (front, rest, e, h, k) sound =
    let parts = subst AreSound e sound in
    let factor = factor_printed front t.value t.var h (sound_front front rest parts.1) in
    let others = more_printed rest ts k (sound_rest front rest parts.1) in
    let tokens : List Mark = factor_tokens t.value t.var in (
      (tokens, more_tokens ts, refl, factor.is, others.0),
      joint_writable t.neg (tokens ++ more_tokens ts) (head_front has_text tokens (more_tokens ts) factor.head)
          (writable_append tokens (more_tokens ts) factor.writable others.1),
    )

pub expr_printed : (ms : List Mark) (ts : List Term) → IsExpr ms ts → AreSound ms → IsPrinted IsExpr expr_tokens ts
expr_printed ms [] h sound = absurd h
expr_printed ms (t ∷ ts) (front, rest, e, h, k) sound =
    let parts = subst AreSound e sound in
    let factor = factor_printed front t.value t.var h (sound_rest (minus_if t.neg) front (sound_front (minus_if t.neg ++ front) rest parts)) in
    let others = more_printed rest ts k (sound_rest (minus_if t.neg ++ front) rest parts) in
    let tokens : List Mark = factor_tokens t.value t.var in (
      (tokens, more_tokens ts, refl, factor.is, others.0),
      writable_append (minus_if t.neg ++ tokens) (more_tokens ts) (lead_writable t.neg tokens factor.head factor.writable) others.1,
    )

-- ---- constraints

sign_writable : (s : Sign) (ms : List Mark) → AreWritable ms → AreWritable (sign_mark s ∷ ms)
sign_writable signs.AtMost ms w = (refl, tt, w)
sign_writable signs.AtLeast ms w = (refl, tt, w)
sign_writable signs.Equal ms w = (refl, tt, w)
sign_writable signs.Less ms w = (refl, tt, w)
sign_writable signs.Greater ms w = (refl, tt, w)

-- where the constraint's sign may stand before, it may stand now
abbrev pub IsLet : Bool → Bool → RowTree → Type 0
IsLet strict other r = IsAllowed strict r.sign → IsAllowed other r.sign

pub row_printed : (strict other : Bool) (ms : List Mark) (r : RowTree) → IsLet strict other r → IsRow strict ms r → AreSound ms →
    IsPrinted (IsRow other) row_tokens r
row_printed strict other ms r lets (front, rest, e, h, i, k) sound =
    let parts = subst AreSound e sound in
    let left = expr_printed front r.left h (sound_front front (sign_mark r.sign ∷ rest) parts) in
    let right = expr_printed rest r.right k (sound_rest front (sign_mark r.sign ∷ rest) parts).1 in (
      (expr_tokens r.left, expr_tokens r.right, refl, left.0, lets i, right.0),
      writable_append (expr_tokens r.left) (sign_mark r.sign ∷ expr_tokens r.right) left.1 (sign_writable r.sign (expr_tokens r.right) right.1),
    )

-- ---- lists with commas

module _ {X : Type 0} (Is To : List Mark → X → Type 0) (tokens : X → List Mark) (P : X → Type 0)
    (each : (ms : List Mark) (x : X) → P x → Is ms x → AreSound ms → IsPrinted To tokens x) where
  pub joined_printed : (ms : List Mark) (xs : List X) → Each P xs → AreJoined Is ms xs → AreSound ms → IsPrinted (AreJoined To) (joined tokens) xs
  joined_printed ms [] p h sound = absurd h
  joined_printed ms (x ∷ []) p h sound =
      let item = each ms x p.0 h sound in
      (subst (λ z. To z x) (sym (append-nil (tokens x))) item.0, subst AreWritable (sym (append-nil (tokens x))) item.1)
  joined_printed ms (x ∷ y ∷ xs) p (front, rest, e, h, k) sound =
      let parts = subst AreSound e sound in
      let item = each front x p.0 h (sound_front front (the kinds.Comma ∷ rest) parts) in
      let others = joined_printed rest (y ∷ xs) p.1 k (sound_rest front (the kinds.Comma ∷ rest) parts).1 in (
        (tokens x, joined tokens (y ∷ xs), refl, item.0, others.0),
        writable_append (tokens x) (the kinds.Comma ∷ joined tokens (y ∷ xs)) item.1 (refl, tt, others.1),
      )

pub rows_printed : (strict other : Bool) (ms : List Mark) (rs : List RowTree) → Each (IsLet strict other) rs → AreRows strict ms rs → AreSound ms →
    IsPrinted (AreRows other) rows_tokens rs
rows_printed strict other ms [] lets h sound = (refl, (refl, tt, tt))
rows_printed strict other ms (r ∷ rs) lets h sound =
    joined_printed (IsRow strict) (IsRow other) row_tokens (IsLet strict other) (row_printed strict other) ms (r ∷ rs) lets h sound

-- ---- two things in brackets

pub between_printed : {X : Type 0} (Is : List Mark → X → Type 0) (tokens : X → List Mark) →
    ((ms : List Mark) (x : X) → Is ms x → AreSound ms → IsPrinted Is tokens x) → (ms : List Mark) (lo hi : X) → IsBetween Is ms lo hi → AreSound ms →
    IsBetween Is (between_tokens tokens lo hi) lo hi × AreWritable (between_tokens tokens lo hi)
between_printed Is tokens each ms lo hi (front, rest, e, h, k) sound =
    let parts = subst AreSound e sound in
    let inner = sound_front (the kinds.Open ∷ front ++ the kinds.Comma ∷ rest) (the kinds.Close ∷ []) parts in
    let low = each front lo h (sound_front front (the kinds.Comma ∷ rest) inner.1) in
    let high = each rest hi k (sound_rest front (the kinds.Comma ∷ rest) inner.1).1 in (
      (tokens lo, tokens hi, refl, low.0, high.0),
      writable_append (the kinds.Open ∷ tokens lo ++ the kinds.Comma ∷ tokens hi) (the kinds.Close ∷ [])
          (refl, tt, writable_append (tokens lo) (the kinds.Comma ∷ tokens hi) low.1 (refl, tt, high.1)) (refl, tt, tt),
    )
