-- What lines write, and what fields they have.
use Rattle.std.proofs.Common.{◌≡◌, ℕ, zero, suc, ◌^◌, ◌<◌, ◌≤◌, Bool, true, false, cond, ◌&&◌, ◌==◌, List, [], ◌∷◌, ◌++◌, length, map, Option, Some, None, refl, sym, ◌∙◌, ap, ap₂, subst, arith, ℤ, pos, negsuc, ◌≤ℤ◌, unsigned_abs, append_assoc, All, rules}
use Rattle.std.specs.Prelude.{decimal, codes, flat_map, Result, Ok, Err, IfOk}
use Rattle.std.specs.Fmt.{signed_decimal}
use Rattle.std.specs.List.{list_all, join_with_byte}
use Rattle.std.specs.Str.Parse.{signed_digits_value}
use Rattle.std.proofs.lemmas.Bool.{ltb-true, le-ltb, lt-leb, le-leb}
use Rattle.std.proofs.lemmas.Int.{ints, to_z-of_z}
use Rattle.std.specs.Int.{w128}
use mir.Val.{to_z, of_z, SFits}
use Rattle.std.proofs.lemmas.List.Splits.{slice_split_none, join_with_byte-slice_split}
use Rattle.poly_specs.specs.Bits.{FitsBits}
use Rattle.replay_specs.proofs.IntegerTexts.{both_true, integer_text, integer_value, no_integer, integer_lacks, space_is_foreign, some_is}
use Rattle.replay_specs.proofs.RunTextLines.{fits_short, value_fields}
use Rattle.replay_specs.specs.RunTexts.{gap_line, at_line, AreWritableValues}
use Rattle.replay_specs.specs.RunTextFaults.{Place, Refused, Outside, StartLine, is_integer, integer_of, integer_in, integer_behind, integers_in, integers_behind, with_integer, integers_of, fields_of, behind, is_positive, is_code, is_kept, if_within, gap_step, at_step}

-- ---- one integer

pub no_single : (word line text : List ℕ) → Some text ≡ behind word line → is_integer text ≡ false → integer_behind word line ≡ None
no_single word line text e h = ap integer_in (sym e) ∙ no_integer text h

pub one_single : (word line text : List ℕ) → Some text ≡ behind word line → is_integer text ≡ true → integer_behind word line ≡ Some (signed_digits_value 10 text)
one_single word line text e h = ap integer_in (sym e) ∙ integer_value text h

-- the text of an integer, which is its value's
pub text_of : (text : List ℕ) (z : ℤ) → is_integer text ≡ true → signed_digits_value 10 text ≡ z → unsigned_abs z < 10 ^ 64 → text ≡ signed_decimal z
text_of text z h e small = integer_text text z (integer_value text h ∙ ap Some e) small

pub integer_line : (word line text : List ℕ) (z : ℤ) → line ≡ word ++ text → is_integer text ≡ true → signed_digits_value 10 text ≡ z → unsigned_abs z < 10 ^ 64 →
    line ≡ word ++ signed_decimal z
integer_line word line text z e h v small = e ∙ ap (λ t. word ++ t) (text_of text z h v small)

pub positive_count : (z : ℤ) (n : ℕ) → is_positive z ≡ true → z ≡ pos n → 1 ≤ n
positive_count z n h e = omega (arith, ltb-true 0 n (sym (ap is_positive e) ∙ h))

pub positive_int : (z : ℤ) → is_positive z ≡ true → pos 1 ≤ℤ z
positive_int (pos n) h = omega (arith, ints, ltb-true 0 n h)
positive_int (negsuc n) h = absurd (let f : ⊥ = cc in f)

-- ---- the two integers of a gap

one_refused : (n : ℕ) (a : Option ℤ) → gap_step n (with_integer a (Some [])) ≡ Refused
one_refused n None = refl
one_refused n (Some z) = refl

more_refused : (n : ℕ) (a b c : Option ℤ) (rest : Option (List ℤ)) → gap_step n (with_integer a (with_integer b (with_integer c rest))) ≡ Refused
more_refused n None b c rest = refl
more_refused n (Some x) None c rest = refl
more_refused n (Some x) (Some y) None rest = refl
more_refused n (Some x) (Some y) (Some z) None = refl
more_refused n (Some x) (Some y) (Some z) (Some zs) = refl

second_refused : (n : ℕ) (a : Option ℤ) → gap_step n (with_integer a (with_integer None (Some []))) ≡ Refused
second_refused n None = refl
second_refused n (Some x) = refl

-- fields are joined by spaces to the bytes
single_field : (bytes field : List ℕ) → fields_of bytes ≡ field ∷ [] → bytes ≡ field
single_field bytes field e = sym (join_with_byte-slice_split 32 bytes) ∙ ap (join_with_byte 32) e

no_field : (bytes : List ℕ) → fields_of bytes ≡ [] → ⊥
no_field bytes e =
    let none : bytes ≡ [] = sym (join_with_byte-slice_split 32 bytes) ∙ ap (join_with_byte 32) e in
    let both : [] ∷ [] ≡ [] = sym (ap fields_of none) ∙ e in cc

after_refused : (n : ℕ) (a : Option ℤ) (bytes : List ℕ) (fields : List (List ℕ)) → fields_of bytes ≡ fields → is_integer bytes ≡ false →
    gap_step n (with_integer a (integers_of fields)) ≡ Refused
after_refused n a bytes [] e h = absurd (no_field bytes e)
after_refused n a bytes (field ∷ []) e h =
    ap (λ t. gap_step n (with_integer a (with_integer t (Some [])))) (ap integer_of (sym (single_field bytes field e)) ∙ no_integer bytes h) ∙ second_refused n a
after_refused n a bytes (field ∷ other ∷ fields) e h = more_refused n a (integer_of field) (integer_of other) (integers_of fields)

pub gap_of_one : (n : ℕ) (line rest : List ℕ) → Some rest ≡ behind (codes "gap ") line → fields_of rest ≡ rest ∷ [] → gap_step n (integers_behind (codes "gap ") line) ≡ Refused
gap_of_one n line rest e f = ap (λ t. gap_step n (integers_in t)) (sym e) ∙ ap (λ t. gap_step n (integers_of t)) f ∙ one_refused n (integer_of rest)

pub gap_of_none : (n : ℕ) (line : List ℕ) → None ≡ behind (codes "gap ") line → gap_step n (integers_behind (codes "gap ") line) ≡ Refused
gap_of_none n line e = ap (λ t. gap_step n (integers_in t)) (sym e)

pub gap_of_other : (n : ℕ) (line rest before after : List ℕ) → Some rest ≡ behind (codes "gap ") line → fields_of rest ≡ before ∷ fields_of after →
    is_integer before ≡ false → gap_step n (integers_behind (codes "gap ") line) ≡ Refused
gap_of_other n line rest before after e f h =
    ap (λ t. gap_step n (integers_in t)) (sym e) ∙ ap (λ t. gap_step n (integers_of t)) f
    ∙ ap (λ t. gap_step n (with_integer t (integers_of (fields_of after)))) (no_integer before h)

pub gap_of_more : (n : ℕ) (line rest before after : List ℕ) → Some rest ≡ behind (codes "gap ") line → fields_of rest ≡ before ∷ fields_of after →
    is_integer after ≡ false → gap_step n (integers_behind (codes "gap ") line) ≡ Refused
gap_of_more n line rest before after e f h =
    ap (λ t. gap_step n (integers_in t)) (sym e) ∙ ap (λ t. gap_step n (integers_of t)) f
    ∙ after_refused n (integer_of before) after (fields_of after) refl h

-- a field that is an integer has no space
pub integer_field : (text : List ℕ) → is_integer text ≡ true → fields_of text ≡ text ∷ []
integer_field text h = slice_split_none (λ b. b == 32) text (integer_lacks 32 text (signed_digits_value 10 text) space_is_foreign (integer_value text h))

pub gap_pair : (line rest before after : List ℕ) → Some rest ≡ behind (codes "gap ") line → fields_of rest ≡ before ∷ fields_of after →
    is_integer before ≡ true → is_integer after ≡ true →
    integers_behind (codes "gap ") line ≡ Some (signed_digits_value 10 before ∷ signed_digits_value 10 after ∷ [])
gap_pair line rest before after e f h k =
    ap integers_in (sym e) ∙ ap integers_of (f ∙ ap (λ t. before ∷ t) (integer_field after k))
    ∙ ap₂ (λ a b. with_integer a (with_integer b (Some []))) (integer_value before h) (integer_value after k)

pub gap_below : (n : ℕ) (line : List ℕ) (den loc : ℤ) → integers_behind (codes "gap ") line ≡ Some (den ∷ loc ∷ []) → is_positive den ≡ false →
    gap_step n (integers_behind (codes "gap ") line) ≡ Refused
gap_below n line den loc e h = ap (gap_step n) e ∙ ap (λ t. cond t (if_within (is_kept den && is_code loc) (StartLine n)) Refused) h

not_code : (z : ℤ) → ((n : ℕ) → z ≡ pos n → 256 ≤ n) → is_code z ≡ false
not_code (pos n) h = le-ltb n 256 (h n refl)
not_code (negsuc n) h = refl

and_false : (a b : Bool) → b ≡ false → a && b ≡ false
and_false true b h = h
and_false false b h = refl

pub gap_code : (n : ℕ) (line : List ℕ) (den loc : ℤ) → integers_behind (codes "gap ") line ≡ Some (den ∷ loc ∷ []) → is_positive den ≡ true →
    ((m : ℕ) → loc ≡ pos m → 256 ≤ m) → gap_step n (integers_behind (codes "gap ") line) ≡ Outside
gap_code n line den loc e h k =
    ap (gap_step n) e ∙ ap (λ t. cond t (if_within (is_kept den && is_code loc) (StartLine n)) Refused) h
    ∙ ap (λ t. if_within t (StartLine n)) (and_false (is_kept den) (is_code loc) (not_code loc k))

pub gap_text : (line before after : List ℕ) (den : ℤ) (loc : ℕ) → line ≡ codes "gap " ++ (before ++ 32 ∷ after) → is_integer before ≡ true → is_integer after ≡ true →
    signed_digits_value 10 before ≡ den → signed_digits_value 10 after ≡ pos loc → FitsBits den → loc < 256 → line ≡ gap_line den loc
gap_text line before after den loc e h k v w fits small =
    e ∙ ap₂ (λ x y. codes "gap " ++ (x ++ 32 ∷ y)) (text_of before den h v (fits_short den fits)) (text_of after (pos loc) k w (omega (arith, small)))
    ∙ ap (λ t. codes "gap " ++ t) (sym (append_assoc (signed_decimal den) (codes " ") (decimal loc)))

-- ---- the values of a line

not_all : (field : List ℕ) (t : Bool) (fields : List (List ℕ)) → is_integer field ≡ t → t && list_all is_integer fields ≡ false →
    (list_all is_integer fields ≡ false → integers_of fields ≡ None) → with_integer (integer_of field) (integers_of fields) ≡ None
not_all field false fields e h later = ap (λ a. with_integer a (integers_of fields)) (no_integer field e)
not_all field true fields e h later =
    ap₂ with_integer (integer_value field e) (later h)

pub some_other : (fields : List (List ℕ)) → list_all is_integer fields ≡ false → integers_of fields ≡ None
some_other [] h = absurd (let f : ⊥ = cc in f)
some_other (field ∷ fields) h = not_all field (is_integer field) fields refl h (some_other fields)

pub values_of : List (List ℕ) → List ℤ
values_of [] = []
values_of (field ∷ fields) = signed_digits_value 10 field ∷ values_of fields

pub all_integers : (fields : List (List ℕ)) → list_all is_integer fields ≡ true → integers_of fields ≡ Some (values_of fields)
unfolding values_of
all_integers [] h = refl
all_integers (field ∷ fields) h =
    let parts = both_true (is_integer field) (list_all is_integer fields) h in
    ap₂ with_integer (integer_value field parts.0) (all_integers fields parts.1)

pub length-values_of : (fields : List (List ℕ)) → length (values_of fields) ≡ length fields
unfolding values_of
length-values_of [] = refl
length-values_of (field ∷ fields) = ap suc (length-values_of fields)

pub at_of_none : (next : Place) (line : List ℕ) → None ≡ behind (codes "at ") line → at_step next (integers_behind (codes "at ") line) ≡ Refused
at_of_none next line e = ap (λ t. at_step next (integers_in t)) (sym e)

pub at_of_other : (next : Place) (line rest : List ℕ) → Some rest ≡ behind (codes "at ") line → list_all is_integer (fields_of rest) ≡ false →
    at_step next (integers_behind (codes "at ") line) ≡ Refused
at_of_other next line rest e h = ap (λ t. at_step next (integers_in t)) (sym e) ∙ ap (at_step next) (some_other (fields_of rest) h)

pub at_of_many : (next : Place) (line rest : List ℕ) → Some rest ≡ behind (codes "at ") line → list_all is_integer (fields_of rest) ≡ true →
    6 < length (fields_of rest) → at_step next (integers_behind (codes "at ") line) ≡ Refused
at_of_many next line rest e h many =
    let values : List ℤ = values_of (fields_of rest) in
    let is : length values ≡ length (fields_of rest) = length-values_of (fields_of rest) in
    ap (λ t. at_step next (integers_in t)) (sym e) ∙ ap (at_step next) (all_integers (fields_of rest) h)
    ∙ ap (λ t. cond t (if_within (list_all is_kept values) next) Refused) (lt-leb (length values) 6 (omega (arith, many, is)))

pub fits_stays : (z : ℤ) → FitsBits z → to_z w128 (of_z w128 z) ≡ z
fits_stays z h = to_z-of_z w128 z (fits_sfits z h)
  where
    fits_sfits : (y : ℤ) → FitsBits y → SFits w128 y
    fits_sfits (pos m) h = search rules
    fits_sfits (negsuc m) h = search rules

-- the values of the fields, those that were read and those that are left
pub record ValuesSoFar (bytes rest : List ℕ) (values : List ℤ) : Type 0 where
  pub all : list_all is_integer (fields_of rest) ≡ true
  pub whole : values_of (fields_of bytes) ≡ values ++ values_of (fields_of rest)
  pub fit : All FitsBits values

pub values_begin : (bytes : List ℕ) → list_all is_integer (fields_of bytes) ≡ true → ValuesSoFar bytes bytes []
values_begin bytes h = record { all = h; whole = refl; fit = λ k d lt. absurd (omega (arith, lt)) }

fit_more : (values : List ℤ) (z : ℤ) → All FitsBits values → FitsBits z → All FitsBits (values ++ z ∷ [])
fit_more [] z h f zero d lt = f
fit_more [] z h f (suc k) d lt = absurd (omega (arith, lt))
fit_more (v ∷ values) z h f zero d lt = h 0 v (omega arith)
fit_more (v ∷ values) z h f (suc k) d lt = fit_more values z (λ j e l. h (suc j) e (omega (arith, l))) f k d (omega (arith, lt))

pub values_step : (bytes rest before after : List ℕ) (values : List ℤ) (z : ℤ) → ValuesSoFar bytes rest values → fields_of rest ≡ before ∷ fields_of after →
    z ≡ signed_digits_value 10 before → FitsBits z → ValuesSoFar bytes after (values ++ z ∷ [])
unfolding values_of
values_step bytes rest before after values z h f e fits =
    let all : list_all is_integer (before ∷ fields_of after) ≡ true = subst (λ t. list_all is_integer t ≡ true) f h.all in
    record {
      all = (both_true (is_integer before) (list_all is_integer (fields_of after)) all).1;
      whole = h.whole ∙ ap (λ t. values ++ values_of t) f ∙ ap (λ x. values ++ x ∷ values_of (fields_of after)) (sym e)
          ∙ sym (append_assoc values (z ∷ []) (values_of (fields_of after)));
      fit = fit_more values z h.fit fits;
    }

pub values_end : (bytes rest : List ℕ) (values : List ℤ) (z : ℤ) → list_all is_integer (fields_of bytes) ≡ true → ValuesSoFar bytes rest values → fields_of rest ≡ rest ∷ [] →
    z ≡ signed_digits_value 10 rest → FitsBits z → (integers_of (fields_of bytes) ≡ Some (values ++ z ∷ [])) × All FitsBits (values ++ z ∷ [])
unfolding values_of
values_end bytes rest values z all h f e fits =
    (all_integers (fields_of bytes) all ∙ ap Some (h.whole ∙ ap (λ t. values ++ values_of t) f ∙ ap (λ x. values ++ x ∷ []) (sym e)), fit_more values z h.fit fits)

-- one value passes
passes_in : (values : List ℤ) (z : ℤ) (more : List ℤ) → (FitsBits z → ⊥) → list_all is_kept (values ++ z ∷ more) ≡ false
passes_in [] z more h = ap (λ t. t && list_all is_kept more) (le-ltb (unsigned_abs z) (2 ^ 127) (not_fit (unsigned_abs z) h))
  where
    not_fit : (n : ℕ) → (n < 2 ^ 127 → ⊥) → 2 ^ 127 ≤ n
    not_fit n k = omega (arith, k)
passes_in (v ∷ values) z more h = and_false (is_kept v) (list_all is_kept (values ++ z ∷ more)) (passes_in values z more h)

pub values_pass : (next : Place) (bytes rest before : List ℕ) (fields : List (List ℕ)) (values : List ℤ) → list_all is_integer (fields_of bytes) ≡ true → ValuesSoFar bytes rest values →
    fields_of rest ≡ before ∷ fields → (FitsBits (signed_digits_value 10 before) → ⊥) → length (fields_of bytes) ≤ 6 → at_step next (integers_of (fields_of bytes)) ≡ Outside
unfolding values_of
values_pass next bytes rest before fields values all h f passes few =
    let read : List ℤ = values_of (fields_of bytes) in
    let same : length read ≡ length (fields_of bytes) = length-values_of (fields_of bytes) in
    ap (at_step next) (all_integers (fields_of bytes) all)
    ∙ ap (λ t. cond t (if_within (list_all is_kept read) next) Refused) (le-leb (length read) 6 (omega (arith, same, few)))
    ∙ ap (λ t. if_within t next)
    (ap (list_all is_kept) (h.whole ∙ ap (λ t. values ++ values_of t) f) ∙ passes_in values (signed_digits_value 10 before) (values_of fields) passes)

-- ---- the text of a line of values

read_fields : (fields : List (List ℕ)) (zs : List ℤ) → integers_of fields ≡ Some zs → All FitsBits zs → fields ≡ map signed_decimal zs
read_fields [] zs h f = let same : [] ≡ zs = some_is [] zs h in ap (map signed_decimal) same
read_fields (field ∷ fields) zs h f = by_first (integer_of field) (integers_of fields) refl refl h f (read_fields fields)
  where
    by_first : (a : Option ℤ) (b : Option (List ℤ)) → integer_of field ≡ a → integers_of fields ≡ b → with_integer a b ≡ Some zs → All FitsBits zs →
        ((ys : List ℤ) → integers_of fields ≡ Some ys → All FitsBits ys → fields ≡ map signed_decimal ys) → field ∷ fields ≡ map signed_decimal zs
    by_first None b e g k f later = absurd (let x : ⊥ = cc in x)
    by_first (Some y) None e g k f later = absurd (let x : ⊥ = cc in x)
    by_first (Some y) (Some ys) e g k f later =
        let same : y ∷ ys ≡ zs = some_is (y ∷ ys) zs k in
        let all : All FitsBits (y ∷ ys) = subst (All FitsBits) (sym same) f in
        ap₂ (λ x xs. x ∷ xs) (integer_text field y e (fits_short y (all 0 y (omega arith)))) (later ys g (λ j d l. all (suc j) d (omega (arith, l))))
        ∙ ap (map signed_decimal) same

length-integers : (fields : List (List ℕ)) (zs : List ℤ) → fields ≡ map signed_decimal zs → length zs ≡ length fields
length-integers fields zs h = sym (size zs) ∙ ap length (sym h)
  where
    size : (ys : List ℤ) → length (map signed_decimal ys) ≡ length ys
    size [] = refl
    size (y ∷ ys) = ap suc (size ys)

join_back : (bytes other : List ℕ) → fields_of bytes ≡ fields_of other → bytes ≡ other
join_back bytes other h = sym (join_with_byte-slice_split 32 bytes) ∙ ap (join_with_byte 32) h ∙ join_with_byte-slice_split 32 other

pub at_text : (line rest : List ℕ) (zs : List ℤ) → line ≡ codes "at " ++ rest → integers_of (fields_of rest) ≡ Some zs → All FitsBits zs → length (fields_of rest) ≤ 6 →
    (line ≡ at_line zs) × AreWritableValues zs
at_text line rest [] e h f few = absurd (no_field rest (read_fields (fields_of rest) [] h f))
at_text line rest (z ∷ zs) e h f few =
    let fields = read_fields (fields_of rest) (z ∷ zs) h f in
    let size : length (z ∷ zs) ≡ length (fields_of rest) = length-integers (fields_of rest) (z ∷ zs) fields in (
      e ∙ ap (λ t. codes "at " ++ t) (join_back rest (signed_decimal z ++ flat_map (λ n. codes " " ++ signed_decimal n) zs) (fields ∙ sym (value_fields z zs f))),
      record { some = omega arith; few = omega (arith, size, few); fit = f },
    )

-- what was collected is what the line says
pub collected : {E V : Type 0} (items : V → List ℤ) (line rest : List ℕ) (r : Result V E) → line ≡ codes "at " ++ rest → length (fields_of rest) ≤ 6 →
    IfOk r (λ v. (integers_of (fields_of rest) ≡ Some (items v)) × All FitsBits (items v)) → IfOk r (λ v. (line ≡ at_line (items v)) × AreWritableValues (items v))
collected items line rest (Ok v) e few h = at_text line rest (items v) e h.0 h.1 few
collected items line rest (Err x) e few h = h
