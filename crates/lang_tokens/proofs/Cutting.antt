-- One step of cutting a line into tokens.
use Rattle.std.proofs.Common.{◌≡◌, ℕ, zero, suc, ◌+◌, ◌-◌, ◌<◌, ◌≤◌, ◌==◌, Bool, true, false, List, [], ◌∷◌, ◌++◌, length, get_or, take, drop, map, refl, sym, ap, ◌∙◌, append_assoc, arith, add-zero}
use Rattle.std.proofs.lemmas.List.{map-append}
use Rattle.number_specs.specs.Digits.{is_digit}
use Rattle.lang_specs.specs.declared.Kind.{Kind}
use Rattle.lang_specs.specs.Tokens.{Placed, Found, is_blank, begins_comment, token_at, cut, end_of_line}
use Rattle.lang_tokens.specs.declared.tokens.Token.{Token}
use Rattle.lang_tokens.specs.Places.{placed_of, behind_size}

pub cut_nothing : (line column last : ℕ) (literal : Bool) (bytes : List ℕ) → length bytes ≡ 0 → cut line 0 column last literal bytes ≡ end_of_line line last ∷ []
unfolding cut
cut_nothing line column last literal [] e = refl
cut_nothing line column last literal (b ∷ bytes) e = absurd (omega arith)

pub cut_comment : (line column last : ℕ) (literal : Bool) (bytes : List ℕ) → 0 < length bytes → is_blank (get_or bytes 0 0) ≡ false → begins_comment (get_or bytes 0 0) ≡ true →
    cut line 0 column last literal bytes ≡ end_of_line line last ∷ []
unfolding cut
cut_comment line column last literal [] lt blank e = absurd (omega arith)
cut_comment line column last literal (b ∷ bytes) lt blank e = rw (blank, e) refl

pub cut_blank : (line column last : ℕ) (literal : Bool) (bytes : List ℕ) → 0 < length bytes → is_blank (get_or bytes 0 0) ≡ true →
    cut line 0 column last literal bytes ≡ cut line 0 (column + 1) last false (drop 1 bytes)
unfolding cut
cut_blank line column last literal [] lt e = absurd (omega arith)
cut_blank line column last literal (b ∷ bytes) lt e = rw e refl

-- the bytes of a token are passed over
cut_inside : (n line column last : ℕ) (literal : Bool) (bytes : List ℕ) → n ≤ length bytes → cut line n column last literal bytes ≡ cut line 0 (column + n) last literal (drop n bytes)
unfolding cut
cut_inside zero line column last literal bytes le = rw add-zero refl
cut_inside (suc n) line column last literal [] le = absurd (omega arith)
cut_inside (suc n) line column last literal (b ∷ bytes) le =
    let columns : column + 1 + n ≡ column + suc n = omega arith in
    cut_inside n line (column + 1) last literal bytes (omega arith) ∙ ap (λ k. cut line 0 k last literal (drop n bytes)) columns

cut_token : (line column last : ℕ) (literal : Bool) (bytes : List ℕ) (found : Found) → found ≡ token_at literal (get_or bytes 0 0) bytes → 0 < length bytes →
    is_blank (get_or bytes 0 0) ≡ false → begins_comment (get_or bytes 0 0) ≡ false → 0 < found.size → found.size ≤ length bytes →
    cut line 0 column last literal bytes ≡ record { line = line; column = column; kind = found.kind; text = take found.size bytes }
    ∷ cut line 0 (column + found.size) (behind_size column found.size (get_or bytes 0 0) last) (is_digit (get_or bytes 0 0)) (drop found.size bytes)
unfolding cut
cut_token line column last literal [] found is lt blank hash some within = absurd (omega arith)
cut_token line column last literal (b ∷ bytes) found is lt blank hash some within =
    let n = found.size in
    let columns : column + 1 + (n - 1) ≡ column + n = omega arith in
    let lengths : suc (n - 1) ≡ n = omega arith in
    let ends = behind_size column n b last in
    let token : Placed = record { line = line; column = column; kind = found.kind; text = take n (b ∷ bytes) } in
    rw (blank, hash, ← is) (ap (λ rest. token ∷ rest) (cut_inside (n - 1) line (column + 1) ends (is_digit b) bytes (omega arith)
    ∙ ap (λ k. cut line 0 k ends (is_digit b) (drop (n - 1) bytes)) columns
    ∙ ap (λ k. cut line 0 (column + n) ends (is_digit b) (drop k (b ∷ bytes))) lengths))

-- what was cut so far, with one token more
pub one_more : (line : ℕ) (old new : List Token) (token : Token) (cut_before cut_after whole : List Placed) → new ≡ old ++ token ∷ [] → cut_before ≡ placed_of line token ∷ cut_after →
    map (placed_of line) old ++ cut_before ≡ whole → map (placed_of line) new ++ cut_after ≡ whole
one_more line old new token cut_before cut_after whole pushed cut_is so_far =
    rw (pushed, map-append) (append_assoc (map (placed_of line) old) (placed_of line token ∷ []) cut_after ∙ ap (λ ts. map (placed_of line) old ++ ts) (sym cut_is) ∙ so_far)

-- a token is cut off, as the code finds its parts
pub cut_found : (line column last : ℕ) (literal : Bool) (bytes : List ℕ) (found : Kind × ℕ) (ends : ℕ) (text after : List ℕ) (digit : Bool) →
    found.0 ≡ (token_at literal (get_or bytes 0 0) bytes).kind → found.1 ≡ (token_at literal (get_or bytes 0 0) bytes).size →
    ends ≡ behind_size column found.1 (get_or bytes 0 0) last → text ≡ take found.1 bytes → after ≡ drop found.1 bytes → digit ≡ is_digit (get_or bytes 0 0) →
    0 < length bytes → is_blank (get_or bytes 0 0) ≡ false → begins_comment (get_or bytes 0 0) ≡ false → 0 < found.1 → found.1 ≤ length bytes →
    cut line 0 column last literal bytes ≡ record { line = line; column = column; kind = found.0; text = text } ∷ cut line 0 (column + found.1) ends digit after
cut_found line column last literal bytes found ends text after digit k s e t a d lt blank hash some within =
    let is : record { kind = found.0; size = found.1 } ≡ token_at literal (get_or bytes 0 0) bytes = λ i. record { kind = k i; size = s i } in
    rw (e, t, a, d) (cut_token line column last literal bytes (record { kind = found.0; size = found.1 }) is lt blank hash some within)

-- what was cut, with the end of the line
pub ended : (line last : ℕ) (old new : List Token) (token : Token) (rest whole : List Placed) → new ≡ old ++ token ∷ [] → placed_of line token ≡ end_of_line line last → rest ≡ end_of_line line last ∷ [] →
    map (placed_of line) old ++ rest ≡ whole → map (placed_of line) new ≡ whole
ended line last old new token rest whole pushed is_end rest_is so_far = rw (pushed, map-append, is_end, ← rest_is) so_far

pub ne_eqb : (m n : ℕ) → (m ≡ n → ⊥) → (m == n) ≡ false
ne_eqb m n ne = grind arith

pub eq_eqb : (m n : ℕ) → m ≡ n → (m == n) ≡ true
eq_eqb m n e = grind arith
