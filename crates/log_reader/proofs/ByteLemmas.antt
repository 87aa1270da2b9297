-- Laws of the bytes of a line.
use Rattle.std.proofs.Common.{◌≡◌, ◌≢◌, ℕ, zero, suc, ◌+◌, ◌<◌, ◌≤◌, List, [], ◌∷◌, ◌++◌, length, take, drop, slice_index, Bool, true, false, cond, nat_eq, refl, sym, ◌∙◌, ap, subst, arith, inl}
use Rattle.std.proofs.lemmas.Bool.{eq-eqb, eqb-true}
use Rattle.report_specs.specs.Lines.{without_return, HasNoFeed, unmarked}
use Rattle.log_reader.specs.declared.line.Line.{Line}
use Rattle.log_reader.specs.declared.line.Line.TheVariants.{Text, Long, End}
use Rattle.log_reader.specs.Reading.{Reading, Gives, Shows, HasLine}

one_more : (n : ℕ) → n + 1 ≡ suc n
one_more n = omega arith

-- one carriage return at the end is dropped
pub return_dropped : (xs : List ℕ) (n : ℕ) → length xs ≡ suc n → slice_index xs n ≡ 13 → without_return xs ≡ take n xs
return_dropped [] n l e = absurd (omega (arith, l))
return_dropped (b ∷ []) zero l e = ap (λ t. cond t [] (b ∷ [])) (eq-eqb b 13 e)
return_dropped (b ∷ []) (suc n) l e = absurd (omega (arith, l))
return_dropped (b ∷ c ∷ xs) zero l e = absurd (omega (arith, l))
return_dropped (b ∷ c ∷ xs) (suc n) l e = ap (λ ys. b ∷ ys) (return_dropped (c ∷ xs) n (omega (arith, l)) e)

no_return : (b : ℕ) (t : Bool) → nat_eq b 13 ≡ t → b ≢ 13 → cond t [] (b ∷ []) ≡ b ∷ []
no_return b true e ne = absurd (ne (eqb-true b 13 e))
no_return b false e ne = refl

pub return_kept : (xs : List ℕ) (n : ℕ) → length xs ≡ suc n → slice_index xs n ≢ 13 → without_return xs ≡ xs
return_kept [] n l e = refl
return_kept (b ∷ []) zero l e = no_return b (nat_eq b 13) refl e
return_kept (b ∷ []) (suc n) l e = absurd (omega (arith, l))
return_kept (b ∷ c ∷ xs) zero l e = absurd (omega (arith, l))
return_kept (b ∷ c ∷ xs) (suc n) l e = ap (λ ys. b ∷ ys) (return_kept (c ∷ xs) n (omega (arith, l)) e)

pub return_of_nothing : (xs : List ℕ) → length xs ≡ 0 → without_return xs ≡ xs
return_of_nothing [] l = refl
return_of_nothing (b ∷ xs) l = absurd (omega (arith, l))

-- ---- the line before the first line feed

pub split_feed : (xs : List ℕ) (at : ℕ) → at < length xs → slice_index xs at ≡ 10 → xs ≡ take at xs ++ 10 ∷ drop (suc at) xs
split_feed [] at l e = absurd (omega (arith, l))
split_feed (b ∷ xs) zero l e = ap (λ x. x ∷ xs) e
split_feed (b ∷ xs) (suc at) l e = ap (λ ys. b ∷ ys) (split_feed xs at (omega (arith, l)) e)

pub gives_line : (old new : Reading) (line : Line) (at : ℕ) (text : List ℕ) → at < length old.held → slice_index old.held at ≡ 10 → HasNoFeed (take at old.held) →
    text ≡ without_return (unmarked old.given (take at old.held)) → Shows line (old.given + 1) text → new.held ≡ drop (at + 1) old.held → new.given ≡ old.given + 1 →
    Gives old.held old new line
gives_line old new (Text n line) at text l e none shown is held given =
    let P : ℕ → Type 0 = λ k. k ≤ 4096 in
    (is.0, given ∙ sym is.0, subst P (ap length (sym is.1)) is.2, inl (has_line line.items (is.1 ∙ shown)))
  where
    has_line : (ys : List ℕ) → ys ≡ without_return (unmarked old.given (take at old.held)) → HasLine old.given old.held ys new.held
    has_line ys same = record {
      raw = take at old.held;
      no_feed = none;
      whole = split_feed old.held at l e ∙ ap (λ zs. take at old.held ++ 10 ∷ zs) (sym (held ∙ ap (λ k. drop k old.held) (one_more at)));
      shown = same;
    }
gives_line old new (Long n) at text l e none shown is held given =
    (is.0, given ∙ sym is.0, (text, is.1, inl (has_line text shown)))
  where
    has_line : (ys : List ℕ) → ys ≡ without_return (unmarked old.given (take at old.held)) → HasLine old.given old.held ys new.held
    has_line ys same = record {
      raw = take at old.held;
      no_feed = none;
      whole = split_feed old.held at l e ∙ ap (λ zs. take at old.held ++ 10 ∷ zs) (sym (held ∙ ap (λ k. drop k old.held) (one_more at)));
      shown = same;
    }
gives_line old new End at text l e none shown is held given = absurd is

-- the same of a reader that is seen as this one
pub gives_line_of : (seen old new : Reading) (line : Line) (at : ℕ) (text : List ℕ) → seen ≡ old → at < length old.held → slice_index old.held at ≡ 10 → HasNoFeed (take at old.held) →
    text ≡ without_return (unmarked seen.given (take at seen.held)) → Shows line (seen.given + 1) text → new.held ≡ drop (at + 1) seen.held → new.given ≡ seen.given + 1 →
    Gives old.held old new line
gives_line_of seen old new line at text e l f none shown is held given =
    gives_line old new line at text l f none
    (shown ∙ ap (λ r. without_return (unmarked r.given (take at r.held))) e)
    (subst (λ r. Shows line (r.given + 1) text) e is)
    (held ∙ ap (λ r. drop (at + 1) r.held) e)
    (given ∙ ap (λ r. r.given + 1) e)
