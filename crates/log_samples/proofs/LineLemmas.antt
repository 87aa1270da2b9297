-- The first line of bytes, and those behind it.
use Rattle.std.proofs.Common.{◌≡◌, ℕ, zero, suc, false, ◌==◌, ◌+◌, ◌<◌, List, [], ◌∷◌, ◌++◌, map, length, take, drop, slice_index, sym, ap, ◌∙◌, arith}
use Rattle.report_specs.specs.Lines.{without_return, last_line, HasNoFeed}
use Rattle.report_specs.proofs.LineLemmas.{cut_line, cut_no_feed}
use Rattle.log_reader.proofs.ByteLemmas.{split_feed}
use Rattle.log_samples.specs.Lines.{lines_from}

line_behind : (raw others : List ℕ) → HasNoFeed raw → lines_from (raw ++ 10 ∷ others) ≡ without_return raw ∷ lines_from others
line_behind raw others none_there = ap (λ c. map without_return c.whole ++ last_line c.rest) (cut_line raw others none_there)

pub first_line : (text line after : List ℕ) (at : ℕ) → at < length text → slice_index text at ≡ 10 → HasNoFeed (take at text) → line ≡ without_return (take at text) →
    after ≡ drop (at + 1) text → lines_from text ≡ line ∷ lines_from after
first_line text line after at lt is none_there e f =
    ap (λ t. lines_from t) (split_feed text at lt is) ∙ line_behind (take at text) (drop (suc at) text) none_there
    ∙ ap (λ l. l ∷ lines_from (drop (suc at) text)) (sym e)
    ∙ ap (λ a. line ∷ lines_from a) (ap (λ n. drop n text) (let n : suc at ≡ at + 1 = omega arith in n) ∙ sym f)

pub whole_line : (text after : List ℕ) → HasNoFeed text → 0 < length text → after ≡ [] → lines_from text ≡ text ∷ lines_from after
whole_line [] after none_there lt e = absurd (omega (arith, lt))
whole_line (b ∷ text) after none_there lt e =
    ap (λ c. map without_return c.whole ++ last_line c.rest) (cut_no_feed (b ∷ text) none_there) ∙ ap (λ a. (b ∷ text) ∷ lines_from a) (sym e)

pub some_byte : (n : ℕ) → (n == 0) ≡ false → 0 < n
some_byte zero e = absurd (let b : ⊥ = cc in b)
some_byte (suc n) e = omega arith
