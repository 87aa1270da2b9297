-- A text without the `+ ` of its lines, line by line.
use Rattle.std.proofs.Common.{◌≡◌, ℕ, suc, ◌+◌, ◌-◌, ◌<◌, ◌≤◌, List, [], ◌∷◌, ◌++◌, map, length, take, drop, slice_index, sym, ap, ◌∙◌, append_assoc, arith}
use Rattle.std.proofs.lemmas.List.{length-take-le, length-drop}
use Rattle.report_specs.specs.Lines.{cut_of, HasNoFeed}
use Rattle.report_specs.proofs.LineLemmas.{cut_line, cut_no_feed}
use Rattle.replay_specs.specs.RunTexts.{ended_lines}
use Rattle.log_reader.proofs.ByteLemmas.{split_feed}
use Rattle.replay_reports.specs.PlusSigns.{without_plus, without_plus_signs}

line_without : (raw others : List ℕ) → HasNoFeed raw → without_plus_signs (raw ++ 10 ∷ others) ≡ without_plus raw ++ 10 ∷ without_plus_signs others
line_without raw others none =
    let whole = ended_lines (map without_plus (cut_of others).whole) in
    let rest = without_plus (cut_of others).rest in
    ap (λ c. ended_lines (map without_plus c.whole) ++ without_plus c.rest) (cut_line raw others none)
    ∙ append_assoc (without_plus raw ++ 10 ∷ []) whole rest ∙ append_assoc (without_plus raw) (10 ∷ []) (whole ++ rest)

-- what was written for the lines so far, with what is left of the text
pub go_on : (out new text rest after : List ℕ) (at : ℕ) → out ++ without_plus_signs rest ≡ without_plus_signs text → at < length rest → slice_index rest at ≡ 10 →
    HasNoFeed (take at rest) → new ≡ out ++ (without_plus (take at rest) ++ 10 ∷ []) → after ≡ drop (at + 1) rest →
    new ++ without_plus_signs after ≡ without_plus_signs text
go_on out new text rest after at so_far lt is none e f =
    let line = without_plus (take at rest) in
    ap (λ z. z ++ without_plus_signs after) e
    ∙ append_assoc out (line ++ 10 ∷ []) (without_plus_signs after) ∙ ap (λ z. out ++ z) (append_assoc line (10 ∷ []) (without_plus_signs after))
    ∙ ap (λ z. out ++ (line ++ 10 ∷ without_plus_signs z)) (f ∙ ap (λ n. drop n rest) (let n : at + 1 ≡ suc at = omega arith in n))
    ∙ ap (λ z. out ++ z) (sym (line_without (take at rest) (drop (suc at) rest) none) ∙ ap (λ z. without_plus_signs z) (sym (split_feed rest at lt is)))
    ∙ so_far

pub at_last : (out new text rest line : List ℕ) → out ++ without_plus_signs rest ≡ without_plus_signs text → HasNoFeed rest → line ≡ without_plus rest → new ≡ out ++ line →
    new ≡ without_plus_signs text
at_last out new text rest line so_far none e f =
    f ∙ ap (λ z. out ++ z) (e ∙ sym (ap (λ c. ended_lines (map without_plus c.whole) ++ without_plus c.rest) (cut_no_feed rest none))) ∙ so_far

-- it is no longer than the text
pub shorter_on : (new out text : ℕ) (rest after : List ℕ) (at : ℕ) → out + length rest ≤ text → at < length rest → new ≤ out + (length (take at rest) + 1) → after ≡ drop (at + 1) rest →
    new + length after ≤ text
shorter_on new out text rest after at so_far lt le e =
    let left : length after ≡ length rest - (at + 1) = ap length e ∙ length-drop (at + 1) rest in
    let line : length (take at rest) ≡ at = length-take-le at rest (omega (arith, lt)) in
    omega (arith, left, line, so_far, lt, le)
