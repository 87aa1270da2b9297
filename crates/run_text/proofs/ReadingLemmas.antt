-- The lines of a text, one after the other, and its end.
use Rattle.std.proofs.Common.{◌≡◌, ℕ, zero, suc, ◌+◌, ◌^◌, ◌<◌, ◌≤◌, Bool, true, false, cond, ◌&&◌, List, [], ◌∷◌, ◌++◌, length, Some, None, refl, sym, ◌∙◌, ap, ap₂, subst, arith, append_assoc, append-nil, length-append, All, ◌==◌, inl, inr}
use Rattle.std.specs.Prelude.{flat_map, Result, Ok, Err, IfOk, IfErr, nat_lt, ◌⊎◌}
use Rattle.std.specs.List.{onto_first}
use Rattle.std.proofs.lemmas.Bool.{ltb-false, le-ltb}
use Rattle.replay_specs.proofs.RunTextLines.{run_text_has_none}
use Rattle.replay_specs.proofs.RunTextsApart.{texts_tell_apart}
use Rattle.run_specs.specs.Runs as runs
use Rattle.replay_specs.specs.RunTexts.{run_line, gap_lines, ended_lines, run_text, IsWritable, IsWritableGap, IsWritableLeg}
use Rattle.replay_specs.specs.RunTextFaults.{Place, NextLine, Fault, FormAt, RangeAt, step, is_end, fault_at, fault_from, cut_lines, first_fault, IsFirstTextFault}
use Rattle.run_text.proofs.StateLemmas.{closed, closed_is, ended_lines_are, all_more}
use Rattle.run_text.specs.States.{later, IsPart, IsReading, lines_of, place_of, Goes}
use Rattle.run_text.specs.Reading.{located, Finishes, TellsFirst}
use Rattle.run_text.specs.Tells.{Tells}
use Rattle.run_text.specs.declared.lines.LineFault as lines
use Rattle.run_text.specs.declared.lines.LineFault.TheVariants as line_faults
use Rattle.run_text.specs.declared.read.TextFault as texts
use Rattle.run_text.specs.declared.read.TextFault.TheVariants as text_faults
use Rattle.run_text.specs.declared.states.Part.{Part}
use Rattle.run_text.specs.declared.states.State.{State}
use Rattle.run_text.specs.declared.states.State.TheVariants.{Nothing, Ended}

-- what was read of a text, up to the line of this number
pub record SoFar (text : List ℕ) (state : State) (rest : List ℕ) (n : ℕ) : Type 0 where
  pub reading : IsReading state
  pub whole : text ≡ ended_lines (lines_of state) ++ rest
  pub same : first_fault text ≡ fault_from (place_of state) n (cut_lines rest)
  pub small : n + length rest ≤ length text + 1

pub begin : (text : List ℕ) → SoFar text Nothing text 1
begin text = record { reading = tt; whole = refl; same = refl; small = omega arith }

-- ---- a line

-- the pieces of a text are one or more
cons_or_nil : (c : ℕ) (pieces : List (List ℕ)) → (x : List ℕ) × (xs : List (List ℕ)) × (onto_first c pieces ≡ x ∷ xs)
cons_or_nil c [] = (c ∷ [], [], refl)
cons_or_nil c (x ∷ xs) = (c ∷ x, xs, refl)

some_piece : (text : List ℕ) → (x : List ℕ) × (xs : List (List ℕ)) × (cut_lines text ≡ x ∷ xs)
some_piece [] = ([], [], refl)
some_piece (b ∷ text) = by_feed (b == 10) refl
  where
    by_feed : (t : Bool) → b == 10 ≡ t → (x : List ℕ) × (xs : List (List ℕ)) × (cond t ([] ∷ cut_lines text) (onto_first b (cut_lines text)) ≡ x ∷ xs)
    by_feed true e = ([], cut_lines text, refl)
    by_feed false e = cons_or_nil b (cut_lines text)

fault_of_line : (place : Place) (n : ℕ) (line after : List ℕ) → fault_from place n (line ∷ cut_lines after) ≡ fault_at (step place line) n (λ p. fault_from p (suc n) (cut_lines after))
fault_of_line place n line after =
    let piece = some_piece after in
    ap (λ t. fault_from place n (line ∷ t)) piece.2 ∙ ap (λ t. fault_at (step place line) n (λ p. fault_from p (suc n) t)) (sym piece.2)

ended_more : (lines : List (List ℕ)) (line : List ℕ) → ended_lines (lines ++ line ∷ []) ≡ ended_lines lines ++ (line ++ 10 ∷ [])
ended_more [] line = append-nil (line ++ 10 ∷ [])
ended_more (x ∷ lines) line = ap (λ t. (x ++ 10 ∷ []) ++ t) (ended_more lines line) ∙ sym (append_assoc (x ++ 10 ∷ []) (ended_lines lines) (line ++ 10 ∷ []))

pub go_on : (text rest before after : List ℕ) (state next : State) (n : ℕ) → SoFar text state rest n → cut_lines rest ≡ before ∷ cut_lines after → rest ≡ before ++ 10 ∷ after →
    Goes state before (Ok next) → SoFar text next after (n + 1)
go_on text rest before after state next n h cut e goes =
    let size : length rest ≡ length before + suc (length after) = ap length e ∙ length-append before (10 ∷ after) in
    let next_number : suc n ≡ n + 1 = omega arith in
    record {
      reading = goes.0;
      whole = h.whole ∙ ap (λ t. ended_lines (lines_of state) ++ t) (e ∙ sym (append_assoc before (10 ∷ []) after))
          ∙ sym (append_assoc (ended_lines (lines_of state)) (before ++ 10 ∷ []) after)
          ∙ ap (λ t. t ++ after) (sym (ended_more (lines_of state) before) ∙ ap ended_lines (sym goes.1));
      same = h.same ∙ ap (fault_from (place_of state) n) cut ∙ fault_of_line (place_of state) n before after
          ∙ ap (λ s. fault_at s n (λ p. fault_from p (suc n) (cut_lines after))) goes.2
          ∙ ap (λ k. fault_from (place_of next) k (cut_lines after)) next_number;
      small = omega (arith, h.small, size);
    }

line_fault : (text before after : List ℕ) (place : Place) (n : ℕ) (e : lines.LineFault) → first_fault text ≡ fault_from place n (before ∷ cut_lines after) → Tells e (step place before) →
    TellsFirst text (located e n)
line_fault text before after place n line_faults.Form same tells =
    same ∙ fault_of_line place n before after ∙ ap (λ s. fault_at s n (λ p. fault_from p (suc n) (cut_lines after))) tells
line_fault text before after place n line_faults.Range same tells =
    same ∙ fault_of_line place n before after ∙ ap (λ s. fault_at s n (λ p. fault_from p (suc n) (cut_lines after))) tells
line_fault text before after place n line_faults.Memory same tells = tt

pub stop : (text rest before after : List ℕ) (state : State) (n : ℕ) (e : lines.LineFault) → SoFar text state rest n → cut_lines rest ≡ before ∷ cut_lines after →
    Goes state before (Err e) → TellsFirst text (located e n)
stop text rest before after state n e h cut goes =
    line_fault text before after (place_of state) n e (h.same ∙ ap (fault_from (place_of state) n) cut) goes

-- ---- the end

and_false : (a b : Bool) → b ≡ false → a && b ≡ false
and_false true b h = h
and_false false b h = refl

pub unended : (text rest : List ℕ) (state : State) (n : ℕ) → SoFar text state rest n → cut_lines rest ≡ rest ∷ [] → 0 < length rest → TellsFirst text (text_faults.Form n)
unended text rest state n h cut some =
    h.same ∙ ap (fault_from (place_of state) n) cut
    ∙ ap (λ t. cond t None (Some (FormAt n))) (and_false (is_end (place_of state)) (nat_lt (length rest) 1) (le-ltb (length rest) 1 (omega (arith, some))))

pub missing : (text rest : List ℕ) (state : State) (n : ℕ) (e : lines.LineFault) → SoFar text state rest n → cut_lines rest ≡ rest ∷ [] → Finishes state (Err e) → TellsFirst text (located e n)
missing text rest state n line_faults.Form h cut ends =
    h.same ∙ ap (fault_from (place_of state) n) cut ∙ ap (λ t. cond (t && nat_lt (length rest) 1) None (Some (FormAt n))) ends
missing text rest state n line_faults.Range h cut ends = absurd ends
missing text rest state n line_faults.Memory h cut ends = tt

no_bytes : (rest : List ℕ) → length rest ≡ 0 → rest ≡ []
no_bytes [] h = refl
no_bytes (b ∷ rest) h = absurd (omega (arith, h))

pub all_read : (text rest : List ℕ) (state : State) (n : ℕ) (run : List runs.GapRun) → SoFar text state rest n → length rest ≡ 0 → Finishes state (Ok run) →
    IsWritable run × (text ≡ run_text run)
all_read text rest state n run h none ends =
    (ends.0, h.whole ∙ ap (λ t. ended_lines (lines_of state) ++ t) (no_bytes rest none) ∙ append-nil (ended_lines (lines_of state)) ∙ ap ended_lines (sym ends.1))

-- ---- the last gap

zero_is_end : (n : ℕ) → n ≡ 0 → is_end (NextLine n) ≡ true
zero_is_end zero h = refl
zero_is_end (suc n) h = absurd (omega (arith, h))

pub more_is_no_end : (n : ℕ) → 0 < n → is_end (NextLine n) ≡ false
more_is_no_end zero h = absurd (omega (arith, h))
more_is_no_end (suc n) h = refl

pub finishes : (p : Part) (leg : runs.Leg) (run : List runs.GapRun) → IsPart p → IsWritableLeg leg → nat_lt 0 (later p.whole) ≡ false →
    run ≡ p.whole.gaps.items ++ closed p leg ∷ [] → Finishes (Ended p leg) (Ok run)
finishes p leg run h k none gaps =
    let zero_left : later p.whole ≡ 0 = omega (arith, ltb-false 0 (later p.whole) none) in
    let size : length run ≡ length p.whole.gaps.items + 1 = ap length gaps ∙ length-append p.whole.gaps.items (closed p leg ∷ []) in
    let count : length run ≡ p.whole.count = omega (arith, size, zero_left, h.whole.more) in (
      record {
        some = omega (arith, size);
        few = subst (λ c. c < 2 ^ 32) (sym count) h.whole.few;
        each = subst (All IsWritableGap) (sym gaps) (all_more IsWritableGap p.whole.gaps.items (closed p leg) h.whole.each (closed_is p leg h k));
      },
      ap₂ (λ c gs. run_line c ∷ flat_map gap_lines gs) count gaps ∙ ended_lines_are p leg,
      zero_is_end (later p.whole) zero_left,
    )

-- ---- the text of a run is read as that run

told : (text : List ℕ) (fault : Fault) (run : List runs.GapRun) → IsFirstTextFault text fault → IsWritable run → text ≡ run_text run → ⊥
told text fault run h is e = let both : Some fault ≡ None = sym h ∙ ap first_fault e ∙ run_text_has_none run is in cc

pub read_back : (text : List ℕ) (r : Result (List runs.GapRun) texts.TextFault) → IfOk r (λ run. IsWritable run × (text ≡ run_text run)) → IfErr r (λ e. TellsFirst text e) →
    (run : List runs.GapRun) → IsWritable run → text ≡ run_text run → (r ≡ Ok run) ⊎ (r ≡ Err text_faults.Memory)
read_back text (Ok other) ok fault run is e = inl (ap Ok (texts_tell_apart other run ok.0 is (sym ok.1 ∙ e)))
read_back text (Err (text_faults.Form n)) ok fault run is e = absurd (told text (FormAt n) run fault is e)
read_back text (Err (text_faults.Range n)) ok fault run is e = absurd (told text (RangeAt n) run fault is e)
read_back text (Err text_faults.Memory) ok fault run is e = inr refl
