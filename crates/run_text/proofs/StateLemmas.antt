-- What was read so far, with one line more.
use Rattle.std.proofs.Common.{◌≡◌, ℕ, zero, suc, ◌+◌, ◌-◌, ◌^◌, ◌<◌, ◌≤◌, List, [], ◌∷◌, ◌++◌, length, Some, None, refl, sym, ◌∙◌, ap, ap₂, subst, arith, ℤ, append_assoc, append-nil, length-append, All, true, false}
use Rattle.std.specs.Prelude.{codes, flat_map, Ok, nat_lt}
use Rattle.std.proofs.lemmas.Bool.{ltb-true, ltb-false}
use Rattle.poly_specs.specs.Bits.{FitsBits}
use Rattle.replay_specs.proofs.RunTextLines.{at_leads, stay_leads, jump_leads, run_leads, first_gap_leads, next_gap_leads}
use Rattle.replay_specs.specs.RunTexts.{run_line, gap_line, at_line, stay_line, jump_line, leg_lines, move_lines, gap_lines, AreWritableValues, IsWritableLeg, IsWritableMove, IsWritableGap}
use Rattle.replay_specs.specs.RunTextFaults.{RunLine, GapLine, StartLine, StayLine, EndLine, NextLine, AfterLine, Step, Refused, Outside, Leads, step, next_step, gap_step, jump_step, or_else, behind, integer_in, integer_behind, integers_behind}
use Rattle.run_specs.specs.Runs as runs
use Rattle.run_text.specs.States.{later, IsWhole, IsGapStart, IsPart, whole_lines, part_lines, lines_of, Goes}
use Rattle.run_text.specs.Tells.{Tells}
use Rattle.run_text.specs.declared.lines.GapStart.{GapStart}
use Rattle.run_text.specs.declared.lines.LineFault.{LineFault}
use Rattle.run_text.specs.declared.states.Whole.{Whole}
use Rattle.run_text.specs.declared.states.Part.{Part}
use Rattle.run_text.specs.declared.states.State.TheVariants.{Nothing, Counted, Begun, Placed, Staying, Ended, Jumped}

-- ---- one more in a list

all_none : {X : Type 0} (P : X → Type 0) (xs : List X) → xs ≡ [] → All P xs
all_none P xs e = subst (All P) (sym e) (λ k d lt. absurd (omega (arith, lt)))

pub all_more : {X : Type 0} (P : X → Type 0) (xs : List X) (x : X) → All P xs → P x → All P (xs ++ x ∷ [])
all_more P [] x h p zero d lt = p
all_more P [] x h p (suc k) d lt = absurd (omega (arith, lt))
all_more P (y ∷ xs) x h p zero d lt = h 0 y (omega arith)
all_more P (y ∷ xs) x h p (suc k) d lt = all_more P xs x (λ j e l. h (suc j) e (omega (arith, l))) p k d (omega (arith, lt))

flat_one : {X : Type 0} (f : X → List (List ℕ)) (xs : List X) (x : X) → flat_map f (xs ++ x ∷ []) ≡ flat_map f xs ++ f x
flat_one f [] x = append-nil (f x)
flat_one f (y ∷ xs) x = ap (λ t. f y ++ t) (flat_one f xs x) ∙ sym (append_assoc (f y) (flat_map f xs) (f x))

-- ---- each line

run_step_of : (count : ℕ) (line : List ℕ) → line ≡ run_line count → 1 ≤ count → count < 2 ^ 32 → step RunLine line ≡ Leads (GapLine (count - (0 + 1)))
run_step_of zero line e some few = absurd (omega (arith, some))
run_step_of (suc n) line e some few =
    let same : n ≡ suc n - (0 + 1) = omega arith in
    ap (step RunLine) e ∙ run_leads n few ∙ ap (λ k. Leads (GapLine k)) same

pub first_goes : (w : Whole) (line : List ℕ) → w.gaps.items ≡ [] → line ≡ run_line w.count → 1 ≤ w.count → w.count < 2 ^ 32 → Goes Nothing line (Ok (Counted w))
first_goes w line none e some few =
    let empty : length w.gaps.items ≡ 0 = ap length none in (
      record { more = omega (arith, empty, some); few = few; each = all_none IsWritableGap w.gaps.items none },
      ap₂ (λ x xs. x ∷ xs) (sym e) (ap (flat_map gap_lines) none),
      run_step_of w.count line e some few ∙ ap (λ k. Leads (GapLine (w.count - (k + 1)))) (sym empty),
    )

pub gap_goes : (w : Whole) (g : GapStart) (line : List ℕ) → IsWhole w → IsGapStart g → line ≡ gap_line g.den g.start_loc → Goes (Counted w) line (Ok (Begun w g))
gap_goes w g line h k e =
    ((h, k), ap (λ t. whole_lines w ++ t ∷ []) (sym e), ap (step (GapLine (later w))) e ∙ first_gap_leads (later w) g.den g.start_loc k.positive k.den k.start_loc)

pub start_goes : (p : Part) (line : List ℕ) → IsWhole p.whole → IsGapStart p.gap → AreWritableValues p.start.items → p.moves.items ≡ [] → line ≡ at_line p.start.items →
    Goes (Begun p.whole p.gap) line (Ok (Placed p))
start_goes p line h k v none e = (
  record { whole = h; gap = k; start = v; moves = all_none IsWritableMove p.moves.items none },
  ap₂ (λ t ms. whole_lines p.whole ++ (gap_line p.gap.den p.gap.start_loc ∷ t ∷ flat_map move_lines ms)) (sym e) none
      ∙ sym (append_assoc (whole_lines p.whole) (gap_line p.gap.den p.gap.start_loc ∷ []) (line ∷ [])),
  ap (step (StartLine (later p.whole))) e ∙ at_leads (StayLine (later p.whole)) p.start.items v,
)

pub stay_goes : (p : Part) (time : ℤ) (line : List ℕ) → IsPart p → FitsBits time → line ≡ stay_line time → Goes (Placed p) line (Ok (Staying p time))
stay_goes p time line h f e =
    ((h, f), ap (λ t. part_lines p ++ t ∷ []) (sym e), ap (step (StayLine (later p.whole))) e ∙ stay_leads (later p.whole) time f)

pub end_goes : (p : Part) (leg : runs.Leg) (line : List ℕ) → IsPart p → FitsBits leg.length_of → AreWritableValues leg.at_end → line ≡ at_line leg.at_end →
    Goes (Staying p leg.length_of) line (Ok (Ended p leg))
end_goes p leg line h f v e = (
  (h, record { time = f; at_end = v }),
  ap (λ t. part_lines p ++ (stay_line leg.length_of ∷ t ∷ [])) (sym e) ∙ sym (append_assoc (part_lines p) (stay_line leg.length_of ∷ []) (line ∷ [])),
  ap (step (EndLine (later p.whole))) e ∙ at_leads (NextLine (later p.whole)) leg.at_end v,
)

pub jump_goes : (p : Part) (leg : runs.Leg) (e : ℕ) (line : List ℕ) → IsPart p → IsWritableLeg leg → e < 256 → line ≡ jump_line e → Goes (Ended p leg) line (Ok (Jumped p leg e))
jump_goes p leg e line h k small same = (
  (h, k, small),
  ap (λ t. part_lines p ++ (leg_lines leg ++ t ∷ [])) (sym same) ∙ sym (append_assoc (part_lines p) (leg_lines leg) (line ∷ [])),
  ap (step (NextLine (later p.whole))) same ∙ jump_leads (later p.whole) e small,
)

-- a move behind the others
pub after_goes : (p next : Part) (leg : runs.Leg) (e : ℕ) (after : List ℤ) (line : List ℕ) → IsPart p → IsWritableLeg leg → e < 256 → AreWritableValues after → line ≡ at_line after →
    next.whole ≡ p.whole → next.gap ≡ p.gap → next.start ≡ p.start → next.moves.items ≡ p.moves.items ++ record { leg = leg; transition = e; after = after } ∷ [] →
    Goes (Jumped p leg e) line (Ok (Placed next))
after_goes p next leg e after line h k small v same w g s m =
    let step_made : runs.Move = record { leg = leg; transition = e; after = after } in
    let front : List (List ℕ) = gap_line p.gap.den p.gap.start_loc ∷ at_line p.start.items ∷ flat_map move_lines p.moves.items in
    let lines : move_lines step_made ≡ (leg_lines leg ++ jump_line e ∷ []) ++ line ∷ [] = ap (λ t. leg_lines leg ++ jump_line e ∷ t ∷ []) (sym same) in (
      record {
        whole = subst IsWhole (sym w) h.whole;
        gap = subst IsGapStart (sym g) h.gap;
        start = subst (λ x. AreWritableValues x.items) (sym s) h.start;
        moves = subst (All IsWritableMove) (sym m) (all_more IsWritableMove p.moves.items step_made h.moves (record { leg = k; transition = small; after = v }));
      },
      (λ i. whole_lines (w i) ++ (gap_line (g i).den (g i).start_loc ∷ at_line (s i).items ∷ flat_map move_lines (m i)))
          ∙ ap (λ t. whole_lines p.whole ++ (gap_line p.gap.den p.gap.start_loc ∷ at_line p.start.items ∷ t)) (flat_one move_lines p.moves.items step_made ∙ ap (λ t. flat_map move_lines p.moves.items ++ t) lines)
          ∙ ap (λ t. whole_lines p.whole ++ t) (sym (append_assoc front (leg_lines leg ++ jump_line e ∷ []) (line ∷ [])))
          ∙ sym (append_assoc (whole_lines p.whole) (front ++ (leg_lines leg ++ jump_line e ∷ [])) (line ∷ []))
          ∙ ap (λ t. t ++ line ∷ []) (sym (append_assoc (whole_lines p.whole) front (leg_lines leg ++ jump_line e ∷ []))),
      ap (step (AfterLine (later p.whole))) same ∙ at_leads (StayLine (later p.whole)) after v ∙ ap (λ t. Leads (StayLine (later t))) (sym w),
    )

-- ---- a gap behind the others

-- the gap that ends with this leg
abbrev pub closed : Part → runs.Leg → runs.GapRun
closed p leg = record { den = p.gap.den; start_loc = p.gap.start_loc; start = p.start.items; moves = p.moves.items; last = leg }

pub closed_is : (p : Part) (leg : runs.Leg) → IsPart p → IsWritableLeg leg → IsWritableGap (closed p leg)
closed_is p leg h k = record { positive = h.gap.positive; den = h.gap.den; start_loc = h.gap.start_loc; start = h.start; moves = h.moves; last = k }

-- the lines of a whole run so far, with the gap that ends with this leg
pub closed_lines : (p : Part) (leg : runs.Leg) → flat_map gap_lines (p.whole.gaps.items ++ closed p leg ∷ []) ≡
    flat_map gap_lines p.whole.gaps.items ++ ((gap_line p.gap.den p.gap.start_loc ∷ at_line p.start.items ∷ flat_map move_lines p.moves.items) ++ leg_lines leg)
closed_lines p leg = flat_one gap_lines p.whole.gaps.items (closed p leg)

pub ended_lines_are : (p : Part) (leg : runs.Leg) → run_line p.whole.count ∷ flat_map gap_lines (p.whole.gaps.items ++ closed p leg ∷ []) ≡ lines_of (Ended p leg)
ended_lines_are p leg =
    let front : List (List ℕ) = gap_line p.gap.den p.gap.start_loc ∷ at_line p.start.items ∷ flat_map move_lines p.moves.items in
    ap (λ t. run_line p.whole.count ∷ t) (closed_lines p leg)
    ∙ sym (append_assoc (whole_lines p.whole) front (leg_lines leg))

next_step_of : (n m : ℕ) (g : GapStart) (line : List ℕ) → n ≡ suc m → IsGapStart g → line ≡ gap_line g.den g.start_loc → step (NextLine n) line ≡ Leads (StartLine m)
next_step_of n m g line same k e = ap₂ (λ i l. step (NextLine i) l) same e ∙ next_gap_leads m g.den g.start_loc k.positive k.den k.start_loc

pub next_gap_goes : (p : Part) (w : Whole) (leg : runs.Leg) (g : GapStart) (line : List ℕ) → IsPart p → IsWritableLeg leg → IsGapStart g → line ≡ gap_line g.den g.start_loc →
    w.count ≡ p.whole.count → w.gaps.items ≡ p.whole.gaps.items ++ closed p leg ∷ [] → 0 < later p.whole → Goes (Ended p leg) line (Ok (Begun w g))
next_gap_goes p w leg g line h k f e count gaps more =
    let size : length w.gaps.items ≡ length p.whole.gaps.items + 1 = ap length gaps ∙ length-append p.whole.gaps.items (closed p leg ∷ []) in (
      (
        record {
          more = omega (arith, size, count, more);
          few = subst (λ c. c < 2 ^ 32) (sym count) h.whole.few;
          each = subst (All IsWritableGap) (sym gaps) (all_more IsWritableGap p.whole.gaps.items (closed p leg) h.whole.each (closed_is p leg h k));
        },
        f,
      ),
      (λ i. (run_line (count i) ∷ flat_map gap_lines (gaps i)) ++ (sym e i) ∷ []) ∙ ap (λ t. t ++ line ∷ []) (ended_lines_are p leg),
      next_step_of (later p.whole) (later w) g line (omega (arith, size, count, more)) f e,
    )

-- ---- faults behind a leg

tells_same : (e : LineFault) (s t : Step) → s ≡ t → Tells e s → Tells e t
tells_same e s t same h = subst (Tells e) same h

jump_only : (n : ℕ) (rest : List ℕ) → next_step n (codes "jump " ++ rest) ≡ jump_step n (integer_in (Some rest))
jump_only zero rest = refl
jump_only (suc n) rest = by_step (jump_step (suc n) (integer_in (Some rest)))
  where
    by_step : (s : Step) → or_else s Refused ≡ s
    by_step Refused = refl
    by_step Outside = refl
    by_step (Leads p) = refl

pub jump_fault : (e : LineFault) (n : ℕ) (line rest : List ℕ) → line ≡ codes "jump " ++ rest → ((m : ℕ) → Tells e (jump_step m (integer_behind (codes "jump ") line))) → Tells e (step (NextLine n) line)
jump_fault e n line rest same h =
    subst (λ l. Tells e (next_step n l)) (sym same)
    (tells_same e _ _ (sym (jump_only n rest)) (subst (λ l. Tells e (jump_step n (integer_behind (codes "jump ") l))) same (h n)))

pub no_gap_left : (n : ℕ) (line : List ℕ) → behind (codes "jump ") line ≡ None → nat_lt 0 n ≡ false → step (NextLine n) line ≡ Refused
no_gap_left zero line h e = ap (λ t. jump_step 0 (integer_in t)) h
no_gap_left (suc n) line h e = absurd (omega (arith, ltb-false 0 (suc n) e))

pub gap_fault : (e : LineFault) (n : ℕ) (line : List ℕ) → behind (codes "jump ") line ≡ None → nat_lt 0 n ≡ true → ((m : ℕ) → Tells e (gap_step m (integers_behind (codes "gap ") line))) → Tells e (step (NextLine n) line)
gap_fault e zero line h lt tells = absurd (omega (arith, ltb-true 0 0 lt))
gap_fault e (suc n) line h lt tells =
    tells_same e _ _ (sym (ap (λ t. or_else (jump_step (suc n) (integer_in t)) (gap_step n (integers_behind (codes "gap ") line))) h)) (tells n)
