-- The lines of a run's text: where each leads, and that the text is cut into them.
use Rattle.std.proofs.Common.{◌≡◌, ℕ, zero, suc, ◌+◌, ◌^◌, ◌<◌, ◌≤◌, true, false, cond, ◌&&◌, ◌==◌, List, [], ◌∷◌, ◌++◌, length, map, Some, None, refl, sym, ◌∙◌, ap, ap₂, subst, arith, ℤ, pos, negsuc, ◌≤ℤ◌, unsigned_abs, append-nil, append_assoc, All}
use Rattle.std.specs.Prelude.{decimal, codes, flat_map, nat_lt, not}
use Rattle.std.specs.Fmt.{signed_decimal}
use Rattle.std.specs.List.{list_all}
use Rattle.std.proofs.lemmas.Bool.{lt-ltb, le-leb}
use Rattle.std.proofs.lemmas.Int.{ints}
use Rattle.std.proofs.lemmas.List.Splits.{slice_split_none, slice_split_at}
use Rattle.poly_specs.specs.Bits.{FitsBits}
use Rattle.replay_specs.proofs.IntegerTexts.{both_true, not_true, IsForeign, integer_written, number_written, integer_lacks, space_is_foreign, feed_is_foreign}
use Rattle.replay_specs.specs.RunTexts.{run_line, gap_line, at_line, stay_line, jump_line, leg_lines, move_lines, gap_lines, run_lines, ended_lines, run_text, AreWritableValues, IsWritableLeg, IsWritableMove, IsWritableGap, IsWritable}
use Rattle.replay_specs.specs.RunTextFaults.{Place, Leads, Refused, RunLine, GapLine, StartLine, StayLine, EndLine, NextLine, AfterLine, integer_of, with_integer, integers_of, fields_of, is_kept, is_positive, if_within, run_step, gap_step, at_step, stay_step, jump_step, or_else, step, LeadFrom, fault_at, fault_from, cut_lines, first_fault, integers_behind}
use Rattle.run_specs.specs.Runs.{Leg, Move, GapRun}

-- ---- lists without a byte

abbrev pub Lacks : ℕ → List ℕ → Type 0
Lacks c bytes = All (λ b. b == c ≡ false) bytes

pub lacks-nil : (c : ℕ) → Lacks c []
lacks-nil c k d lt = absurd (omega (arith, lt))

pub lacks-cons : (c b : ℕ) (bytes : List ℕ) → b == c ≡ false → Lacks c bytes → Lacks c (b ∷ bytes)
lacks-cons c b bytes e h zero d lt = e
lacks-cons c b bytes e h (suc k) d lt = h k d (omega (arith, lt))

lacks-tail : (c b : ℕ) (bytes : List ℕ) → Lacks c (b ∷ bytes) → Lacks c bytes
lacks-tail c b bytes h k d lt = h (suc k) d (omega (arith, lt))

pub lacks-append : (c : ℕ) (xs ys : List ℕ) → Lacks c xs → Lacks c ys → Lacks c (xs ++ ys)
lacks-append c [] ys h k = k
lacks-append c (x ∷ xs) ys h k = lacks-cons c x (xs ++ ys) (h 0 0 (omega arith)) (lacks-append c xs ys (lacks-tail c x xs h) k)

-- ---- numbers of 128 bits

pub fits_short : (z : ℤ) → FitsBits z → unsigned_abs z < 10 ^ 64
fits_short z h = omega (arith, h)

kept : (z : ℤ) → FitsBits z → is_kept z ≡ true
kept z h = lt-ltb (unsigned_abs z) (2 ^ 127) h

tail_fits : (z : ℤ) (zs : List ℤ) → All FitsBits (z ∷ zs) → All FitsBits zs
tail_fits z zs h k d lt = h (suc k) d (omega (arith, lt))

all_kept : (zs : List ℤ) → All FitsBits zs → list_all is_kept zs ≡ true
all_kept [] h = refl
all_kept (z ∷ zs) h = ap₂ (λ a b. a && b) (kept z (h 0 z (omega arith))) (all_kept zs (tail_fits z zs h))

pub integer_text_lacks : (c : ℕ) (z : ℤ) → IsForeign c → FitsBits z → Lacks c (signed_decimal z)
integer_text_lacks c z f h = integer_lacks c (signed_decimal z) z f (integer_written z (fits_short z h))

number_text_lacks : (c n : ℕ) → IsForeign c → n < 10 ^ 64 → Lacks c (decimal n)
number_text_lacks c n f h = integer_lacks c (decimal n) (pos n) f (number_written n h)

-- ---- the fields of a line of values

-- the text of further values
abbrev more_values : List ℤ → List ℕ
more_values zs = flat_map (λ n. codes " " ++ signed_decimal n) zs

pub value_fields : (z : ℤ) (zs : List ℤ) → All FitsBits (z ∷ zs) → fields_of (signed_decimal z ++ more_values zs) ≡ signed_decimal z ∷ map signed_decimal zs
value_fields z [] h =
    ap fields_of (append-nil (signed_decimal z))
    ∙ slice_split_none (λ b. b == 32) (signed_decimal z) (integer_text_lacks 32 z space_is_foreign (h 0 z (omega arith)))
value_fields z (y ∷ zs) h =
    slice_split_at (λ b. b == 32) (signed_decimal z) 32 (signed_decimal y ++ more_values zs) (integer_text_lacks 32 z space_is_foreign (h 0 z (omega arith))) refl
    ∙ ap (λ t. signed_decimal z ∷ t) (value_fields y zs (tail_fits z (y ∷ zs) h))

pub integers_written : (zs : List ℤ) → All FitsBits zs → integers_of (map signed_decimal zs) ≡ Some zs
integers_written [] h = refl
integers_written (z ∷ zs) h = ap₂ with_integer (integer_written z (fits_short z (h 0 z (omega arith)))) (integers_written zs (tail_fits z zs h))

pub values_in : (values : List ℤ) → 1 ≤ length values → All FitsBits values → integers_behind (codes "at ") (at_line values) ≡ Some values
values_in [] some h = absurd (omega (arith, some))
values_in (z ∷ zs) some h = ap integers_of (value_fields z zs h) ∙ integers_written (z ∷ zs) h

-- ---- where lines lead

pub at_leads : (next : Place) (values : List ℤ) → AreWritableValues values → at_step next (integers_behind (codes "at ") (at_line values)) ≡ Leads next
at_leads next values h =
    ap (at_step next) (values_in values h.some h.fit)
    ∙ ap (λ t. cond t (if_within (list_all is_kept values) next) Refused) (le-leb (length values) 6 h.few)
    ∙ ap (λ t. if_within t next) (all_kept values h.fit)

pub stay_leads : (n : ℕ) (time : ℤ) → FitsBits time → step (StayLine n) (stay_line time) ≡ Leads (EndLine n)
stay_leads n time h = ap (stay_step n) (integer_written time (fits_short time h)) ∙ ap (λ t. if_within t (EndLine n)) (kept time h)

jump_reads : (n e : ℕ) → e < 256 → jump_step n (integer_of (decimal e)) ≡ Leads (AfterLine n)
jump_reads n e h = ap (jump_step n) (number_written e (omega (arith, h))) ∙ ap (λ t. if_within t (AfterLine n)) (lt-ltb e 256 h)

pub jump_leads : (n e : ℕ) → e < 256 → step (NextLine n) (jump_line e) ≡ Leads (AfterLine n)
jump_leads zero e h = jump_reads 0 e h
jump_leads (suc n) e h = ap (λ s. or_else s (gap_step n None)) (jump_reads (suc n) e h)

gap_fields : (den : ℤ) (loc : ℕ) → FitsBits den → loc < 256 → integers_of (fields_of (signed_decimal den ++ 32 ∷ decimal loc)) ≡ Some (den ∷ pos loc ∷ [])
gap_fields den loc h k =
    ap integers_of (
    slice_split_at (λ b. b == 32) (signed_decimal den) 32 (decimal loc) (integer_text_lacks 32 den space_is_foreign h) refl
    ∙ ap (λ t. signed_decimal den ∷ t) (slice_split_none (λ b. b == 32) (decimal loc) (number_text_lacks 32 loc space_is_foreign (omega (arith, k)))))
    ∙ ap₂ (λ a b. with_integer a (with_integer b (Some []))) (integer_written den (fits_short den h)) (number_written loc (omega (arith, k)))

pub gap_integers : (den : ℤ) (loc : ℕ) → FitsBits den → loc < 256 → integers_behind (codes "gap ") (gap_line den loc) ≡ Some (den ∷ pos loc ∷ [])
gap_integers den loc h k =
    ap (λ t. integers_of (fields_of t)) (append_assoc (signed_decimal den) (codes " ") (decimal loc)) ∙ gap_fields den loc h k

positive_is : (den : ℤ) → pos 1 ≤ℤ den → is_positive den ≡ true
positive_is (pos n) h = lt-ltb 0 n (omega (arith, ints, h))
positive_is (negsuc n) h = absurd (omega (arith, ints, h))

gap_reads : (n : ℕ) (den : ℤ) (loc : ℕ) → pos 1 ≤ℤ den → FitsBits den → loc < 256 → gap_step n (integers_behind (codes "gap ") (gap_line den loc)) ≡ Leads (StartLine n)
gap_reads n den loc p h k =
    ap (gap_step n) (gap_integers den loc h k)
    ∙ ap (λ t. cond t (if_within (is_kept den && nat_lt loc 256) (StartLine n)) Refused) (positive_is den p)
    ∙ ap₂ (λ a b. if_within (a && b) (StartLine n)) (kept den h) (lt-ltb loc 256 k)

pub first_gap_leads : (n : ℕ) (den : ℤ) (loc : ℕ) → pos 1 ≤ℤ den → FitsBits den → loc < 256 → step (GapLine n) (gap_line den loc) ≡ Leads (StartLine n)
first_gap_leads = gap_reads

pub next_gap_leads : (n : ℕ) (den : ℤ) (loc : ℕ) → pos 1 ≤ℤ den → FitsBits den → loc < 256 → step (NextLine (suc n)) (gap_line den loc) ≡ Leads (StartLine n)
next_gap_leads = gap_reads

pub run_leads : (n : ℕ) → suc n < 2 ^ 32 → step RunLine (run_line (suc n)) ≡ Leads (GapLine n)
run_leads n h = ap run_step (number_written (suc n) (omega (arith, h))) ∙ ap (λ t. if_within t (GapLine n)) (lt-ltb (suc n) (2 ^ 32) h)

-- ---- where the lines of a gap lead

pub lead_on : (p q r : Place) (xs ys : List (List ℕ)) → LeadFrom p xs q → LeadFrom q ys r → LeadFrom p (xs ++ ys) r
lead_on p q r [] ys h k = subst (λ t. LeadFrom t ys r) (sym h) k
lead_on p q r (x ∷ xs) ys h k = (h.0, h.1, lead_on h.0 q r xs ys h.2 k)

pub leg_leads : (n : ℕ) (leg : Leg) → IsWritableLeg leg → LeadFrom (StayLine n) (leg_lines leg) (NextLine n)
leg_leads n leg h = (EndLine n, stay_leads n leg.length_of h.time, (NextLine n, at_leads (NextLine n) leg.at_end h.at_end, refl))

move_leads : (n : ℕ) (m : Move) → IsWritableMove m → LeadFrom (StayLine n) (move_lines m) (StayLine n)
move_leads n m h =
    lead_on (StayLine n) (NextLine n) (StayLine n) (leg_lines m.leg) (jump_line m.transition ∷ at_line m.after ∷ []) (leg_leads n m.leg h.leg)
    (AfterLine n, jump_leads n m.transition h.transition, (StayLine n, at_leads (StayLine n) m.after h.after, refl))

pub tail_moves : (m : Move) (ms : List Move) → All IsWritableMove (m ∷ ms) → All IsWritableMove ms
tail_moves m ms h k d lt = h (suc k) d (omega (arith, lt))

moves_lead : (n : ℕ) (moves : List Move) → All IsWritableMove moves → LeadFrom (StayLine n) (flat_map move_lines moves) (StayLine n)
moves_lead n [] h = refl
moves_lead n (m ∷ ms) h =
    lead_on (StayLine n) (StayLine n) (StayLine n) (move_lines m) (flat_map move_lines ms) (move_leads n m (h 0 m (omega arith))) (moves_lead n ms (tail_moves m ms h))

gap_leads : (p : Place) (n : ℕ) (g : GapRun) → IsWritableGap g → step p (gap_line g.den g.start_loc) ≡ Leads (StartLine n) → LeadFrom p (gap_lines g) (NextLine n)
gap_leads p n g h first = (
  StartLine n,
  first,
  (
    StayLine n,
    at_leads (StayLine n) g.start h.start,
    lead_on (StayLine n) (StayLine n) (NextLine n) (flat_map move_lines g.moves) (leg_lines g.last) (moves_lead n g.moves h.moves) (leg_leads n g.last h.last),
  ),
)

pub tail_gaps : (g : GapRun) (gs : List GapRun) → All IsWritableGap (g ∷ gs) → All IsWritableGap gs
tail_gaps g gs h k d lt = h (suc k) d (omega (arith, lt))

gaps_lead : (gaps : List GapRun) → All IsWritableGap gaps → LeadFrom (NextLine (length gaps)) (flat_map gap_lines gaps) (NextLine 0)
gaps_lead [] h = refl
gaps_lead (g ∷ gs) h =
    let is = h 0 g (omega arith) in
    lead_on (NextLine (suc (length gs))) (NextLine (length gs)) (NextLine 0) (gap_lines g) (flat_map gap_lines gs)
    (gap_leads (NextLine (suc (length gs))) (length gs) g is (next_gap_leads (length gs) g.den g.start_loc is.positive is.den is.start_loc))
    (gaps_lead gs (tail_gaps g gs h))

pub run_lines_lead : (gaps : List GapRun) → IsWritable gaps → LeadFrom RunLine (run_lines gaps) (NextLine 0)
run_lines_lead [] h = absurd (omega (arith, h.some))
run_lines_lead (g ∷ gs) h =
    let is = h.each 0 g (omega arith) in (
      GapLine (length gs),
      run_leads (length gs) h.few,
      lead_on (GapLine (length gs)) (NextLine (length gs)) (NextLine 0) (gap_lines g) (flat_map gap_lines gs)
          (gap_leads (GapLine (length gs)) (length gs) g is (first_gap_leads (length gs) g.den g.start_loc is.positive is.den is.start_loc))
          (gaps_lead gs (tail_gaps g gs h.each)),
    )

-- ---- cut into lines

-- no line has a line feed
abbrev pub AreUnfed : List (List ℕ) → Type 0
AreUnfed [] = Unit {0}
AreUnfed (line ∷ lines) = Lacks 10 line × AreUnfed lines

pub unfed-append : (xs ys : List (List ℕ)) → AreUnfed xs → AreUnfed ys → AreUnfed (xs ++ ys)
unfed-append [] ys h k = k
unfed-append (x ∷ xs) ys h k = (h.0, unfed-append xs ys h.1 k)

pub cut_ended : (lines : List (List ℕ)) (rest : List ℕ) → AreUnfed lines → cut_lines (ended_lines lines ++ rest) ≡ lines ++ cut_lines rest
cut_ended [] rest h = refl
cut_ended (line ∷ lines) rest h =
    ap cut_lines (append_assoc (line ++ 10 ∷ []) (ended_lines lines) rest ∙ append_assoc line (10 ∷ []) (ended_lines lines ++ rest))
    ∙ slice_split_at (λ b. b == 10) line 10 (ended_lines lines ++ rest) h.0 refl
    ∙ ap (λ t. line ∷ t) (cut_ended lines rest h.1)

-- the bytes of a word
word_unfed : (word : List ℕ) → list_all (λ b. not (b == 10)) word ≡ true → Lacks 10 word
word_unfed [] h = lacks-nil 10
word_unfed (b ∷ word) h = let parts = both_true (not (b == 10)) (list_all (λ b. not (b == 10)) word) h in
    lacks-cons 10 b word (not_true (b == 10) parts.0) (word_unfed word parts.1)

stay_unfed : (time : ℤ) → FitsBits time → Lacks 10 (stay_line time)
stay_unfed time h = lacks-append 10 (codes "stay ") (signed_decimal time) (word_unfed (codes "stay ") refl) (integer_text_lacks 10 time feed_is_foreign h)

jump_unfed : (e : ℕ) → e < 256 → Lacks 10 (jump_line e)
jump_unfed e h = lacks-append 10 (codes "jump ") (decimal e) (word_unfed (codes "jump ") refl) (number_text_lacks 10 e feed_is_foreign (omega (arith, h)))

gap_unfed : (den : ℤ) (loc : ℕ) → FitsBits den → loc < 256 → Lacks 10 (gap_line den loc)
gap_unfed den loc h k =
    lacks-append 10 (codes "gap " ++ signed_decimal den ++ codes " ") (decimal loc)
    (lacks-append 10 (codes "gap " ++ signed_decimal den) (codes " ")
    (lacks-append 10 (codes "gap ") (signed_decimal den) (word_unfed (codes "gap ") refl) (integer_text_lacks 10 den feed_is_foreign h)) (word_unfed (codes " ") refl))
    (number_text_lacks 10 loc feed_is_foreign (omega (arith, k)))

run_unfed : (n : ℕ) → n < 2 ^ 32 → Lacks 10 (run_line n)
run_unfed n h = lacks-append 10 (codes "run ") (decimal n) (word_unfed (codes "run ") refl) (number_text_lacks 10 n feed_is_foreign (omega (arith, h)))

values_unfed : (zs : List ℤ) → All FitsBits zs → Lacks 10 (more_values zs)
values_unfed [] h = lacks-nil 10
values_unfed (z ∷ zs) h =
    lacks-append 10 (codes " " ++ signed_decimal z) (more_values zs)
    (lacks-append 10 (codes " ") (signed_decimal z) (word_unfed (codes " ") refl) (integer_text_lacks 10 z feed_is_foreign (h 0 z (omega arith))))
    (values_unfed zs (tail_fits z zs h))

at_unfed : (values : List ℤ) → All FitsBits values → Lacks 10 (at_line values)
at_unfed values h = lacks-append 10 (codes "at") (more_values values) (word_unfed (codes "at") refl) (values_unfed values h)

leg_unfed : (leg : Leg) → IsWritableLeg leg → AreUnfed (leg_lines leg)
leg_unfed leg h = (stay_unfed leg.length_of h.time, (at_unfed leg.at_end h.at_end.fit, tt))

move_unfed : (m : Move) → IsWritableMove m → AreUnfed (move_lines m)
move_unfed m h =
    unfed-append (leg_lines m.leg) (jump_line m.transition ∷ at_line m.after ∷ []) (leg_unfed m.leg h.leg)
    (jump_unfed m.transition h.transition, (at_unfed m.after h.after.fit, tt))

moves_unfed : (moves : List Move) → All IsWritableMove moves → AreUnfed (flat_map move_lines moves)
moves_unfed [] h = tt
moves_unfed (m ∷ ms) h = unfed-append (move_lines m) (flat_map move_lines ms) (move_unfed m (h 0 m (omega arith))) (moves_unfed ms (tail_moves m ms h))

one_gap_unfed : (g : GapRun) → IsWritableGap g → AreUnfed (gap_lines g)
one_gap_unfed g h = (
  gap_unfed g.den g.start_loc h.den h.start_loc,
  (
    at_unfed g.start h.start.fit,
    unfed-append (flat_map move_lines g.moves) (leg_lines g.last) (moves_unfed g.moves h.moves) (leg_unfed g.last h.last),
  ),
)

gaps_unfed : (gaps : List GapRun) → All IsWritableGap gaps → AreUnfed (flat_map gap_lines gaps)
gaps_unfed [] h = tt
gaps_unfed (g ∷ gs) h = unfed-append (gap_lines g) (flat_map gap_lines gs) (one_gap_unfed g (h 0 g (omega arith))) (gaps_unfed gs (tail_gaps g gs h))

pub run_cut : (gaps : List GapRun) → IsWritable gaps → cut_lines (run_text gaps) ≡ run_lines gaps ++ [] ∷ []
run_cut gaps h =
    ap cut_lines (sym (append-nil (run_text gaps)))
    ∙ cut_ended (run_lines gaps) [] (run_unfed (length gaps) h.few, gaps_unfed gaps h.each)

-- ---- no fault

pub lead_past : (p q : Place) (lines : List (List ℕ)) (n : ℕ) (rest : List ℕ) (more : List (List ℕ)) → LeadFrom p lines q →
    fault_from p n (lines ++ rest ∷ more) ≡ fault_from q (length lines + n) (rest ∷ more)
lead_past p q [] n rest more h =
    let same : n ≡ 0 + n = omega arith in ap (λ t. fault_from t n (rest ∷ more)) h ∙ ap (λ k. fault_from q k (rest ∷ more)) same
lead_past p q (line ∷ []) n rest more h =
    ap (λ s. fault_at s n (λ t. fault_from t (suc n) (rest ∷ more))) h.1 ∙ lead_past h.0 q [] (suc n) rest more h.2
    ∙ (let same : 0 + suc n ≡ 1 + n = omega arith in ap (λ k. fault_from q k (rest ∷ more)) same)
lead_past p q (line ∷ other ∷ lines) n rest more h =
    ap (λ s. fault_at s n (λ t. fault_from t (suc n) (other ∷ lines ++ rest ∷ more))) h.1
    ∙ lead_past h.0 q (other ∷ lines) (suc n) rest more h.2
    ∙ (let same : length (other ∷ lines) + suc n ≡ length (line ∷ other ∷ lines) + n = omega arith in ap (λ k. fault_from q k (rest ∷ more)) same)

pub run_text_has_none : (gaps : List GapRun) → IsWritable gaps → first_fault (run_text gaps) ≡ None
run_text_has_none gaps h =
    ap (fault_from RunLine 1) (run_cut gaps h)
    ∙ lead_past RunLine (NextLine 0) (run_lines gaps) 1 [] [] (run_lines_lead gaps h)
