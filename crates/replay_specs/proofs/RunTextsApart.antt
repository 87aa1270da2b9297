-- The texts of two runs differ where the runs do.
use Rattle.std.proofs.Common.{◌≡◌, ◌≢◌, ℕ, ◌<◌, List, [], ◌∷◌, ◌++◌, get_or, Some, refl, sym, ◌∙◌, ap, ap₂, arith, ℤ, pos, append_assoc, All}
use Rattle.std.specs.Prelude.{codes, flat_map}
use Rattle.poly_specs.specs.Bits.{FitsBits}
use Rattle.replay_specs.proofs.IntegerTexts.{integer_written, number_written}
use Rattle.replay_specs.proofs.RunTextLines.{fits_short, values_in, gap_integers, run_cut, tail_moves, tail_gaps}
use Rattle.replay_specs.specs.RunTexts.{gap_line, at_line, stay_line, jump_line, leg_lines, move_lines, gap_lines, run_text, AreWritableValues, IsWritableLeg, IsWritableMove, IsWritableGap, IsWritable}
use Rattle.replay_specs.specs.RunTextFaults.{integer_behind, integers_behind, cut_lines}
use Rattle.run_specs.specs.Runs.{Leg, Move, GapRun}

-- ---- lines

some_tells : {A : Type 0} (x y : A) → Some x ≡ Some y → x ≡ y
some_tells x y h = cc

stay_tells : (t u : ℤ) → FitsBits t → FitsBits u → stay_line t ≡ stay_line u → t ≡ u
stay_tells t u h k e =
    some_tells t u (sym (integer_written t (fits_short t h)) ∙ ap (λ line. integer_behind (codes "stay ") line) e ∙ integer_written u (fits_short u k))

pos_tells : (m n : ℕ) → pos m ≡ pos n → m ≡ n
pos_tells m n h = cc

jump_tells : (m n : ℕ) → m < 256 → n < 256 → jump_line m ≡ jump_line n → m ≡ n
jump_tells m n h k e =
    pos_tells m n (some_tells (pos m) (pos n)
    (sym (number_written m (omega (arith, h))) ∙ ap (λ line. integer_behind (codes "jump ") line) e ∙ number_written n (omega (arith, k))))

at_tells : (xs ys : List ℤ) → AreWritableValues xs → AreWritableValues ys → at_line xs ≡ at_line ys → xs ≡ ys
at_tells xs ys h k e =
    some_tells xs ys (sym (values_in xs h.some h.fit) ∙ ap (λ line. integers_behind (codes "at ") line) e ∙ values_in ys k.some k.fit)

pair_tells : (c d : ℤ) (m n : ℕ) → c ∷ pos m ∷ [] ≡ d ∷ pos n ∷ [] → (c ≡ d) × (m ≡ n)
pair_tells c d m n h = (cc, cc)

gap_tells : (c d : ℤ) (m n : ℕ) → FitsBits c → FitsBits d → m < 256 → n < 256 → gap_line c m ≡ gap_line d n → (c ≡ d) × (m ≡ n)
gap_tells c d m n hc hd hm hn e =
    pair_tells c d m n (some_tells _ _ (sym (gap_integers c m hc hm) ∙ ap (λ line. integers_behind (codes "gap ") line) e ∙ gap_integers d n hd hn))

-- ---- legs and moves before other lines

head_tells : {A : Type 0} (x y : A) (xs ys : List A) → x ∷ xs ≡ y ∷ ys → (x ≡ y) × (xs ≡ ys)
head_tells x y xs ys h = (cc, cc)

leg_tells : (p q : Leg) (xs ys : List (List ℕ)) → IsWritableLeg p → IsWritableLeg q → leg_lines p ++ xs ≡ leg_lines q ++ ys → (p ≡ q) × (xs ≡ ys)
leg_tells p q xs ys h k e =
    let first = head_tells (stay_line p.length_of) (stay_line q.length_of) (at_line p.at_end ∷ xs) (at_line q.at_end ∷ ys) e in
    let second = head_tells (at_line p.at_end) (at_line q.at_end) xs ys first.1 in (
      ap₂ (λ (t : ℤ) (v : List ℤ). record { length_of = t; at_end = v })
          (stay_tells p.length_of q.length_of h.time k.time first.0) (at_tells p.at_end q.at_end h.at_end k.at_end second.0),
      second.1,
    )

move_is : (l k : Leg) (e f : ℕ) (v w : List ℤ) → l ≡ k → e ≡ f → v ≡ w →
    let m : Move = record { leg = l; transition = e; after = v } in let n : Move = record { leg = k; transition = f; after = w } in m ≡ n
move_is l k e f v w p q r = λ i. record { leg = p i; transition = q i; after = r i }

move_tells : (m n : Move) (xs ys : List (List ℕ)) → IsWritableMove m → IsWritableMove n → move_lines m ++ xs ≡ move_lines n ++ ys → (m ≡ n) × (xs ≡ ys)
move_tells m n xs ys h k e =
    let legs = leg_tells m.leg n.leg (jump_line m.transition ∷ at_line m.after ∷ xs) (jump_line n.transition ∷ at_line n.after ∷ ys) h.leg k.leg e in
    let jumps = head_tells (jump_line m.transition) (jump_line n.transition) (at_line m.after ∷ xs) (at_line n.after ∷ ys) legs.1 in
    let ats = head_tells (at_line m.after) (at_line n.after) xs ys jumps.1 in (
      move_is m.leg n.leg m.transition n.transition m.after n.after legs.0
          (jump_tells m.transition n.transition h.transition k.transition jumps.0) (at_tells m.after n.after h.after k.after ats.0),
      ats.1,
    )

-- ---- the first byte tells a jump from what comes behind a gap

first_byte : List (List ℕ) → ℕ
first_byte [] = 0
first_byte (line ∷ lines) = get_or line 0 0

abbrev MovesTell : List Move → List Move → Leg → Leg → List (List ℕ) → List (List ℕ) → Type 0
MovesTell ms ns p q xs ys = (ms ≡ ns) × (p ≡ q) × (xs ≡ ys)

no_jump : (p q : Leg) (xs ys : List (List ℕ)) (e : ℕ) → IsWritableLeg p → IsWritableLeg q → first_byte xs ≢ 106 → leg_lines p ++ xs ≡ leg_lines q ++ jump_line e ∷ ys → ⊥
unfolding first_byte
no_jump p q xs ys e h k differs same = differs (ap first_byte (leg_tells p q xs (jump_line e ∷ ys) h k same).1)

moves_tell : (ms ns : List Move) (p q : Leg) (xs ys : List (List ℕ)) → All IsWritableMove ms → All IsWritableMove ns → IsWritableLeg p → IsWritableLeg q →
    first_byte xs ≢ 106 → first_byte ys ≢ 106 → flat_map move_lines ms ++ (leg_lines p ++ xs) ≡ flat_map move_lines ns ++ (leg_lines q ++ ys) → MovesTell ms ns p q xs ys
moves_tell [] [] p q xs ys hm hn hp hq nx ny e = let k = leg_tells p q xs ys hp hq e in (refl, k.0, k.1)
moves_tell [] (n ∷ ns) p q xs ys hm hn hp hq nx ny e =
    absurd (no_jump p n.leg xs (at_line n.after ∷ flat_map move_lines ns ++ (leg_lines q ++ ys)) n.transition hp (hn 0 n (omega arith)).leg nx e)
moves_tell (m ∷ ms) [] p q xs ys hm hn hp hq nx ny e =
    absurd (no_jump q m.leg ys (at_line m.after ∷ flat_map move_lines ms ++ (leg_lines p ++ xs)) m.transition hq (hm 0 m (omega arith)).leg ny (sym e))
moves_tell (m ∷ ms) (n ∷ ns) p q xs ys hm hn hp hq nx ny e =
    let k = move_tells m n (flat_map move_lines ms ++ (leg_lines p ++ xs)) (flat_map move_lines ns ++ (leg_lines q ++ ys)) (hm 0 m (omega arith)) (hn 0 n (omega arith)) e in
    let more = moves_tell ms ns p q xs ys (tail_moves m ms hm) (tail_moves n ns hn) hp hq nx ny k.1 in
    (ap₂ (λ (x : Move) (y : List Move). x ∷ y) k.0 more.0, more.1, more.2)

-- ---- gaps

gap_is : (c d : ℤ) (i j : ℕ) (v w : List ℤ) (ms ns : List Move) (p q : Leg) → c ≡ d → i ≡ j → v ≡ w → ms ≡ ns → p ≡ q →
    let g : GapRun = record { den = c; start_loc = i; start = v; moves = ms; last = p } in
    let h : GapRun = record { den = d; start_loc = j; start = w; moves = ns; last = q } in g ≡ h
gap_is c d i j v w ms ns p q a b e f g = λ k. record { den = a k; start_loc = b k; start = e k; moves = f k; last = g k }

one_gap_tells : (g h : GapRun) (xs ys : List (List ℕ)) → IsWritableGap g → IsWritableGap h → first_byte xs ≢ 106 → first_byte ys ≢ 106 →
    gap_lines g ++ xs ≡ gap_lines h ++ ys → (g ≡ h) × (xs ≡ ys)
one_gap_tells g h xs ys hg hh nx ny e =
    let first = head_tells (gap_line g.den g.start_loc) (gap_line h.den h.start_loc) _ _ e in
    let second = head_tells (at_line g.start) (at_line h.start) _ _ first.1 in
    let parts = gap_tells g.den h.den g.start_loc h.start_loc hg.den hh.den hg.start_loc hh.start_loc first.0 in
    let moves = moves_tell g.moves h.moves g.last h.last xs ys hg.moves hh.moves hg.last hh.last nx ny
    (sym (append_assoc (flat_map move_lines g.moves) (leg_lines g.last) xs) ∙ second.1 ∙ append_assoc (flat_map move_lines h.moves) (leg_lines h.last) ys) in (
      gap_is g.den h.den g.start_loc h.start_loc g.start h.start g.moves h.moves g.last h.last
          parts.0 parts.1 (at_tells g.start h.start hg.start hh.start second.0) moves.0 moves.1,
      moves.2,
    )

-- the lines of gaps, and the empty bytes behind the last line feed
abbrev to_end : List GapRun → List (List ℕ)
to_end gs = flat_map gap_lines gs ++ [] ∷ []

no_jump_next : (gs : List GapRun) → first_byte (to_end gs) ≢ 106
unfolding first_byte
no_jump_next [] h = omega (arith, h)
no_jump_next (g ∷ gs) h = omega (arith, h)

empty_first : (line : List ℕ) (b : ℕ) (xs ys : List (List ℕ)) → [] ∷ xs ≡ (b ∷ line) ∷ ys → ⊥
empty_first line b xs ys h = let same : [] ≡ b ∷ line = cc in cc

gaps_tell : (gs hs : List GapRun) → All IsWritableGap gs → All IsWritableGap hs → to_end gs ≡ to_end hs → gs ≡ hs
gaps_tell [] [] hg hh e = refl
gaps_tell [] (h ∷ hs) hg hh e = absurd (empty_first _ _ _ _ e)
gaps_tell (g ∷ gs) [] hg hh e = absurd (empty_first _ _ _ _ (sym e))
gaps_tell (g ∷ gs) (h ∷ hs) hg hh e =
    let k = one_gap_tells g h (to_end gs) (to_end hs) (hg 0 g (omega arith)) (hh 0 h (omega arith)) (no_jump_next gs) (no_jump_next hs)
    (sym (append_assoc (gap_lines g) (flat_map gap_lines gs) ([] ∷ [])) ∙ e ∙ append_assoc (gap_lines h) (flat_map gap_lines hs) ([] ∷ [])) in
    ap₂ (λ (x : GapRun) (y : List GapRun). x ∷ y) k.0 (gaps_tell gs hs (tail_gaps g gs hg) (tail_gaps h hs hh) k.1)

pub texts_tell_apart : (gs hs : List GapRun) → IsWritable gs → IsWritable hs → run_text gs ≡ run_text hs → gs ≡ hs
texts_tell_apart gs hs p q e =
    let lines = sym (run_cut gs p) ∙ ap cut_lines e ∙ run_cut hs q in
    gaps_tell gs hs p.each q.each (head_tells _ _ (to_end gs) (to_end hs) lines).1
