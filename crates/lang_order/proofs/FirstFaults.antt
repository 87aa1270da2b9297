-- The first fault of a text, and what it spells, by its lines.
use Rattle.std.proofs.Common.{◌≡◌, ◌⊎◌, inl, inr, ℕ, Bool, List, [], ◌∷◌, ◌++◌, refl, sym, ap, ◌∙◌, subst, append_assoc, append-nil}
use Rattle.std.proofs.lemmas.List.{map-append}
use Rattle.lang_specs.specs.declared.Which.{Which}
use Rattle.lang_specs.specs.Tokens.{Placed}
use Rattle.lang_specs.specs.Lines.{text_tokens}
use Rattle.lang_specs.specs.Marks.{Mark, mark, Lined, lined}
use Rattle.lang_specs.specs.Limits.{Keeps}
use Rattle.lang_specs.specs.FirstFault.{IsSpelling, IsViable, IsViableWithin, HasKept, HasKeptAll, Fault, SyntaxAt, LimitAt, IsFaultOf, IsFirstFault}
use Rattle.lang_specs.specs.Grammar.{Spell, AreInOrder}
use Rattle.lang_specs.proofs.ListLemmas.{head_is, tail_is}
use Rattle.lang_order.specs.declared.Place.{Place}
use Rattle.lang_order.specs.declared.Place.TheVariants as places
use Rattle.lang_order.specs.Statements.{Numbered, IsLineOf, is_second}
use Rattle.lang_order.specs.Building.{trees_of}
use Rattle.lang_order.specs.ByLines.{AreWholeLines, text_end}
use Rattle.lang_order.specs.LineLimits.{none_yet, counts_from, IsLineWithin, AreWholeLinesWithin}
use Rattle.lang_order.specs.Beginnings.{in_line, IsOneLine}
use Rattle.lang_order.specs.FaultsByLines.{IsReadLine, AreReadLines, marks, StandIn, LineHasKeptAll, IsFaultOfLine, IsFaultByLines}
use Rattle.lang_order.proofs.ToGrammar.{by_grammar}
use Rattle.lang_order.proofs.Walks.{walk_within}
use Rattle.lang_order.proofs.TextLimits.{lines_keep_so}
use Rattle.lang_order.proofs.Viable.{viable_by_lines}
use Rattle.lang_order.proofs.Kept.{text_of_here, kept_by_lines, one_line_front}

-- ---- lines that were read

read_lines : (v : Bool) (ls : List Lined) (ss : List Numbered) → AreInOrder (IsReadLine v) ls ss → AreInOrder (IsLineOf v) ls ss
read_lines v ls [] h = h
read_lines v ls (s ∷ ss) (a, b, e, (ms, f, i, k), h) = (a, b, e, (ms, f, i), read_lines v b ss h)

read_within : (w : Which) (v : Bool) (ls : List Lined) (ss : List Numbered) → AreInOrder (IsReadLine v) ls ss → AreInOrder (IsLineWithin w v) ls ss
read_within w v ls [] h = h
read_within w v ls (s ∷ ss) (a, b, e, (ms, f, i, k), h) = (a, b, e, (ms, f, i, k w), read_within w v b ss h)

pub whole_of : (ls : List Lined) (ss : List Numbered) (p : Place) → AreReadLines ls ss p → AreWholeLines ls ss p
whole_of ls ss p h = record { say = read_lines (is_second ss) ls ss h.say; order = h.order }

pub within_of : (w : Which) (ls : List Lined) (ss : List Numbered) (p : Place) → AreReadLines ls ss p → AreWholeLinesWithin w ls ss p
within_of w ls ss p h = record { say = read_within w (is_second ss) ls ss h.say; order = h.order; few = h.few w }

-- ---- what they spell

spelled : (ls : List Lined) (ss : List Numbered) (last : ℕ) → AreReadLines ls ss places.End → Spell (ls ++ text_end last) (trees_of ss)
spelled ls ss last h =
    by_grammar (ls ++ text_end last) (trees_of ss) (record { lines = ls; says = ss; last = last; parts = refl; whole = whole_of ls ss places.End h; builds = refl })

kept : (w : Which) (ls : List Lined) (ss : List Numbered) (last : ℕ) → AreReadLines ls ss places.End → Keeps w (ls ++ text_end last) (trees_of ss)
kept w ls ss last h =
    let k = within_of w ls ss places.End h in
    lines_keep_so (is_second ss) ls ss last w (walk_within w (is_second ss) places.Start none_yet ls ss places.End k.say k.order k.few)

pub spelling_by_lines : (text : List ℕ) (ls : List Lined) (ss : List Numbered) (last : ℕ) → AreReadLines ls ss places.End →
    lined (text_tokens text) ≡ ls ++ text_end last → IsSpelling text (trees_of ss)
spelling_by_lines text ls ss last h e = record {
  spelled = subst (λ z. Spell z (trees_of ss)) (sym e) (spelled ls ss last h);
  kept = λ w. subst (λ z. Keeps w z (trees_of ss)) (sym e) (kept w ls ss last h);
}

-- ---- fronts

-- what begins two lists begins the first, or is it and a front of the second
record Within {A : Type 0} (part xs : List A) : Type 0 where
  rest : List A
  parts : xs ≡ part ++ rest

record Beyond {A : Type 0} (part xs ys : List A) : Type 0 where
  front : List A
  rest : List A
  part_is : part ≡ xs ++ front
  parts : ys ≡ front ++ rest

front_of : {A : Type 0} (xs ys part rest : List A) → xs ++ ys ≡ part ++ rest → Within part xs ⊎ Beyond part xs ys
front_of [] ys part rest e = inr (record { front = part; rest = rest; part_is = refl; parts = e })
front_of (x ∷ xs) ys [] rest e = inl (record { rest = x ∷ xs; parts = refl })
front_of (x ∷ xs) ys (p ∷ part) rest e =
    let first = head_is x p (xs ++ ys) (part ++ rest) e in
    elim (front_of xs ys part rest (tail_is x p (xs ++ ys) (part ++ rest) e)) [
      | inl w ↦ inl (record { rest = w.rest; parts = ap (λ z. z ∷ xs) first ∙ ap (λ z. p ∷ z) w.parts })
      | inr b ↦ inr (record { front = b.front; rest = b.rest; part_is = ap (λ z. z ∷ part) (sym first) ∙ ap (λ z. x ∷ z) b.part_is; parts = b.parts })
    ]

-- a front of the tokens of a line
record LineFront (n : ℕ) (ms : List Mark) (front : List Lined) : Type 0 where
  some : List Mark
  others : List Mark
  parts : ms ≡ some ++ others
  front_is : front ≡ in_line n some

line_front : (n : ℕ) (ms : List Mark) (front rest : List Lined) → in_line n ms ≡ front ++ rest → LineFront n ms front
line_front n ms [] rest e = record { some = []; others = ms; parts = refl; front_is = refl }
line_front n [] (l ∷ front) rest e = absurd (let b : ⊥ = cc in b)
line_front n (m ∷ ms) (l ∷ front) rest e =
    let f = line_front n ms front rest (tail_is (record { line = n; mark = m }) l (in_line n ms) (front ++ rest) e) in
    let first = head_is (record { line = n; mark = m }) l (in_line n ms) (front ++ rest) e in record {
      some = m ∷ f.some;
      others = f.others;
      parts = ap (λ z. m ∷ z) f.parts;
      front_is = ap (λ z. z ∷ front) (sym first) ∙ ap (λ z. record { line = n; mark = m } ∷ z) f.front_is;
    }

within_front : (w : Which) (front rest : List Lined) → IsViableWithin w (front ++ rest) → IsViableWithin w front
within_front w front rest v =
    (rest ++ v.0, v.1, subst (λ z. Spell z v.1) (append_assoc front rest v.0) v.2, subst (λ z. Keeps w z v.1) (append_assoc front rest v.0) v.3)

-- ---- tokens of one line

lined_is : (n : ℕ) (ts : List Placed) → StandIn n ts → lined ts ≡ in_line n (marks ts)
lined_is n [] h = refl
lined_is n (t ∷ ts) h = ap (λ z. record { line = z; mark = mark t } ∷ lined ts) h.0 ∙ ap (λ z. record { line = n; mark = mark t } ∷ z) (lined_is n ts h.1)

stand_with : (n : ℕ) (ts : List Placed) (t : Placed) → StandIn n ts → t.line ≡ n → StandIn n (ts ++ t ∷ [])
stand_with n [] t h e = (e, tt)
stand_with n (u ∷ ts) t h e = (h.0, stand_with n ts t h.1 e)

lined_append : (ts us : List Placed) → lined (ts ++ us) ≡ lined ts ++ lined us
lined_append ts us = map-append (λ t. record { line = t.line; mark = mark t }) ts us

lines_are : (n : ℕ) (whole ts : List Placed) → StandIn n ts → lined (whole ++ ts) ≡ lined whole ++ in_line n (marks ts)
lines_are n whole ts h = lined_append whole ts ∙ ap (λ z. lined whole ++ z) (lined_is n ts h)

-- ---- faults

module _ (ls : List Lined) (ss : List Numbered) (p : Place) (read : AreReadLines ls ss p) (n : ℕ) where
  kept_all : (ms : List Mark) → IsOneLine ms → LineHasKeptAll (is_second ss) p (counts_from none_yet ss) ms → HasKeptAll (ls ++ in_line n ms)
  kept_all ms o k part rest w e =
      let h = within_of w ls ss p read in
      elim (front_of ls (in_line n ms) part rest e) [
        | inl i ↦
            let all = text_of_here w ls ss p h n [] (inl refl) in
            inl (within_front w part i.rest (subst (IsViableWithin w) (append-nil ls ∙ i.parts) all))
        | inr b ↦
            let f = line_front n ms b.front b.rest b.parts in
            let law = kept_by_lines w ls ss p h n f.some (one_line_front f.some f.others (subst IsOneLine f.parts o)) in
            subst (HasKept w) (sym (b.part_is ∙ ap (λ z. ls ++ z) f.front_is)) (law.1 (k f.some f.others w f.parts))
      ]

  fault_is : (ms : List Mark) (t : Placed) (fault : Fault) → IsOneLine ms → IsFaultOfLine (is_second ss) p (counts_from none_yet ss) ms t fault →
      IsFaultOf (ls ++ in_line n ms) t fault
  fault_is ms t (SyntaxAt line column) o h =
      let v = viable_by_lines ls ss p (whole_of ls ss p read) n ms o in (λ i. h.0 (v.0 i), h.1, h.2)
  fault_is ms t (LimitAt line which) o h =
      let v = viable_by_lines ls ss p (whole_of ls ss p read) n ms o in
      let k = λ (w : Which). kept_by_lines w ls ss p (within_of w ls ss p read) n ms o in
      (v.1 h.0, λ i. h.1 ((k which).0 i), λ w none. h.2 w (λ i. none ((k w).1 i)), h.3)

pub first_by_lines : (text : List ℕ) (fault : Fault) → IsFaultByLines text fault → IsFirstFault text fault
first_by_lines text fault h =
    let n = h.token.line in
    let before = lines_are n h.whole h.front h.line in
    let upto = ap lined (append_assoc h.whole h.front (h.token ∷ [])) ∙ lines_are n h.whole (h.front ++ h.token ∷ []) (stand_with n h.front h.token h.line refl) in
    let one = one_line_front (marks h.front) (mark h.token ∷ []) (subst IsOneLine (map-append mark h.front (h.token ∷ [])) h.one) in
    let v = viable_by_lines (lined h.whole) h.says h.place (whole_of (lined h.whole) h.says h.place h.read) n (marks h.front) one in record {
      front = h.whole ++ h.front;
      token = h.token;
      rest = h.rest;
      parts = h.parts;
      viable = subst IsViable (sym before) (v.1 h.viable);
      kept = subst HasKeptAll (sym before) (kept_all (lined h.whole) h.says h.place h.read n (marks h.front) one h.kept);
      wrong = subst (λ z. IsFaultOf z h.token fault) (sym upto)
          (fault_is (lined h.whole) h.says h.place h.read n (marks (h.front ++ h.token ∷ [])) h.token fault h.one h.wrong);
    }
