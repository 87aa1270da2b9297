-- Reading a box accepts what spells it and nothing else, and each place can be completed.
use Rattle.std.proofs.Common.{◌≡◌, inl, inr, ℕ, Bool, true, false, List, [], ◌∷◌, ◌++◌, Some, None, refl, sym, ap, ◌∙◌, subst, append_assoc}
use Rattle.std.proofs.lemmas.List.{append-nil}
use Rattle.lang_specs.specs.declared.Kind.TheVariants.{Name, Number, In, Comma, Open, Close, Minus, EndLine}
use Rattle.lang_specs.specs.Marks.{Mark, the, a_name, a_number}
use Rattle.lang_specs.specs.Expressions.{minus_if}
use Rattle.lang_tokens.specs.Kinds.{same_kind}
use Rattle.lang_lists.specs.BoxMachine.{Num, Box, Place, at_var, at_in, at_open, at_lo, at_lo_number, at_comma, at_hi, at_hi_number, at_close, behind, num, in_box, made, boxes, IsNumValue, IsBoxValue, no_limits}
use Rattle.lang_specs.specs.Trees.{BoxTree}
use Rattle.lang_specs.specs.Expressions.{IsNum, IsBox, signed}
use Rattle.poly_specs.specs.Fractions.{Fraction}
use Rattle.lang_tokens.specs.LineFaults.{AreLiterals}
use Rattle.lang_tokens.proofs.LiteralMarks.{zero_text, nought, literal_value, literals_front, literals_rest}
use Rattle.lang_tokens.proofs.Walks.{IsClean, is_the, is_a_name, is_a_number, if_some, if_either, walk, and_walk}
use Rattle.lang_tokens.proofs.LimitLemmas.{ArePlain}
use Rattle.lang_tokens.proofs.JoinedLaws.{Any, Laws, LimitLaws, Values, finish}

abbrev pub spell_num : Num → List Mark
spell_num n = minus_if n.neg ++ a_number n.text ∷ []

-- `NAME in [ NUM , NUM ]`
abbrev pub spell_box : Box → List Mark
spell_box b = a_name b.var ∷ the In ∷ the Open ∷ spell_num b.lo ++ the Comma ∷ spell_num b.hi ++ the Close ∷ []

-- what was read of a box
abbrev pub said : Place → List Mark
said at_var = []
said (at_in v) = a_name v ∷ []
said (at_open v) = a_name v ∷ the In ∷ []
said (at_lo v) = a_name v ∷ the In ∷ the Open ∷ []
said (at_lo_number v) = a_name v ∷ the In ∷ the Open ∷ the Minus ∷ []
said (at_comma v lo) = a_name v ∷ the In ∷ the Open ∷ spell_num lo
said (at_hi v lo) = a_name v ∷ the In ∷ the Open ∷ spell_num lo ++ the Comma ∷ []
said (at_hi_number v lo) = a_name v ∷ the In ∷ the Open ∷ spell_num lo ++ the Comma ∷ the Minus ∷ []
said (at_close v lo hi) = a_name v ∷ the In ∷ the Open ∷ spell_num lo ++ the Comma ∷ spell_num hi
said (behind b) = spell_box b

one_more : (p q : Place) (m : Mark) → IsClean m → in_box p m ≡ Some q → said q ≡ said p ++ m ∷ []
unfolding in_box
one_more at_var q m c e =
    let h = if_some (same_kind m.kind Name) (at_in m.text) q e in
    subst (λ x. said x ≡ m ∷ []) h.1 (ap (λ x. x ∷ []) (sym (is_a_name m h.0)))
one_more (at_in v) q m c e =
    let h = if_some (same_kind m.kind In) (at_open v) q e in
    subst (λ x. said x ≡ a_name v ∷ m ∷ []) h.1 (ap (λ x. a_name v ∷ x ∷ []) (sym (is_the m In c refl h.0)))
one_more (at_open v) q m c e =
    let h = if_some (same_kind m.kind Open) (at_lo v) q e in
    subst (λ x. said x ≡ a_name v ∷ the In ∷ m ∷ []) h.1 (ap (λ x. a_name v ∷ the In ∷ x ∷ []) (sym (is_the m Open c refl h.0)))
one_more (at_lo v) q m c e =
    elim (if_either (same_kind m.kind Minus) (same_kind m.kind Number) (at_lo_number v) (at_comma v (num false m.text)) q e) [
      | inl h ↦ subst (λ x. said x ≡ a_name v ∷ the In ∷ the Open ∷ m ∷ []) h.1 (ap (λ x. a_name v ∷ the In ∷ the Open ∷ x ∷ []) (sym (is_the m Minus c refl h.0)))
      | inr h ↦ subst (λ x. said x ≡ a_name v ∷ the In ∷ the Open ∷ m ∷ []) h.1 (ap (λ x. a_name v ∷ the In ∷ the Open ∷ x ∷ []) (sym (is_a_number m h.0)))
    ]
one_more (at_lo_number v) q m c e =
    let h = if_some (same_kind m.kind Number) (at_comma v (num true m.text)) q e in
    subst (λ x. said x ≡ a_name v ∷ the In ∷ the Open ∷ the Minus ∷ m ∷ []) h.1 (ap (λ x. a_name v ∷ the In ∷ the Open ∷ the Minus ∷ x ∷ []) (sym (is_a_number m h.0)))
one_more (at_comma v lo) q m c e =
    let h = if_some (same_kind m.kind Comma) (at_hi v lo) q e in
    subst (λ x. said x ≡ said (at_comma v lo) ++ m ∷ []) h.1 (ap (λ x. said (at_comma v lo) ++ x ∷ []) (sym (is_the m Comma c refl h.0)))
one_more (at_hi v lo) q m c e =
    elim (if_either (same_kind m.kind Minus) (same_kind m.kind Number) (at_hi_number v lo) (at_close v lo (num false m.text)) q e) [
      | inl h ↦ subst (λ x. said x ≡ said (at_hi v lo) ++ m ∷ []) h.1 (ap (λ x. said (at_comma v lo) ++ the Comma ∷ x ∷ []) (sym (is_the m Minus c refl h.0)) ∙ sym (append_assoc (said (at_comma v lo)) (the Comma ∷ []) (m ∷ [])))
      | inr h ↦ subst (λ x. said x ≡ said (at_hi v lo) ++ m ∷ []) h.1 (ap (λ x. said (at_comma v lo) ++ the Comma ∷ x ∷ []) (sym (is_a_number m h.0)) ∙ sym (append_assoc (said (at_comma v lo)) (the Comma ∷ []) (m ∷ [])))
    ]
one_more (at_hi_number v lo) q m c e =
    let h = if_some (same_kind m.kind Number) (at_close v lo (num true m.text)) q e in
    subst (λ x. said x ≡ said (at_hi_number v lo) ++ m ∷ []) h.1 (ap (λ x. said (at_comma v lo) ++ the Comma ∷ the Minus ∷ x ∷ []) (sym (is_a_number m h.0)) ∙ sym (append_assoc (said (at_comma v lo)) (the Comma ∷ the Minus ∷ []) (m ∷ [])))
one_more (at_close v lo hi) q m c e =
    let h = if_some (same_kind m.kind Close) (behind (record { var = v; lo = lo; hi = hi })) q e in
    subst (λ x. said x ≡ said (at_close v lo hi) ++ m ∷ []) h.1 (ap (λ x. said (at_close v lo hi) ++ x ∷ []) (sym (is_the m Close c refl h.0)))
one_more (behind b) q m c e = absurd cc

complete : (p : Place) (b : Box) → made p ≡ Some b → said p ≡ spell_box b
complete (behind a) b e = let same : a ≡ b = cc in ap spell_box same
complete at_var b e = absurd cc
complete (at_in v) b e = absurd cc
complete (at_open v) b e = absurd cc
complete (at_lo v) b e = absurd cc
complete (at_lo_number v) b e = absurd cc
complete (at_comma v lo) b e = absurd cc
complete (at_hi v lo) b e = absurd cc
complete (at_hi_number v lo) b e = absurd cc
complete (at_close v lo hi) b e = absurd cc

a_box : (i j : Bool) (v lo hi : List ℕ) → Box
a_box i j v lo hi = record { var = v; lo = num i lo; hi = num j hi }

accepts_num : (i j : Bool) (v lo hi : List ℕ) → walk in_box at_var (spell_box (a_box i j v lo hi)) ≡ Some (behind (a_box i j v lo hi))
unfolding walk and_walk in_box a_box
accepts_num true true v lo hi = refl
accepts_num true false v lo hi = refl
accepts_num false true v lo hi = refl
accepts_num false false v lo hi = refl

accepts : (b : Box) → (p : Place) × (walk in_box at_var (spell_box b) ≡ Some p) × (made p ≡ Some b)
unfolding a_box
accepts b = (behind b, accepts_num b.lo.neg b.hi.neg b.var b.lo.text b.hi.text, refl)

nothing_behind : (p : Place) (b : Box) (m : Mark) → made p ≡ Some b → in_box p m ≡ None
unfolding in_box
nothing_behind (behind a) b m e = refl
nothing_behind at_var b m e = absurd cc
nothing_behind (at_in v) b m e = absurd cc
nothing_behind (at_open v) b m e = absurd cc
nothing_behind (at_lo v) b m e = absurd cc
nothing_behind (at_lo_number v) b m e = absurd cc
nothing_behind (at_comma v lo) b m e = absurd cc
nothing_behind (at_hi v lo) b m e = absurd cc
nothing_behind (at_hi_number v lo) b m e = absurd cc
nothing_behind (at_close v lo hi) b m e = absurd cc

finishes : (p : Place) → (more : List Mark) × (b : Box) × (said p ++ more ≡ spell_box b) × ArePlain more
finishes at_var = (
  a_name (120 ∷ []) ∷ the In ∷ the Open ∷ nought ∷ the Comma ∷ nought ∷ the Close ∷ [],
  record { var = 120 ∷ []; lo = num false zero_text; hi = num false zero_text },
  refl,
  (refl, (refl, (refl, (refl, (refl, (refl, (refl, tt))))))),
)
finishes (at_in v) = (
  the In ∷ the Open ∷ nought ∷ the Comma ∷ nought ∷ the Close ∷ [],
  record { var = v; lo = num false zero_text; hi = num false zero_text },
  refl,
  (refl, (refl, (refl, (refl, (refl, (refl, tt)))))),
)
finishes (at_open v) = (
  the Open ∷ nought ∷ the Comma ∷ nought ∷ the Close ∷ [],
  record { var = v; lo = num false zero_text; hi = num false zero_text },
  refl,
  (refl, (refl, (refl, (refl, (refl, tt))))),
)
finishes (at_lo v) = (
  nought ∷ the Comma ∷ nought ∷ the Close ∷ [],
  record { var = v; lo = num false zero_text; hi = num false zero_text },
  refl,
  (refl, (refl, (refl, (refl, tt)))),
)
finishes (at_lo_number v) = (
  nought ∷ the Comma ∷ nought ∷ the Close ∷ [],
  record { var = v; lo = num true zero_text; hi = num false zero_text },
  refl,
  (refl, (refl, (refl, (refl, tt)))),
)
finishes (at_comma v lo) = (
  the Comma ∷ nought ∷ the Close ∷ [],
  record { var = v; lo = lo; hi = num false zero_text },
  sym (append_assoc (said (at_comma v lo)) (the Comma ∷ nought ∷ []) (the Close ∷ [])),
  (refl, (refl, (refl, tt))),
)
finishes (at_hi v lo) = (
  nought ∷ the Close ∷ [],
  record { var = v; lo = lo; hi = num false zero_text },
  append_assoc (said (at_comma v lo)) (the Comma ∷ []) (nought ∷ the Close ∷ []) ∙ sym (append_assoc (said (at_comma v lo)) (the Comma ∷ nought ∷ []) (the Close ∷ [])),
  (refl, (refl, tt)),
)
finishes (at_hi_number v lo) = (
  nought ∷ the Close ∷ [],
  record { var = v; lo = lo; hi = num true zero_text },
  append_assoc (said (at_comma v lo)) (the Comma ∷ the Minus ∷ []) (nought ∷ the Close ∷ []) ∙ sym (append_assoc (said (at_comma v lo)) (the Comma ∷ the Minus ∷ nought ∷ []) (the Close ∷ [])),
  (refl, (refl, tt)),
)
finishes (at_close v lo hi) = (the Close ∷ [], record { var = v; lo = lo; hi = hi }, refl, (refl, tt))
finishes (behind b) = ([], b, append-nil (spell_box b), tt)

pub box_laws : Laws boxes spell_box said Any Any
box_laws = record {
  at_start = refl;
  one_more = one_more;
  complete = complete;
  start_fine = tt;
  stays_fine = λ p q m h e. tt;
  made_good = λ p b h e. tt;
  accepts = λ b h. accepts b;
  no_comma = λ p b e. nothing_behind p b (the Comma) e;
  no_end = λ p b e. nothing_behind p b (the EndLine) e;
  finishes = finishes;
  finish_good = λ p h. tt;
}

pub box_limits : LimitLaws boxes (finish boxes spell_box said Any Any box_laws) IsBoxValue no_limits
box_limits = record {
  at_start = λ which. refl;
  inside = λ which done p q m e f. refl;
  over_comma = λ which done p b e f. refl;
  over_end = λ which done p b e f. refl;
  finished = λ which done p f. refl;
  ended_alike = λ which bs p f. refl;
  at_end = λ which bs ys h. refl;
}

-- ---- values

num_spells : (n : Num) (v : Fraction) → IsNumValue n v → IsNum (spell_num n) v
num_spells n v (size, h, e) = (n.neg, size, a_number n.text ∷ [], refl, (n.text, refl, h), e)

num_spelled : (ms : List Mark) (v : Fraction) → IsNum ms v → (n : Num) × (ms ≡ spell_num n) × IsNumValue n v
num_spelled ms v (neg, size, front, e, (text, f, h), k) = (num neg text, e ∙ ap (λ z. minus_if neg ++ z) f, (size, h, k))

num_valued : (n : Num) → AreLiterals (spell_num n) → (v : Fraction) × IsNumValue n v
num_valued n h =
    let one = literal_value n.text (literals_rest (minus_if n.neg) (a_number n.text ∷ []) h).0 in
    (signed n.neg one.0, (one.0, one.1, refl))

box_spells : (b : Box) (y : BoxTree) → IsBoxValue b y → IsBox (spell_box b) y
box_spells b y (e, lo, hi) =
    let rest = the Open ∷ spell_num b.lo ++ the Comma ∷ spell_num b.hi ++ the Close ∷ [] in
    (rest, ap (λ z. a_name z ∷ the In ∷ rest) e, (spell_num b.lo, spell_num b.hi, refl, num_spells b.lo y.lo lo, num_spells b.hi y.hi hi))

box_spelled : (ms : List Mark) (y : BoxTree) → IsBox ms y → (b : Box) × (ms ≡ spell_box b) × IsBoxValue b y
box_spelled ms y (rest, p, (f, r, q, h, k)) =
    let lo = num_spelled f y.lo h in
    let hi = num_spelled r y.hi k in (
      record { var = y.var; lo = lo.0; hi = hi.0 },
      p ∙ ap (λ z. a_name y.var ∷ the In ∷ z) (q ∙ ap (λ z. the Open ∷ z ++ the Comma ∷ r ++ the Close ∷ []) lo.1 ∙ ap (λ z. the Open ∷ spell_num lo.0 ++ the Comma ∷ z ++ the Close ∷ []) hi.1),
      (refl, lo.2, hi.2),
    )

box_valued : (b : Box) → AreLiterals (spell_box b) → (y : BoxTree) × IsBoxValue b y
box_valued b h =
    let both = literals_front (spell_num b.lo ++ the Comma ∷ spell_num b.hi) (the Close ∷ []) h.1.1.1 in
    let lo = num_valued b.lo (literals_front (spell_num b.lo) (the Comma ∷ spell_num b.hi) both) in
    let hi = num_valued b.hi (literals_rest (spell_num b.lo) (the Comma ∷ spell_num b.hi) both).1 in
    (record { var = b.var; lo = lo.0; hi = hi.0 }, (refl, lo.1, hi.1))

pub box_values : Values spell_box IsBox IsBoxValue Any
box_values = record { spells = λ b y g h. box_spells b y h; spelled = λ ms y h. (let s = box_spelled ms y h in (s.0, s.1, s.2, tt)); valued = λ b g h. box_valued b h }
