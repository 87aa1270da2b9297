-- Lines in order, with what is asked of each.
use Rattle.std.proofs.Common.{◌≡◌, inl, inr, ℕ, Bool, true, false, List, [], ◌∷◌, ◌++◌, Some, refl, sym, ap, ◌∙◌, subst, append_assoc}
use Rattle.std.specs.Bool.{⊤}
use Rattle.std.specs.Prelude.{◌⊎◌}
use Rattle.lang_specs.specs.declared.Which.{Which}
use Rattle.lang_specs.specs.declared.Kind.{Kind}
use Rattle.lang_specs.specs.declared.Kind.TheVariants as kinds
use Rattle.lang_specs.specs.Marks.{Mark, the, Lined, statement}
use Rattle.lang_specs.specs.Grammar.{AreInOrder}
use Rattle.lang_specs.proofs.ListLemmas.{head_is, tail_is}
use Rattle.lang_specs.proofs.SplitLemmas.{apart}
use Rattle.lang_order.specs.declared.Place.{Place}
use Rattle.lang_order.specs.declared.Place.TheVariants as places
use Rattle.lang_order.specs.Statements.{Statement, Version, first_word, IsBody, Numbered, AreLines}
use Rattle.lang_order.specs.Order.{next, Leads}
use Rattle.lang_order.specs.ByLines.{text_end}
use Rattle.lang_order.specs.LineLimits.{line_keeps, Counts, count, counts_from, StayFew, IsLineWithin}
use Rattle.lang_order.specs.Beginnings.{in_line, is_line_end, IsOneLine, IsViableLine, MayStand, IsWithin, EndsText}
use Rattle.lang_order.proofs.LineEnds.{NoEnd, no_end_of}
use Rattle.lang_order.proofs.ToGrammar.{some_is}

-- nothing is asked
abbrev pub Any : Counts → List Mark → Statement → Type 0
Any c ms s = ⊤

-- lines in order that lead from a place, with such counts before, to another
abbrev pub Walk : (Counts → List Mark → Statement → Type 0) → Bool → Place → Counts → List Lined → List Numbered → Place → Type 0
Walk G v p c ls [] q = (ls ≡ []) × (p ≡ q)
Walk G v p c ls (s ∷ ss) q =
    (body : List Mark) × (rest : List Lined) × (r : Place) × (ls ≡ statement s.line (the (first_word s.says) ∷ body) ++ rest)
    × IsBody v body s.says × G c (the (first_word s.says) ∷ body) s.says × (next p (first_word s.says) ≡ Some r)
    × Walk G v r (count c (first_word s.says)) rest ss q

-- ---- what lines in order are

pub say_of : (G : Counts → List Mark → Statement → Type 0) (v : Bool) (p : Place) (c : Counts) (ls : List Lined) (ss : List Numbered) (q : Place) →
    Walk G v p c ls ss q → AreLines v ls ss
say_of G v p c ls [] q w = w.0
say_of G v p c ls (s ∷ ss) q (body, rest, r, e, b, g, d, w) =
    let ms : List Mark = the (first_word s.says) ∷ body in
    (statement s.line ms, rest, e, (ms, refl, (body, refl, b)), say_of G v r (count c (first_word s.says)) rest ss q w)

pub order_of : (G : Counts → List Mark → Statement → Type 0) (v : Bool) (p : Place) (c : Counts) (ls : List Lined) (ss : List Numbered) (q : Place) →
    Walk G v p c ls ss q → Leads p ss q
order_of G v p c ls [] q w = w.1
order_of G v p c ls (s ∷ ss) q (body, rest, r, e, b, g, d, w) = (r, d, order_of G v r (count c (first_word s.says)) rest ss q w)

pub walk_of : (v : Bool) (p : Place) (c : Counts) (ls : List Lined) (ss : List Numbered) (q : Place) → AreLines v ls ss → Leads p ss q → Walk Any v p c ls ss q
walk_of v p c ls [] q h e = (h, e)
walk_of v p c ls (s ∷ ss) q (front, rest, e, (ms, f, (body, g, b)), h) (r, d, k) =
    (body, rest, r, e ∙ ap (λ z. z ++ rest) f ∙ ap (λ z. statement s.line z ++ rest) g, b, tt, d, walk_of v r (count c (first_word s.says)) rest ss q h k)

pub walk_within : (which : Which) (v : Bool) (p : Place) (c : Counts) (ls : List Lined) (ss : List Numbered) (q : Place) →
    AreInOrder (IsLineWithin which v) ls ss → Leads p ss q → StayFew which c ss → Walk (IsWithin which) v p c ls ss q
walk_within which v p c ls [] q h e few = (h, e)
walk_within which v p c ls (s ∷ ss) q (front, rest, e, (ms, f, (body, g, b), keep), h) (r, d, k) few = (
  body,
  rest,
  r,
  e ∙ ap (λ z. z ++ rest) f ∙ ap (λ z. statement s.line z ++ rest) g,
  b,
  (ap (λ z. line_keeps which z s.says) (sym g) ∙ keep, few.0),
  d,
  walk_within which v r (count c (first_word s.says)) rest ss q h k few.1,
)

pub any_of : (G : Counts → List Mark → Statement → Type 0) (v : Bool) (p : Place) (c : Counts) (ls : List Lined) (ss : List Numbered) (q : Place) →
    Walk G v p c ls ss q → Walk Any v p c ls ss q
any_of G v p c ls ss q w = walk_of v p c ls ss q (say_of G v p c ls ss q w) (order_of G v p c ls ss q w)

-- lines behind others
pub walk_on : (G : Counts → List Mark → Statement → Type 0) (v : Bool) (p : Place) (c : Counts) (ls : List Lined) (ss : List Numbered) (q : Place)
    (ms : List Lined) (ts : List Numbered) (r : Place) → Walk G v p c ls ss q → Walk G v q (counts_from c ss) ms ts r → Walk G v p c (ls ++ ms) (ss ++ ts) r
walk_on G v p c ls [] q ms ts r (e, f) k =
    subst (λ z. Walk G v p c (z ++ ms) ts r) (sym e) (subst (λ z. Walk G v z c ms ts r) (sym f) k)
walk_on G v p c ls (s ∷ ss) q ms ts r (body, rest, t, e, b, g, d, w) k = (
  body,
  rest ++ ms,
  t,
  ap (λ z. z ++ ms) e ∙ append_assoc (statement s.line (the (first_word s.says) ∷ body)) rest ms,
  b,
  g,
  d,
  walk_on G v t (count c (first_word s.says)) rest ss q ms ts r w k,
)

-- ---- one way to split

-- one line at the front of both
pub record SameFront (a b : List Mark) (x y : List Lined) : Type 0 where
  pub marks : a ≡ b
  pub rests : x ≡ y

pub one_split : (n m : ℕ) (a b : List Mark) (x y : List Lined) → NoEnd a → NoEnd b → statement n a ++ x ≡ statement m b ++ y → SameFront a b x y
one_split n m [] [] x y h k e =
    record { marks = refl; rests = tail_is (record { line = n; mark = the kinds.EndLine }) (record { line = m; mark = the kinds.EndLine }) x y e }
one_split n m [] (j ∷ b) x y h k e =
    apart (ap (λ l. is_line_end l.mark.kind) (head_is (record { line = n; mark = the kinds.EndLine }) (record { line = m; mark = j }) x (statement m b ++ y) e) ∙ k.0)
one_split n m (i ∷ a) [] x y h k e =
    apart (ap (λ l. is_line_end l.mark.kind) (sym (head_is (record { line = n; mark = i }) (record { line = m; mark = the kinds.EndLine }) (statement n a ++ x) y e)) ∙ h.0)
one_split n m (i ∷ a) (j ∷ b) x y h k e =
    let first = ap (λ l. l.mark) (head_is (record { line = n; mark = i }) (record { line = m; mark = j }) (statement n a ++ x) (statement m b ++ y) e) in
    let others = one_split n m a b x y h.1 k.1 (tail_is (record { line = n; mark = i }) (record { line = m; mark = j }) (statement n a ++ x) (statement m b ++ y) e) in
    record { marks = ap (λ z. z ∷ a) first ∙ ap (λ z. j ∷ z) others.marks; rests = others.rests }

one_rest : (m : Mark) (ms : List Mark) → IsOneLine (m ∷ ms) → IsOneLine ms
one_rest m [] h = tt
one_rest m (n ∷ ms) h = h.1

-- what begins a text that begins with a line begins that line
pub record Tail (ms inside : List Mark) : Type 0 where
  pub tail : List Mark
  pub parts : ms ++ tail ≡ inside ++ the kinds.EndLine ∷ []

pub line_begins : (n m : ℕ) (ms inside : List Mark) (more rest : List Lined) → NoEnd inside → IsOneLine ms →
    in_line n ms ++ more ≡ statement m inside ++ rest → Tail ms inside
line_begins n m [] inside more rest h o e = record { tail = inside ++ the kinds.EndLine ∷ []; parts = refl }
line_begins n m (i ∷ []) [] more rest h o e =
    let first = ap (λ l. l.mark) (head_is (record { line = n; mark = i }) (record { line = m; mark = the kinds.EndLine }) more rest e) in
    record { tail = []; parts = ap (λ z. z ∷ []) first }
line_begins n m (i ∷ j ∷ ms) [] more rest h o e =
    apart (ap (λ l. is_line_end l.mark.kind) (sym (head_is (record { line = n; mark = i }) (record { line = m; mark = the kinds.EndLine })
    (in_line n (j ∷ ms) ++ more) rest e)) ∙ o.0)
line_begins n m (i ∷ ms) (j ∷ inside) more rest h o e =
    let first = ap (λ l. l.mark) (head_is (record { line = n; mark = i }) (record { line = m; mark = j }) (in_line n ms ++ more) (statement m inside ++ rest) e) in
    let others = line_begins n m ms inside more rest h.1 (one_rest i ms o)
    (tail_is (record { line = n; mark = i }) (record { line = m; mark = j }) (in_line n ms ++ more) (statement m inside ++ rest) e) in
    record { tail = others.tail; parts = ap (λ z. z ∷ ms ++ others.tail) first ∙ ap (λ z. j ∷ z) others.parts }

-- ---- lines of which others are the front

pub is_text_end : Kind → Bool
is_text_end kinds.EndText = true
is_text_end k = false

pub word_is_no_end : (s : Statement) → is_text_end (first_word s) ≡ false
unfolding is_text_end
word_is_no_end (Version w) = refl
word_is_no_end s = refl

end_is : is_text_end kinds.EndText ≡ true
unfolding is_text_end
end_is = refl

pub record Stripped (G : Counts → List Mark → Statement → Type 0) (v : Bool) (q : Place) (c : Counts) (more : List Lined) (r : Place) (last : ℕ) : Type 0 where
  pub lines : List Lined
  pub says : List Numbered
  pub parts : more ≡ lines ++ text_end last
  pub walk : Walk G v q c lines says r

same_place : (p r t : Place) (a b : Kind) → a ≡ b → next p a ≡ Some r → next p b ≡ Some t → t ≡ r
same_place p r t a b e d f = some_is t r (sym f ∙ ap (next p) (sym e) ∙ d)

pub strip : (G : Counts → List Mark → Statement → Type 0) (v : Bool) (p : Place) (c : Counts) (ls : List Lined) (ss : List Numbered) (q : Place)
    (ms : List Lined) (ts : List Numbered) (r : Place) (more : List Lined) (last : ℕ) → Walk Any v p c ls ss q → Walk G v p c ms ts r →
    ls ++ more ≡ ms ++ text_end last → Stripped G v q (counts_from c ss) more r last
strip G v p c ls [] q ms ts r more last (e, f) k g =
    record { lines = ms; says = ts; parts = ap (λ z. z ++ more) (sym e) ∙ g; walk = subst (λ z. Walk G v z c ms ts r) f k }
strip G v p c ls (s ∷ ss) q ms [] r more last (body, rest, t, e, b, x, d, w) (f, k) g =
    let line : List Lined = statement s.line (the (first_word s.says) ∷ body) in
    let whole : line ++ (rest ++ more) ≡ text_end last = sym (append_assoc line rest more) ∙ ap (λ z. z ++ more) (sym e) ∙ g ∙ ap (λ z. z ++ text_end last) f in
    apart (sym end_is ∙ ap (λ l. is_text_end l.mark.kind) (sym (head_is (record { line = s.line; mark = the (first_word s.says) })
    (record { line = last; mark = the kinds.EndText }) (statement s.line body ++ (rest ++ more)) [] whole)) ∙ word_is_no_end s.says)
strip G v p c ls (s ∷ ss) q ms (u ∷ ts) r more last (body, rest, t, e, b, x, d, w) (other, after, y, f, k, l, h, z) g =
    let mine : List Mark = the (first_word s.says) ∷ body in
    let theirs : List Mark = the (first_word u.says) ∷ other in
    let whole : statement s.line mine ++ (rest ++ more) ≡ statement u.line theirs ++ (after ++ text_end last) =
    sym (append_assoc (statement s.line mine) rest more) ∙ ap (λ i. i ++ more) (sym e) ∙ g ∙ ap (λ i. i ++ text_end last) f
    ∙ append_assoc (statement u.line theirs) after (text_end last) in
    let same = one_split s.line u.line mine theirs (rest ++ more) (after ++ text_end last) (no_end_of v body s.says b) (no_end_of v other u.says k) whole in
    let words : first_word s.says ≡ first_word u.says = ap (λ m. m.kind) (head_is (the (first_word s.says)) (the (first_word u.says)) body other same.marks) in
    let there = subst (λ i. Walk G v i (count c (first_word u.says)) after ts r) (same_place p t y (first_word s.says) (first_word u.says) words d h) z in
    let counted = subst (λ i. Walk G v t (count c i) after ts r) (sym words) there in
    strip G v t (count c (first_word s.says)) rest ss q after ts r more last w counted same.rests

-- ---- the line behind

-- behind a place, with such counts before, the text may go on with these marks of a line
abbrev pub GoesOn : (Counts → List Mark → Statement → Type 0) → Bool → Place → Counts → List Mark → Type 0
GoesOn G v p c ms = (ms ≡ []) ⊎ (EndsText p ms ⊎ IsViableLine (λ inside s. MayStand v p inside s × G c inside s) ms)

alone : (n last : ℕ) (m : Mark) (ms : List Mark) (more : List Lined) → in_line n (m ∷ ms) ++ more ≡ text_end last → m ∷ ms ≡ the kinds.EndText ∷ []
alone n last m [] more e = ap (λ l. l.mark ∷ []) (head_is (record { line = n; mark = m }) (record { line = last; mark = the kinds.EndText }) more [] e)
alone n last m (o ∷ ms) more e =
    absurd (let f = tail_is (record { line = n; mark = m }) (record { line = last; mark = the kinds.EndText }) (in_line n (o ∷ ms) ++ more) [] e in
    let b : ⊥ = cc in b)

pub unfinished : (G : Counts → List Mark → Statement → Type 0) (v : Bool) (p : Place) (c : Counts) (n last : ℕ) (ms : List Mark) (more lines : List Lined)
    (ts : List Numbered) → Walk G v p c lines ts places.End → IsOneLine ms → in_line n ms ++ more ≡ lines ++ text_end last → GoesOn G v p c ms
unfinished G v p c n last [] more lines ts w o e = inl refl
unfinished G v p c n last (m ∷ ms) more lines [] (f, g) o e =
    inr (inl (g, alone n last m ms more (e ∙ ap (λ z. z ++ text_end last) f)))
unfinished G v p c n last (m ∷ ms) more lines (s ∷ ts) (body, rest, r, f, b, g, d, w) o e =
    let inside : List Mark = the (first_word s.says) ∷ body in
    let t = line_begins n s.line (m ∷ ms) inside more (rest ++ text_end last) (no_end_of v body s.says b) o
    (e ∙ ap (λ z. z ++ text_end last) f ∙ append_assoc (statement s.line inside) rest (text_end last)) in
    inr (inr (t.tail, s.says, (inside, t.parts, (((body, refl, b), (r, d)), g))))
