-- Statements, locations, automata and texts are told by their tokens.
use Rattle.std.proofs.Common.{◌≡◌, ℕ, Bool, true, false, List, [], ◌∷◌, ◌++◌, map, Option, Some, None, refl, sym, ap, ◌∙◌, subst, append_assoc}
use Rattle.std.specs.Bool.{⊤}
use Rattle.std.proofs.lemmas.List.{append_cancel_left}
use Rattle.lang_specs.specs.declared.Kind.{Kind}
use Rattle.lang_specs.specs.declared.Kind.TheVariants as kinds
use Rattle.lang_specs.specs.Marks.{Mark, the, a_name, Lined, statement}
use Rattle.lang_specs.specs.Trees.{RowTree, RowsTree, BoxesTree, LocTree, Act, TransTree}
use Rattle.lang_specs.specs.Limits.{has_few_digits}
use Rattle.lang_specs.specs.Expressions.{AreJoined, AreRows, IsBox, IsGuard, AreActs}
use Rattle.lang_specs.specs.Grammar.{IsRowsLine, IsFlow, unsafe_if, IsLoc, IsTrans}
use Rattle.lang_specs.proofs.ListLemmas.{head_is, tail_is}
use Rattle.lang_specs.proofs.SplitLemmas.{AreRead, Closed, Splits, apart, same_of, read_front, read_rest}
use Rattle.lang_specs.proofs.ListSplits.{ends_list, ends_line, joined_splits, rows_splits, box_splits, guard_splits, acts_splits, closed_not, line_closed}

-- ---- lines

-- no literal of these has too many digits
abbrev pub LinesRead : List Lined → Type 0
LinesRead [] = ⊤
LinesRead (l ∷ ls) = (has_few_digits l.mark.kind l.mark.text ≡ true) × LinesRead ls

pub lines_front : (xs ys : List Lined) → LinesRead (xs ++ ys) → LinesRead xs
lines_front [] ys h = tt
lines_front (x ∷ xs) ys h = (h.0, lines_front xs ys h.1)

pub lines_rest : (xs ys : List Lined) → LinesRead (xs ++ ys) → LinesRead ys
lines_rest [] ys h = h
lines_rest (x ∷ xs) ys h = lines_rest xs ys h.1

statement_read : (line : ℕ) (ms : List Mark) → LinesRead (statement line ms) → AreRead ms
statement_read line [] h = tt
statement_read line (m ∷ ms) h = (h.0, statement_read line ms h.1)

-- the first token is of these kinds
abbrev pub LineHead : (Kind → Bool) → List Lined → Type 0
LineHead these [] = ⊥
LineHead these (l ∷ ls) = these l.mark.kind ≡ true

pub line_head_not : (ends these : Kind → Bool) (xs ys : List Lined) → ((k : Kind) → these k ≡ true → ends k ≡ false) → LineHead these xs → LineHead ends ys →
    xs ≡ ys → ⊥
line_head_not ends these [] ys out h k e = h
line_head_not ends these (x ∷ xs) [] out h k e = k
line_head_not ends these (x ∷ xs) (y ∷ ys) out h k e =
    apart (sym k ∙ ap (λ l. ends l.mark.kind) (sym (head_is x y xs ys e)) ∙ out x.mark.kind h)

pub line_head_by : (these more : Kind → Bool) (xs : List Lined) → ((k : Kind) → these k ≡ true → more k ≡ true) → LineHead these xs → LineHead more xs
line_head_by these more [] wider h = h
line_head_by these more (x ∷ xs) wider h = wider x.mark.kind h

pub marks_are : (line : ℕ) (ms : List Mark) (rest : List Lined) → map (λ l. l.mark) (statement line ms ++ rest) ≡ ms ++ (the kinds.EndLine ∷ map (λ l. l.mark) rest)
marks_are line [] rest = refl
marks_are line (m ∷ ms) rest = ap (λ z. m ∷ z) (marks_are line ms rest)

-- one statement at the front of both
pub record SameLine {X : Type 0} (line other : ℕ) (rest after : List Lined) (x y : X) : Type 0 where
  pub lines : line ≡ other
  pub rests : rest ≡ after
  pub things : x ≡ y

pub one_line : {X : Type 0} (ends : Kind → Bool) (Is : List Mark → X → Type 0) → Splits ends Is → ends kinds.EndLine ≡ true →
    (k : Kind) (line other : ℕ) (ms ns : List Mark) (rest after : List Lined) (x y : X) → Is ms x → Is ns y → LinesRead (statement line (the k ∷ ms)) →
    statement line (the k ∷ ms) ++ rest ≡ statement other (the k ∷ ns) ++ after → SameLine line other rest after x y
one_line ends Is one end k line other ms ns rest after x y h i read e =
    let lines : line ≡ other = ap (λ l. l.line) (head_is (record { line = line; mark = the k }) (record { line = other; mark = the k })
    (statement line ms ++ rest) (statement other ns ++ after) e) in
    let marks : the k ∷ (ms ++ (the kinds.EndLine ∷ map (λ l. l.mark) rest)) ≡ the k ∷ (ns ++ (the kinds.EndLine ∷ map (λ l. l.mark) after)) =
    sym (marks_are line (the k ∷ ms) rest) ∙ ap (map (λ l. l.mark)) e ∙ marks_are other (the k ∷ ns) after in
    let inside = one ms ns (the kinds.EndLine ∷ map (λ l. l.mark) rest) (the kinds.EndLine ∷ map (λ l. l.mark) after) x y h i
    (statement_read line (the k ∷ ms) read).1 end end
    (tail_is (the k) (the k) (ms ++ (the kinds.EndLine ∷ map (λ l. l.mark) rest)) (ns ++ (the kinds.EndLine ∷ map (λ l. l.mark) after)) marks) in
    let same : statement line (the k ∷ ms) ≡ statement other (the k ∷ ns) =
    ap (λ n. statement n (the k ∷ ms)) lines ∙ ap (λ z. statement other (the k ∷ z)) inside.fronts in
    record {
      lines = lines;
      rests = append_cancel_left (statement other (the k ∷ ns)) rest after (ap (λ z. z ++ rest) (sym same) ∙ e);
      things = inside.things;
    }

-- lines that begin a list are told by it, where what stands behind them begins with these kinds
pub record SameLines {X : Type 0} (rest after : List Lined) (x y : X) : Type 0 where
  pub rests : rest ≡ after
  pub things : x ≡ y

abbrev pub LinesSplit : {X : Type 0} → (Kind → Bool) → (List Lined → X → Type 0) → Type 0
LinesSplit {X} ends Is =
    (front other rest after : List Lined) (x y : X) → Is front x → Is other y → LinesRead front → LineHead ends rest → LineHead ends after →
    front ++ rest ≡ other ++ after → SameLines rest after x y

-- ---- the statements of a location

pub is_kind_out : (ends : Kind → Bool) (k : Kind) (line : ℕ) (ms : List Mark) (rest after : List Lined) → ends k ≡ false → LineHead ends rest →
    rest ≡ statement line (the k ∷ ms) ++ after → ⊥
is_kind_out ends k line ms [] after out h e = h
is_kind_out ends k line ms (l ∷ rest) after out h e =
    apart (sym h ∙ ap (λ z. ends z.mark.kind) (head_is l (record { line = line; mark = the k }) rest (statement line ms ++ after) e) ∙ out)

rows_same : (r q : RowsTree) → r.line ≡ q.line → r.rows ≡ q.rows → r ≡ q
rows_same r q a b =
    let first : r ≡ record { line = q.line; rows = r.rows } = ap (λ z. record { line = z; rows = r.rows }) a in
    first ∙ ap (λ z. record { line = q.line; rows = z }) b

rows_line_splits : (strict : Bool) (k : Kind) (ends : Kind → Bool) → ends k ≡ false → LinesSplit ends (IsRowsLine strict k)
rows_line_splits strict k ends out front other rest after None None h i read c d e =
    record { rests = ap (λ z. z ++ rest) (sym h) ∙ e ∙ ap (λ z. z ++ after) i; things = refl }
rows_line_splits strict k ends out front other rest after None (Some q) h (ns, i, j) read c d e =
    absurd (is_kind_out ends k q.line ns rest after out c (ap (λ z. z ++ rest) (sym h) ∙ e ∙ ap (λ z. z ++ after) i))
rows_line_splits strict k ends out front other rest after (Some r) None (ms, h, i) j read c d e =
    absurd (is_kind_out ends k r.line ms after rest out d (ap (λ z. z ++ after) (sym j) ∙ sym e ∙ ap (λ z. z ++ rest) h))
rows_line_splits strict k ends out front other rest after (Some r) (Some q) (ms, h, i) (ns, j, l) read c d e =
    let same = one_line ends_list (AreRows strict) (rows_splits strict) refl k r.line q.line ms ns rest after r.rows q.rows i l (subst LinesRead h read)
    (ap (λ z. z ++ rest) (sym h) ∙ e ∙ ap (λ z. z ++ after) j) in
    record { rests = same.rests; things = ap Some (rows_same r q same.lines same.things) }

flow_same : (f g : BoxesTree) → f.line ≡ g.line → f.boxes ≡ g.boxes → f ≡ g
flow_same f g a b =
    let first : f ≡ record { line = g.line; boxes = f.boxes } = ap (λ z. record { line = z; boxes = f.boxes }) a in
    first ∙ ap (λ z. record { line = g.line; boxes = z }) b

flow_splits : (front other rest after : List Lined) (f g : BoxesTree) → IsFlow front f → IsFlow other g → LinesRead front → front ++ rest ≡ other ++ after →
    SameLines rest after f g
flow_splits front other rest after f g (ms, h, i) (ns, j, l) read e =
    let same = one_line ends_list (AreJoined IsBox) (joined_splits IsBox box_splits) refl kinds.Flow f.line g.line ms ns rest after f.boxes g.boxes i l
    (subst LinesRead h read) (ap (λ z. z ++ rest) (sym h) ∙ e ∙ ap (λ z. z ++ after) j) in
    record { rests = same.rests; things = flow_same f g same.lines same.things }

-- the name of a location, and whether it is unsafe
record LocHead : Type 0 where
  name : List ℕ
  is_unsafe : Bool

abbrev IsLocHead : List Mark → LocHead → Type 0
IsLocHead ms h = ms ≡ a_name h.name ∷ unsafe_if h.is_unsafe

unsafe_same : (a b : Bool) (rest after : List Mark) → Closed ends_line rest → Closed ends_line after → unsafe_if a ++ rest ≡ unsafe_if b ++ after → a ≡ b
unsafe_same true true rest after c d e = refl
unsafe_same false false rest after c d e = refl
unsafe_same true false rest after c d e = absurd (closed_not ends_line (the kinds.Unsafe) rest after refl d (sym e))
unsafe_same false true rest after c d e = absurd (closed_not ends_line (the kinds.Unsafe) after rest refl c e)

head_same : (x y : LocHead) → x.name ≡ y.name → x.is_unsafe ≡ y.is_unsafe → x ≡ y
head_same x y a b =
    let first : x ≡ record { name = y.name; is_unsafe = x.is_unsafe } = ap (λ z. record { name = z; is_unsafe = x.is_unsafe }) a in
    first ∙ ap (λ z. record { name = y.name; is_unsafe = z }) b

loc_head_splits : Splits ends_line IsLocHead
loc_head_splits front other rest after x y h k read c d e =
    let whole : a_name x.name ∷ (unsafe_if x.is_unsafe ++ rest) ≡ a_name y.name ∷ (unsafe_if y.is_unsafe ++ after) =
    ap (λ z. z ++ rest) (sym h) ∙ e ∙ ap (λ z. z ++ after) k in
    let names : x.name ≡ y.name =
    ap (λ m. m.text) (head_is (a_name x.name) (a_name y.name) (unsafe_if x.is_unsafe ++ rest) (unsafe_if y.is_unsafe ++ after) whole) in
    let marked = unsafe_same x.is_unsafe y.is_unsafe rest after c d
    (tail_is (a_name x.name) (a_name y.name) (unsafe_if x.is_unsafe ++ rest) (unsafe_if y.is_unsafe ++ after) whole) in
    let heads = head_same x y names marked in
    same_of front other rest after x y (h ∙ ap (λ z. a_name z.name ∷ unsafe_if z.is_unsafe) heads ∙ sym k) e heads

loc_of : (line : ℕ) (name : List ℕ) (is_unsafe : Bool) (init inv : Option RowsTree) (flow : BoxesTree) (also : Option RowsTree) → LocTree
loc_of line name is_unsafe init inv flow also = record {
  line = line;
  name = name;
  is_unsafe = is_unsafe;
  init = init;
  inv = inv;
  flow = flow;
  also = also;
}

loc_parts : (x y : LocTree) → x.line ≡ y.line → x.name ≡ y.name → x.is_unsafe ≡ y.is_unsafe → x.init ≡ y.init → x.inv ≡ y.inv → x.flow ≡ y.flow →
    x.also ≡ y.also →
    loc_of x.line x.name x.is_unsafe x.init x.inv x.flow x.also ≡ loc_of y.line y.name y.is_unsafe y.init y.inv y.flow y.also
loc_parts x y a b c d e f g = cc

loc_same : (x y : LocTree) → x.line ≡ y.line → x.name ≡ y.name → x.is_unsafe ≡ y.is_unsafe → x.init ≡ y.init → x.inv ≡ y.inv → x.flow ≡ y.flow →
    x.also ≡ y.also → x ≡ y
unfolding loc_of
loc_same x y a b c d e f g = loc_parts x y a b c d e f g

-- ---- locations

abbrev is_flow : Kind → Bool
is_flow kinds.Flow = true
is_flow k = false

abbrev after_init : Kind → Bool
after_init kinds.Inv = true
after_init kinds.Flow = true
after_init k = false

-- what may stand behind a location
abbrev pub after_loc : Kind → Bool
after_loc kinds.Loc = true
after_loc kinds.Trans = true
after_loc kinds.End = true
after_loc k = false

flow_is_wider : (k : Kind) → is_flow k ≡ true → after_init k ≡ true
flow_is_wider kinds.Flow h = refl
flow_is_wider k h = apart (sym h)

flow_head : (ls rest : List Lined) (f : BoxesTree) → IsFlow ls f → LineHead is_flow (ls ++ rest)
flow_head ls rest f (ms, h, i) = subst (λ z. LineHead is_flow (z ++ rest)) (sym h) refl

inv_head : (strict : Bool) (ls rest : List Lined) (o : Option RowsTree) → IsRowsLine strict kinds.Inv ls o → LineHead is_flow rest →
    LineHead after_init (ls ++ rest)
inv_head strict ls rest None h k =
    subst (λ z. LineHead after_init (z ++ rest)) (sym h) (line_head_by is_flow after_init rest flow_is_wider k)
inv_head strict ls rest (Some r) (ms, h, i) k = subst (λ z. LineHead after_init (z ++ rest)) (sym h) refl

regroup : (a b c d e rest : List Lined) → (a ++ b ++ c ++ d ++ e) ++ rest ≡ a ++ (b ++ (c ++ (d ++ (e ++ rest))))
regroup a b c d e rest =
    append_assoc (a ++ b ++ c ++ d) e rest ∙ append_assoc (a ++ b ++ c) d (e ++ rest) ∙ append_assoc (a ++ b) c (d ++ (e ++ rest))
    ∙ append_assoc a b (c ++ (d ++ (e ++ rest)))

abbrev loc_head : LocTree → LocHead
loc_head l = record { name = l.name; is_unsafe = l.is_unsafe }

abbrev loc_line : LocTree → List Lined
loc_line l = statement l.line (the kinds.Loc ∷ a_name l.name ∷ unsafe_if l.is_unsafe)

pub loc_splits : (strict : Bool) → LinesSplit after_loc (IsLoc strict)
loc_splits strict front other rest after x y (i, v, f, a, p, hi, hv, hf, ha) (j, w, g, b, q, kj, kw, kg, kb) read c d e =
    let whole : loc_line x ++ (i ++ (v ++ (f ++ (a ++ rest)))) ≡ loc_line y ++ (j ++ (w ++ (g ++ (b ++ after)))) =
    sym (regroup (loc_line x) i v f a rest) ∙ ap (λ z. z ++ rest) (sym p) ∙ e ∙ ap (λ z. z ++ after) q ∙ regroup (loc_line y) j w g b after in
    let reads : LinesRead (loc_line x ++ i ++ v ++ f ++ a) = subst LinesRead p read in
    let reads_f = lines_front (loc_line x ++ i ++ v ++ f) a reads in
    let reads_v = lines_front (loc_line x ++ i ++ v) f reads_f in
    let reads_i = lines_front (loc_line x ++ i) v reads_v in
    let head : SameLine x.line y.line (i ++ (v ++ (f ++ (a ++ rest)))) (j ++ (w ++ (g ++ (b ++ after))))
    (loc_head x) (loc_head y) =
    one_line ends_line IsLocHead loc_head_splits refl kinds.Loc x.line y.line (a_name x.name ∷ unsafe_if x.is_unsafe)
    (a_name y.name ∷ unsafe_if y.is_unsafe) (i ++ (v ++ (f ++ (a ++ rest)))) (j ++ (w ++ (g ++ (b ++ after))))
    (loc_head x) (loc_head y) refl refl (lines_front (loc_line x) i reads_i) whole in
    let init = rows_line_splits strict kinds.Init after_init refl i j (v ++ (f ++ (a ++ rest))) (w ++ (g ++ (b ++ after))) x.init y.init hi kj
    (lines_rest (loc_line x) i reads_i) (inv_head strict v (f ++ (a ++ rest)) x.inv hv (flow_head f (a ++ rest) x.flow hf))
    (inv_head strict w (g ++ (b ++ after)) y.inv kw (flow_head g (b ++ after) y.flow kg)) head.rests in
    let inv = rows_line_splits strict kinds.Inv is_flow refl v w (f ++ (a ++ rest)) (g ++ (b ++ after)) x.inv y.inv hv kw
    (lines_rest (loc_line x ++ i) v reads_v) (flow_head f (a ++ rest) x.flow hf) (flow_head g (b ++ after) y.flow kg) init.rests in
    let flow = flow_splits f g (a ++ rest) (b ++ after) x.flow y.flow hf kg (lines_rest (loc_line x ++ i ++ v) f reads_f) inv.rests in
    let also = rows_line_splits false kinds.Also after_loc refl a b rest after x.also y.also ha kb
    (lines_rest (loc_line x ++ i ++ v ++ f) a reads) c d flow.rests in
    record {
      rests = also.rests;
      things = loc_same x y head.lines (ap (λ h. h.name) head.things) (ap (λ h. h.is_unsafe) head.things) init.things inv.things flow.things also.things;
    }

-- ---- transitions

-- a transition without its line
record TransBody : Type 0 where
  from : List ℕ
  to : List ℕ
  label : List ℕ
  guard : List RowTree
  acts : List Act

abbrev body_of : TransTree → TransBody
body_of t = record { from = t.from; to = t.to; label = t.label; guard = t.guard; acts = t.acts }

abbrev body_tokens : List ℕ → List ℕ → List ℕ → List Mark → List Mark
body_tokens from to label behind = a_name from ∷ the kinds.Arrow ∷ a_name to ∷ the kinds.As ∷ a_name label ∷ behind

abbrev IsTransBody : Bool → List Mark → TransBody → Type 0
IsTransBody strict ms t =
    (guard acts : List Mark) × (ms ≡ body_tokens t.from t.to t.label (guard ++ acts)) × IsGuard strict guard t.guard × AreActs acts t.acts

body_make : (from to label : List ℕ) (guard : List RowTree) (acts : List Act) → TransBody
body_make from to label guard acts = record { from = from; to = to; label = label; guard = guard; acts = acts }

body_parts : (x y : TransBody) → x.from ≡ y.from → x.to ≡ y.to → x.label ≡ y.label → x.guard ≡ y.guard → x.acts ≡ y.acts →
    body_make x.from x.to x.label x.guard x.acts ≡ body_make y.from y.to y.label y.guard y.acts
body_parts x y a b c d e = cc

body_same : (x y : TransBody) → x.from ≡ y.from → x.to ≡ y.to → x.label ≡ y.label → x.guard ≡ y.guard → x.acts ≡ y.acts → x ≡ y
unfolding body_make
body_same x y a b c d e = body_parts x y a b c d e

acts_closed : (ms rest : List Mark) (acts : List Act) → AreActs ms acts → Closed ends_line rest → Closed ends_list (ms ++ rest)
acts_closed ms rest [] h c = subst (λ z. Closed ends_list (z ++ rest)) (sym h) (line_closed rest c)
acts_closed ms rest (a ∷ acts) (r, h, k) c = subst (λ z. Closed ends_list (z ++ rest)) (sym h) refl

-- the names at the front of two transitions
record SameNames (x y : TransBody) (rest after : List Mark) : Type 0 where
  froms : x.from ≡ y.from
  tos : x.to ≡ y.to
  labels : x.label ≡ y.label
  rests : rest ≡ after

names_same : (x y : TransBody) (rest after : List Mark) → body_tokens x.from x.to x.label rest ≡ body_tokens y.from y.to y.label after →
    SameNames x y rest after
names_same x y rest after e =
    let one = tail_is (a_name x.from) (a_name y.from) (the kinds.Arrow ∷ a_name x.to ∷ the kinds.As ∷ a_name x.label ∷ rest)
    (the kinds.Arrow ∷ a_name y.to ∷ the kinds.As ∷ a_name y.label ∷ after) e in
    let two = tail_is (the kinds.Arrow) (the kinds.Arrow) (a_name x.to ∷ the kinds.As ∷ a_name x.label ∷ rest)
    (a_name y.to ∷ the kinds.As ∷ a_name y.label ∷ after) one in
    let three = tail_is (a_name x.to) (a_name y.to) (the kinds.As ∷ a_name x.label ∷ rest) (the kinds.As ∷ a_name y.label ∷ after) two in
    let four = tail_is (the kinds.As) (the kinds.As) (a_name x.label ∷ rest) (a_name y.label ∷ after) three in
    record {
      froms = ap (λ m. m.text) (head_is (a_name x.from) (a_name y.from) (the kinds.Arrow ∷ a_name x.to ∷ the kinds.As ∷ a_name x.label ∷ rest)
          (the kinds.Arrow ∷ a_name y.to ∷ the kinds.As ∷ a_name y.label ∷ after) e);
      tos = ap (λ m. m.text) (head_is (a_name x.to) (a_name y.to) (the kinds.As ∷ a_name x.label ∷ rest) (the kinds.As ∷ a_name y.label ∷ after) two);
      labels = ap (λ m. m.text) (head_is (a_name x.label) (a_name y.label) rest after four);
      rests = tail_is (a_name x.label) (a_name y.label) rest after four;
    }

body_tokens_same : (x y : TransBody) (g h a b : List Mark) → x ≡ y → g ≡ h → a ≡ b →
    body_tokens x.from x.to x.label (g ++ a) ≡ body_tokens y.from y.to y.label (h ++ b)
body_tokens_same x y g h a b e f k =
    ap (λ z. body_tokens z.from z.to z.label (g ++ a)) e ∙ ap (λ z. body_tokens y.from y.to y.label (z ++ a)) f
    ∙ ap (λ z. body_tokens y.from y.to y.label (h ++ z)) k

trans_body_splits : (strict : Bool) → Splits ends_line (IsTransBody strict)
trans_body_splits strict front other rest after x y (g, a, p, hg, ha) (h, b, q, kh, kb) read c d e =
    let whole : body_tokens x.from x.to x.label (g ++ (a ++ rest)) ≡ body_tokens y.from y.to y.label (h ++ (b ++ after)) =
    ap (λ z. body_tokens x.from x.to x.label z) (sym (append_assoc g a rest)) ∙ ap (λ z. z ++ rest) (sym p) ∙ e ∙ ap (λ z. z ++ after) q
    ∙ ap (λ z. body_tokens y.from y.to y.label z) (append_assoc h b after) in
    let names = names_same x y (g ++ (a ++ rest)) (h ++ (b ++ after)) whole in
    let reads : AreRead (body_tokens x.from x.to x.label (g ++ a)) = subst AreRead p read in
    let inner : AreRead (g ++ a) = reads.1.1.1.1.1 in
    let guards = guard_splits strict g h (a ++ rest) (b ++ after) x.guard y.guard hg kh (read_front g a inner) (acts_closed a rest x.acts ha c)
    (acts_closed b after y.acts kb d) names.rests in
    let acts = acts_splits a b rest after x.acts y.acts ha kb (read_rest g a inner) c d guards.rests in
    let bodies = body_same x y names.froms names.tos names.labels guards.things acts.things in
    same_of front other rest after x y (p ∙ body_tokens_same x y g h a b bodies guards.fronts acts.fronts ∙ sym q) e bodies

abbrev trans_of : ℕ → TransBody → TransTree
trans_of line b = record { line = line; from = b.from; to = b.to; label = b.label; guard = b.guard; acts = b.acts }

trans_same : (x y : TransTree) → x.line ≡ y.line → body_of x ≡ body_of y → x ≡ y
trans_same x y a b =
    let first : x ≡ trans_of x.line (body_of y) = ap (λ z. trans_of x.line z) b in first ∙ ap (λ n. trans_of n (body_of y)) a

pub trans_splits : (strict : Bool) (ends : Kind → Bool) → LinesSplit ends (IsTrans strict)
trans_splits strict ends front other rest after x y (g, a, p, hg, ha) (h, b, q, kh, kb) read c d e =
    let same = one_line ends_line (IsTransBody strict) (trans_body_splits strict) refl kinds.Trans x.line y.line
    (body_tokens x.from x.to x.label (g ++ a)) (body_tokens y.from y.to y.label (h ++ b)) rest after (body_of x) (body_of y)
    (g, a, refl, hg, ha) (h, b, refl, kh, kb) (subst LinesRead p read) (ap (λ z. z ++ rest) (sym p) ∙ e ∙ ap (λ z. z ++ after) q) in
    record { rests = same.rests; things = trans_same x y same.lines same.things }
