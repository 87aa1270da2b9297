-- The canonical lines of what lines spell: they spell the same but for the lines' numbers, and can be written.
use Rattle.std.proofs.Common.{◌≡◌, ℕ, ◌+◌, Bool, true, false, ◌||◌, List, [], ◌∷◌, ◌++◌, length, Option, Some, None, refl, sym, ap, ◌∙◌, subst, arith, append_assoc, append-nil}
use Rattle.std.specs.Bool.{IsTrue}
use Rattle.std.specs.List.{list_any}
use Rattle.lang_specs.specs.declared.Kind.{Kind}
use Rattle.lang_specs.specs.declared.Kind.TheVariants as kinds
use Rattle.lang_specs.specs.declared.Sign.{Sign}
use Rattle.lang_specs.specs.declared.Sign.TheVariants as signs
use Rattle.lang_specs.specs.Marks.{Mark, the, a_name, Lined, statement}
use Rattle.lang_specs.specs.Trees.{RowTree, RowsTree, BoxesTree, LocTree, rows_of}
use Rattle.lang_specs.specs.Expressions.{IsAllowed}
use Rattle.lang_specs.specs.Grammar.{IsRowsLine, unsafe_if, IsLoc}
use Rattle.lang_specs.specs.Canonical.{joined, rows_tokens, box_tokens, rows_line, loc_lines, is_strict, has_strict}
use Rattle.lang_specs.specs.SameTrees.{rows_alone, loc_alone}
use Rattle.lang_specs.proofs.EachLemmas.{Each, each_append, each_front, each_rest, each_of_map, each_from, each_to}
use Rattle.lang_specs.proofs.CutLemmas.{AreWritable}
use Rattle.lang_specs.proofs.TextCuts.{IsLine, numbered}
use Rattle.lang_specs.proofs.SoundLemmas.{IsSound}
use Rattle.lang_specs.proofs.PrintedItems.{AreSound, IsLet, rows_printed}
use Rattle.lang_specs.proofs.PrintedLists.{boxes_printed}

-- ---- lines of tokens

-- each name is one, and each literal is read
abbrev pub AreSoundLines : List Lined → Type 0
AreSoundLines ls = Each (λ l. IsSound l.mark.kind l.mark.text) ls

abbrev SoundLine : Lined → Type 0
SoundLine l = IsSound l.mark.kind l.mark.text

pub lines_front : (xs ys : List Lined) → AreSoundLines (xs ++ ys) → AreSoundLines xs
lines_front xs ys h = each_front SoundLine xs ys h

pub lines_rest : (xs ys : List Lined) → AreSoundLines (xs ++ ys) → AreSoundLines ys
lines_rest xs ys h = each_rest SoundLine xs ys h

pub sound_statement : (line : ℕ) (ms : List Mark) → AreSoundLines (statement line ms) → AreSound ms
sound_statement line ms h =
    each_front (λ (m : Mark). IsSound m.kind m.text) ms (the kinds.EndLine ∷ [])
    (each_of_map SoundLine (λ m. record { line = line; mark = m }) (ms ++ the kinds.EndLine ∷ []) h)

pub numbered_append : (line : ℕ) (xs ys : List (List Mark)) → numbered line (xs ++ ys) ≡ numbered line xs ++ numbered (line + length xs) ys
numbered_append line [] ys = ap (λ n. numbered n ys) (omega arith)
numbered_append line (x ∷ xs) ys =
    let next : line + 1 + length xs ≡ line + length (x ∷ xs) = omega arith in
    ap (λ z. statement line x ++ z) (numbered_append (line + 1) xs ys)
    ∙ sym (append_assoc (statement line x) (numbered (line + 1) xs) (numbered (line + 1 + length xs) ys))
    ∙ ap (λ n. (statement line x ++ numbered (line + 1) xs) ++ numbered n ys) next

-- ---- what is printed

-- these lines, from this one on, spell what is the same but for its lines
pub record Reprints {X : Type 0} (Is : List Lined → X → Type 0) (lines : List (List Mark)) (alone : X → X) (x : X) (line : ℕ) : Type 0 where
  pub other : X
  pub is : Is (numbered line lines) other
  pub same : alone x ≡ alone other

-- so from each line on; and they can be written
pub record IsReprinted {X : Type 0} (Is : List Lined → X → Type 0) (lines : X → List (List Mark)) (alone : X → X) (x : X) : Type 0 where
  pub from : (line : ℕ) → Reprints Is (lines x) alone x line
  pub good : Each IsLine (lines x)

-- ---- signs that may stand

-- signs that may stand may stand elsewhere, in all these lists
abbrev pub AreLet : Bool → Bool → List (List RowTree) → Type 0
AreLet strict other lists = Each (λ rows. Each (IsLet strict other) rows) lists

sign_let : (strict other : Bool) (s : Sign) → (is_strict s ≡ true → IsTrue other) → IsAllowed strict s → IsAllowed other s
sign_let strict other signs.AtMost f h = tt
sign_let strict other signs.AtLeast f h = tt
sign_let strict other signs.Equal f h = tt
sign_let strict other signs.Less f h = f refl
sign_let strict other signs.Greater f h = f refl

pub or_left : (a b : Bool) → a ≡ true → (a || b) ≡ true
or_left true b h = refl
or_left false b h = absurd (let f : ⊥ = cc in f)

pub or_right : (a b : Bool) → b ≡ true → (a || b) ≡ true
or_right true b h = refl
or_right false b h = h

pub each_any : {X : Type 0} (p : X → Bool) (xs : List X) → Each (λ x. p x ≡ true → list_any p xs ≡ true) xs
each_any p [] = tt
each_any p (x ∷ xs) = (
  or_left (p x) (list_any p xs),
  each_to (λ y. p y ≡ true → list_any p xs ≡ true) (λ y. p y ≡ true → list_any p (x ∷ xs) ≡ true) (λ y f h. or_right (p x) (list_any p xs) (f h)) xs (each_any p xs),
)

rows_let : (strict other : Bool) (rs : List RowTree) → (list_any (λ r. is_strict r.sign) rs ≡ true → IsTrue other) → Each (IsLet strict other) rs
rows_let strict other rs f =
    each_to (λ r. is_strict r.sign ≡ true → list_any (λ r. is_strict r.sign) rs ≡ true) (IsLet strict other)
    (λ r g. sign_let strict other r.sign (λ h. f (g h))) rs (each_any (λ (r : RowTree). is_strict r.sign) rs)

pub lists_let : (strict other : Bool) (lists : List (List RowTree)) → (has_strict lists ≡ true → IsTrue other) → AreLet strict other lists
lists_let strict other lists f =
    each_to (λ rows. list_any (λ r. is_strict r.sign) rows ≡ true → has_strict lists ≡ true) (λ rows. Each (IsLet strict other) rows)
    (λ rows g. rows_let strict other rows (λ h. f (g h))) lists (each_any (λ (rows : List RowTree). list_any (λ r. is_strict r.sign) rows) lists)

-- ---- a location

rows_line_printed : (strict other : Bool) (k : Kind) → ((ms : List Mark) → AreWritable ms → AreWritable (the k ∷ ms)) →
    (ls : List Lined) (o : Option RowsTree) → AreLet strict other (rows_of o) → IsRowsLine strict k ls o → AreSoundLines ls →
    IsReprinted (IsRowsLine other k) (rows_line k) rows_alone o
rows_line_printed strict other k key ls None lets h sound = record { from = λ line. record { other = None; is = refl; same = refl }; good = tt }
rows_line_printed strict other k key ls (Some r) lets (ms, e, h) sound =
    let parts = sound_statement r.line (the k ∷ ms) (subst AreSoundLines e sound) in
    let rows = rows_printed strict other ms r.rows lets.0 h parts.1 in record {
      from = λ line. record {
        other = Some (record { line = line; rows = r.rows });
        is = (rows_tokens r.rows, append-nil (statement line (the k ∷ rows_tokens r.rows)), rows.0);
        same = refl;
      };
      good = (key (rows_tokens r.rows) rows.1, tt);
    }

abbrev loc_mark : LocTree → List Mark
loc_mark l = the kinds.Loc ∷ a_name l.name ∷ unsafe_if l.is_unsafe

abbrev flow_mark : BoxesTree → List Mark
flow_mark f = the kinds.Flow ∷ joined box_tokens f.boxes

unsafe_writable : (b : Bool) → AreWritable (unsafe_if b)
unsafe_writable true = (refl, tt, tt)
unsafe_writable false = tt

-- the lines of a location, one after the other
loc_numbered : (line : ℕ) (a f : List Mark) (b c d : List (List Mark)) →
    numbered line (a ∷ b ++ c ++ f ∷ d)
    ≡ statement line a ++ numbered (line + 1) b ++ numbered (line + length (a ∷ b)) c ++ statement (line + length (a ∷ b ++ c)) f
    ++ numbered (line + length (a ∷ b ++ c) + 1) d
loc_numbered line a f b c d =
    let n : ℕ = line + length (a ∷ b ++ c) in
    numbered_append line (a ∷ b ++ c) (f ∷ d)
    ∙ ap (λ z. z ++ (statement n f ++ numbered (n + 1) d)) (numbered_append line (a ∷ b) c)
    ∙ sym (append_assoc (numbered line (a ∷ b) ++ numbered (line + length (a ∷ b)) c) (statement n f) (numbered (n + 1) d))

pub loc_printed : (strict other : Bool) (ls : List Lined) (l : LocTree) → AreLet strict other (rows_of l.init ++ rows_of l.inv ++ rows_of l.also) →
    IsLoc strict ls l → AreSoundLines ls → IsReprinted (IsLoc other) loc_lines loc_alone l
loc_printed strict other ls l lets (init, inv, flow, also, e, hi, hv, hf, ha) sound =
    let Lets : List RowTree → Type 0 = λ rows. Each (IsLet strict other) rows in
    let front : List Lined = statement l.line (loc_mark l) in
    let parts = subst AreSoundLines e sound in
    let parts_f = lines_front (front ++ init ++ inv ++ flow) also parts in
    let parts_v = lines_front (front ++ init ++ inv) flow parts_f in
    let parts_i = lines_front (front ++ init) inv parts_v in
    let marks = sound_statement l.line (loc_mark l) (lines_front front init parts_i) in
    let lets_front = each_front Lets (rows_of l.init ++ rows_of l.inv) (rows_of l.also) lets in
    let a = rows_line_printed strict other kinds.Init (λ ms w. (refl, tt, w)) init l.init (each_front Lets (rows_of l.init) (rows_of l.inv) lets_front) hi
    (lines_rest front init parts_i) in
    let b = rows_line_printed strict other kinds.Inv (λ ms w. (refl, tt, w)) inv l.inv (each_rest Lets (rows_of l.init) (rows_of l.inv) lets_front) hv
    (lines_rest (front ++ init) inv parts_v) in
    let always : AreLet false false (rows_of l.also) =
    each_from (λ rows. Each (IsLet false false) rows) (λ rows. each_from (IsLet false false) (λ r h. h) rows) (rows_of l.also) in
    let d = rows_line_printed false false kinds.Also (λ ms w. (refl, tt, w)) also l.also always ha
    (lines_rest (front ++ init ++ inv ++ flow) also parts) in
    let boxes = boxes_printed hf.0 l.flow.boxes hf.2
    (sound_statement l.flow.line (the kinds.Flow ∷ hf.0) (subst AreSoundLines hf.1 (lines_rest (front ++ init ++ inv) flow parts_f))).1 in
    let as_init : List (List Mark) = rows_line kinds.Init l.init in
    let as_inv : List (List Mark) = rows_line kinds.Inv l.inv in
    let as_also : List (List Mark) = rows_line kinds.Also l.also in record {
      from = λ line.
          let at : ℕ = line + length (loc_mark l ∷ as_init) in
          let n : ℕ = line + length (loc_mark l ∷ as_init ++ as_inv) in
          let i = a.from (line + 1) in let v = b.from at in let s = d.from (n + 1) in record {
            other = record {
              line = line;
              name = l.name;
              is_unsafe = l.is_unsafe;
              init = i.other;
              inv = v.other;
              flow = record { line = n; boxes = l.flow.boxes };
              also = s.other;
            };
            is = (
              numbered (line + 1) as_init,
              numbered at as_inv,
              statement n (flow_mark l.flow),
              numbered (n + 1) as_also,
              loc_numbered line (loc_mark l) (flow_mark l.flow) as_init as_inv as_also,
              i.is,
              v.is,
              (joined box_tokens l.flow.boxes, refl, boxes.0),
              s.is,
            );
            same = let p = i.same in let q = v.same in let r = s.same in cc;
          };
      good =
          each_append IsLine (loc_mark l ∷ as_init ++ as_inv) (flow_mark l.flow ∷ as_also)
          (each_append IsLine (loc_mark l ∷ as_init) as_inv ((refl, tt, (marks.1.0, tt, unsafe_writable l.is_unsafe)), a.good) b.good)
          ((refl, tt, boxes.1), d.good);
    }
