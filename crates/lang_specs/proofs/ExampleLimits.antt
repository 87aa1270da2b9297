-- A seventh variable passes a limit, and the comma before it does not.
use Rattle.std.proofs.Common.{◌≡◌, ◌⊎◌, inl, inr, ℕ, suc, ◌+◌, ◌≤◌, Bool, true, false, ◌&&◌, List, [], ◌∷◌, ◌++◌, map, length, drop, codes, None, refl, sym, subst, ap, ◌∙◌, append_assoc, arith}
use Rattle.std.specs.Prelude.{nat_le}
use Rattle.std.proofs.lemmas.Bool.{leb-true}
use Rattle.std.proofs.lemmas.List.{append-nil}
use Rattle.std.specs.List.{list_all}
use Rattle.lang_specs.specs.declared.Kind.{Kind}
use Rattle.lang_specs.specs.declared.Kind.TheVariants as kinds
use Rattle.lang_specs.specs.declared.Which.{Which}
use Rattle.lang_specs.specs.declared.Which.TheVariants as which
use Rattle.lang_specs.specs.Tokens.{Placed, cut}
use Rattle.lang_specs.specs.Lines.{lines_from}
use Rattle.lang_specs.specs.Marks.{Mark, the, a_name, a_number, Lined, statement}
use Rattle.lang_specs.specs.Trees.{Tree, bounds_of}
use Rattle.lang_specs.specs.Expressions.{AreJoined, IsName}
use Rattle.lang_specs.specs.Grammar.{IsTree, Spell, version}
use Rattle.lang_specs.specs.Limits.{has_at_most, Keeps, rank}
use Rattle.lang_specs.specs.FirstFault.{IsViableWithin, HasKept, HasKeptAll, LimitAt, IsFirstFault}
use Rattle.lang_specs.specs.Examples.{x, whole, box, seven_variables}
use Rattle.lang_specs.proofs.ListLemmas.{Begins, head_is, tail_is}
use Rattle.lang_specs.proofs.SplitLemmas.{AllIn, apart, both_left}
use Rattle.lang_specs.proofs.LineSplits.{marks_are}
use Rattle.lang_specs.proofs.TextSplits.{regroup}
use Rattle.lang_specs.proofs.ExampleSpelling.{box_tokens, slope_is}
use Rattle.lang_specs.proofs.ExampleFaults.{within, kept_all, no_joint, flow_is, loc_lines}

-- ---- a model of these variables

abbrev with_vars : List (List ℕ) → Tree
with_vars names = record {
  line = 2;
  name = codes "A";
  vars = names;
  var_line = 3;
  obs = None;
  locs = record {
    line = 4;
    name = x;
    is_unsafe = false;
    init = None;
    inv = None;
    flow = record { line = 5; boxes = box x (whole 0) (whole 0) ∷ [] };
    also = None;
  } ∷ [];
  trans = [];
}

abbrev tree_lines : List Mark → List Lined
tree_lines ms =
    statement 2 (the kinds.Automaton ∷ a_name (codes "A") ∷ []) ++ statement 3 (the kinds.Var ∷ ms) ++ [] ++ loc_lines ++ []
    ++ statement 6 (the kinds.End ∷ [])

tree_is : (ms : List Mark) (names : List (List ℕ)) → AreJoined IsName ms names → IsTree false (tree_lines ms) (with_vars names)
tree_is ms names h = (
  statement 3 (the kinds.Var ∷ ms),
  [],
  loc_lines,
  [],
  6,
  refl,
  (ms, refl, h),
  refl,
  tt,
  (
    loc_lines,
    [],
    refl,
    (
      [],
      [],
      statement 5 (the kinds.Flow ∷ box_tokens x false (codes "0") (codes "0")),
      [],
      refl,
      refl,
      refl,
      (box_tokens x false (codes "0") (codes "0"), refl, slope_is x false (codes "0") (codes "0") (whole 0) (whole 0) flow_is flow_is),
      refl,
    ),
    refl,
  ),
  refl,
)

abbrev text_lines : List Mark → List Lined
text_lines ms = statement 1 (the kinds.Lha ∷ a_number (codes "1") ∷ []) ++ tree_lines ms ++ record { line = 7; mark = the kinds.EndText } ∷ []

text_is : (ms : List Mark) (names : List (List ℕ)) → AreJoined IsName ms names → Spell (text_lines ms) (with_vars names ∷ [])
text_is ms names h = (false, 1, 7, tree_lines ms, refl, tt, (tree_lines ms, [], sym (append-nil (tree_lines ms)), tree_is ms names h, refl))

-- ---- six and seven

abbrev six_names : List (List ℕ)
six_names = codes "a" ∷ codes "b" ∷ codes "c" ∷ codes "d" ∷ codes "e" ∷ codes "f" ∷ []

-- names with commas between
abbrev listed : List (List ℕ) → List Mark
listed [] = []
listed (n ∷ []) = a_name n ∷ []
listed (n ∷ m ∷ ns) = a_name n ∷ the kinds.Comma ∷ listed (m ∷ ns)

listed_are : (n : List ℕ) (ns : List (List ℕ)) → AreJoined IsName (listed (n ∷ ns)) (n ∷ ns)
listed_are n [] = refl
listed_are n (m ∷ ns) = (a_name n ∷ [], listed (m ∷ ns), refl, refl, listed_are m ns)

abbrev seven_names : List (List ℕ)
seven_names = six_names ++ codes "g" ∷ []

abbrev on_three : List Mark → List Lined
on_three ms = map (λ m. record { line = 3; mark = m }) ms

abbrev up_to_six : List Lined
up_to_six =
    statement 1 (the kinds.Lha ∷ a_number (codes "1") ∷ []) ++ statement 2 (the kinds.Automaton ∷ a_name (codes "A") ∷ [])
    ++ on_three (the kinds.Var ∷ listed six_names)

abbrev comma : List Lined
comma = record { line = 3; mark = the kinds.Comma } ∷ []

abbrev seventh : List Lined
seventh = record { line = 3; mark = a_name (codes "g") } ∷ []

abbrev behind : List Lined
behind =
    record { line = 3; mark = the kinds.EndLine } ∷ loc_lines ++ statement 6 (the kinds.End ∷ []) ++ record { line = 7; mark = the kinds.EndText } ∷ []

six_spelled : Spell (up_to_six ++ behind) (with_vars six_names ∷ [])
six_spelled = text_is (listed six_names) six_names (listed_are (codes "a") (codes "b" ∷ codes "c" ∷ codes "d" ∷ codes "e" ∷ codes "f" ∷ []))

seven_spelled : Spell (up_to_six ++ comma ++ seventh ++ behind) (with_vars seven_names ∷ [])
seven_spelled =
    text_is (listed seven_names) seven_names (listed_are (codes "a") (codes "b" ∷ codes "c" ∷ codes "d" ∷ codes "e" ∷ codes "f" ∷ codes "g" ∷ []))

six_keep : (w : Which) → Keeps w (up_to_six ++ behind) (with_vars six_names ∷ [])
six_keep which.Automata = refl
six_keep which.Variables = refl
six_keep which.Locations = refl
six_keep which.Transitions = refl
six_keep which.Rows = refl
six_keep which.Terms = refl
six_keep which.NameBytes = refl
six_keep which.Digits = refl

-- with the comma too nothing is passed: without it six variables are kept, and other limits are kept by seven
comma_kept : (w : Which) → HasKept w (up_to_six ++ comma)
comma_kept which.Variables = inr (record {
  front = up_to_six;
  joint = record { line = 3; mark = the kinds.Comma };
  parts = refl;
  joins = refl;
  before = within up_to_six behind (with_vars six_names ∷ []) which.Variables six_spelled refl;
})
comma_kept which.Automata = inl (within (up_to_six ++ comma) (seventh ++ behind) (with_vars seven_names ∷ []) which.Automata seven_spelled refl)
comma_kept which.Locations = inl (within (up_to_six ++ comma) (seventh ++ behind) (with_vars seven_names ∷ []) which.Locations seven_spelled refl)
comma_kept which.Transitions = inl (within (up_to_six ++ comma) (seventh ++ behind) (with_vars seven_names ∷ []) which.Transitions seven_spelled refl)
comma_kept which.Rows = inl (within (up_to_six ++ comma) (seventh ++ behind) (with_vars seven_names ∷ []) which.Rows seven_spelled refl)
comma_kept which.Terms = inl (within (up_to_six ++ comma) (seventh ++ behind) (with_vars seven_names ∷ []) which.Terms seven_spelled refl)
comma_kept which.NameBytes = inl (within (up_to_six ++ comma) (seventh ++ behind) (with_vars seven_names ∷ []) which.NameBytes seven_spelled refl)
comma_kept which.Digits = inl (within (up_to_six ++ comma) (seventh ++ behind) (with_vars seven_names ∷ []) which.Digits seven_spelled refl)

-- a front of a list and one element more is the whole, or a front of the list
front_of_more : (xs : List Lined) (l : Lined) (part more : List Lined) → xs ++ l ∷ [] ≡ part ++ more → (part ≡ xs ++ l ∷ []) ⊎ Begins part xs
front_of_more xs l [] more e = inr (record { more = xs; parts = refl })
front_of_more [] l (p ∷ []) more e = inl (let f = head_is l p [] more e in cc)
front_of_more [] l (p ∷ q ∷ part) more e = absurd (let f = tail_is l p [] (q ∷ part ++ more) e in let b : ⊥ = cc in b)
front_of_more (z ∷ xs) l (p ∷ part) more e =
    let first = head_is z p (xs ++ l ∷ []) (part ++ more) e in
    elim (front_of_more xs l part more (tail_is z p (xs ++ l ∷ []) (part ++ more) e)) [
      | inl h ↦ inl (cc)
      | inr h ↦ inr (record { more = h.more; parts = let k = h.parts in cc })
    ]

all_kept : HasKeptAll (up_to_six ++ comma)
all_kept part more w e = elim (front_of_more up_to_six (record { line = 3; mark = the kinds.Comma }) part more e) [
  | inl h ↦ subst (HasKept w) (sym h) (comma_kept w)
  | inr h ↦ kept_all up_to_six behind (with_vars six_names ∷ []) six_spelled six_keep part h.more w h.parts
]

-- ---- any text that begins with seven has more than six

abbrev comma_count : Kind → ℕ
comma_count kinds.Comma = 1
comma_count k = 0

abbrev is_no_end : Kind → Bool
is_no_end kinds.EndLine = false
is_no_end k = true

-- none of these is the end of a line
abbrev NoEnd : List Mark → Type 0
NoEnd ms = AllIn is_no_end ms

abbrev commas : List Mark → ℕ
commas [] = 0
commas (m ∷ ms) = comma_count m.kind + commas ms

-- as many names as commas, and one
names_counted : (ms : List Mark) (ns : List (List ℕ)) → AreJoined IsName ms ns → length ns ≡ suc (commas ms)
names_counted ms [] h = absurd h
names_counted ms (n ∷ []) h = sym (ap (λ z. suc (commas z)) h)
names_counted ms (n ∷ m ∷ ns) (f, r, p, h, k) =
    let parts : ms ≡ a_name n ∷ the kinds.Comma ∷ r = p ∙ ap (λ z. z ++ the kinds.Comma ∷ r) h in
    let count : commas ms ≡ 0 + (1 + commas r) = ap commas parts in
    let others = names_counted r (m ∷ ns) k in
    omega (arith, count, others)

-- a list that the end of a line ends begins with what holds no such end
front_of_line : (front more ms rest : List Mark) → NoEnd front → front ++ more ≡ ms ++ (the kinds.EndLine ∷ rest) → Begins front ms
front_of_line [] more ms rest out e = record { more = ms; parts = refl }
front_of_line (p ∷ front) more [] rest out e =
    apart (sym out.0 ∙ ap (λ m. is_no_end m.kind) (head_is p (the kinds.EndLine) (front ++ more) rest e))
front_of_line (p ∷ front) more (m ∷ ms) rest out e =
    let b = front_of_line front more ms rest out.1 (tail_is p m (front ++ more) (ms ++ (the kinds.EndLine ∷ rest)) e) in
    record { more = b.more; parts = let f = head_is p m (front ++ more) (ms ++ (the kinds.EndLine ∷ rest)) e in let g = b.parts in cc }

seven_counted : (more : List Mark) → commas (listed seven_names ++ more) ≡ 6 + commas more
seven_counted more = omega arith

too_many : (ms : List Mark) (ns : List (List ℕ)) (more rest : List Mark) → AreJoined IsName ms ns →
    listed seven_names ++ more ≡ ms ++ (the kinds.EndLine ∷ rest) → nat_le (length ns) 6 ≡ true → ⊥
too_many ms ns more rest h e few =
    let b = front_of_line (listed seven_names) more ms rest (refl, (refl, (refl, (refl, (refl, (refl, (refl, (refl, (refl, (refl, (refl, (refl, (refl, tt))))))))))))) e in
    let count = names_counted ms ns h in
    let parts : commas ms ≡ 6 + commas b.more = ap commas b.parts ∙ seven_counted b.more in
    let most = leb-true (length ns) 6 few in
    omega (arith, count, parts, most)

abbrev up_to_seven : List Lined
up_to_seven = up_to_six ++ comma ++ seventh

abbrev first_line : ℕ → Bool → List Lined
first_line line second = statement line (the kinds.Lha ∷ a_number (version second) ∷ [])

abbrev name_line : Tree → List Lined
name_line t = statement t.line (the kinds.Automaton ∷ a_name t.name ∷ [])

-- what stands behind `var` in any text that begins so
behind_var : (second : Bool) (line : ℕ) (t : Tree) (more rest f r v o l e n last : List Lined) (ms : List Mark) →
    up_to_seven ++ more ≡ first_line line second ++ rest ++ last → rest ≡ f ++ r → f ≡ name_line t ++ v ++ o ++ l ++ e ++ n →
    v ≡ statement t.var_line (the kinds.Var ∷ ms) →
    listed seven_names ++ map (λ z. z.mark) more ≡ ms ++ (the kinds.EndLine ∷ map (λ z. z.mark) (o ++ (l ++ (e ++ (n ++ (r ++ last))))))
behind_var second line t more rest f r v o l e n last ms p q g h =
    let behind_name = o ++ (l ++ (e ++ (n ++ (r ++ last)))) in
    let whole : up_to_seven ++ more ≡ first_line line second ++ (name_line t ++ (statement t.var_line (the kinds.Var ∷ ms) ++ behind_name)) =
    p ∙ append_assoc (first_line line second) rest last ∙ ap (λ z. first_line line second ++ (z ++ last)) q
    ∙ ap (λ z. first_line line second ++ z) (append_assoc f r last ∙ ap (λ z. z ++ (r ++ last)) g ∙ regroup (name_line t) v o l e n (r ++ last))
    ∙ ap (λ z. first_line line second ++ (name_line t ++ (z ++ behind_name))) h in
    let behind : on_three (listed seven_names) ++ more ≡ statement t.var_line ms ++ behind_name = ap (drop 7) whole in
    ap (map (λ z. z.mark)) behind ∙ marks_are t.var_line ms behind_name

seven_pass : IsViableWithin which.Variables up_to_seven → ⊥
seven_pass (more, [], (second, line, last, rest, p, some, order), k) = some
seven_pass (more, t ∷ ts, (second, line, last, rest, p, some, (f, r, q, (v, o, l, e, n, g, (ms, h, names), ho, hs, hl, ht), others)), k) =
    let end = record { line = last; mark = the kinds.EndText } ∷ [] in
    let parts = behind_var second line t more rest f r v o l e (statement n (the kinds.End ∷ [])) end ms p q g h in
    let few = both_left (has_at_most 6 t.vars && has_at_most 6 (bounds_of t.obs))
    (list_all (λ z. has_at_most 6 z.vars && has_at_most 6 (bounds_of z.obs)) ts) k in
    too_many ms t.vars (map (λ z. z.mark) more) (map (λ z. z.mark) (o ++ (l ++ (e ++ (statement n (the kinds.End ∷ []) ++ (r ++ end)))))) names parts
    (both_left (has_at_most 6 t.vars) (has_at_most 6 (bounds_of t.obs)) few)

seven_not_kept : HasKept which.Variables up_to_seven → ⊥
seven_not_kept (inl h) = seven_pass h
seven_not_kept (inr h) = no_joint which.Variables up_to_seven refl h

-- of the limits that are told before, none is passed
told_first : (w : Which) → (HasKept w up_to_seven → ⊥) → rank which.Variables ≤ rank w
told_first which.Automata h = absurd (h (inl (within up_to_seven behind (with_vars seven_names ∷ []) which.Automata seven_spelled refl)))
told_first which.Variables h = omega arith
told_first which.Locations h = omega arith
told_first which.Transitions h = omega arith
told_first which.Rows h = omega arith
told_first which.Terms h = omega arith
told_first which.NameBytes h = omega arith
told_first which.Digits h = omega arith

-- tokens of the third line: a name, or a comma
abbrev named_at : ℕ → List ℕ → Placed
named_at column name = record { line = 3; column = column; kind = kinds.Name; text = name }

abbrev comma_at : ℕ → Placed
comma_at column = record { line = 3; column = column; kind = kinds.Comma; text = codes "," }

pub seventh_passes : IsFirstFault seven_variables (LimitAt 3 which.Variables)
unfolding cut lines_from
seventh_passes = record {
  front =
      record { line = 1; column = 1; kind = kinds.Lha; text = codes "lha" } ∷ record { line = 1; column = 5; kind = kinds.Number; text = codes "1" }
      ∷ record { line = 1; column = 6; kind = kinds.EndLine; text = [] }
      ∷ record { line = 2; column = 1; kind = kinds.Automaton; text = codes "automaton" }
      ∷ record { line = 2; column = 11; kind = kinds.Name; text = codes "A" } ∷ record { line = 2; column = 12; kind = kinds.EndLine; text = [] }
      ∷ record { line = 3; column = 1; kind = kinds.Var; text = codes "var" } ∷ named_at 5 (codes "a") ∷ comma_at 6 ∷ named_at 7 (codes "b") ∷ comma_at 8
      ∷ named_at 9 (codes "c") ∷ comma_at 10 ∷ named_at 11 (codes "d") ∷ comma_at 12 ∷ named_at 13 (codes "e") ∷ comma_at 14 ∷ named_at 15 (codes "f")
      ∷ comma_at 16 ∷ [];
  token = named_at 17 (codes "g");
  rest =
      record { line = 3; column = 18; kind = kinds.EndLine; text = [] } ∷ record { line = 4; column = 1; kind = kinds.EndText; text = [] } ∷ [];
  parts = refl;
  viable = (seventh ++ behind, with_vars seven_names ∷ [], seven_spelled);
  kept = all_kept;
  wrong = ((behind, with_vars seven_names ∷ [], seven_spelled), seven_not_kept, told_first, refl);
}
