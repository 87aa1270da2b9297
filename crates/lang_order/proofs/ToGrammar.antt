-- Lines in order are what the grammar spells, and build the same trees.
use Rattle.std.proofs.Common.{◌≡◌, ℕ, Bool, true, false, List, [], ◌∷◌, ◌++◌, Option, Some, None, refl, sym, ap, ◌∙◌, subst}
use Rattle.lang_specs.specs.declared.Kind.{Kind}
use Rattle.lang_specs.specs.declared.Kind.TheVariants as kinds
use Rattle.lang_specs.specs.Marks.{Mark, the, a_name, Lined, statement}
use Rattle.lang_specs.specs.Trees.{RowTree, RowsTree, BoxTree, BoundTree, Act, TransTree, Tree}
use Rattle.lang_specs.specs.Grammar.{AreInOrder, IsRowsLine, IsObs, IsTree, Spell}
use Rattle.lang_specs.proofs.SplitLemmas.{apart}
use Rattle.lang_order.specs.declared.Place.{Place}
use Rattle.lang_order.specs.declared.Place.TheVariants as places
use Rattle.lang_order.specs.Statements.{Statement, Version, Automaton, Vars, Obs, Loc, Init, Inv, Flow, Also, Trans, End, first_word, IsBody, Numbered, AreLines, second_if, is_second}
use Rattle.lang_order.specs.Order.{next, Leads}
use Rattle.lang_order.specs.Building.{Parts, trees_alone, put, parts_of}
use Rattle.lang_order.specs.ByLines.{text_end, SpellByLines}
use Rattle.lang_order.proofs.Rests.{IsClear, BehindIn, At, loc_before, trans_before, end_before, tree_before}

-- ---- one line before others

is_some : {X : Type 0} → Option X → Bool
is_some (Some x) = true
is_some None = false

pub none_some : {X A : Type 0} (x : X) → None ≡ Some x → A
unfolding is_some
none_some x e = apart (sym (ap is_some e))

pub some_is : {X : Type 0} (x y : X) → Some x ≡ Some y → x ≡ y
some_is x y e = cc

at_place : (v : Bool) (p q : Place) (ls : List Lined) (parts : Parts) → Some p ≡ Some q → At v q ls parts → At v p ls parts
at_place v p q ls parts e h = subst (λ z. At v z ls parts) (sym (some_is p q e)) h

-- ---- an automaton and its variables

tree_line : (v : Bool) (n : ℕ) (name : List ℕ) (body : List Mark) (ls : List Lined) (x : Parts) → body ≡ a_name name ∷ [] → At v places.Automaton ls x →
    AreInOrder (IsTree v) (statement n (the kinds.Automaton ∷ body) ++ ls) (put n (Automaton name) x).trees
tree_line v n name body ls x b h =
    subst (λ z. AreInOrder (IsTree v) (statement n (the kinds.Automaton ∷ z) ++ ls) (put n (Automaton name) x).trees) (sym b) (tree_before v n name ls x h)

var_line : (v : Bool) (n : ℕ) (names : List (List ℕ)) (body : List Mark) (ls : List Lined) (x : Parts) → IsBody v body (Vars names) → At v places.Var ls x →
    At v places.Automaton (statement n (the kinds.Var ∷ body) ++ ls) (put n (Vars names) x)
var_line v n names body ls x b (o, more, f, k, c, some) = (body, o, more, ap (λ z. statement n (the kinds.Var ∷ body) ++ z) f, b, k, c, some)

obs_line : (v : Bool) (n : ℕ) (bounds : List BoundTree) (body : List Mark) (ls : List Lined) (x : Parts) → IsBody v body (Obs bounds) → At v places.Obs ls x →
    At v places.Var (statement n (the kinds.Obs ∷ body) ++ ls) (put n (Obs bounds) x)
obs_line v n bounds body ls x b (c, some) = (statement n (the kinds.Obs ∷ body), ls, refl, (b.0, (body, refl, b.1)), c, some)

-- ---- a location

loc_line : (v : Bool) (n : ℕ) (name : List ℕ) (u : Bool) (body : List Mark) (ls : List Lined) (x : Parts) → IsBody v body (Loc name u) → At v places.Loc ls x →
    BehindIn v (statement n (the kinds.Loc ∷ body) ++ ls) (put n (Loc name u) x)
loc_line v n name u body ls x b h =
    subst (λ z. BehindIn v (statement n (the kinds.Loc ∷ z) ++ ls) (put n (Loc name u) x)) (sym b) (loc_before v n name u ls x h)

obs_of_loc : (v : Bool) (ls : List Lined) (x : Parts) → At v places.Loc ls x → x.obs ≡ None
obs_of_loc v ls x (i, w, f, a, more, e, hi, hw, hf, ha, b, o) = o

-- a location behind one
clear_loc : (v : Bool) (n : ℕ) (name : List ℕ) (u : Bool) (ls : List Lined) (x : Parts) → At v places.Loc ls x → IsClear (put n (Loc name u) x)
clear_loc v n name u ls x h = record { obs = obs_of_loc v ls x h; init = refl; inv = refl; also = refl }

no_rows : (v : Bool) (k : Kind) (x : Option RowsTree) → x ≡ None → IsRowsLine v k [] x
no_rows v k x e = subst (IsRowsLine v k []) (sym e) refl

-- behind `flow` stands no `also`
flow_last : (v : Bool) (ls : List Lined) (x : Parts) → BehindIn v ls x → IsClear x → At v places.Flow ls x
flow_last v ls x b c = ([], ls, refl, no_rows false kinds.Also x.also c.also, b, c.obs, c.init, c.inv)

also_line : (v : Bool) (n : ℕ) (rows : List RowTree) (body : List Mark) (ls : List Lined) (x : Parts) → IsBody v body (Also rows) → At v places.Also ls x →
    At v places.Flow (statement n (the kinds.Also ∷ body) ++ ls) (put n (Also rows) x)
also_line v n rows body ls x b (h, c) = (statement n (the kinds.Also ∷ body), ls, refl, (body, refl, b), h, c.obs, c.init, c.inv)

flow_line : (v : Bool) (n : ℕ) (boxes : List BoxTree) (body : List Mark) (ls : List Lined) (x : Parts) → IsBody v body (Flow boxes) → At v places.Flow ls x →
    At v places.Inv (statement n (the kinds.Flow ∷ body) ++ ls) (put n (Flow boxes) x)
flow_line v n boxes body ls x b (a, more, e, ha, h, o, i, w) =
    (statement n (the kinds.Flow ∷ body), a, more, ap (λ z. statement n (the kinds.Flow ∷ body) ++ z) e, (body, refl, b), ha, h, o, i, w)

inv_line : (v : Bool) (n : ℕ) (rows : List RowTree) (body : List Mark) (ls : List Lined) (x : Parts) → IsBody v body (Inv rows) → At v places.Inv ls x →
    At v places.Init (statement n (the kinds.Inv ∷ body) ++ ls) (put n (Inv rows) x)
inv_line v n rows body ls x b (f, a, more, e, hf, ha, h, o, i, w) =
    (statement n (the kinds.Inv ∷ body), f, a, more, ap (λ z. statement n (the kinds.Inv ∷ body) ++ z) e, (body, refl, b), hf, ha, h, o, i)

-- before `flow` stands no `inv`
flow_first : (v : Bool) (ls : List Lined) (x : Parts) → At v places.Inv ls x → At v places.Init ls x
flow_first v ls x (f, a, more, e, hf, ha, h, o, i, w) = ([], f, a, more, e, no_rows v kinds.Inv x.inv w, hf, ha, h, o, i)

init_line : (v : Bool) (n : ℕ) (rows : List RowTree) (body : List Mark) (ls : List Lined) (x : Parts) → IsBody v body (Init rows) → At v places.Init ls x →
    At v places.Loc (statement n (the kinds.Init ∷ body) ++ ls) (put n (Init rows) x)
init_line v n rows body ls x b (w, f, a, more, e, hw, hf, ha, h, o, i) =
    (statement n (the kinds.Init ∷ body), w, f, a, more, ap (λ z. statement n (the kinds.Init ∷ body) ++ z) e, (body, refl, b), hw, hf, ha, h, o)

-- before `inv` and `flow` stands no `init`
init_none : (v : Bool) (ls : List Lined) (x : Parts) → At v places.Init ls x → At v places.Loc ls x
init_none v ls x (w, f, a, more, e, hw, hf, ha, h, o, i) = ([], w, f, a, more, e, no_rows v kinds.Init x.init i, hw, hf, ha, h, o)

-- ---- transitions and the end

trans_line : (v : Bool) (n : ℕ) (from to label : List ℕ) (guard : List RowTree) (acts : List Act) (body : List Mark) (ls : List Lined) (x : Parts) →
    IsBody v body (Trans from to label guard acts) → At v places.Trans ls x →
    At v places.Trans (statement n (the kinds.Trans ∷ body) ++ ls) (put n (Trans from to label guard acts) x)
trans_line v n from to label guard acts body ls x (w, s, e, g, a) (h, none, c) =
    let t : TransTree = record { line = n; from = from; to = to; label = label; guard = guard; acts = acts } in (
      trans_before v (statement n (the kinds.Trans ∷ body)) ls t x.locs x.trans x.trees (w, s, ap (λ z. statement n (the kinds.Trans ∷ z)) e, g, a) none h,
      none,
      record { obs = c.obs; init = c.init; inv = c.inv; also = c.also },
    )

last_line : (v : Bool) (n : ℕ) (body : List Mark) (ls : List Lined) (x : Parts) → body ≡ [] → At v places.End ls x →
    At v places.Trans (statement n (the kinds.End ∷ body) ++ ls) x
last_line v n body ls x b (t, none, f, c) =
    (subst (λ z. BehindIn v (statement n (the kinds.End ∷ z) ++ ls) x) (sym b) (end_before v n ls x (t, none, f, c)), none, c)

-- where no location has begun, others may follow
also_of_trans : (v : Bool) (ls : List Lined) (x : Parts) → At v places.Trans ls x → At v places.Also ls x
also_of_trans v ls x (h, none, c) = (h, c)

flow_of_also : (v : Bool) (ls : List Lined) (x : Parts) → At v places.Also ls x → At v places.Flow ls x
flow_of_also v ls x (h, c) = flow_last v ls x h c

-- ---- a statement

before : (v : Bool) (p q : Place) (n : ℕ) (s : Statement) (body : List Mark) (ls : List Lined) (x : Parts) → IsBody v body s →
    next p (first_word s) ≡ Some q → At v q ls x → At v p (statement n (the (first_word s) ∷ body) ++ ls) (put n s x)
before v places.Start q n s body ls x b e h = tt
before v places.Lha q n (Automaton name) body ls x b e h = (tree_line v n name body ls x b (at_place v places.Automaton q ls x e h), tt)
before v places.End q n (Automaton name) body ls x b e h =
    (tree_line v n name body ls x b (at_place v places.Automaton q ls x e h), refl, refl, record { obs = refl; init = refl; inv = refl; also = refl })
before v places.Automaton q n (Vars names) body ls x b e h = var_line v n names body ls x b (at_place v places.Var q ls x e h)
before v places.Var q n (Obs bounds) body ls x b e h = obs_line v n bounds body ls x b (at_place v places.Obs q ls x e h)
before v places.Var q n (Loc name u) body ls x b e h =
    let l = at_place v places.Loc q ls x e h in
    ([], statement n (the kinds.Loc ∷ body) ++ ls, refl, subst (IsObs v []) (sym (obs_of_loc v ls x l)) refl, loc_line v n name u body ls x b l, tt)
before v places.Obs q n (Loc name u) body ls x b e h = (loc_line v n name u body ls x b (at_place v places.Loc q ls x e h), tt)
before v places.Loc q n (Init rows) body ls x b e h = init_line v n rows body ls x b (at_place v places.Init q ls x e h)
before v places.Loc q n (Inv rows) body ls x b e h =
    init_none v (statement n (the kinds.Inv ∷ body) ++ ls) (put n (Inv rows) x) (inv_line v n rows body ls x b (at_place v places.Inv q ls x e h))
before v places.Loc q n (Flow boxes) body ls x b e h =
    init_none v (statement n (the kinds.Flow ∷ body) ++ ls) (put n (Flow boxes) x)
    (flow_first v (statement n (the kinds.Flow ∷ body) ++ ls) (put n (Flow boxes) x) (flow_line v n boxes body ls x b (at_place v places.Flow q ls x e h)))
before v places.Init q n (Inv rows) body ls x b e h = inv_line v n rows body ls x b (at_place v places.Inv q ls x e h)
before v places.Init q n (Flow boxes) body ls x b e h =
    flow_first v (statement n (the kinds.Flow ∷ body) ++ ls) (put n (Flow boxes) x) (flow_line v n boxes body ls x b (at_place v places.Flow q ls x e h))
before v places.Inv q n (Flow boxes) body ls x b e h = flow_line v n boxes body ls x b (at_place v places.Flow q ls x e h)
before v places.Flow q n (Also rows) body ls x b e h = also_line v n rows body ls x b (at_place v places.Also q ls x e h)
before v places.Flow q n (Loc name u) body ls x b e h =
    let l = at_place v places.Loc q ls x e h in
    flow_last v (statement n (the kinds.Loc ∷ body) ++ ls) (put n (Loc name u) x) (loc_line v n name u body ls x b l) (clear_loc v n name u ls x l)
before v places.Also q n (Loc name u) body ls x b e h =
    let l = at_place v places.Loc q ls x e h in (loc_line v n name u body ls x b l, clear_loc v n name u ls x l)
before v places.Flow q n (Trans f t l g a) body ls x b e h =
    let here : List Lined = statement n (the kinds.Trans ∷ body) ++ ls in
    flow_of_also v here (put n (Trans f t l g a) x) (also_of_trans v here (put n (Trans f t l g a) x)
    (trans_line v n f t l g a body ls x b (at_place v places.Trans q ls x e h)))
before v places.Also q n (Trans f t l g a) body ls x b e h =
    also_of_trans v (statement n (the kinds.Trans ∷ body) ++ ls) (put n (Trans f t l g a) x)
    (trans_line v n f t l g a body ls x b (at_place v places.Trans q ls x e h))
before v places.Trans q n (Trans f t l g a) body ls x b e h = trans_line v n f t l g a body ls x b (at_place v places.Trans q ls x e h)
before v places.Flow q n End body ls x b e h =
    let here : List Lined = statement n (the kinds.End ∷ body) ++ ls in
    flow_of_also v here x (also_of_trans v here x (last_line v n body ls x b (at_place v places.End q ls x e h)))
before v places.Also q n End body ls x b e h =
    also_of_trans v (statement n (the kinds.End ∷ body) ++ ls) x (last_line v n body ls x b (at_place v places.End q ls x e h))
before v places.Trans q n End body ls x b e h = last_line v n body ls x b (at_place v places.End q ls x e h)
before v p q n s body ls x b e h = none_some q e

-- ---- a text

at_end : (v : Bool) (p : Place) (ls : List Lined) (ss : List Numbered) → AreLines v ls ss → Leads p ss places.End → At v p ls (parts_of ss)
at_end v p ls [] h e = subst (λ z. At v z ls (trees_alone [])) (sym e) (h, refl, refl, record { obs = refl; init = refl; inv = refl; also = refl })
at_end v p ls (s ∷ ss) (front, rest, e, (ms, f, (body, g, b)), h) (q, d, k) =
    let whole : statement s.line (the (first_word s.says) ∷ body) ++ rest ≡ ls = ap (λ z. statement s.line z ++ rest) (sym g) ∙ ap (λ z. z ++ rest) (sym f) ∙ sym e in
    subst (λ z. At v p z (put s.line s.says (parts_of ss))) whole (before v p q s.line s.says body rest (parts_of ss) b d (at_end v q rest ss h k))

is_start : Place → Bool
is_start places.Start = true
is_start p = false

pub not_start : {A : Type 0} → places.Start ≡ places.End → A
unfolding is_start
not_start e = apart (ap is_start e)

-- what a text says behind its first line
first : (q : Place) (n last : ℕ) (s : Statement) (body : List Mark) (ls : List Lined) (x : Parts) → IsBody (second_if s) body s →
    next places.Start (first_word s) ≡ Some q → At (second_if s) q ls x →
    Spell ((statement n (the (first_word s) ∷ body) ++ ls) ++ text_end last) (put n s x).trees
first q n last (Version v) body ls x b e h =
    let l = at_place v places.Lha q ls x e h in
    (v, n, last, ls, ap (λ z. (statement n (the kinds.Lha ∷ z) ++ ls) ++ text_end last) b, l.1, l.0)
first q n last s body ls x b e h = none_some q e

text_of : (ls : List Lined) (ss : List Numbered) (last : ℕ) → AreLines (is_second ss) ls ss → Leads places.Start ss places.End → Spell (ls ++ text_end last) (parts_of ss).trees
text_of ls [] last h e = not_start e
text_of ls (s ∷ ss) last (front, rest, e, (ms, f, (body, g, b)), h) (q, d, k) =
    let whole : statement s.line (the (first_word s.says) ∷ body) ++ rest ≡ ls = ap (λ z. statement s.line z ++ rest) (sym g) ∙ ap (λ z. z ++ rest) (sym f) ∙ sym e in
    subst (λ z. Spell (z ++ text_end last) (parts_of (s ∷ ss)).trees) whole
    (first q s.line last s.says body rest (parts_of ss) b d (at_end (second_if s.says) q rest ss h k))

pub by_grammar : (ls : List Lined) (trees : List Tree) → SpellByLines ls trees → Spell ls trees
by_grammar ls trees h =
    subst (Spell ls) h.builds (subst (λ z. Spell z (parts_of h.says).trees) (sym h.parts) (text_of h.lines h.says h.last h.whole.say h.whole.order))
