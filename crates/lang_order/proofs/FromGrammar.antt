-- What the grammar spells are lines in order that build the same trees.
use Rattle.std.proofs.Common.{◌≡◌, ℕ, Bool, false, List, [], ◌∷◌, ◌++◌, Option, Some, None, refl, sym, ap, ◌∙◌, subst, append_assoc}
use Rattle.lang_specs.specs.declared.Kind.TheVariants as kinds
use Rattle.lang_specs.specs.Marks.{Mark, the, a_name, a_number, Lined, statement}
use Rattle.lang_specs.specs.Trees.{RowsTree, BoxesTree, BoundsTree, LocTree, TransTree, Tree}
use Rattle.lang_specs.specs.Expressions.{IsSome}
use Rattle.lang_specs.specs.Grammar.{AreInOrder, IsRowsLine, IsFlow, unsafe_if, IsLoc, IsTrans, IsObs, IsTree, version, Spell}
use Rattle.lang_order.specs.declared.Place.{Place}
use Rattle.lang_order.specs.declared.Place.TheVariants as places
use Rattle.lang_order.specs.Statements.{Statement, Version, Automaton, Vars, Obs, Loc, Init, Inv, Flow, Also, Trans, End, first_word, IsBody, Numbered, AreLines}
use Rattle.lang_order.specs.Order.{next, Leads}
use Rattle.lang_order.specs.Building.{Parts, trees_alone, put, parts_of}
use Rattle.lang_order.specs.ByLines.{SpellByLines}

-- lines that lead from a place to the end of an automaton, and say these parts
pub record From (v : Bool) (p : Place) (ls : List Lined) (parts : Parts) : Type 0 where
  pub says : List Numbered
  pub say : AreLines v ls says
  pub order : Leads p says places.End
  pub builds : parts_of says ≡ parts

pub from_moved : (v : Bool) (p : Place) (ls ms : List Lined) (parts : Parts) → ls ≡ ms → From v p ls parts → From v p ms parts
from_moved v p ls ms parts e f = subst (λ z. From v p z parts) e f

-- one line before others
pub from_line : (v : Bool) (p q : Place) (n : ℕ) (s : Statement) (body : List Mark) (rest : List Lined) (parts : Parts) → IsBody v body s →
    next p (first_word s) ≡ Some q → From v q rest parts → From v p (statement n (the (first_word s) ∷ body) ++ rest) (put n s parts)
from_line v p q n s body rest parts b e f = record {
  says = record { line = n; says = s } ∷ f.says;
  say = (statement n (the (first_word s) ∷ body), rest, refl, (the (first_word s) ∷ body, refl, (body, refl, b)), f.say);
  order = (q, e, f.order);
  builds = ap (put n s) f.builds;
}

-- what belongs to a location, and what stands behind it
abbrev no_flow : BoxesTree
no_flow = record { line = 0; boxes = [] }

abbrev in_loc : List LocTree → List TransTree → List Tree → (init inv : Option RowsTree) → BoxesTree → Option RowsTree → Parts
in_loc locs trans trees init inv flow also = record {
  trees = trees;
  vars = [];
  var_line = 0;
  obs = None;
  locs = locs;
  trans = trans;
  init = init;
  inv = inv;
  flow = flow;
  also = also;
}

abbrev behind : List LocTree → List TransTree → List Tree → Parts
behind locs trans trees = in_loc locs trans trees None None no_flow None

-- a place where a location has ended
record EndsLoc (p : Place) : Type 0 where
  loc : next p kinds.Loc ≡ Some places.Loc
  trans : next p kinds.Trans ≡ Some places.Trans
  last : next p kinds.End ≡ Some places.End

flow_ends : EndsLoc places.Flow
flow_ends = record { loc = refl; trans = refl; last = refl }

also_ends : EndsLoc places.Also
also_ends = record { loc = refl; trans = refl; last = refl }

-- ---- a location

module _ (v : Bool) (locs : List LocTree) (trans : List TransTree) (trees : List Tree) where
  also_from : (ls rest : List Lined) (o : Option RowsTree) → IsRowsLine false kinds.Also ls o →
      ((q : Place) → EndsLoc q → From v q rest (behind locs trans trees)) → From v places.Flow (ls ++ rest) (in_loc locs trans trees None None no_flow o)
  also_from ls rest None h f = from_moved v places.Flow rest (ls ++ rest) (behind locs trans trees) (ap (λ z. z ++ rest) (sym h)) (f places.Flow flow_ends)
  also_from ls rest (Some r) (ms, e, h) f =
      from_moved v places.Flow (statement r.line (the kinds.Also ∷ ms) ++ rest) (ls ++ rest) (in_loc locs trans trees None None no_flow (Some r))
      (ap (λ z. z ++ rest) (sym e))
      (from_line v places.Flow places.Also r.line (Also r.rows) ms rest (behind locs trans trees) h refl (f places.Also also_ends))

  flow_from : (p : Place) (ls rest : List Lined) (f : BoxesTree) (o : Option RowsTree) → next p kinds.Flow ≡ Some places.Flow → IsFlow ls f →
      From v places.Flow rest (in_loc locs trans trees None None no_flow o) → From v p (ls ++ rest) (in_loc locs trans trees None None f o)
  flow_from p ls rest f o d (ms, e, h) k =
      from_moved v p (statement f.line (the kinds.Flow ∷ ms) ++ rest) (ls ++ rest) (in_loc locs trans trees None None f o) (ap (λ z. z ++ rest) (sym e))
      (from_line v p places.Flow f.line (Flow f.boxes) ms rest (in_loc locs trans trees None None no_flow o) h d k)

  inv_from : (p : Place) (ls rest : List Lined) (i : Option RowsTree) (f : BoxesTree) (o : Option RowsTree) → next p kinds.Inv ≡ Some places.Inv →
      next p kinds.Flow ≡ Some places.Flow → IsRowsLine v kinds.Inv ls i →
      ((q : Place) → next q kinds.Flow ≡ Some places.Flow → From v q rest (in_loc locs trans trees None None f o)) →
      From v p (ls ++ rest) (in_loc locs trans trees None i f o)
  inv_from p ls rest None f o d e h k =
      from_moved v p rest (ls ++ rest) (in_loc locs trans trees None None f o) (ap (λ z. z ++ rest) (sym h)) (k p e)
  inv_from p ls rest (Some r) f o d e (ms, g, h) k =
      from_moved v p (statement r.line (the kinds.Inv ∷ ms) ++ rest) (ls ++ rest) (in_loc locs trans trees None (Some r) f o) (ap (λ z. z ++ rest) (sym g))
      (from_line v p places.Inv r.line (Inv r.rows) ms rest (in_loc locs trans trees None None f o) h d (k places.Inv refl))

  init_from : (ls rest : List Lined) (i j : Option RowsTree) (f : BoxesTree) (o : Option RowsTree) → IsRowsLine v kinds.Init ls i →
      ((q : Place) → next q kinds.Inv ≡ Some places.Inv → next q kinds.Flow ≡ Some places.Flow → From v q rest (in_loc locs trans trees None j f o)) →
      From v places.Loc (ls ++ rest) (in_loc locs trans trees i j f o)
  init_from ls rest None j f o h k =
      from_moved v places.Loc rest (ls ++ rest) (in_loc locs trans trees None j f o) (ap (λ z. z ++ rest) (sym h)) (k places.Loc refl refl)
  init_from ls rest (Some r) j f o (ms, g, h) k =
      from_moved v places.Loc (statement r.line (the kinds.Init ∷ ms) ++ rest) (ls ++ rest) (in_loc locs trans trees (Some r) j f o)
      (ap (λ z. z ++ rest) (sym g))
      (from_line v places.Loc places.Init r.line (Init r.rows) ms rest (in_loc locs trans trees None j f o) h refl (k places.Init refl refl))

  loc_from : (p : Place) (ls rest : List Lined) (l : LocTree) → next p kinds.Loc ≡ Some places.Loc → IsLoc v ls l →
      ((q : Place) → EndsLoc q → From v q rest (behind locs trans trees)) → From v p (ls ++ rest) (behind (l ∷ locs) trans trees)
  loc_from p ls rest l d (i, w, f, a, e, hi, hw, hf, ha) k =
      let head : List Lined = statement l.line (the kinds.Loc ∷ a_name l.name ∷ unsafe_if l.is_unsafe) in
      let parts : head ++ (i ++ (w ++ (f ++ (a ++ rest)))) ≡ ls ++ rest =
      sym (append_assoc head i (w ++ (f ++ (a ++ rest)))) ∙ sym (append_assoc (head ++ i) w (f ++ (a ++ rest)))
      ∙ sym (append_assoc (head ++ i ++ w) f (a ++ rest)) ∙ sym (append_assoc (head ++ i ++ w ++ f) a rest) ∙ ap (λ z. z ++ rest) (sym e) in
      let last = also_from a rest l.also ha k in
      let third = λ (q : Place) (g : next q kinds.Flow ≡ Some places.Flow). flow_from q f (a ++ rest) l.flow l.also g hf last in
      let second = λ (q : Place) (g : next q kinds.Inv ≡ Some places.Inv) (h : next q kinds.Flow ≡ Some places.Flow). inv_from q w (f ++ (a ++ rest)) l.inv l.flow l.also g h hw third in
      let first = init_from i (w ++ (f ++ (a ++ rest))) l.init l.inv l.flow l.also hi second in
      from_moved v p (head ++ (i ++ (w ++ (f ++ (a ++ rest))))) (ls ++ rest) (behind (l ∷ locs) trans trees) parts
      (from_line v p places.Loc l.line (Loc l.name l.is_unsafe) (a_name l.name ∷ unsafe_if l.is_unsafe) (i ++ (w ++ (f ++ (a ++ rest))))
      (in_loc locs trans trees l.init l.inv l.flow l.also) refl d first)

-- ---- an automaton

module _ (v : Bool) where
  locs_from : (p : Place) (ls rest : List Lined) (locs : List LocTree) (trans : List TransTree) (trees : List Tree) → EndsLoc p →
      AreInOrder (IsLoc v) ls locs → ((q : Place) → EndsLoc q → From v q rest (behind [] trans trees)) →
      From v p (ls ++ rest) (behind locs trans trees)
  locs_from p ls rest [] trans trees d e k = from_moved v p rest (ls ++ rest) (behind [] trans trees) (ap (λ z. z ++ rest) (sym e)) (k p d)
  locs_from p ls rest (l ∷ locs) trans trees d (a, b, e, h, g) k =
      from_moved v p (a ++ (b ++ rest)) (ls ++ rest) (behind (l ∷ locs) trans trees) (sym (append_assoc a b rest) ∙ ap (λ z. z ++ rest) (sym e))
      (loc_from v locs trans trees p a (b ++ rest) l d.loc h (λ q i. locs_from q b rest locs trans trees i g k))

  some_from : (p : Place) (ls rest : List Lined) (locs : List LocTree) (trans : List TransTree) (trees : List Tree) →
      next p kinds.Loc ≡ Some places.Loc → IsSome locs → AreInOrder (IsLoc v) ls locs →
      ((q : Place) → EndsLoc q → From v q rest (behind [] trans trees)) → From v p (ls ++ rest) (behind locs trans trees)
  some_from p ls rest [] trans trees d some h k = absurd some
  some_from p ls rest (l ∷ locs) trans trees d some (a, b, e, h, g) k =
      from_moved v p (a ++ (b ++ rest)) (ls ++ rest) (behind (l ∷ locs) trans trees) (sym (append_assoc a b rest) ∙ ap (λ z. z ++ rest) (sym e))
      (loc_from v locs trans trees p a (b ++ rest) l d h (λ q i. locs_from q b rest locs trans trees i g k))

  trans_from : (p : Place) (ls rest : List Lined) (trans : List TransTree) (trees : List Tree) (n : ℕ) → next p kinds.Trans ≡ Some places.Trans →
      next p kinds.End ≡ Some places.End → AreInOrder (IsTrans v) ls trans → From v places.End rest (trees_alone trees) →
      From v p (ls ++ (statement n (the kinds.End ∷ []) ++ rest)) (behind [] trans trees)
  trans_from p ls rest [] trees n d c e k =
      let last : List Lined = statement n (the kinds.End ∷ []) ++ rest in
      from_moved v p last (ls ++ last) (behind [] [] trees) (ap (λ z. z ++ last) (sym e))
      (from_line v p places.End n End [] rest (trees_alone trees) refl c k)
  trans_from p ls rest (t ∷ trans) trees n d c (a, b, e, (w, s, f, g, h), i) k =
      let last : List Lined = statement n (the kinds.End ∷ []) ++ rest in
      let body : List Mark = a_name t.from ∷ the kinds.Arrow ∷ a_name t.to ∷ the kinds.As ∷ a_name t.label ∷ w ++ s in
      from_moved v p (statement t.line (the kinds.Trans ∷ body) ++ (b ++ last)) (ls ++ last) (behind [] (t ∷ trans) trees)
      (ap (λ z. z ++ (b ++ last)) (sym f) ∙ sym (append_assoc a b last) ∙ ap (λ z. z ++ last) (sym e))
      (from_line v p places.Trans t.line (Trans t.from t.to t.label t.guard t.acts) body (b ++ last) (behind [] trans trees) (w, s, refl, g, h) d
      (trans_from places.Trans b rest trans trees n refl refl i k))

  abbrev with_obs : Option BoundsTree → List LocTree → List TransTree → List Tree → Parts
  with_obs o locs trans trees = record (behind locs trans trees) { obs = o }

  obs_from : (ls rest : List Lined) (o : Option BoundsTree) (locs : List LocTree) (trans : List TransTree) (trees : List Tree) → IsObs v ls o →
      ((q : Place) → next q kinds.Loc ≡ Some places.Loc → From v q rest (behind locs trans trees)) →
      From v places.Var (ls ++ rest) (with_obs o locs trans trees)
  obs_from ls rest None locs trans trees e k =
      from_moved v places.Var rest (ls ++ rest) (behind locs trans trees) (ap (λ z. z ++ rest) (sym e)) (k places.Var refl)
  obs_from ls rest (Some o) locs trans trees (so, (ms, e, h)) k =
      from_moved v places.Var (statement o.line (the kinds.Obs ∷ ms) ++ rest) (ls ++ rest) (with_obs (Some o) locs trans trees)
      (ap (λ z. z ++ rest) (sym e))
      (from_line v places.Var places.Obs o.line (Obs o.bounds) ms rest (behind locs trans trees) (so, h) refl (k places.Obs refl))

  tree_from : (p : Place) (ls rest : List Lined) (t : Tree) (trees : List Tree) → next p kinds.Automaton ≡ Some places.Automaton → IsTree v ls t →
      From v places.End rest (trees_alone trees) → From v p (ls ++ rest) (trees_alone (t ∷ trees))
  tree_from p ls rest t trees d (w, o, l, s, n, e, (ms, f, g), ho, some, hl, hs) k =
      let head : List Lined = statement t.line (the kinds.Automaton ∷ a_name t.name ∷ []) in
      let last : List Lined = statement n (the kinds.End ∷ []) in
      let parts : head ++ (statement t.var_line (the kinds.Var ∷ ms) ++ (o ++ (l ++ (s ++ (last ++ rest))))) ≡ ls ++ rest =
      ap (λ z. head ++ (z ++ (o ++ (l ++ (s ++ (last ++ rest)))))) (sym f)
      ∙ sym (append_assoc head w (o ++ (l ++ (s ++ (last ++ rest))))) ∙ sym (append_assoc (head ++ w) o (l ++ (s ++ (last ++ rest))))
      ∙ sym (append_assoc (head ++ w ++ o) l (s ++ (last ++ rest))) ∙ sym (append_assoc (head ++ w ++ o ++ l) s (last ++ rest))
      ∙ sym (append_assoc (head ++ w ++ o ++ l ++ s) last rest) ∙ ap (λ z. z ++ rest) (sym e) in
      let jumps = λ (q : Place) (i : EndsLoc q). trans_from q s rest t.trans trees n i.trans i.last hs k in
      let places_of = λ (q : Place) (i : next q kinds.Loc ≡ Some places.Loc). some_from q l (s ++ (last ++ rest)) t.locs t.trans trees i some hl jumps in
      let tolerances = obs_from o (l ++ (s ++ (last ++ rest))) t.obs t.locs t.trans trees ho places_of in
      let variables = from_line v places.Automaton places.Var t.var_line (Vars t.vars) ms (o ++ (l ++ (s ++ (last ++ rest))))
      (with_obs t.obs t.locs t.trans trees) g refl tolerances in
      from_moved v p (head ++ (statement t.var_line (the kinds.Var ∷ ms) ++ (o ++ (l ++ (s ++ (last ++ rest)))))) (ls ++ rest) (trees_alone (t ∷ trees)) parts
      (from_line v p places.Automaton t.line (Automaton t.name) (a_name t.name ∷ []) (statement t.var_line (the kinds.Var ∷ ms) ++ (o ++ (l ++ (s ++ (last ++ rest)))))
      (record (with_obs t.obs t.locs t.trans trees) { vars = t.vars; var_line = t.var_line }) refl d variables)

  -- ---- a text

  trees_from : (ls : List Lined) (trees : List Tree) → AreInOrder (IsTree v) ls trees → From v places.End ls (trees_alone trees)
  trees_from ls [] e = record { says = []; say = e; order = refl; builds = refl }
  trees_from ls (t ∷ trees) (a, b, e, h, g) =
      from_moved v places.End (a ++ b) ls (trees_alone (t ∷ trees)) (sym e) (tree_from places.End a b t trees refl h (trees_from b trees g))

  some_trees_from : (ls : List Lined) (trees : List Tree) → IsSome trees → AreInOrder (IsTree v) ls trees → From v places.Lha ls (trees_alone trees)
  some_trees_from ls [] some h = absurd some
  some_trees_from ls (t ∷ trees) some (a, b, e, h, g) =
      from_moved v places.Lha (a ++ b) ls (trees_alone (t ∷ trees)) (sym e) (tree_from places.Lha a b t trees refl h (trees_from b trees g))

pub by_lines : (ls : List Lined) (trees : List Tree) → Spell ls trees → SpellByLines ls trees
by_lines ls trees (v, n, last, rest, e, some, h) =
    let head : List Lined = statement n (the kinds.Lha ∷ a_number (version v) ∷ []) in
    let f = some_trees_from v rest trees some h in record {
      lines = head ++ rest;
      says = record { line = n; says = Version v } ∷ f.says;
      last = last;
      parts = e;
      whole = record {
        say = (head, rest, refl, (the kinds.Lha ∷ a_number (version v) ∷ [], refl, (a_number (version v) ∷ [], refl, refl)), f.say);
        order = (places.Lha, refl, f.order);
      };
      builds = ap (λ z. z.trees) f.builds;
    }
