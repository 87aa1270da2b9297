-- What the grammar says of the rest of a text, by the place where it begins.
use Rattle.std.proofs.Common.{◌≡◌, ℕ, Bool, false, List, [], ◌∷◌, ◌++◌, None, refl, sym, ap, ◌∙◌, subst, append_assoc}
use Rattle.lang_specs.specs.declared.Kind.TheVariants as kinds
use Rattle.lang_specs.specs.Marks.{Mark, the, a_name, Lined, statement}
use Rattle.lang_specs.specs.Trees.{LocTree, TransTree, Tree}
use Rattle.lang_specs.specs.Expressions.{AreJoined, IsName, IsSome}
use Rattle.lang_specs.specs.Grammar.{AreInOrder, IsRowsLine, IsFlow, unsafe_if, IsLoc, IsTrans, IsObs, IsTree}
use Rattle.lang_order.specs.declared.Place.{Place}
use Rattle.lang_order.specs.declared.Place.TheVariants as places
use Rattle.lang_order.specs.Building.{Parts, loc_of, tree_of}

abbrev pub end_line : ℕ → List Lined
end_line n = statement n (the kinds.End ∷ [])

-- locations, transitions, the end of their automaton, and automata
pub record Behind (v : Bool) (ls : List Lined) (locs : List LocTree) (trans : List TransTree) (trees : List Tree) : Type 0 where
  pub loc_lines : List Lined
  pub trans_lines : List Lined
  pub last : ℕ
  pub tree_lines : List Lined
  pub parts : ls ≡ loc_lines ++ (trans_lines ++ (end_line last ++ tree_lines))
  pub are_locs : AreInOrder (IsLoc v) loc_lines locs
  pub are_trans : AreInOrder (IsTrans v) trans_lines trans
  pub are_trees : AreInOrder (IsTree v) tree_lines trees

abbrev pub BehindIn : Bool → List Lined → Parts → Type 0
BehindIn v ls p = Behind v ls p.locs p.trans p.trees

-- nothing has begun
pub record IsClear (p : Parts) : Type 0 where
  pub obs : p.obs ≡ None
  pub init : p.init ≡ None
  pub inv : p.inv ≡ None
  pub also : p.also ≡ None

abbrev pub AtEnd : Bool → List Lined → Parts → Type 0
AtEnd v ls p = AreInOrder (IsTree v) ls p.trees × (p.locs ≡ []) × (p.trans ≡ []) × IsClear p

abbrev pub AtTrans : Bool → List Lined → Parts → Type 0
AtTrans v ls p = BehindIn v ls p × (p.locs ≡ []) × IsClear p

abbrev pub AtAlso : Bool → List Lined → Parts → Type 0
AtAlso v ls p = BehindIn v ls p × IsClear p

abbrev pub AtFlow : Bool → List Lined → Parts → Type 0
AtFlow v ls p =
    (also more : List Lined) × (ls ≡ also ++ more) × IsRowsLine false kinds.Also also p.also × BehindIn v more p
    × (p.obs ≡ None) × (p.init ≡ None) × (p.inv ≡ None)

abbrev pub AtInv : Bool → List Lined → Parts → Type 0
AtInv v ls p =
    (flow also more : List Lined) × (ls ≡ flow ++ (also ++ more)) × IsFlow flow p.flow × IsRowsLine false kinds.Also also p.also
    × BehindIn v more p × (p.obs ≡ None) × (p.init ≡ None) × (p.inv ≡ None)

abbrev pub AtInit : Bool → List Lined → Parts → Type 0
AtInit v ls p =
    (inv flow also more : List Lined) × (ls ≡ inv ++ (flow ++ (also ++ more))) × IsRowsLine v kinds.Inv inv p.inv × IsFlow flow p.flow
    × IsRowsLine false kinds.Also also p.also × BehindIn v more p × (p.obs ≡ None) × (p.init ≡ None)

abbrev pub AtLoc : Bool → List Lined → Parts → Type 0
AtLoc v ls p =
    (init inv flow also more : List Lined) × (ls ≡ init ++ (inv ++ (flow ++ (also ++ more)))) × IsRowsLine v kinds.Init init p.init
    × IsRowsLine v kinds.Inv inv p.inv × IsFlow flow p.flow × IsRowsLine false kinds.Also also p.also × BehindIn v more p × (p.obs ≡ None)

abbrev pub AtObs : Bool → List Lined → Parts → Type 0
AtObs v ls p = BehindIn v ls p × IsSome p.locs

abbrev pub AtVar : Bool → List Lined → Parts → Type 0
AtVar v ls p = (obs more : List Lined) × (ls ≡ obs ++ more) × IsObs v obs p.obs × BehindIn v more p × IsSome p.locs

abbrev pub AtAutomaton : Bool → List Lined → Parts → Type 0
AtAutomaton v ls p =
    (names : List Mark) × (obs more : List Lined) × (ls ≡ statement p.var_line (the kinds.Var ∷ names) ++ (obs ++ more))
    × AreJoined IsName names p.vars × IsObs v obs p.obs × BehindIn v more p × IsSome p.locs

abbrev pub AtLha : Bool → List Lined → Parts → Type 0
AtLha v ls p = AreInOrder (IsTree v) ls p.trees × IsSome p.trees

abbrev pub At : Bool → Place → List Lined → Parts → Type 0
At v places.Start ls p = Unit {0}
At v places.Lha ls p = AtLha v ls p
At v places.Automaton ls p = AtAutomaton v ls p
At v places.Var ls p = AtVar v ls p
At v places.Obs ls p = AtObs v ls p
At v places.Loc ls p = AtLoc v ls p
At v places.Init ls p = AtInit v ls p
At v places.Inv ls p = AtInv v ls p
At v places.Flow ls p = AtFlow v ls p
At v places.Also ls p = AtAlso v ls p
At v places.Trans ls p = AtTrans v ls p
At v places.End ls p = AtEnd v ls p

-- ---- whole things

none_before : {X : Type 0} (Is : List Lined → X → Type 0) (ls : List Lined) (xs : List X) → xs ≡ [] → AreInOrder Is ls xs → ls ≡ []
none_before Is ls xs e h = subst (AreInOrder Is ls) e h

-- a location before others
pub loc_before : (v : Bool) (n : ℕ) (name : List ℕ) (is_unsafe : Bool) (ls : List Lined) (p : Parts) → AtLoc v ls p →
    Behind v (statement n (the kinds.Loc ∷ a_name name ∷ unsafe_if is_unsafe) ++ ls) (loc_of n name is_unsafe p ∷ p.locs) p.trans p.trees
loc_before v n name is_unsafe ls p (i, w, f, a, more, e, hi, hw, hf, ha, b, o) =
    let head : List Lined = statement n (the kinds.Loc ∷ a_name name ∷ unsafe_if is_unsafe) in
    let tail : List Lined = b.loc_lines ++ (b.trans_lines ++ (end_line b.last ++ b.tree_lines)) in
    record {
      loc_lines = (head ++ i ++ w ++ f ++ a) ++ b.loc_lines;
      trans_lines = b.trans_lines;
      last = b.last;
      tree_lines = b.tree_lines;
      parts =
          ap (λ z. head ++ z) e ∙ ap (λ z. head ++ (i ++ (w ++ (f ++ (a ++ z))))) b.parts ∙ sym (append_assoc head i (w ++ (f ++ (a ++ tail))))
          ∙ sym (append_assoc (head ++ i) w (f ++ (a ++ tail))) ∙ sym (append_assoc (head ++ i ++ w) f (a ++ tail))
          ∙ sym (append_assoc (head ++ i ++ w ++ f) a tail)
          ∙ sym (append_assoc (head ++ i ++ w ++ f ++ a) b.loc_lines (b.trans_lines ++ (end_line b.last ++ b.tree_lines)));
      are_locs = (head ++ i ++ w ++ f ++ a, b.loc_lines, refl, (i, w, f, a, refl, hi, hw, hf, ha), b.are_locs);
      are_trans = b.are_trans;
      are_trees = b.are_trees;
    }

-- a transition before others
pub trans_before : (v : Bool) (head ls : List Lined) (t : TransTree) (locs : List LocTree) (trans : List TransTree) (trees : List Tree) → IsTrans v head t →
    locs ≡ [] → Behind v ls locs trans trees → Behind v (head ++ ls) locs (t ∷ trans) trees
trans_before v head ls t locs trans trees h e b =
    let empty = none_before (IsLoc v) b.loc_lines locs e b.are_locs in record {
      loc_lines = [];
      trans_lines = head ++ b.trans_lines;
      last = b.last;
      tree_lines = b.tree_lines;
      parts =
          ap (λ z. head ++ z) (b.parts ∙ ap (λ z. z ++ (b.trans_lines ++ (end_line b.last ++ b.tree_lines))) empty)
          ∙ sym (append_assoc head b.trans_lines (end_line b.last ++ b.tree_lines));
      are_locs = subst (AreInOrder (IsLoc v) []) (sym e) refl;
      are_trans = (head, b.trans_lines, refl, h, b.are_trans);
      are_trees = b.are_trees;
    }

-- the end of an automaton before others
pub end_before : (v : Bool) (n : ℕ) (ls : List Lined) (p : Parts) → AtEnd v ls p → BehindIn v (end_line n ++ ls) p
end_before v n ls p (h, e, f, c) = record {
  loc_lines = [];
  trans_lines = [];
  last = n;
  tree_lines = ls;
  parts = refl;
  are_locs = subst (AreInOrder (IsLoc v) []) (sym e) refl;
  are_trans = subst (AreInOrder (IsTrans v) []) (sym f) refl;
  are_trees = h;
}

-- an automaton before others
pub tree_before : (v : Bool) (n : ℕ) (name : List ℕ) (ls : List Lined) (p : Parts) → AtAutomaton v ls p →
    AreInOrder (IsTree v) (statement n (the kinds.Automaton ∷ a_name name ∷ []) ++ ls) (tree_of n name p ∷ p.trees)
tree_before v n name ls p (names, o, more, e, h, k, b, some) =
    let head : List Lined = statement n (the kinds.Automaton ∷ a_name name ∷ []) in
    let w : List Lined = statement p.var_line (the kinds.Var ∷ names) in
    let l : List Lined = b.loc_lines in
    let s : List Lined = b.trans_lines in
    let last : List Lined = end_line b.last in
    let parts : head ++ ls ≡ (head ++ w ++ o ++ l ++ s ++ last) ++ b.tree_lines =
    ap (λ z. head ++ z) e ∙ ap (λ z. head ++ (w ++ (o ++ z))) b.parts ∙ sym (append_assoc head w (o ++ (l ++ (s ++ (last ++ b.tree_lines)))))
    ∙ sym (append_assoc (head ++ w) o (l ++ (s ++ (last ++ b.tree_lines)))) ∙ sym (append_assoc (head ++ w ++ o) l (s ++ (last ++ b.tree_lines)))
    ∙ sym (append_assoc (head ++ w ++ o ++ l) s (last ++ b.tree_lines)) ∙ sym (append_assoc (head ++ w ++ o ++ l ++ s) last b.tree_lines) in
    (head ++ w ++ o ++ l ++ s ++ last, b.tree_lines, parts, (w, o, l, s, b.last, refl, (names, refl, h), k, some, b.are_locs, b.are_trans), b.are_trees)
