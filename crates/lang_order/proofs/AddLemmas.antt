-- One more line adds to the last automaton, or to its last location.
use Rattle.std.proofs.Common.{◌≡◌, inl, inr, ℕ, ◌≤◌, List, [], ◌∷◌, ◌++◌, Option, Some, refl, ap, ◌∙◌, subst, arith}
use Rattle.std.specs.Bool.{⊤}
use Rattle.std.specs.Prelude.{◌⊎◌}
use Rattle.lang_specs.specs.Trees.{RowsTree, BoxesTree, BoundsTree, LocTree, TransTree, Tree}
use Rattle.lang_specs.specs.declared.Kind.TheVariants as kinds
use Rattle.lang_order.specs.declared.Place.{Place}
use Rattle.lang_order.specs.declared.Place.TheVariants as places
use Rattle.lang_order.specs.Statements.{Statement, Version, Automaton, Vars, Obs, Loc, Init, Inv, Flow, Also, Trans, End, first_word, Numbered}
use Rattle.lang_order.specs.Order.{next, Leads}
use Rattle.lang_order.specs.Building.{Parts, trees_alone, put, parts_of, trees_of}
use Rattle.lang_order.specs.Adding.{in_last, new_loc, new_tree, add_to_loc, add_to_tree, add}
use Rattle.lang_order.proofs.ToGrammar.{none_some, some_is}

-- ---- parts with one more line

abbrev loc_rows : ℕ → Statement → Parts → Parts
loc_rows line (Init rows) x = record x { init = Some (record { line = line; rows = rows }) }
loc_rows line (Inv rows) x = record x { inv = Some (record { line = line; rows = rows }) }
loc_rows line (Flow boxes) x = record x { flow = record { line = line; boxes = boxes } }
loc_rows line (Also rows) x = record x { also = Some (record { line = line; rows = rows }) }
loc_rows line s x = x

abbrev in_locs : ℕ → Statement → List LocTree → Parts → Parts
in_locs line s [] x = loc_rows line s x
in_locs line s (l ∷ locs) x = record x { locs = in_last (add_to_loc line s) (l ∷ locs) }

abbrev in_parts : ℕ → Statement → Parts → Parts
in_parts line (Vars names) x = record x { vars = names; var_line = line }
in_parts line (Obs bounds) x = record x { obs = Some (record { line = line; bounds = bounds }) }
in_parts line (Loc name is_unsafe) x = record x { locs = x.locs ++ new_loc line name is_unsafe ∷ [] }
in_parts line (Trans from to label guard acts) x =
    record x { trans = x.trans ++ record { line = line; from = from; to = to; label = label; guard = guard; acts = acts } ∷ [] }
in_parts line s x = in_locs line s x.locs x

abbrev in_trees : ℕ → Statement → List Tree → Parts → Parts
in_trees line s [] x = in_parts line s x
in_trees line s (t ∷ trees) x = record x { trees = in_last (add_to_tree line s) (t ∷ trees) }

abbrev grown : ℕ → Statement → Parts → Parts
grown line (Version second) x = x
grown line (Automaton name) x = record x { trees = x.trees ++ new_tree line name ∷ [] }
grown line End x = x
grown line s x = in_trees line s x.trees x

-- ---- what stands only once

-- the later statement says again what the earlier one said
abbrev Again : List Tree → List LocTree → Statement → Statement → Type 0
Again (u ∷ trees) locs t s = ⊥
Again [] locs (Vars a) (Vars b) = Unit {0}
Again [] locs (Obs a) (Obs b) = Unit {0}
Again [] [] (Init a) (Init b) = Unit {0}
Again [] [] (Inv a) (Inv b) = Unit {0}
Again [] [] (Flow a) (Flow b) = Unit {0}
Again [] [] (Also a) (Also b) = Unit {0}
Again trees locs t s = ⊥

abbrev parts : List Tree → List (List ℕ) → ℕ → Option BoundsTree → List LocTree → List TransTree → Option RowsTree → Option RowsTree → BoxesTree → Option RowsTree → Parts
parts trees vars var_line obs locs trans init inv flow also = record {
  trees = trees;
  vars = vars;
  var_line = var_line;
  obs = obs;
  locs = locs;
  trans = trans;
  init = init;
  inv = inv;
  flow = flow;
  also = also;
}

swapped : (n m : ℕ) (t s : Statement) (trees : List Tree) (vars : List (List ℕ)) (var_line : ℕ) (obs : Option BoundsTree) (locs : List LocTree) (trans : List TransTree)
    (init inv : Option RowsTree) (flow : BoxesTree) (also : Option RowsTree) → (Again trees locs t s → ⊥) →
    put n t (grown m s (parts trees vars var_line obs locs trans init inv flow also)) ≡ grown m s (put n t (parts trees vars var_line obs locs trans init inv flow also))
swapped n m (Vars a) (Vars b) [] vars vl obs locs trans init inv flow also once = absurd (once tt)
swapped n m (Obs a) (Obs b) [] vars vl obs locs trans init inv flow also once = absurd (once tt)
swapped n m (Init a) (Init b) [] vars vl obs [] trans init inv flow also once = absurd (once tt)
swapped n m (Inv a) (Inv b) [] vars vl obs [] trans init inv flow also once = absurd (once tt)
swapped n m (Flow a) (Flow b) [] vars vl obs [] trans init inv flow also once = absurd (once tt)
swapped n m (Also a) (Also b) [] vars vl obs [] trans init inv flow also once = absurd (once tt)
swapped n m (Vars a) (Version v) trees vars vl obs locs trans init inv flow also once = refl
swapped n m (Obs a) (Version v) trees vars vl obs locs trans init inv flow also once = refl
swapped n m (Init a) (Version v) trees vars vl obs locs trans init inv flow also once = refl
swapped n m (Inv a) (Version v) trees vars vl obs locs trans init inv flow also once = refl
swapped n m (Flow a) (Version v) trees vars vl obs locs trans init inv flow also once = refl
swapped n m (Also a) (Version v) trees vars vl obs locs trans init inv flow also once = refl
swapped n m (Version w) (Version v) trees vars vl obs locs trans init inv flow also once = refl
swapped n m (Automaton a) (Version v) trees vars vl obs locs trans init inv flow also once = refl
swapped n m (Loc a u) (Version v) trees vars vl obs locs trans init inv flow also once = refl
swapped n m (Trans a b l g i) (Version v) trees vars vl obs locs trans init inv flow also once = refl
swapped n m End (Version v) trees vars vl obs locs trans init inv flow also once = refl
swapped n m t s [] vars vl obs [] trans init inv flow also once = refl
swapped n m t s [] vars vl obs (l ∷ locs) trans init inv flow also once = refl
swapped n m t s (u ∷ trees) vars vl obs [] trans init inv flow also once = refl
swapped n m t s (u ∷ trees) vars vl obs (l ∷ locs) trans init inv flow also once = refl

swap : (n m : ℕ) (t s : Statement) (x : Parts) → (Again x.trees x.locs t s → ⊥) → put n t (grown m s x) ≡ grown m s (put n t x)
swap n m t s x once = swapped n m t s x.trees x.vars x.var_line x.obs x.locs x.trans x.init x.inv x.flow x.also once

-- ---- places from first to last

-- within an automaton
abbrev tree_rank : Place → ℕ
tree_rank places.Start = 0
tree_rank places.Lha = 0
tree_rank places.Automaton = 1
tree_rank places.Var = 2
tree_rank places.Obs = 3
tree_rank places.Trans = 5
tree_rank places.End = 6
tree_rank p = 4

-- within a location
abbrev loc_rank : Place → ℕ
loc_rank places.Loc = 1
loc_rank places.Init = 2
loc_rank places.Inv = 3
loc_rank places.Flow = 4
loc_rank places.Also = 5
loc_rank places.Trans = 6
loc_rank places.End = 7
loc_rank p = 0

abbrev NoTree : Statement → Type 0
NoTree (Automaton name) = ⊥
NoTree s = ⊤

abbrev NoLoc : Statement → Type 0
NoLoc (Loc name u) = ⊥
NoLoc s = ⊤

record Rises (p q : Place) (s : Statement) : Type 0 where
  trees : NoTree s → tree_rank p ≤ tree_rank q
  locs : NoTree s → NoLoc s → loc_rank p ≤ loc_rank q

rises_at : (p q r : Place) (s : Statement) → Some r ≡ Some q → Rises p r s → Rises p q s
rises_at p q r s e h = subst (λ z. Rises p z s) (some_is r q e) h

rises : (p q : Place) (s : Statement) → next p (first_word s) ≡ Some q → Rises p q s
rises places.Start q (Version v) e = rises_at places.Start q places.Lha (Version v) e (record { trees = λ h. omega arith; locs = λ h k. omega arith })
rises places.Lha q (Automaton a) e = record { trees = λ h. absurd h; locs = λ h k. absurd h }
rises places.End q (Automaton a) e = record { trees = λ h. absurd h; locs = λ h k. absurd h }
rises places.Automaton q (Vars a) e = rises_at places.Automaton q places.Var (Vars a) e (record { trees = λ h. omega arith; locs = λ h k. omega arith })
rises places.Var q (Obs a) e = rises_at places.Var q places.Obs (Obs a) e (record { trees = λ h. omega arith; locs = λ h k. omega arith })
rises places.Var q (Loc a u) e = rises_at places.Var q places.Loc (Loc a u) e (record { trees = λ h. omega arith; locs = λ h k. absurd k })
rises places.Obs q (Loc a u) e = rises_at places.Obs q places.Loc (Loc a u) e (record { trees = λ h. omega arith; locs = λ h k. absurd k })
rises places.Loc q (Init a) e = rises_at places.Loc q places.Init (Init a) e (record { trees = λ h. omega arith; locs = λ h k. omega arith })
rises places.Loc q (Inv a) e = rises_at places.Loc q places.Inv (Inv a) e (record { trees = λ h. omega arith; locs = λ h k. omega arith })
rises places.Loc q (Flow a) e = rises_at places.Loc q places.Flow (Flow a) e (record { trees = λ h. omega arith; locs = λ h k. omega arith })
rises places.Init q (Inv a) e = rises_at places.Init q places.Inv (Inv a) e (record { trees = λ h. omega arith; locs = λ h k. omega arith })
rises places.Init q (Flow a) e = rises_at places.Init q places.Flow (Flow a) e (record { trees = λ h. omega arith; locs = λ h k. omega arith })
rises places.Inv q (Flow a) e = rises_at places.Inv q places.Flow (Flow a) e (record { trees = λ h. omega arith; locs = λ h k. omega arith })
rises places.Flow q (Also a) e = rises_at places.Flow q places.Also (Also a) e (record { trees = λ h. omega arith; locs = λ h k. omega arith })
rises places.Flow q (Loc a u) e = rises_at places.Flow q places.Loc (Loc a u) e (record { trees = λ h. omega arith; locs = λ h k. absurd k })
rises places.Flow q (Trans a b l g i) e =
    rises_at places.Flow q places.Trans (Trans a b l g i) e (record { trees = λ h. omega arith; locs = λ h k. omega arith })
rises places.Flow q End e = rises_at places.Flow q places.End End e (record { trees = λ h. omega arith; locs = λ h k. omega arith })
rises places.Also q (Loc a u) e = rises_at places.Also q places.Loc (Loc a u) e (record { trees = λ h. omega arith; locs = λ h k. absurd k })
rises places.Also q (Trans a b l g i) e =
    rises_at places.Also q places.Trans (Trans a b l g i) e (record { trees = λ h. omega arith; locs = λ h k. omega arith })
rises places.Also q End e = rises_at places.Also q places.End End e (record { trees = λ h. omega arith; locs = λ h k. omega arith })
rises places.Trans q (Trans a b l g i) e =
    rises_at places.Trans q places.Trans (Trans a b l g i) e (record { trees = λ h. omega arith; locs = λ h k. omega arith })
rises places.Trans q End e = rises_at places.Trans q places.End End e (record { trees = λ h. omega arith; locs = λ h k. omega arith })
rises p q s e = none_some q e

-- statements that begin no automaton, or no location
no_tree_in : (n : ℕ) (s : Statement) (x : Parts) → (put n s x).trees ≡ [] → NoTree s × (x.trees ≡ [])
no_tree_in n (Automaton a) x e = absurd (let b : ⊥ = cc in b)
no_tree_in n s x e = (tt, e)

no_loc_in : (n : ℕ) (s : Statement) (x : Parts) → NoTree s → (put n s x).locs ≡ [] → NoLoc s × (x.locs ≡ [])
no_loc_in n (Automaton a) x h e = absurd h
no_loc_in n (Loc a u) x h e = absurd (let b : ⊥ = cc in b)
no_loc_in n s x h e = (tt, e)

tree_rises : (p q : Place) (ss : List Numbered) → Leads p ss q → (parts_of ss).trees ≡ [] → tree_rank p ≤ tree_rank q
tree_rises p q [] e none = let same : tree_rank p ≡ tree_rank q = ap tree_rank e in omega (arith, same)
tree_rises p q (s ∷ ss) (r, d, h) none =
    let n = no_tree_in s.line s.says (parts_of ss) none in
    let step = rises p r s.says d in
    let first : tree_rank p ≤ tree_rank r = step.trees n.0 in
    let others = tree_rises r q ss h n.1 in
    omega (arith, first, others)

loc_rises : (p q : Place) (ss : List Numbered) → Leads p ss q → (parts_of ss).trees ≡ [] → (parts_of ss).locs ≡ [] → loc_rank p ≤ loc_rank q
loc_rises p q [] e none none_here = let same : loc_rank p ≡ loc_rank q = ap loc_rank e in omega (arith, same)
loc_rises p q (s ∷ ss) (r, d, h) none none_here =
    let n = no_tree_in s.line s.says (parts_of ss) none in
    let m = no_loc_in s.line s.says (parts_of ss) n.0 none_here in
    let step = rises p r s.says d in
    let first : loc_rank p ≤ loc_rank r = step.locs n.0 m.0 in
    let others = loc_rises r q ss h n.1 m.1 in
    omega (arith, first, others)

-- ---- no statement says again what an earlier one said

rank_var : (p q : Place) → next p kinds.Var ≡ Some q → (tree_rank p ≤ 1) × (2 ≤ tree_rank q)
rank_var places.Automaton q e = (omega arith, subst (λ z. 2 ≤ tree_rank z) (some_is places.Var q e) (omega arith))
rank_var p q e = none_some q e

rank_obs : (p q : Place) → next p kinds.Obs ≡ Some q → (tree_rank p ≤ 2) × (3 ≤ tree_rank q)
rank_obs places.Var q e = (omega arith, subst (λ z. 3 ≤ tree_rank z) (some_is places.Obs q e) (omega arith))
rank_obs p q e = none_some q e

rank_init : (p q : Place) → next p kinds.Init ≡ Some q → (loc_rank p ≤ 1) × (2 ≤ loc_rank q)
rank_init places.Loc q e = (omega arith, subst (λ z. 2 ≤ loc_rank z) (some_is places.Init q e) (omega arith))
rank_init p q e = none_some q e

rank_inv : (p q : Place) → next p kinds.Inv ≡ Some q → (loc_rank p ≤ 2) × (3 ≤ loc_rank q)
rank_inv places.Loc q e = (omega arith, subst (λ z. 3 ≤ loc_rank z) (some_is places.Inv q e) (omega arith))
rank_inv places.Init q e = (omega arith, subst (λ z. 3 ≤ loc_rank z) (some_is places.Inv q e) (omega arith))
rank_inv p q e = none_some q e

rank_flow : (p q : Place) → next p kinds.Flow ≡ Some q → (loc_rank p ≤ 3) × (4 ≤ loc_rank q)
rank_flow places.Loc q e = (omega arith, subst (λ z. 4 ≤ loc_rank z) (some_is places.Flow q e) (omega arith))
rank_flow places.Init q e = (omega arith, subst (λ z. 4 ≤ loc_rank z) (some_is places.Flow q e) (omega arith))
rank_flow places.Inv q e = (omega arith, subst (λ z. 4 ≤ loc_rank z) (some_is places.Flow q e) (omega arith))
rank_flow p q e = none_some q e

rank_also : (p q : Place) → next p kinds.Also ≡ Some q → (loc_rank p ≤ 4) × (5 ≤ loc_rank q)
rank_also places.Flow q e = (omega arith, subst (λ z. 5 ≤ loc_rank z) (some_is places.Also q e) (omega arith))
rank_also p q e = none_some q e

abbrev IsOuter : Statement → Statement → Type 0
IsOuter (Vars a) (Vars b) = Unit {0}
IsOuter (Obs a) (Obs b) = Unit {0}
IsOuter t s = ⊥

abbrev IsInner : Statement → Statement → Type 0
IsInner (Init a) (Init b) = Unit {0}
IsInner (Inv a) (Inv b) = Unit {0}
IsInner (Flow a) (Flow b) = Unit {0}
IsInner (Also a) (Also b) = Unit {0}
IsInner t s = ⊥

told : (trees : List Tree) (locs : List LocTree) (t s : Statement) → Again trees locs t s → (trees ≡ []) × (IsOuter t s ⊎ ((locs ≡ []) × IsInner t s))
told [] locs (Vars a) (Vars b) h = (refl, inl tt)
told [] locs (Obs a) (Obs b) h = (refl, inl tt)
told [] [] (Init a) (Init b) h = (refl, inr (refl, tt))
told [] [] (Inv a) (Inv b) h = (refl, inr (refl, tt))
told [] [] (Flow a) (Flow b) h = (refl, inr (refl, tt))
told [] [] (Also a) (Also b) h = (refl, inr (refl, tt))
told trees locs t s h = absurd h

module _ (p q r z : Place) where
  outer_once : (t s : Statement) → next p (first_word t) ≡ Some q → next r (first_word s) ≡ Some z → tree_rank q ≤ tree_rank r → IsOuter t s → ⊥
  outer_once (Vars a) (Vars b) d g le h = let x = rank_var p q d in let y = rank_var r z g in let m = x.1 in let n = y.0 in omega (arith, m, n, le)
  outer_once (Obs a) (Obs b) d g le h = let x = rank_obs p q d in let y = rank_obs r z g in let m = x.1 in let n = y.0 in omega (arith, m, n, le)
  outer_once t s d g le h = h

  inner_once : (t s : Statement) → next p (first_word t) ≡ Some q → next r (first_word s) ≡ Some z → loc_rank q ≤ loc_rank r → IsInner t s → ⊥
  inner_once (Init a) (Init b) d g le h = let x = rank_init p q d in let y = rank_init r z g in let m = x.1 in let n = y.0 in omega (arith, m, n, le)
  inner_once (Inv a) (Inv b) d g le h = let x = rank_inv p q d in let y = rank_inv r z g in let m = x.1 in let n = y.0 in omega (arith, m, n, le)
  inner_once (Flow a) (Flow b) d g le h = let x = rank_flow p q d in let y = rank_flow r z g in let m = x.1 in let n = y.0 in omega (arith, m, n, le)
  inner_once (Also a) (Also b) d g le h = let x = rank_also p q d in let y = rank_also r z g in let m = x.1 in let n = y.0 in omega (arith, m, n, le)
  inner_once t s d g le h = h

  once : (t s : Statement) (ss : List Numbered) → next p (first_word t) ≡ Some q → Leads q ss r → next r (first_word s) ≡ Some z →
      Again (parts_of ss).trees (parts_of ss).locs t s → ⊥
  once t s ss d h g again =
      let w = told (parts_of ss).trees (parts_of ss).locs t s again in
      elim w.1 [
        | inl o ↦ outer_once t s d g (tree_rises q r ss h w.0) o
        | inr i ↦ inner_once t s d g (loc_rises q r ss h w.0 i.0) i.1
      ]

-- ---- the law

alone_grown : (n : ℕ) (s : Statement) → put n s (trees_alone []) ≡ grown n s (trees_alone [])
alone_grown n (Version v) = refl
alone_grown n s = refl

grown_parts : (p r z : Place) (ss : List Numbered) (s : Numbered) → Leads p ss r → next r (first_word s.says) ≡ Some z →
    parts_of (ss ++ s ∷ []) ≡ grown s.line s.says (parts_of ss)
grown_parts p r z [] s h g = alone_grown s.line s.says
grown_parts p r z (t ∷ ss) s (q, d, h) g =
    ap (put t.line t.says) (grown_parts q r z ss s h g)
    ∙ swap t.line s.line t.says s.says (parts_of ss) (once p q r z t.says s.says ss d h g)

grown_is : (n : ℕ) (s : Statement) (trees : List Tree) (vars : List (List ℕ)) (var_line : ℕ) (obs : Option BoundsTree) (locs : List LocTree)
    (trans : List TransTree) (init inv : Option RowsTree) (flow : BoxesTree) (also : Option RowsTree) →
    (grown n s (parts trees vars var_line obs locs trans init inv flow also)).trees ≡ add n s trees
grown_is n (Version v) trees vars vl obs locs trans init inv flow also = refl
grown_is n s [] vars vl obs [] trans init inv flow also = refl
grown_is n s [] vars vl obs (l ∷ locs) trans init inv flow also = refl
grown_is n s (t ∷ trees) vars vl obs locs trans init inv flow also = refl

grown_trees : (n : ℕ) (s : Statement) (x : Parts) → (grown n s x).trees ≡ add n s x.trees
grown_trees n s x = grown_is n s x.trees x.vars x.var_line x.obs x.locs x.trans x.init x.inv x.flow x.also

pub one_more_line : (ss : List Numbered) (p q : Place) (s : Numbered) → Leads places.Start ss p → next p (first_word s.says) ≡ Some q →
    trees_of (ss ++ s ∷ []) ≡ add s.line s.says (trees_of ss)
one_more_line ss p q s h d =
    ap (λ x. x.trees) (grown_parts places.Start p q ss s h d) ∙ grown_trees s.line s.says (parts_of ss)
