-- What holds of each line of a text, and of the trees that the lines build.
use Rattle.std.proofs.Common.{◌≡◌, ℕ, Bool, List, [], ◌∷◌, Option, Some, None, sym, subst}
use Rattle.std.specs.Bool.{⊤}
use Rattle.lang_specs.specs.Marks.{Lined}
use Rattle.lang_specs.specs.Trees.{RowTree, RowsTree, BoundTree, BoundsTree, Act, LocTree, TransTree, Tree}
use Rattle.lang_specs.proofs.EachLemmas.{Each}
use Rattle.lang_order.specs.declared.Place.{Place}
use Rattle.lang_order.specs.declared.Place.TheVariants as places
use Rattle.lang_order.specs.Statements.{Statement, Version, Automaton, Vars, Obs, Loc, Init, Inv, Flow, Also, Trans, End, first_word, Numbered}
use Rattle.lang_order.specs.Order.{next}
use Rattle.lang_order.specs.Building.{Parts, trees_alone, put, parts_of}
use Rattle.lang_order.specs.LineLimits.{Counts, count, rows_of_line, acts_of_line}
use Rattle.lang_order.proofs.ToGrammar.{none_some, some_is}
use Rattle.lang_order.proofs.Walks.{Any, Walk, order_of}
use Rattle.lang_order.proofs.ClearParts.{Clear, clear_at}

-- what is asked of lists of rows, acts, variables and bounds
pub record Asked : Type 1 where
  pub rows : List RowTree → Type 0
  pub acts : List Act → Type 0
  pub vars : List (List ℕ) → Type 0
  pub bounds : List BoundTree → Type 0

abbrev pub RowsAre : Asked → Option RowsTree → Type 0
RowsAre k None = ⊤
RowsAre k (Some r) = k.rows r.rows

abbrev pub BoundsAre : Asked → Option BoundsTree → Type 0
BoundsAre k None = ⊤
BoundsAre k (Some o) = k.bounds o.bounds

abbrev pub LocIs : Asked → LocTree → Type 0
LocIs k l = RowsAre k l.init × RowsAre k l.inv × RowsAre k l.also

abbrev pub TransIs : Asked → TransTree → Type 0
TransIs k t = k.rows t.guard × k.acts t.acts

abbrev pub TreeIs : Asked → Tree → Type 0
TreeIs k t = k.vars t.vars × BoundsAre k t.obs × Each (LocIs k) t.locs × Each (TransIs k) t.trans

pub record PartsAre (k : Asked) (x : Parts) : Type 0 where
  pub vars : k.vars x.vars
  pub obs : BoundsAre k x.obs
  pub locs : Each (LocIs k) x.locs
  pub trans : Each (TransIs k) x.trans
  pub init : RowsAre k x.init
  pub inv : RowsAre k x.inv
  pub also : RowsAre k x.also
  pub trees : Each (TreeIs k) x.trees

abbrev pub NamesAre : Asked → Statement → Type 0
NamesAre k (Vars names) = k.vars names
NamesAre k (Obs bounds) = k.bounds bounds
NamesAre k s = ⊤

abbrev pub LineIs : Asked → Statement → Type 0
LineIs k s = Each k.rows (rows_of_line s) × k.acts (acts_of_line s) × NamesAre k s

module _ (k : Asked) (no_acts : k.acts []) (no_vars : k.vars []) where
  pub alone : (trees : List Tree) → Each (TreeIs k) trees → PartsAre k (trees_alone trees)
  alone trees h = record { vars = no_vars; obs = tt; locs = tt; trans = tt; init = tt; inv = tt; also = tt; trees = h }

  -- ---- from lines to trees

  put_on : (n : ℕ) (s : Statement) (x : Parts) → LineIs k s → PartsAre k x → PartsAre k (put n s x)
  put_on n (Version v) x h p = p
  put_on n (Automaton name) x h p = alone ((put n (Automaton name) x).trees) ((p.vars, p.obs, p.locs, p.trans), p.trees)
  put_on n (Vars names) x h p =
      record { vars = h.2; obs = p.obs; locs = p.locs; trans = p.trans; init = p.init; inv = p.inv; also = p.also; trees = p.trees }
  put_on n (Obs bounds) x h p =
      record { vars = p.vars; obs = h.2; locs = p.locs; trans = p.trans; init = p.init; inv = p.inv; also = p.also; trees = p.trees }
  put_on n (Loc name u) x h p =
      record { vars = p.vars; obs = p.obs; locs = ((p.init, p.inv, p.also), p.locs); trans = p.trans; init = tt; inv = tt; also = tt; trees = p.trees }
  put_on n (Init rows) x h p =
      record { vars = p.vars; obs = p.obs; locs = p.locs; trans = p.trans; init = h.0.0; inv = p.inv; also = p.also; trees = p.trees }
  put_on n (Inv rows) x h p =
      record { vars = p.vars; obs = p.obs; locs = p.locs; trans = p.trans; init = p.init; inv = h.0.0; also = p.also; trees = p.trees }
  put_on n (Flow boxes) x h p =
      record { vars = p.vars; obs = p.obs; locs = p.locs; trans = p.trans; init = p.init; inv = p.inv; also = p.also; trees = p.trees }
  put_on n (Also rows) x h p =
      record { vars = p.vars; obs = p.obs; locs = p.locs; trans = p.trans; init = p.init; inv = p.inv; also = h.0.0; trees = p.trees }
  put_on n (Trans a b l g i) x h p =
      record { vars = p.vars; obs = p.obs; locs = p.locs; trans = ((h.0.0, h.1), p.trans); init = p.init; inv = p.inv; also = p.also; trees = p.trees }
  put_on n End x h p = p

  pub parts_kept : (v : Bool) (p : Place) (c : Counts) (ls : List Lined) (ss : List Numbered) (q : Place) → Walk (λ c ms s. LineIs k s) v p c ls ss q →
      PartsAre k (parts_of ss)
  parts_kept v p c ls [] q h = alone [] tt
  parts_kept v p c ls (s ∷ ss) q (body, rest, r, e, b, g, d, w) =
      put_on s.line s.says (parts_of ss) g (parts_kept v r (count c (first_word s.says)) rest ss q w)

  -- ---- from trees to lines

  no_rows : (o : Option RowsTree) → o ≡ None → RowsAre k o
  no_rows o e = subst (RowsAre k) (sym e) tt

  no_obs : (o : Option BoundsTree) → o ≡ None → BoundsAre k o
  no_obs o e = subst (BoundsAre k) (sym e) tt

  none_named : (names : List (List ℕ)) → names ≡ [] → k.vars names
  none_named names e = subst k.vars (sym e) no_vars

  moved : (p q : Place) (x : Parts) → Some p ≡ Some q → Clear q x → Clear p x
  moved p q x e h = subst (λ z. Clear z x) (sym (some_is p q e)) h

  at_tree : (n : ℕ) (name : List ℕ) (x : Parts) → Clear places.Automaton x → PartsAre k (put n (Automaton name) x) → PartsAre k x
  at_tree n name x c p = record {
    vars = p.trees.0.0;
    obs = p.trees.0.1;
    locs = p.trees.0.2;
    trans = p.trees.0.3;
    init = no_rows x.init c.2;
    inv = no_rows x.inv c.3;
    also = no_rows x.also c.4;
    trees = p.trees.1;
  }

  at_loc : (n : ℕ) (name : List ℕ) (u : Bool) (x : Parts) → PartsAre k (put n (Loc name u) x) → PartsAre k x
  at_loc n name u x p = record {
    vars = p.vars;
    obs = p.obs;
    locs = p.locs.1;
    trans = p.trans;
    init = p.locs.0.0;
    inv = p.locs.0.1;
    also = p.locs.0.2;
    trees = p.trees;
  }

  take_off : (p q : Place) (n : ℕ) (s : Statement) (x : Parts) → next p (first_word s) ≡ Some q → Clear q x → PartsAre k (put n s x) → LineIs k s × PartsAre k x
  take_off places.Start q n (Version v) x e c h = ((tt, no_acts, tt), h)
  take_off places.Lha q n (Automaton name) x e c h = ((tt, no_acts, tt), at_tree n name x (moved places.Automaton q x e c) h)
  take_off places.End q n (Automaton name) x e c h = ((tt, no_acts, tt), at_tree n name x (moved places.Automaton q x e c) h)
  take_off places.Automaton q n (Vars names) x e c h =
      let d = moved places.Var q x e c in
      ((tt, no_acts, h.vars), record { vars = none_named x.vars d.0; obs = h.obs; locs = h.locs; trans = h.trans; init = h.init; inv = h.inv; also = h.also; trees = h.trees })
  take_off places.Var q n (Obs bounds) x e c h =
      let d = moved places.Obs q x e c in
      ((tt, no_acts, h.obs), record { vars = h.vars; obs = no_obs x.obs d.1; locs = h.locs; trans = h.trans; init = h.init; inv = h.inv; also = h.also; trees = h.trees })
  take_off places.Var q n (Loc name u) x e c h = ((tt, no_acts, tt), at_loc n name u x h)
  take_off places.Obs q n (Loc name u) x e c h = ((tt, no_acts, tt), at_loc n name u x h)
  take_off places.Flow q n (Loc name u) x e c h = ((tt, no_acts, tt), at_loc n name u x h)
  take_off places.Also q n (Loc name u) x e c h = ((tt, no_acts, tt), at_loc n name u x h)
  take_off places.Loc q n (Init rows) x e c h =
      let d = moved places.Init q x e c in
      (((h.init, tt), no_acts, tt), record { vars = h.vars; obs = h.obs; locs = h.locs; trans = h.trans; init = no_rows x.init d.2; inv = h.inv; also = h.also; trees = h.trees })
  take_off places.Loc q n (Inv rows) x e c h =
      let d = moved places.Inv q x e c in
      (((h.inv, tt), no_acts, tt), record { vars = h.vars; obs = h.obs; locs = h.locs; trans = h.trans; init = h.init; inv = no_rows x.inv d.3; also = h.also; trees = h.trees })
  take_off places.Init q n (Inv rows) x e c h =
      let d = moved places.Inv q x e c in
      (((h.inv, tt), no_acts, tt), record { vars = h.vars; obs = h.obs; locs = h.locs; trans = h.trans; init = h.init; inv = no_rows x.inv d.3; also = h.also; trees = h.trees })
  take_off places.Flow q n (Also rows) x e c h =
      let d = moved places.Also q x e c in
      (((h.also, tt), no_acts, tt), record { vars = h.vars; obs = h.obs; locs = h.locs; trans = h.trans; init = h.init; inv = h.inv; also = no_rows x.also d.4; trees = h.trees })
  take_off p q n (Flow boxes) x e c h =
      ((tt, no_acts, tt), record { vars = h.vars; obs = h.obs; locs = h.locs; trans = h.trans; init = h.init; inv = h.inv; also = h.also; trees = h.trees })
  take_off p q n (Trans a b l g i) x e c h = (
    ((h.trans.0.0, tt), h.trans.0.1, tt),
    record { vars = h.vars; obs = h.obs; locs = h.locs; trans = h.trans.1; init = h.init; inv = h.inv; also = h.also; trees = h.trees },
  )
  take_off p q n End x e c h = ((tt, no_acts, tt), h)
  take_off p q n s x e c h = none_some q e

  pub lines_kept : (v : Bool) (p : Place) (c : Counts) (ls : List Lined) (ss : List Numbered) → Walk Any v p c ls ss places.End → PartsAre k (parts_of ss) →
      Walk (λ c ms s. LineIs k s) v p c ls ss places.End
  lines_kept v p c ls [] h k = h
  lines_kept v p c ls (s ∷ ss) (body, rest, r, e, b, g, d, w) h =
      let c2 = count c (first_word s.says) in
      let off = take_off p r s.line s.says (parts_of ss) d (clear_at r ss (order_of Any v r c2 rest ss places.End w)) h in
      (body, rest, r, e, b, off.0, d, lines_kept v r c2 rest ss w off.1)
