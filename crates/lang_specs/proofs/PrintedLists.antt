-- The canonical tokens of what tokens spell: boxes, bounds, guards and acts.
use Rattle.std.proofs.Common.{inl, inr, ℕ, Bool, List, [], ◌∷◌, refl, subst}
use Rattle.std.specs.Bool.{⊤}
use Rattle.lang_specs.specs.Marks.{Mark, a_name}
use Rattle.lang_specs.specs.Trees.{RowTree, BoxTree, BoundTree, Act, Set, Within, Free}
use Rattle.lang_specs.specs.Expressions.{AreJoined, IsName, IsNum, IsExpr, IsBox, IsBound, IsAct, IsGuard, AreActs}
use Rattle.lang_specs.specs.Canonical.{joined, number_tokens, num_tokens, expr_tokens, rows_tokens, between_tokens, box_tokens, bound_tokens, act_tokens, guard_tokens, acts_tokens}
use Rattle.lang_specs.proofs.EachLemmas.{Each, each_from}
use Rattle.lang_specs.proofs.PrintedItems.{AreSound, IsPrinted, literal_printed, num_printed, expr_printed, IsLet, rows_printed, joined_printed, between_printed}

-- ---- lists of which nothing more is asked

module _ {X : Type 0} (Is : List Mark → X → Type 0) (tokens : X → List Mark)
    (each : (ms : List Mark) (x : X) → Is ms x → AreSound ms → IsPrinted Is tokens x) where
  list_printed : (ms : List Mark) (xs : List X) → AreJoined Is ms xs → AreSound ms → IsPrinted (AreJoined Is) (joined tokens) xs
  list_printed ms xs h sound =
      joined_printed Is Is tokens (λ x. ⊤) (λ ms x p i s. each ms x i s) ms xs (each_from (λ x. ⊤) (λ x. tt) xs) h sound

abbrev pub name_tokens : List ℕ → List Mark
name_tokens v = a_name v ∷ []

name_printed : (ms : List Mark) (v : List ℕ) → IsName ms v → AreSound ms → IsPrinted IsName name_tokens v
name_printed ms v h sound = (refl, ((subst AreSound h sound).0, tt, tt))

pub names_printed : (ms : List Mark) (vs : List (List ℕ)) → AreJoined IsName ms vs → AreSound ms → IsPrinted (AreJoined IsName) (joined name_tokens) vs
names_printed ms vs h sound = list_printed IsName name_tokens name_printed ms vs h sound

-- ---- boxes and bounds

box_printed : (ms : List Mark) (b : BoxTree) → IsBox ms b → AreSound ms → IsPrinted IsBox box_tokens b
box_printed ms b (rest, e, h) sound =
    let parts = subst AreSound e sound in
    let between = between_printed IsNum num_tokens num_printed rest b.lo b.hi h parts.1.1 in
    ((between_tokens num_tokens b.lo b.hi, refl, between.0), (parts.0, tt, (refl, tt, between.1)))

pub boxes_printed : (ms : List Mark) (bs : List BoxTree) → AreJoined IsBox ms bs → AreSound ms → IsPrinted (AreJoined IsBox) (joined box_tokens) bs
boxes_printed ms bs h sound = list_printed IsBox box_tokens box_printed ms bs h sound

bound_printed : (ms : List Mark) (b : BoundTree) → IsBound ms b → AreSound ms → IsPrinted IsBound bound_tokens b
bound_printed ms b (rest, e, h) sound =
    let parts = subst AreSound e sound in
    let number = literal_printed rest b.within h parts.1.1 in
    ((number_tokens b.within, refl, number.0), (parts.0, tt, (refl, tt, number.1)))

pub bounds_printed : (ms : List Mark) (bs : List BoundTree) → AreJoined IsBound ms bs → AreSound ms → IsPrinted (AreJoined IsBound) (joined bound_tokens) bs
bounds_printed ms bs h sound = list_printed IsBound bound_tokens bound_printed ms bs h sound

-- ---- guards and acts

act_printed : (ms : List Mark) (a : Act) → IsAct ms a → AreSound ms → IsPrinted IsAct act_tokens a
act_printed ms (Set var value) (rest, e, h) sound =
    let parts = subst AreSound e sound in
    let expr = expr_printed rest value h parts.1.1 in
    ((expr_tokens value, refl, expr.0), (parts.0, tt, (refl, tt, expr.1)))
act_printed ms (Within var lo hi) (rest, e, h) sound =
    let parts = subst AreSound e sound in
    let between = between_printed IsExpr expr_tokens expr_printed rest lo hi h parts.1.1 in
    ((between_tokens expr_tokens lo hi, refl, between.0), (parts.0, tt, (refl, tt, between.1)))
act_printed ms (Free var) h sound =
    let parts = subst AreSound h sound in (refl, (refl, tt, (parts.1.0, tt, tt)))

pub acts_printed : (ms : List Mark) (acts : List Act) → AreActs ms acts → AreSound ms → IsPrinted AreActs acts_tokens acts
acts_printed ms [] h sound = (refl, tt)
acts_printed ms (a ∷ acts) (rest, e, h) sound =
    let parts = subst AreSound e sound in
    let items = list_printed IsAct act_tokens act_printed rest (a ∷ acts) h parts.1 in
    ((joined act_tokens (a ∷ acts), refl, items.0), (refl, tt, items.1))

pub guard_printed : (strict other : Bool) (ms : List Mark) (rs : List RowTree) → Each (IsLet strict other) rs → IsGuard strict ms rs → AreSound ms →
    IsPrinted (IsGuard other) guard_tokens rs
guard_printed strict other ms [] lets h sound = (inl (refl, refl), tt)
guard_printed strict other ms (r ∷ rs) lets (inl (e, same)) sound = absurd (let f : ⊥ = cc in f)
guard_printed strict other ms (r ∷ rs) lets (inr (rest, e, h)) sound =
    let parts = subst AreSound e sound in
    let rows = rows_printed strict other rest (r ∷ rs) lets h parts.1 in
    (inr (rows_tokens (r ∷ rs), refl, rows.0), (refl, tt, rows.1))
