-- What has not begun at a place.
use Rattle.std.proofs.Common.{◌≡◌, ℕ, List, [], ◌∷◌, Some, None, refl, sym, subst}
use Rattle.std.specs.Bool.{⊤}
use Rattle.lang_order.specs.declared.Place.{Place}
use Rattle.lang_order.specs.declared.Place.TheVariants as places
use Rattle.lang_order.specs.Statements.{Statement, Version, Automaton, Vars, Obs, Loc, Init, Inv, Flow, Also, Trans, End, first_word, Numbered}
use Rattle.lang_order.specs.Order.{next, Leads}
use Rattle.lang_order.specs.Building.{Parts, trees_alone, put, parts_of}
use Rattle.lang_order.proofs.ToGrammar.{none_some, some_is}

abbrev NoVars : Place → Parts → Type 0
NoVars places.Automaton x = ⊤
NoVars p x = x.vars ≡ []

abbrev NoObs : Place → Parts → Type 0
NoObs places.Automaton x = ⊤
NoObs places.Var x = ⊤
NoObs p x = x.obs ≡ None

abbrev NoInit : Place → Parts → Type 0
NoInit places.Loc x = ⊤
NoInit p x = x.init ≡ None

abbrev NoInv : Place → Parts → Type 0
NoInv places.Loc x = ⊤
NoInv places.Init x = ⊤
NoInv p x = x.inv ≡ None

abbrev NoAlso : Place → Parts → Type 0
NoAlso places.Loc x = ⊤
NoAlso places.Init x = ⊤
NoAlso places.Inv x = ⊤
NoAlso places.Flow x = ⊤
NoAlso p x = x.also ≡ None

-- of statements that lead from this place to the end: what stands before the place alone is not among them
abbrev pub Clear : Place → Parts → Type 0
Clear p x = NoVars p x × NoObs p x × NoInit p x × NoInv p x × NoAlso p x

at : (p q : Place) (x : Parts) → Some p ≡ Some q → Clear q x → Clear p x
at p q x e h = subst (λ z. Clear z x) (sym (some_is p q e)) h

clear_next : (p q : Place) (n : ℕ) (s : Statement) (x : Parts) → next p (first_word s) ≡ Some q → Clear q x → Clear p (put n s x)
clear_next places.Start q n (Version v) x e h = at places.Lha q x e h
clear_next places.Lha q n (Automaton name) x e h = (refl, refl, refl, refl, refl)
clear_next places.End q n (Automaton name) x e h = (refl, refl, refl, refl, refl)
clear_next places.Automaton q n (Vars names) x e h = let c = at places.Var q x e h in (tt, tt, c.2, c.3, c.4)
clear_next places.Var q n (Obs bounds) x e h = let c = at places.Obs q x e h in (c.0, tt, c.2, c.3, c.4)
clear_next places.Var q n (Loc name u) x e h = let c = at places.Loc q x e h in (c.0, tt, refl, refl, refl)
clear_next places.Obs q n (Loc name u) x e h = let c = at places.Loc q x e h in (c.0, c.1, refl, refl, refl)
clear_next places.Loc q n (Init rows) x e h = let c = at places.Init q x e h in (c.0, c.1, tt, tt, tt)
clear_next places.Loc q n (Inv rows) x e h = let c = at places.Inv q x e h in (c.0, c.1, tt, tt, tt)
clear_next places.Loc q n (Flow boxes) x e h = let c = at places.Flow q x e h in (c.0, c.1, tt, tt, tt)
clear_next places.Init q n (Inv rows) x e h = let c = at places.Inv q x e h in (c.0, c.1, c.2, tt, tt)
clear_next places.Init q n (Flow boxes) x e h = let c = at places.Flow q x e h in (c.0, c.1, c.2, tt, tt)
clear_next places.Inv q n (Flow boxes) x e h = let c = at places.Flow q x e h in (c.0, c.1, c.2, c.3, tt)
clear_next places.Flow q n (Also rows) x e h = let c = at places.Also q x e h in (c.0, c.1, c.2, c.3, tt)
clear_next places.Flow q n (Loc name u) x e h = let c = at places.Loc q x e h in (c.0, c.1, refl, refl, tt)
clear_next places.Flow q n (Trans a b l g i) x e h = let c = at places.Trans q x e h in (c.0, c.1, c.2, c.3, tt)
clear_next places.Flow q n End x e h = let c = at places.End q x e h in (c.0, c.1, c.2, c.3, tt)
clear_next places.Also q n (Loc name u) x e h = let c = at places.Loc q x e h in (c.0, c.1, refl, refl, refl)
clear_next places.Also q n (Trans a b l g i) x e h = let c = at places.Trans q x e h in (c.0, c.1, c.2, c.3, c.4)
clear_next places.Also q n End x e h = let c = at places.End q x e h in (c.0, c.1, c.2, c.3, c.4)
clear_next places.Trans q n (Trans a b l g i) x e h = let c = at places.Trans q x e h in (c.0, c.1, c.2, c.3, c.4)
clear_next places.Trans q n End x e h = let c = at places.End q x e h in (c.0, c.1, c.2, c.3, c.4)
clear_next p q n s x e h = none_some q e

pub clear_at : (p : Place) (ss : List Numbered) → Leads p ss places.End → Clear p (parts_of ss)
clear_at p [] e = subst (λ z. Clear z (trees_alone [])) (sym e) (refl, refl, refl, refl, refl)
clear_at p (s ∷ ss) (q, d, k) = clear_next p q s.line s.says (parts_of ss) d (clear_at q ss k)
