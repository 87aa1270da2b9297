-- The order of statements.
use Rattle.std.specs.Prelude.{◌≡◌, List, [], ◌∷◌, Option, Some, None}
use Rattle.lang_specs.specs.declared.Kind.{Kind}
use Rattle.lang_specs.specs.declared.Kind.TheVariants as kinds
use Rattle.lang_order.specs.declared.Place.{Place}
use Rattle.lang_order.specs.declared.Place.TheVariants as places
use Rattle.lang_order.specs.Statements.{Numbered, first_word}

-- the place behind a statement that begins with this word, where it may stand at this place
abbrev pub next : Place → Kind → Option Place
next places.Start kinds.Lha = Some places.Lha
next places.Lha kinds.Automaton = Some places.Automaton
next places.Automaton kinds.Var = Some places.Var
next places.Var kinds.Obs = Some places.Obs
next places.Var kinds.Loc = Some places.Loc
next places.Obs kinds.Loc = Some places.Loc
next places.Loc kinds.Init = Some places.Init
next places.Loc kinds.Inv = Some places.Inv
next places.Loc kinds.Flow = Some places.Flow
next places.Init kinds.Inv = Some places.Inv
next places.Init kinds.Flow = Some places.Flow
next places.Inv kinds.Flow = Some places.Flow
next places.Flow kinds.Also = Some places.Also
next places.Flow kinds.Loc = Some places.Loc
next places.Flow kinds.Trans = Some places.Trans
next places.Flow kinds.End = Some places.End
next places.Also kinds.Loc = Some places.Loc
next places.Also kinds.Trans = Some places.Trans
next places.Also kinds.End = Some places.End
next places.Trans kinds.Trans = Some places.Trans
next places.Trans kinds.End = Some places.End
next places.End kinds.Automaton = Some places.Automaton
next p k = None

-- The statements, in this order, lead from one place to the other. The text may end behind an `end`, and nowhere else.
abbrev pub Leads : Place → List Numbered → Place → Type 0
Leads p [] q = p ≡ q
Leads p (s ∷ ss) q = (r : Place) × (next p (first_word s.says) ≡ Some r) × Leads r ss q
