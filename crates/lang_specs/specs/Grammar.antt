-- The statements of a text, in their order.
use Rattle.std.specs.Prelude.{◌≡◌, ℕ, Bool, false, IsTrue, if◌then◌else◌, List, [], ◌∷◌, ◌++◌, Option, Some, None, codes}
use Rattle.lang_specs.specs.declared.Kind.{Kind}
use Rattle.lang_specs.specs.declared.Kind.TheVariants as kinds
use Rattle.lang_specs.specs.Marks.{Mark, the, a_name, a_number, Lined, statement}
use Rattle.lang_specs.specs.Trees.{RowsTree, BoxesTree, BoundsTree, LocTree, TransTree, Tree}
use Rattle.lang_specs.specs.Expressions.{AreJoined, IsSome, IsName, AreRows, IsBox, IsBound, IsGuard, AreActs}

-- the statements of several things, one after the other
abbrev pub AreInOrder : {X : Type 0} → (List Lined → X → Type 0) → List Lined → List X → Type 0
AreInOrder Is ls [] = ls ≡ []
AreInOrder Is ls (x ∷ xs) = (front rest : List Lined) × (ls ≡ front ++ rest) × Is front x × AreInOrder Is rest xs

-- ---- a location

-- `init ROWS` and the like, where it stands
abbrev pub IsRowsLine : Bool → Kind → List Lined → Option RowsTree → Type 0
IsRowsLine strict k ls None = ls ≡ []
IsRowsLine strict k ls (Some r) = (ms : List Mark) × (ls ≡ statement r.line (the k ∷ ms)) × AreRows strict ms r.rows

-- `flow BOX , BOX ..`
abbrev pub IsFlow : List Lined → BoxesTree → Type 0
IsFlow ls f = (ms : List Mark) × (ls ≡ statement f.line (the kinds.Flow ∷ ms)) × AreJoined IsBox ms f.boxes

abbrev pub unsafe_if : Bool → List Mark
unsafe_if is_unsafe = if is_unsafe then the kinds.Unsafe ∷ [] else []

-- `loc`, maybe `init`, maybe `inv`, `flow`, maybe `also`; `<` and `>` never stand in `also`
abbrev pub IsLoc : Bool → List Lined → LocTree → Type 0
IsLoc strict ls l =
    (init inv flow also : List Lined) × (ls ≡ statement l.line (the kinds.Loc ∷ a_name l.name ∷ unsafe_if l.is_unsafe) ++ init ++ inv ++ flow ++ also)
    × IsRowsLine strict kinds.Init init l.init × IsRowsLine strict kinds.Inv inv l.inv × IsFlow flow l.flow
    × IsRowsLine false kinds.Also also l.also

-- ---- a transition

-- `trans NAME -> NAME as NAME`, maybe `when ROWS`, maybe `set ACT , ACT ..`
abbrev pub IsTrans : Bool → List Lined → TransTree → Type 0
IsTrans strict ls t =
    (guard acts : List Mark)
    × (ls ≡ statement t.line (the kinds.Trans ∷ a_name t.from ∷ the kinds.Arrow ∷ a_name t.to ∷ the kinds.As ∷ a_name t.label ∷ guard ++ acts))
    × IsGuard strict guard t.guard × AreActs acts t.acts

-- ---- an automaton

-- `var NAME , NAME ..`
abbrev pub IsVars : List Lined → Tree → Type 0
IsVars ls t = (ms : List Mark) × (ls ≡ statement t.var_line (the kinds.Var ∷ ms)) × AreJoined IsName ms t.vars

-- `obs NAME within LITERAL , ..`, where it stands: in the second version only
abbrev pub IsObs : Bool → List Lined → Option BoundsTree → Type 0
IsObs second ls None = ls ≡ []
IsObs second ls (Some o) = IsTrue second × ((ms : List Mark) × (ls ≡ statement o.line (the kinds.Obs ∷ ms)) × AreJoined IsBound ms o.bounds)

-- `automaton`, `var`, maybe `obs`, locations, of which there is at least one, transitions, `end`
abbrev pub IsTree : Bool → List Lined → Tree → Type 0
IsTree second ls t =
    (vars obs locs trans : List Lined) × (end_line : ℕ)
    × (ls ≡ statement t.line (the kinds.Automaton ∷ a_name t.name ∷ []) ++ vars ++ obs ++ locs ++ trans ++ statement end_line (the kinds.End ∷ []))
    × IsVars vars t × IsObs second obs t.obs × IsSome t.locs × AreInOrder (IsLoc second) locs t.locs
    × AreInOrder (IsTrans second) trans t.trans

-- ---- a text

-- how the number of the version is written, and in no other way
abbrev pub version : Bool → List ℕ
version second = if second then codes "2" else codes "1"

-- `lha 1` or `lha 2`, automata, of which there is at least one, and the end of the text
abbrev pub Spell : List Lined → List Tree → Type 0
Spell ls trees =
    (second : Bool) × (first_line last_line : ℕ) × (rest : List Lined)
    × (ls ≡ statement first_line (the kinds.Lha ∷ a_number (version second) ∷ []) ++ rest ++ record { line = last_line; mark = the kinds.EndText } ∷ [])
    × IsSome trees × AreInOrder (IsTree second) rest trees
