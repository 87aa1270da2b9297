-- How what stands inside a statement is spelled: names, numbers, expressions, constraints, boxes, bounds and acts.
use Rattle.std.specs.Prelude.{◌≡◌, ⊤, ℕ, ◌⊎◌, Bool, IsTrue, if◌then◌else◌, pos, List, [], ◌∷◌, ◌++◌, Option, Some, None, Ok, Err}
use Rattle.poly_specs.specs.Fractions.{Fraction, opposite}
use Rattle.number_specs.specs.Literals.{read_literal}
use Rattle.number_specs.specs.declared.NumFault.TheVariants.{Range}
use Rattle.lang_specs.specs.declared.Sign.{Sign}
use Rattle.lang_specs.specs.declared.Sign.TheVariants as signs
use Rattle.lang_specs.specs.declared.Kind.TheVariants as kinds
use Rattle.lang_specs.specs.Marks.{Mark, the, a_name, a_number}
use Rattle.lang_specs.specs.Trees.{Term, RowTree, BoxTree, BoundTree, Act, Set, Within, Free}

-- ---- lists

-- things with commas between; at least one
abbrev pub AreJoined : {X : Type 0} → (List Mark → X → Type 0) → List Mark → List X → Type 0
AreJoined Is ms [] = ⊥
AreJoined Is ms (x ∷ []) = Is ms x
AreJoined Is ms (x ∷ y ∷ xs) = (front rest : List Mark) × (ms ≡ front ++ the kinds.Comma ∷ rest) × Is front x × AreJoined Is rest (y ∷ xs)

-- there is at least one
abbrev pub IsSome : {X : Type 0} → List X → Type 0
IsSome [] = ⊥
IsSome (x ∷ xs) = ⊤

-- ---- names and numbers

abbrev pub IsName : List Mark → List ℕ → Type 0
IsName ms name = ms ≡ a_name name ∷ []

-- the value of a literal; one of too many digits passes a limit, and may stand for any value here
abbrev pub IsValue : List ℕ → Fraction → Type 0
IsValue text v = (read_literal text ≡ Ok v) ⊎ (read_literal text ≡ Err Range)

abbrev pub IsLiteral : List Mark → Fraction → Type 0
IsLiteral ms v = (text : List ℕ) × (ms ≡ a_number text ∷ []) × IsValue text v

-- a `-`, or nothing
abbrev pub minus_if : Bool → List Mark
minus_if neg = if neg then the kinds.Minus ∷ [] else []

-- the number, or its opposite
abbrev pub signed : Bool → Fraction → Fraction
signed neg v = if neg then opposite v else v

-- a literal with an optional `-` before it
abbrev pub IsNum : List Mark → Fraction → Type 0
IsNum ms v = (neg : Bool) × (size : Fraction) × (front : List Mark) × (ms ≡ minus_if neg ++ front) × IsLiteral front size × (v ≡ signed neg size)

-- ---- expressions

abbrev pub one : Fraction
one = record { num = pos 1; den = pos 1 }

-- a literal, a literal `*` a name, or a name, which has the value 1
abbrev pub IsFactor : List Mark → Fraction → Option (List ℕ) → Type 0
IsFactor ms v None = IsLiteral ms v
IsFactor ms v (Some name) =
    ((front : List Mark) × (ms ≡ front ++ the kinds.Times ∷ a_name name ∷ []) × IsLiteral front v) ⊎ ((ms ≡ a_name name ∷ []) × (v ≡ one))

abbrev pub minus_or_plus : Bool → Mark
minus_or_plus neg = if neg then the kinds.Minus else the kinds.Plus

-- terms, each behind `+` or `-`
abbrev pub AreMoreTerms : List Mark → List Term → Type 0
AreMoreTerms ms [] = ms ≡ []
AreMoreTerms ms (t ∷ ts) =
    (front rest : List Mark) × (ms ≡ minus_or_plus t.neg ∷ front ++ rest) × IsFactor front t.value t.var × AreMoreTerms rest ts

-- an optional `-` and a term, then terms behind `+` or `-`
abbrev pub IsExpr : List Mark → List Term → Type 0
IsExpr ms [] = ⊥
IsExpr ms (t ∷ ts) = (front rest : List Mark) × (ms ≡ minus_if t.neg ++ front ++ rest) × IsFactor front t.value t.var × AreMoreTerms rest ts

-- ---- constraints

abbrev pub sign_mark : Sign → Mark
sign_mark signs.AtMost = the kinds.AtMost
sign_mark signs.AtLeast = the kinds.AtLeast
sign_mark signs.Equal = the kinds.Equal
sign_mark signs.Less = the kinds.Less
sign_mark signs.Greater = the kinds.Greater

-- whether a sign may stand here, where `<` and `>` only may if strict
abbrev pub IsAllowed : Bool → Sign → Type 0
IsAllowed strict signs.AtMost = ⊤
IsAllowed strict signs.AtLeast = ⊤
IsAllowed strict signs.Equal = ⊤
IsAllowed strict signs.Less = IsTrue strict
IsAllowed strict signs.Greater = IsTrue strict

-- two expressions and a sign between
abbrev pub IsRow : Bool → List Mark → RowTree → Type 0
IsRow strict ms r =
    (front rest : List Mark) × (ms ≡ front ++ sign_mark r.sign ∷ rest) × IsExpr front r.left × IsAllowed strict r.sign × IsExpr rest r.right

-- `true`, which is the empty list, or constraints with commas between
abbrev pub AreRows : Bool → List Mark → List RowTree → Type 0
AreRows strict ms [] = ms ≡ the kinds.True ∷ []
AreRows strict ms (r ∷ rs) = AreJoined (IsRow strict) ms (r ∷ rs)

-- ---- boxes, bounds and acts

-- `[ A , B ]`
abbrev pub IsBetween : {X : Type 0} → (List Mark → X → Type 0) → List Mark → X → X → Type 0
IsBetween Is ms lo hi =
    (front rest : List Mark) × (ms ≡ the kinds.Open ∷ front ++ the kinds.Comma ∷ rest ++ the kinds.Close ∷ []) × Is front lo × Is rest hi

-- `NAME in [ NUM , NUM ]`
abbrev pub IsBox : List Mark → BoxTree → Type 0
IsBox ms b = (rest : List Mark) × (ms ≡ a_name b.var ∷ the kinds.In ∷ rest) × IsBetween IsNum rest b.lo b.hi

-- `NAME within LITERAL`
abbrev pub IsBound : List Mark → BoundTree → Type 0
IsBound ms b = (rest : List Mark) × (ms ≡ a_name b.var ∷ the kinds.Within ∷ rest) × IsLiteral rest b.within

-- `NAME = EXPR`, `NAME in [ EXPR , EXPR ]` or `free NAME`
abbrev pub IsAct : List Mark → Act → Type 0
IsAct ms (Set var value) = (rest : List Mark) × (ms ≡ a_name var ∷ the kinds.Equal ∷ rest) × IsExpr rest value
IsAct ms (Within var lo hi) = (rest : List Mark) × (ms ≡ a_name var ∷ the kinds.In ∷ rest) × IsBetween IsExpr rest lo hi
IsAct ms (Free var) = ms ≡ the kinds.Free ∷ a_name var ∷ []

-- nothing, which is the empty guard, or `when ROWS`
abbrev pub IsGuard : Bool → List Mark → List RowTree → Type 0
IsGuard strict ms rs = ((ms ≡ []) × (rs ≡ [])) ⊎ ((rest : List Mark) × (ms ≡ the kinds.When ∷ rest) × AreRows strict rest rs)

-- nothing, or `set` and acts with commas between
abbrev pub AreActs : List Mark → List Act → Type 0
AreActs ms [] = ms ≡ []
AreActs ms (a ∷ acts) = (rest : List Mark) × (ms ≡ the kinds.Set ∷ rest) × AreJoined IsAct rest (a ∷ acts)
