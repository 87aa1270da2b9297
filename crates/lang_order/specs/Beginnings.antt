-- How a text may go on behind whole lines.
use Rattle.std.specs.Prelude.{◌≡◌, ⊤, ℕ, ◌⊎◌, Bool, true, false, IsTrue, List, [], ◌∷◌, ◌++◌, map, Some}
use Rattle.lang_specs.specs.declared.Which.{Which}
use Rattle.lang_specs.specs.declared.Kind.{Kind}
use Rattle.lang_specs.specs.declared.Kind.TheVariants as kinds
use Rattle.lang_specs.specs.Marks.{Mark, the, Lined}
use Rattle.lang_specs.specs.FirstFault.{is_joint}
use Rattle.lang_order.specs.declared.Place.{Place}
use Rattle.lang_order.specs.declared.Place.TheVariants as places
use Rattle.lang_order.specs.Statements.{Statement, first_word, IsStatement}
use Rattle.lang_order.specs.Order.{next}
use Rattle.lang_order.specs.LineLimits.{line_keeps, Counts, count, are_few}

-- ---- one line

-- marks of one line
abbrev pub in_line : ℕ → List Mark → List Lined
in_line line ms = map (λ m. record { line = line; mark = m }) ms

abbrev pub is_line_end : Kind → Bool
is_line_end kinds.EndLine = true
is_line_end k = false

-- the end of the line stands at most behind all others
abbrev pub IsOneLine : List Mark → Type 0
IsOneLine [] = ⊤
IsOneLine (m ∷ []) = ⊤
IsOneLine (m ∷ n ∷ ms) = (is_line_end m.kind ≡ false) × IsOneLine (n ∷ ms)

-- the thing, and the end of the line
abbrev pub IsLine : {X : Type 0} → (List Mark → X → Type 0) → List Mark → X → Type 0
IsLine Is ms x = (inside : List Mark) × (ms ≡ inside ++ the kinds.EndLine ∷ []) × Is inside x

-- some continuation of these marks is such a line
abbrev pub IsViableLine : {X : Type 0} → (List Mark → X → Type 0) → List Mark → Type 0
IsViableLine {X} Is ms = (more : List Mark) × (x : X) × IsLine Is (ms ++ more) x

-- some continuation of these marks is such a line, and keeps to a limit
abbrev pub IsViableLineWithin : {X : Type 0} → (Is Keeps : List Mark → X → Type 0) → List Mark → Type 0
IsViableLineWithin Is Keeps ms = IsViableLine (λ inside x. Is inside x × Keeps inside x) ms

-- ---- a statement in its place

-- the tokens say a statement that may stand at this place
abbrev pub MayStand : Bool → Place → List Mark → Statement → Type 0
MayStand second p ms s = IsStatement second ms s × ((q : Place) × (next p (first_word s) ≡ Some q))

-- the statement keeps to the limit, and is not one too many
abbrev pub IsWithin : Which → Counts → List Mark → Statement → Type 0
IsWithin which c ms s = IsTrue (line_keeps which ms s) × IsTrue (are_few which (count c (first_word s)))

-- the end of the text, where it may stand
abbrev pub EndsText : Place → List Mark → Type 0
EndsText p ms = (p ≡ places.End) × (ms ≡ the kinds.EndText ∷ [])

-- Behind whole lines that lead to this place, of the second version or not, the text may go on with these marks of a line:
-- there are none, or they are the end of the text, or they begin a line that may stand here.
abbrev pub MayFollow : Bool → Place → List Mark → Type 0
MayFollow second p ms = (ms ≡ []) ⊎ (EndsText p ms ⊎ IsViableLine (MayStand second p) ms)

-- the same within the limit, with such counts before
abbrev pub MayFollowWithin : Which → Bool → Place → Counts → List Mark → Type 0
MayFollowWithin which second p c ms = (ms ≡ []) ⊎ (EndsText p ms ⊎ IsViableLineWithin (MayStand second p) (IsWithin which c) ms)

-- The marks end with a sign that joins a next item to those before, which keep to the limit without it.
pub record LineEndsWithJoint (which : Which) (second : Bool) (p : Place) (c : Counts) (ms : List Mark) : Type 0 where
  pub front : List Mark
  pub joint : Mark
  pub parts : ms ≡ front ++ joint ∷ []
  pub joins : IsTrue (is_joint joint.kind)
  pub before : MayFollowWithin which second p c front

-- these marks of a line have not passed the limit
abbrev pub LineHasKept : Which → Bool → Place → Counts → List Mark → Type 0
LineHasKept which second p c ms = MayFollowWithin which second p c ms ⊎ LineEndsWithJoint which second p c ms
