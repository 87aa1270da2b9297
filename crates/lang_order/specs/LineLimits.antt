-- What a line, and what the lines of a text, may have too many of.
use Rattle.std.specs.Prelude.{◌≡◌, ⊤, ℕ, ◌+◌, Bool, true, IsTrue, nat_le, List, [], ◌∷◌, ◌++◌}
use Rattle.std.specs.List.{list_all, flat_map}
use Rattle.lang_specs.specs.declared.Which.{Which}
use Rattle.lang_specs.specs.declared.Which.TheVariants.{Automata, Variables, Locations, Transitions, Rows, Terms, NameBytes, Digits}
use Rattle.lang_specs.specs.declared.Kind.{Kind}
use Rattle.lang_specs.specs.declared.Kind.TheVariants as kinds
use Rattle.lang_specs.specs.Marks.{Mark, Lined, statement}
use Rattle.lang_specs.specs.Trees.{Term, RowTree, Act, act_expressions}
use Rattle.lang_specs.specs.Limits.{row_count, has_at_most, has_few_bytes, has_few_digits}
use Rattle.lang_specs.specs.Grammar.{AreInOrder}
use Rattle.lang_order.specs.declared.Place.{Place}
use Rattle.lang_order.specs.declared.Place.TheVariants as places
use Rattle.lang_order.specs.Statements.{Statement, Vars, Obs, Init, Inv, Also, Trans, first_word, IsStatement, Numbered, is_second}
use Rattle.lang_order.specs.Order.{Leads}

-- ---- one line

-- at most six variables, and at most six bounds
abbrev pub has_few_variables : Statement → Bool
has_few_variables (Vars names) = has_at_most 6 names
has_few_variables (Obs bounds) = has_at_most 6 bounds
has_few_variables s = true

-- the list of rows of a statement, if it has one
abbrev pub rows_of_line : Statement → List (List RowTree)
rows_of_line (Init rows) = rows ∷ []
rows_of_line (Inv rows) = rows ∷ []
rows_of_line (Also rows) = rows ∷ []
rows_of_line (Trans from to label guard acts) = guard ∷ []
rows_of_line s = []

abbrev pub acts_of_line : Statement → List Act
acts_of_line (Trans from to label guard acts) = acts
acts_of_line s = []

-- the sides of a statement's rows, and the expressions of its acts
abbrev pub expressions_of_line : Statement → List (List Term)
expressions_of_line s =
    flat_map (λ rows. flat_map (λ r. r.left ∷ r.right ∷ []) rows) (rows_of_line s) ++ flat_map act_expressions (acts_of_line s)

-- these tokens of a line, which say this, keep to the limit
abbrev pub line_keeps : Which → List Mark → Statement → Bool
line_keeps Variables ms s = has_few_variables s
line_keeps Rows ms s = list_all (λ rows. nat_le (row_count rows) 12) (rows_of_line s)
line_keeps Terms ms s = list_all (has_at_most 14) (expressions_of_line s)
line_keeps NameBytes ms s = list_all (λ m. has_few_bytes m.kind m.text) ms
line_keeps Digits ms s = list_all (λ m. has_few_digits m.kind m.text) ms
line_keeps which ms s = true

-- ---- many lines

-- how many automata have begun, and how many locations and transitions of the last one
pub record Counts : Type 0 where
  pub automata : ℕ
  pub locs : ℕ
  pub trans : ℕ

abbrev pub none_yet : Counts
none_yet = record { automata = 0; locs = 0; trans = 0 }

-- with a statement that begins with this word
abbrev pub count : Counts → Kind → Counts
count c kinds.Automaton = record { automata = c.automata + 1; locs = 0; trans = 0 }
count c kinds.Loc = record c { locs = c.locs + 1 }
count c kinds.Trans = record c { trans = c.trans + 1 }
count c k = c

-- with all these statements
abbrev pub counts_from : Counts → List Numbered → Counts
counts_from c [] = c
counts_from c (s ∷ ss) = counts_from (count c (first_word s.says)) ss

-- the counts keep to the limit
abbrev pub are_few : Which → Counts → Bool
are_few Automata c = nat_le c.automata 16
are_few Locations c = nat_le c.locs 32
are_few Transitions c = nat_le c.trans 128
are_few which c = true

-- the counts keep to the limit, from line to line
abbrev pub StayFew : Which → Counts → List Numbered → Type 0
StayFew which c [] = ⊤
StayFew which c (s ∷ ss) = IsTrue (are_few which (count c (first_word s.says))) × StayFew which (count c (first_word s.says)) ss

-- one line of tokens says this, and keeps to the limit
abbrev pub IsLineWithin : Which → Bool → List Lined → Numbered → Type 0
IsLineWithin which second ls s =
    (ms : List Mark) × (ls ≡ statement s.line ms) × IsStatement second ms s.says × IsTrue (line_keeps which ms s.says)

-- whole lines that stand in order at the front of a text and keep to the limit, and the place behind them
pub record AreWholeLinesWithin (which : Which) (ls : List Lined) (ss : List Numbered) (p : Place) : Type 0 where
  pub say : AreInOrder (IsLineWithin which (is_second ss)) ls ss
  pub order : Leads places.Start ss p
  pub few : StayFew which none_yet ss
