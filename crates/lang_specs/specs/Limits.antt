-- What a text may have too many of.
use Rattle.std.specs.Prelude.{ℕ, Bool, true, false, IsTrue, ◌&&◌, nat_le, List, length, Result, Ok, Err}
use Rattle.std.specs.List.{sum_by, list_all}
use Rattle.poly_specs.specs.Fractions.{Fraction}
use Rattle.number_specs.specs.Literals.{read_literal}
use Rattle.number_specs.specs.declared.NumFault.{NumFault}
use Rattle.number_specs.specs.declared.NumFault.TheVariants.{Form, Range}
use Rattle.lang_specs.specs.declared.Which.{Which}
use Rattle.lang_specs.specs.declared.Which.TheVariants.{Automata, Variables, Locations, Transitions, Rows, Terms, NameBytes, Digits}
use Rattle.lang_specs.specs.declared.Sign.{Sign}
use Rattle.lang_specs.specs.declared.Sign.TheVariants.{Equal}
use Rattle.lang_specs.specs.declared.Kind.{Kind}
use Rattle.lang_specs.specs.declared.Kind.TheVariants as kinds
use Rattle.lang_specs.specs.Marks.{Lined}
use Rattle.lang_specs.specs.Trees.{RowTree, Tree, row_lists, expressions, bounds_of}

-- ---- counts

-- an equation counts as two rows
abbrev pub rows_in : Sign → ℕ
rows_in Equal = 2
rows_in s = 1

-- how many rows a list of constraints has
abbrev pub row_count : List RowTree → ℕ
row_count rs = sum_by (λ r. rows_in r.sign) rs

-- at most so many
abbrev pub has_at_most : {X : Type 0} → ℕ → List X → Bool
has_at_most n xs = nat_le (length xs) n

-- ---- one token

-- of a name, at most 32 bytes
abbrev pub has_few_bytes : Kind → List ℕ → Bool
has_few_bytes kinds.Name text = has_at_most 32 text
has_few_bytes k text = true

abbrev pub is_in_range : Result Fraction NumFault → Bool
is_in_range (Err Range) = false
is_in_range (Err Form) = true
is_in_range (Ok v) = true

-- of a literal, few enough digits to be read
abbrev pub has_few_digits : Kind → List ℕ → Bool
has_few_digits kinds.Number text = is_in_range (read_literal text)
has_few_digits k text = true

-- ---- limits

-- these tokens, which spell these trees, keep to the limit
abbrev pub keeps : Which → List Lined → List Tree → Bool
keeps Automata ls trees = has_at_most 16 trees
keeps Variables ls trees = list_all (λ t. has_at_most 6 t.vars && has_at_most 6 (bounds_of t.obs)) trees
keeps Locations ls trees = list_all (λ t. has_at_most 32 t.locs) trees
keeps Transitions ls trees = list_all (λ t. has_at_most 128 t.trans) trees
keeps Rows ls trees = list_all (λ t. list_all (λ rows. nat_le (row_count rows) 12) (row_lists t)) trees
keeps Terms ls trees = list_all (λ t. list_all (has_at_most 14) (expressions t)) trees
keeps NameBytes ls trees = list_all (λ l. has_few_bytes l.mark.kind l.mark.text) ls
keeps Digits ls trees = list_all (λ l. has_few_digits l.mark.kind l.mark.text) ls

-- the same, as a fact
abbrev pub Keeps : Which → List Lined → List Tree → Type 0
Keeps which ls trees = IsTrue (keeps which ls trees)

-- the order in which limits that are passed at one token are told
abbrev pub rank : Which → ℕ
rank Automata = 0
rank Variables = 1
rank Locations = 2
rank Transitions = 3
rank Rows = 4
rank Terms = 5
rank NameBytes = 6
rank Digits = 7
