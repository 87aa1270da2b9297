-- A text as a list of lines.
use Rattle.std.specs.Prelude.{◌≡◌, ℕ, List, [], ◌∷◌, ◌++◌}
use Rattle.lang_specs.specs.declared.Kind.TheVariants as kinds
use Rattle.lang_specs.specs.Marks.{the, Lined}
use Rattle.lang_specs.specs.Trees.{Tree}
use Rattle.lang_order.specs.declared.Place.{Place}
use Rattle.lang_order.specs.declared.Place.TheVariants as places
use Rattle.lang_order.specs.Statements.{Numbered, AreLines, is_second}
use Rattle.lang_order.specs.Order.{Leads}
use Rattle.lang_order.specs.Building.{trees_of}

-- whole lines that stand in order at the front of a text, and the place behind them
pub record AreWholeLines (ls : List Lined) (ss : List Numbered) (p : Place) : Type 0 where
  pub say : AreLines (is_second ss) ls ss
  pub order : Leads places.Start ss p

abbrev pub text_end : ℕ → List Lined
text_end line = record { line = line; mark = the kinds.EndText } ∷ []

-- whole lines in order, of which the last is an `end`, and the end of the text; what they say builds the trees
pub record SpellByLines (ls : List Lined) (trees : List Tree) : Type 0 where
  pub lines : List Lined
  pub says : List Numbered
  pub last : ℕ
  pub parts : ls ≡ lines ++ text_end last
  pub whole : AreWholeLines lines says places.End
  pub builds : trees_of says ≡ trees
