-- What is wrong with a text, told by the line in which it stands.
use Rattle.std.specs.Prelude.{◌≡◌, ⊤, ℕ, ◌≤◌, Bool, IsTrue, List, [], ◌∷◌, ◌++◌, map}
use Rattle.lang_specs.specs.declared.Which.{Which}
use Rattle.lang_specs.specs.Tokens.{Placed}
use Rattle.lang_specs.specs.Lines.{text_tokens}
use Rattle.lang_specs.specs.Marks.{Mark, mark, Lined, lined, statement}
use Rattle.lang_specs.specs.Limits.{rank}
use Rattle.lang_specs.specs.FirstFault.{Fault, SyntaxAt, LimitAt}
use Rattle.lang_specs.specs.Grammar.{AreInOrder}
use Rattle.lang_order.specs.declared.Place.{Place}
use Rattle.lang_order.specs.declared.Place.TheVariants as places
use Rattle.lang_order.specs.Statements.{IsStatement, Numbered, is_second}
use Rattle.lang_order.specs.Order.{Leads}
use Rattle.lang_order.specs.LineLimits.{line_keeps, Counts, none_yet, counts_from, StayFew}
use Rattle.lang_order.specs.Beginnings.{IsOneLine, MayFollow, LineHasKept}

-- ---- lines that were read

-- one line of tokens says this, and keeps to each limit
abbrev pub IsReadLine : Bool → List Lined → Numbered → Type 0
IsReadLine second ls s =
    (ms : List Mark) × (ls ≡ statement s.line ms) × IsStatement second ms s.says × ((which : Which) → IsTrue (line_keeps which ms s.says))

-- whole lines that stand in order at the front of a text and keep to each limit, and the place behind them
pub record AreReadLines (ls : List Lined) (ss : List Numbered) (p : Place) : Type 0 where
  pub say : AreInOrder (IsReadLine (is_second ss)) ls ss
  pub order : Leads places.Start ss p
  pub few : (which : Which) → StayFew which none_yet ss

-- ---- a line behind them

-- what tokens say
abbrev pub marks : List Placed → List Mark
marks ts = map mark ts

-- all stand in this line
abbrev pub StandIn : ℕ → List Placed → Type 0
StandIn line [] = ⊤
StandIn line (t ∷ ts) = (t.line ≡ line) × StandIn line ts

-- no token of these has passed a limit
abbrev pub LineHasKeptAll : Bool → Place → Counts → List Mark → Type 0
LineHasKeptAll second p c ms = (front rest : List Mark) (which : Which) → ms ≡ front ++ rest → LineHasKept which second p c front

-- These marks of a line make the fault what it is at the last of them, which is the mark of this token: the line cannot go on
-- so, or it can, and it passes a limit, of which none is passed with it that is told before.
abbrev pub IsFaultOfLine : Bool → Place → Counts → List Mark → Placed → Fault → Type 0
IsFaultOfLine second p c ms t (SyntaxAt line column) = (MayFollow second p ms → ⊥) × (line ≡ t.line) × (column ≡ t.column)
IsFaultOfLine second p c ms t (LimitAt line which) =
    MayFollow second p ms × (LineHasKept which second p c ms → ⊥)
    × ((other : Which) → (LineHasKept other second p c ms → ⊥) → rank which ≤ rank other) × (line ≡ t.line)

-- The fault stands in the line behind whole lines that were read: the tokens of that line before it can go on, and have
-- passed no limit.
pub record IsFaultByLines (text : List ℕ) (fault : Fault) : Type 0 where
  pub whole : List Placed
  pub says : List Numbered
  pub place : Place
  pub read : AreReadLines (lined whole) says place
  pub front : List Placed
  pub token : Placed
  pub rest : List Placed
  pub parts : text_tokens text ≡ whole ++ front ++ token ∷ rest
  pub line : StandIn token.line front
  pub one : IsOneLine (marks (front ++ token ∷ []))
  pub viable : MayFollow (is_second says) place (marks front)
  pub kept : LineHasKeptAll (is_second says) place (counts_from none_yet says) (marks front)
  pub wrong : IsFaultOfLine (is_second says) place (counts_from none_yet says) (marks (front ++ token ∷ [])) token fault

-- Whole lines of the text were read, and led to this place; behind them stand this token, and these in its line.
pub record IsReadTo (text : List ℕ) (says : List Numbered) (place : Place) (word : Placed) (line : List Placed) : Type 0 where
  pub whole : List Placed
  pub rest : List Placed
  pub parts : text_tokens text ≡ whole ++ word ∷ line ++ rest
  pub read : AreReadLines (lined whole) says place
  pub stand : StandIn word.line line
  pub one : IsOneLine (marks (word ∷ line))
