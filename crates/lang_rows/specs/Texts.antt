-- Constraints as they are written.
use Rattle.std.specs.Prelude.{◌≡◌, ℕ, Bool, List, Some, None}
use Rattle.lang_specs.specs.declared.Sign.{Sign}
use Rattle.lang_specs.specs.Trees as trees
use Rattle.lang_specs.specs.Expressions.{IsValue, one}
use Rattle.lang_tokens.specs.Machines.{AllValues}

-- a literal, a literal times a variable, or a variable
pub data Factor : Type 0 where
  literal : List ℕ → Factor
  scaled : List ℕ → List ℕ → Factor
  plain : List ℕ → Factor

-- taken away where neg
pub record Term : Type 0 where
  pub neg : Bool
  pub factor : Factor

pub record Row : Type 0 where
  pub left : List Term
  pub sign : Sign
  pub right : List Term

-- ---- what they say

abbrev pub IsFactorValue : Factor → trees.Term → Type 0
IsFactorValue (literal l) y = IsValue l y.value × (y.var ≡ None)
IsFactorValue (scaled l v) y = IsValue l y.value × (y.var ≡ Some v)
IsFactorValue (plain v) y = (y.value ≡ one) × (y.var ≡ Some v)

abbrev pub IsTermValue : Term → trees.Term → Type 0
IsTermValue t y = (t.neg ≡ y.neg) × IsFactorValue t.factor y

abbrev pub IsRowValue : Row → trees.RowTree → Type 0
IsRowValue r y = AllValues IsTermValue r.left y.left × (r.sign ≡ y.sign) × AllValues IsTermValue r.right y.right
