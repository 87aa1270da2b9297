-- The text of a small model spells its tree.
use Rattle.std.proofs.Common.{◌≡◌, inl, inr, ℕ, Bool, true, false, List, [], ◌∷◌, ◌++◌, codes, refl, sym, subst, pos}
use Rattle.poly_specs.specs.Elimination.{gcd}
use Rattle.poly_specs.specs.Fractions.{Fraction}
use Rattle.lang_specs.specs.declared.Kind.TheVariants as kinds
use Rattle.lang_specs.specs.declared.Which.{Which}
use Rattle.lang_specs.specs.declared.Which.TheVariants as which
use Rattle.lang_specs.specs.Tokens.{cut}
use Rattle.lang_specs.specs.Lines.{lines_from, text_tokens}
use Rattle.lang_specs.specs.Marks.{Mark, the, a_name, a_number, Lined, lined, statement}
use Rattle.lang_specs.specs.declared.Sign.TheVariants.{AtMost}
use Rattle.lang_specs.specs.Trees.{Set}
use Rattle.lang_specs.specs.Expressions.{IsValue, IsNum, IsExpr, IsRow, AreRows, IsBox, IsAct, minus_if, signed, AreActs}
use Rattle.lang_specs.specs.Grammar.{IsLoc, IsTrans, IsTree, Spell}
use Rattle.lang_specs.specs.Limits.{Keeps}
use Rattle.lang_specs.specs.FirstFault.{IsSpelling}
use Rattle.lang_specs.specs.Examples.{x, y, fraction, whole, number, times, variable, less_term, box, starts, low, high, fill, tank, tank_text}

-- ---- numbers and single terms

num_is : (neg : Bool) (text : List ℕ) (v : Fraction) → IsValue text v → IsNum (minus_if neg ++ a_number text ∷ []) (signed neg v)
num_is neg text v h = (neg, v, a_number text ∷ [], refl, (text, refl, h), refl)

number_is : (text : List ℕ) (v : Fraction) → IsValue text v → IsExpr (a_number text ∷ []) (number v ∷ [])
number_is text v h = (a_number text ∷ [], [], refl, (text, refl, h), refl)

variable_is : (v : List ℕ) → IsExpr (a_name v ∷ []) (variable v ∷ [])
variable_is v = (a_name v ∷ [], [], refl, inr (refl, refl), refl)

box_is : (var : List ℕ) (ms ns : List Mark) (lo hi : Fraction) → IsNum ms lo → IsNum ns hi →
    IsBox (a_name var ∷ the kinds.In ∷ the kinds.Open ∷ ms ++ the kinds.Comma ∷ ns ++ the kinds.Close ∷ []) (box var lo hi)
box_is var ms ns lo hi h k = (the kinds.Open ∷ ms ++ the kinds.Comma ∷ ns ++ the kinds.Close ∷ [], refl, (ms, ns, refl, h, k))

-- ---- the location below

abbrev start_tokens : List Mark
start_tokens =
    a_name x ∷ the kinds.Equal ∷ a_number (codes "0") ∷ the kinds.Comma ∷ a_name y ∷ the kinds.AtLeast ∷ the kinds.Minus ∷ a_number (codes "2")
    ∷ the kinds.Times ∷ a_name x ∷ the kinds.Plus ∷ a_number (codes "1/2") ∷ []

right_is : IsExpr (the kinds.Minus ∷ a_number (codes "2") ∷ the kinds.Times ∷ a_name x ∷ the kinds.Plus ∷ a_number (codes "1/2") ∷ [])
    (less_term (times (whole 2) x) ∷ number (fraction (pos 1) 2) ∷ [])
unfolding gcd
right_is = (
  a_number (codes "2") ∷ the kinds.Times ∷ a_name x ∷ [],
  the kinds.Plus ∷ a_number (codes "1/2") ∷ [],
  refl,
  inl (a_number (codes "2") ∷ [], refl, (codes "2", refl, inl refl)),
  (a_number (codes "1/2") ∷ [], [], refl, (codes "1/2", refl, inl refl), refl),
)

starts_are : AreRows true start_tokens starts
unfolding gcd
starts_are = (
  a_name x ∷ the kinds.Equal ∷ a_number (codes "0") ∷ [],
  a_name y ∷ the kinds.AtLeast ∷ the kinds.Minus ∷ a_number (codes "2") ∷ the kinds.Times ∷ a_name x ∷ the kinds.Plus ∷ a_number (codes "1/2") ∷ [],
  refl,
  (a_name x ∷ [], a_number (codes "0") ∷ [], refl, variable_is x, tt, number_is (codes "0") (whole 0) (inl refl)),
  (
    a_name y ∷ [],
    the kinds.Minus ∷ a_number (codes "2") ∷ the kinds.Times ∷ a_name x ∷ the kinds.Plus ∷ a_number (codes "1/2") ∷ [],
    refl,
    variable_is y,
    tt,
    right_is,
  ),
)

abbrev pub box_tokens : List ℕ → Bool → List ℕ → List ℕ → List Mark
box_tokens var neg lo hi =
    a_name var ∷ the kinds.In ∷ the kinds.Open ∷ minus_if neg ++ a_number lo ∷ the kinds.Comma ∷ a_number hi ∷ the kinds.Close ∷ []

pub slope_is : (var : List ℕ) (neg : Bool) (lo hi : List ℕ) (v w : Fraction) → IsValue lo v → IsValue hi w → IsBox (box_tokens var neg lo hi) (box var (signed neg v) w)
slope_is var true lo hi v w h k = box_is var (the kinds.Minus ∷ a_number lo ∷ []) (a_number hi ∷ []) (signed true v) w (num_is true lo v h) (num_is false hi w k)
slope_is var false lo hi v w h k = box_is var (a_number lo ∷ []) (a_number hi ∷ []) v w (num_is false lo v h) (num_is false hi w k)

abbrev low_flow_tokens : List Mark
low_flow_tokens = box_tokens x true (codes "1") (codes "2.5") ++ the kinds.Comma ∷ box_tokens y false (codes "0") (codes "0")

abbrev low_tokens : List Lined
low_tokens =
    statement 6 (the kinds.Loc ∷ a_name (codes "low") ∷ []) ++ statement 7 (the kinds.Init ∷ start_tokens)
    ++ statement 8 (the kinds.Flow ∷ low_flow_tokens)

low_is : IsLoc true low_tokens low
unfolding gcd
low_is = (
  statement 7 (the kinds.Init ∷ start_tokens),
  [],
  statement 8 (the kinds.Flow ∷ low_flow_tokens),
  [],
  refl,
  (start_tokens, refl, starts_are),
  refl,
  (
    low_flow_tokens,
    refl,
    (
      box_tokens x true (codes "1") (codes "2.5"),
      box_tokens y false (codes "0") (codes "0"),
      refl,
      slope_is x true (codes "1") (codes "2.5") (whole 1) (fraction (pos 5) 2) (inl refl) (inl refl),
      slope_is y false (codes "0") (codes "0") (whole 0) (whole 0) (inl refl) (inl refl),
    ),
  ),
  refl,
)

-- ---- the location above

abbrev high_flow_tokens : List Mark
high_flow_tokens = box_tokens x false (codes "0") (codes "1") ++ the kinds.Comma ∷ box_tokens y false (codes "1") (codes "1")

abbrev also_tokens : List Mark
also_tokens = a_name x ∷ the kinds.AtMost ∷ a_number (codes "1") ∷ the kinds.Times ∷ a_name y ∷ []

also_is : IsRow false also_tokens (record { left = variable x ∷ []; sign = AtMost; right = variable y ∷ [] })
unfolding gcd
also_is = (
  a_name x ∷ [],
  a_number (codes "1") ∷ the kinds.Times ∷ a_name y ∷ [],
  refl,
  variable_is x,
  tt,
  (a_number (codes "1") ∷ the kinds.Times ∷ a_name y ∷ [], [], refl, inl (a_number (codes "1") ∷ [], refl, (codes "1", refl, inl refl)), refl),
)

abbrev high_tokens : List Lined
high_tokens =
    statement 9 (the kinds.Loc ∷ a_name (codes "high") ∷ the kinds.Unsafe ∷ []) ++ statement 10 (the kinds.Inv ∷ the kinds.True ∷ [])
    ++ statement 11 (the kinds.Flow ∷ high_flow_tokens) ++ statement 12 (the kinds.Also ∷ also_tokens)

high_is : IsLoc true high_tokens high
unfolding gcd
high_is = (
  [],
  statement 10 (the kinds.Inv ∷ the kinds.True ∷ []),
  statement 11 (the kinds.Flow ∷ high_flow_tokens),
  statement 12 (the kinds.Also ∷ also_tokens),
  refl,
  refl,
  (the kinds.True ∷ [], refl, refl),
  (
    high_flow_tokens,
    refl,
    (
      box_tokens x false (codes "0") (codes "1"),
      box_tokens y false (codes "1") (codes "1"),
      refl,
      slope_is x false (codes "0") (codes "1") (whole 0) (whole 1) (inl refl) (inl refl),
      slope_is y false (codes "1") (codes "1") (whole 1) (whole 1) (inl refl) (inl refl),
    ),
  ),
  (also_tokens, refl, also_is),
)

-- ---- the transition

abbrev guard_tokens : List Mark
guard_tokens = a_name x ∷ the kinds.Greater ∷ a_number (codes "8") ∷ []

guard_is : AreRows true guard_tokens fill.guard
unfolding gcd
guard_is = (a_name x ∷ [], a_number (codes "8") ∷ [], refl, variable_is x, refl, number_is (codes "8") (whole 8) (inl refl))

abbrev set_tokens : List Mark
set_tokens = a_name y ∷ the kinds.Equal ∷ a_name x ∷ the kinds.Minus ∷ a_number (codes "1") ∷ []

abbrev free_tokens : List Mark
free_tokens = the kinds.Free ∷ a_name x ∷ []

set_is : IsAct set_tokens (Set y (variable x ∷ less_term (number (whole 1)) ∷ []))
unfolding gcd
set_is = (
  a_name x ∷ the kinds.Minus ∷ a_number (codes "1") ∷ [],
  refl,
  (
    a_name x ∷ [],
    the kinds.Minus ∷ a_number (codes "1") ∷ [],
    refl,
    inr (refl, refl),
    (a_number (codes "1") ∷ [], [], refl, (codes "1", refl, inl refl), refl),
  ),
)

abbrev acts_tokens : List Mark
acts_tokens = set_tokens ++ the kinds.Comma ∷ free_tokens

acts_are : AreActs (the kinds.Set ∷ acts_tokens) fill.acts
acts_are = (acts_tokens, refl, (set_tokens, free_tokens, refl, set_is, refl))

abbrev fill_tokens : List Lined
fill_tokens =
    statement 13 (
    the kinds.Trans ∷ a_name (codes "low") ∷ the kinds.Arrow ∷ a_name (codes "high") ∷ the kinds.As ∷ a_name (codes "fill")
    ∷ the kinds.When ∷ guard_tokens ++ the kinds.Set ∷ acts_tokens)

fill_is : IsTrans true fill_tokens fill
fill_is = (the kinds.When ∷ guard_tokens, the kinds.Set ∷ acts_tokens, refl, inr (guard_tokens, refl, guard_is), acts_are)

-- ---- the text

abbrev var_line : List Lined
var_line = statement 4 (the kinds.Var ∷ a_name x ∷ the kinds.Comma ∷ a_name y ∷ [])

abbrev bound_tokens : List Mark
bound_tokens = a_name x ∷ the kinds.Within ∷ a_number (codes "0.50") ∷ []

abbrev tank_tokens : List Lined
tank_tokens =
    statement 2 (the kinds.Automaton ∷ a_name (codes "Tank") ∷ []) ++ var_line ++ statement 5 (the kinds.Obs ∷ bound_tokens) ++ low_tokens
    ++ high_tokens ++ fill_tokens ++ statement 14 (the kinds.End ∷ [])

tank_is : IsTree true tank_tokens tank
unfolding gcd
tank_is = (
  var_line,
  statement 5 (the kinds.Obs ∷ bound_tokens),
  low_tokens ++ high_tokens,
  fill_tokens,
  14,
  refl,
  (a_name x ∷ the kinds.Comma ∷ a_name y ∷ [], refl, (a_name x ∷ [], a_name y ∷ [], refl, refl, refl)),
  (refl, (bound_tokens, refl, (a_number (codes "0.50") ∷ [], refl, (codes "0.50", refl, inl refl)))),
  tt,
  (low_tokens, high_tokens, refl, low_is, (high_tokens, [], refl, high_is, refl)),
  (fill_tokens, [], refl, fill_is, refl),
)

abbrev pub all_tokens : List Lined
all_tokens = statement 1 (the kinds.Lha ∷ a_number (codes "2") ∷ []) ++ tank_tokens ++ record { line = 15; mark = the kinds.EndText } ∷ []

tokens_are : lined (text_tokens tank_text) ≡ all_tokens
unfolding cut lines_from
tokens_are = refl

pub spelled : Spell all_tokens (tank ∷ [])
spelled = (true, 1, 15, tank_tokens, refl, tt, (tank_tokens, [], refl, tank_is, refl))

pub kept : (w : Which) → Keeps w all_tokens (tank ∷ [])
kept which.Automata = refl
kept which.Variables = refl
kept which.Locations = refl
kept which.Transitions = refl
kept which.Rows = refl
kept which.Terms = refl
kept which.NameBytes = refl
kept which.Digits = refl

pub tank_spelled : IsSpelling tank_text (tank ∷ [])
tank_spelled = record {
  spelled = subst (λ ls. Spell ls (tank ∷ [])) (sym tokens_are) spelled;
  kept = λ w. subst (λ ls. Keeps w ls (tank ∷ [])) (sym tokens_are) (kept w);
}
