-- A small model, and tokens as they are shown in examples.
use Rattle.std.specs.Prelude.{ℕ, true, false, replicate, pos, negsuc, ℤ, List, [], ◌∷◌, ◌++◌, map, Some, None, codes}
use Rattle.std.specs.List.{flat_map}
use Rattle.poly_specs.specs.Fractions.{Fraction}
use Rattle.lang_specs.specs.declared.Kind.{Kind}
use Rattle.lang_specs.specs.declared.Sign.TheVariants.{AtMost, AtLeast, Equal, Greater}
use Rattle.lang_specs.specs.Tokens.{line_tokens}
use Rattle.lang_specs.specs.Lines.{text_tokens}
use Rattle.lang_specs.specs.Trees.{Term, RowTree, BoxTree, LocTree, Set, Within, Free, TransTree, Tree}
use Rattle.lang_specs.specs.Expressions.{one}

-- ---- tokens

-- a token of a line: its column and what it is
pub record Seen : Type 0 where
  pub column : ℕ
  pub kind : Kind

abbrev pub at : ℕ → Kind → Seen
at column kind = record { column = column; kind = kind }

-- the tokens of a line, as they are seen
abbrev pub seen : List ℕ → List Seen
seen bytes = map (λ t. at t.column t.kind) (line_tokens 1 bytes)

-- a token of a text: its line, its column and what it is
pub record SeenIn : Type 0 where
  pub line : ℕ
  pub column : ℕ
  pub kind : Kind

abbrev pub in_line : ℕ → ℕ → Kind → SeenIn
in_line line column kind = record { line = line; column = column; kind = kind }

-- the tokens of a text, as they are seen
abbrev pub seen_in : List ℕ → List SeenIn
seen_in text = map (λ t. in_line t.line t.column t.kind) (text_tokens text)

-- ---- small trees

abbrev pub x : List ℕ
x = codes "x"

abbrev pub y : List ℕ
y = codes "y"

abbrev pub fraction : ℤ → ℕ → Fraction
fraction n d = record { num = n; den = pos d }

abbrev pub whole : ℕ → Fraction
whole n = fraction (pos n) 1

abbrev pub number : Fraction → Term
number v = record { neg = false; value = v; var = None }

abbrev pub times : Fraction → List ℕ → Term
times v name = record { neg = false; value = v; var = Some name }

abbrev pub variable : List ℕ → Term
variable name = times one name

abbrev pub less_term : Term → Term
less_term t = record t { neg = true }

abbrev pub box : List ℕ → Fraction → Fraction → BoxTree
box var lo hi = record { var = var; lo = lo; hi = hi }

-- ---- a model of two locations

-- lines, each with its line feed
abbrev pub text_of : List (List ℕ) → List ℕ
text_of lines = flat_map (λ l. l ++ codes "\n") lines

abbrev pub tank_text : List ℕ
tank_text = text_of (
    codes "lha 2 # a tank"
    ∷ codes "automaton Tank"
    ∷ codes ""
    ∷ codes "var x,y"
    ∷ codes "obs x within 0.50"
    ∷ codes "loc low"
    ∷ codes "  init x=0,y >= - 2*x+1/2"
    ∷ codes "  flow x in [-1,2.5],y in[0 , 0]"
    ∷ codes "loc high unsafe"
    ∷ codes "\tinv true"
    ∷ codes "  flow x in [0,1], y in [1,1]"
    ∷ codes "  also x<=1*y"
    ∷ codes "trans low->high as fill when x>8 set y=x-1,free x # far"
    ∷ codes "end"
    ∷ [])

-- `x = 0, y >= -2*x + 1/2`
abbrev pub starts : List RowTree
starts =
    record { left = variable x ∷ []; sign = Equal; right = number (whole 0) ∷ [] }
    ∷ record { left = variable y ∷ []; sign = AtLeast; right = less_term (times (whole 2) x) ∷ number (fraction (pos 1) 2) ∷ [] } ∷ []

abbrev pub low : LocTree
low = record {
  line = 6;
  name = codes "low";
  is_unsafe = false;
  init = Some (record { line = 7; rows = starts });
  inv = None;
  flow = record { line = 8; boxes = box x (fraction (negsuc 0) 1) (fraction (pos 5) 2) ∷ box y (whole 0) (whole 0) ∷ [] };
  also = None;
}

abbrev pub high : LocTree
high = record {
  line = 9;
  name = codes "high";
  is_unsafe = true;
  init = None;
  inv = Some (record { line = 10; rows = [] });
  flow = record { line = 11; boxes = box x (whole 0) (whole 1) ∷ box y (whole 1) (whole 1) ∷ [] };
  also = Some (record { line = 12; rows = record { left = variable x ∷ []; sign = AtMost; right = variable y ∷ [] } ∷ [] });
}

abbrev pub fill : TransTree
fill = record {
  line = 13;
  from = codes "low";
  to = codes "high";
  label = codes "fill";
  guard = record { left = variable x ∷ []; sign = Greater; right = number (whole 8) ∷ [] } ∷ [];
  acts = Set y (variable x ∷ less_term (number (whole 1)) ∷ []) ∷ Free x ∷ [];
}

abbrev pub tank : Tree
tank = record {
  line = 2;
  name = codes "Tank";
  vars = x ∷ y ∷ [];
  var_line = 4;
  obs = Some (record { line = 5; bounds = record { var = x; within = fraction (pos 1) 2 } ∷ [] });
  locs = low ∷ high ∷ [];
  trans = fill ∷ [];
}

-- the same model as it is printed
abbrev pub tank_printed : List ℕ
tank_printed = text_of (
    codes "lha 2"
    ∷ codes "automaton Tank"
    ∷ codes "var x, y"
    ∷ codes "obs x within 1/2"
    ∷ codes "loc low"
    ∷ codes "init x = 0, y >= -2*x + 1/2"
    ∷ codes "flow x in [-1, 5/2], y in [0, 0]"
    ∷ codes "loc high unsafe"
    ∷ codes "inv true"
    ∷ codes "flow x in [0, 1], y in [1, 1]"
    ∷ codes "also x <= y"
    ∷ codes "trans low -> high as fill when x > 8 set y = x - 1, free x"
    ∷ codes "end"
    ∷ [])

-- ---- a model of the first version

-- `x >= 8, x <= 3/2`
abbrev pub two_rows : List RowTree
two_rows =
    record { left = variable x ∷ []; sign = AtLeast; right = number (whole 8) ∷ [] }
    ∷ record { left = variable x ∷ []; sign = AtMost; right = number (fraction (pos 3) 2) ∷ [] } ∷ []

abbrev pub narrow : Tree
narrow = record {
  line = 1;
  name = codes "N";
  vars = x ∷ [];
  var_line = 1;
  obs = None;
  locs = record {
    line = 1;
    name = codes "only";
    is_unsafe = false;
    init = Some (record { line = 1; rows = [] });
    inv = Some (record { line = 1; rows = two_rows });
    flow = record { line = 1; boxes = box x (fraction (negsuc 2) 2) (whole 0) ∷ [] };
    also = None;
  } ∷ [];
  trans = record {
    line = 1;
    from = codes "only";
    to = codes "only";
    label = codes "again";
    guard = [];
    acts = Within x (number (whole 0) ∷ []) (less_term (variable x) ∷ []) ∷ [];
  } ∷ record {
    line = 1;
    from = codes "only";
    to = codes "only";
    label = codes "on";
    guard = [];
    acts = [];
  } ∷ [];
}

abbrev pub narrow_printed : List ℕ
narrow_printed = text_of (
    codes "lha 1"
    ∷ codes "automaton N"
    ∷ codes "var x"
    ∷ codes "loc only"
    ∷ codes "init true"
    ∷ codes "inv x >= 8, x <= 3/2"
    ∷ codes "flow x in [-3/2, 0]"
    ∷ codes "trans only -> only as again set x in [0, -x]"
    ∷ codes "trans only -> only as on"
    ∷ codes "end"
    ∷ [])

-- ---- texts that are none

-- a name of 33 bytes
abbrev pub long_name : List ℕ
long_name = replicate 33 65

abbrev pub long_name_text : List ℕ
long_name_text = codes "lha 1\nautomaton " ++ long_name

-- seven variables, where six are allowed
abbrev pub seven_variables : List ℕ
seven_variables = codes "lha 1\nautomaton A\nvar a,b,c,d,e,f,g"
