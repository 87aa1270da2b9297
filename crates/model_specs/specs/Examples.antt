-- A small model with its automaton, and trees with faults.
use Rattle.std.specs.Prelude.{ℕ, true, false, pos, negsuc, ℤ, ◌+◌, List, [], ◌∷◌, map, flat_map, length, Option, Some, None, codes}
use Rattle.poly_specs.specs.Fractions.{zero_fraction}
use Rattle.poly_specs.specs.Rows.{Row}
use Rattle.run_specs.specs.Automaton.{Automaton}
use Rattle.lang_specs.specs.declared.Sign.{Sign}
use Rattle.lang_specs.specs.declared.Sign.TheVariants.{AtMost, AtLeast, Equal}
use Rattle.lang_specs.specs.Trees.{Term, RowTree, RowsTree, BoxTree, LocTree, Act, TransTree, Tree}
use Rattle.model_specs.specs.Constraints.{comparison_rows}
use Rattle.model_specs.specs.Automata.{comparisons_of}
use Rattle.lang_specs.specs.Examples.{x, fraction, whole, number, variable, box}

-- ---- parts of trees and of automata

-- a constraint
abbrev pub compared : List Term → Sign → List Term → RowTree
compared left sign right = record { left = left; sign = sign; right = right }

-- `init`, `inv` or `also` on this line
abbrev pub standing : ℕ → List RowTree → Option RowsTree
standing line rows = Some (record { line = line; rows = rows })

-- a row that is not strict
abbrev pub row : List ℤ → ℤ → Row
row coef cst = record { coef = coef; cst = cst; strict = false }

abbrev pub minus_one : ℤ
minus_one = negsuc 0

-- ---- the model T: a level that rises or falls, and an alarm from 8 on

abbrev pub ok : LocTree
ok = record {
  line = 4;
  name = codes "ok";
  is_unsafe = false;
  init = standing 5 (compared (variable x ∷ []) Equal (number (whole 0) ∷ []) ∷ []);
  inv = standing 6 (compared (variable x ∷ []) AtMost (number (whole 10) ∷ []) ∷ []);
  flow = record { line = 7; boxes = box x (fraction minus_one 1) (whole 2) ∷ [] };
  also = None;
}

abbrev pub high : LocTree
high = record {
  line = 8;
  name = codes "high";
  is_unsafe = true;
  init = None;
  inv = standing 9 (compared (variable x ∷ []) AtLeast (number (whole 8) ∷ []) ∷ []);
  flow = record { line = 10; boxes = box x (fraction minus_one 1) (whole 1) ∷ [] };
  also = None;
}

abbrev pub up : TransTree
up = record {
  line = 11;
  from = codes "ok";
  to = codes "high";
  label = codes "up";
  guard = compared (variable x ∷ []) AtLeast (number (whole 8) ∷ []) ∷ [];
  acts = [];
}

abbrev pub down : TransTree
down = record {
  line = 12;
  from = codes "high";
  to = codes "ok";
  label = codes "down";
  guard = compared (variable x ∷ []) AtMost (number (whole 9) ∷ []) ∷ [];
  acts = [];
}

abbrev pub model : Tree
model = record {
  line = 2;
  name = codes "T";
  vars = x ∷ [];
  var_line = 3;
  obs = None;
  locs = ok ∷ high ∷ [];
  trans = up ∷ down ∷ [];
}

-- its automaton, written out
abbrev pub model_automaton : Automaton
model_automaton = record {
  name = codes "T";
  variables = x ∷ [];
  obs = zero_fraction ∷ [];
  locations = record {
    name = codes "ok";
    is_unsafe = false;
    init = Some (row (pos 1 ∷ []) (pos 0) ∷ row (minus_one ∷ []) (pos 0) ∷ []);
    invariant = row (pos 1 ∷ []) (negsuc 9) ∷ [];
    slopes = row (pos 1 ∷ negsuc 1 ∷ []) (pos 0) ∷ row (minus_one ∷ minus_one ∷ []) (pos 0) ∷ [];
  } ∷ record {
    name = codes "high";
    is_unsafe = true;
    init = None;
    invariant = row (minus_one ∷ []) (pos 8) ∷ [];
    slopes = row (pos 1 ∷ minus_one ∷ []) (pos 0) ∷ row (minus_one ∷ minus_one ∷ []) (pos 0) ∷ [];
  } ∷ [];
  transitions = record {
    label = codes "up";
    source = 0;
    target = 1;
    relation = row (minus_one ∷ pos 0 ∷ []) (pos 8) ∷ row (minus_one ∷ pos 1 ∷ []) (pos 0) ∷ row (pos 1 ∷ minus_one ∷ []) (pos 0) ∷ [];
  } ∷ record {
    label = codes "down";
    source = 1;
    target = 0;
    relation = row (pos 1 ∷ pos 0 ∷ []) (negsuc 8) ∷ row (minus_one ∷ pos 1 ∷ []) (pos 0) ∷ row (pos 1 ∷ minus_one ∷ []) (pos 0) ∷ [];
  } ∷ [];
}

-- ---- trees like it

-- with the tolerance 1/2 for each of these names
abbrev pub bounded : List (List ℕ) → Tree
bounded names = record model {
  line = 1;
  var_line = 2;
  obs = Some (record { line = 3; bounds = map (λ name. record { var = name; within = fraction (pos 1) 2 }) names });
}

-- with these locations and no transition
abbrev pub located : List LocTree → Tree
located locs = record model { locs = locs; trans = [] }

-- with these boxes in its one location
abbrev pub boxed : List BoxTree → Tree
boxed boxes = located (record ok { flow = record { line = 7; boxes = boxes } } ∷ [])

-- with this invariant in its one location
abbrev pub kept_in : List RowTree → Tree
kept_in rows = located (record ok { inv = standing 6 rows } ∷ [])

-- with this one transition
abbrev pub jumping : TransTree → Tree
jumping e = record model { trans = e ∷ [] }

-- with these acts of its one transition
abbrev pub acting : List Act → Tree
acting acts = jumping (record up { acts = acts })

-- ---- numbers that pass

-- fourteen primes
abbrev pub primes : List ℕ
primes =
    999999937 ∷ 999999929 ∷ 999999893 ∷ 999999883 ∷ 999999797 ∷ 999999761 ∷ 999999757
    ∷ 999999751 ∷ 999999739 ∷ 999999733 ∷ 999999677 ∷ 999999667 ∷ 999999613 ∷ 999999607 ∷ []

-- 1/d for each d of the list
abbrev pub inverses : List ℕ → List Term
inverses ds = map (λ d. number (fraction (pos 1) d)) ds

-- ---- rows of acts

-- the rows of what acts say of these variables
abbrev pub act_rows : List (List ℕ) → List Act → List Row
act_rows vars acts = flat_map (comparison_rows (length vars + length vars)) (comparisons_of vars acts)
