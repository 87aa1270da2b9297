-- The tank, the shutter and the fixed value are well-formed.
use Rattle.std.proofs.Common.{◌≡◌, ◌≢◌, ℕ, zero, suc, ◌<◌, List, [], ◌∷◌, length, refl, arith, pos, negsuc, lit≤, lit<, true, false, Some, None}
use Rattle.std.specs.Prelude.{IsTrue, IsFalse, codes}
use Rattle.std.proofs.lemmas.List.Elements.{All-from_recursion}
use Rattle.poly_specs.specs.Fractions.{AtMost, zero_fraction}
use Rattle.poly_specs.specs.LowestTerms.{IsLowest}
use Rattle.poly_specs.specs.Elimination.{gcd}
use Rattle.poly_specs.specs.Rows.{Row}
use Rattle.run_specs.specs.Names.{is_name}
use Rattle.run_specs.specs.WellFormed.{HasBox, IsLocation, IsTransition, IsWellFormed}
use Rattle.run_specs.specs.Automaton.{Location}
use Rattle.example_specs.specs.Tanks.{normal, high, up, down, tank}
use Rattle.example_specs.specs.Shutters.{shutter, resting, strictly_inside}
use Rattle.example_specs.specs.Fixed.{at_zero, fixed}
use Rattle.example_specs.specs.Literals.{row, keeps_value}

zero_lowest : IsLowest zero_fraction
unfolding gcd
zero_lowest = record { positive = record { lt = tt }; lowest_terms = refl }

-- the only variable has a box
boxed : (slopes : List Row) → HasBox 1 slopes 0 → (j : ℕ) → j < 1 → HasBox 1 slopes j
boxed slopes b zero h = b
boxed slopes b (suc j) h = absurd (omega arith)

alone : {P : Type 0} (i : ℕ) → i < 1 → i ≢ 0 → P
alone zero h n = absurd (n refl)
alone (suc i) h n = absurd (omega arith)

-- of one variable
abbrev Wide : ℕ → Row → Type 0
Wide w r = length r.coef ≡ w

abbrev Plain : Row → Type 0
Plain r = (r.cst ≡ pos 0) × IsFalse r.strict

normal_is : IsLocation 1 normal
normal_is = record {
  name = refl;
  init = All-from_recursion (Wide 1) (row (pos 1 ∷ []) (pos 0) ∷ row (negsuc 0 ∷ []) (pos 0) ∷ []) (refl, (refl, tt));
  invariant = All-from_recursion (Wide 1) normal.invariant (refl, tt);
  slopes = All-from_recursion (Wide 2) normal.slopes (refl, (refl, tt));
  homogeneous = All-from_recursion Plain normal.slopes ((refl, refl), ((refl, refl), tt));
  boxed = lit≤ tt;
  boxes = boxed normal.slopes (record { above = record { lt = tt }; below = record { lt = tt }; others = λ i h n. alone i h n });
}

high_is : IsLocation 1 high
high_is = record {
  name = refl;
  init = tt;
  invariant = All-from_recursion (Wide 1) high.invariant (refl, tt);
  slopes = All-from_recursion (Wide 2) high.slopes (refl, (refl, tt));
  homogeneous = All-from_recursion Plain high.slopes ((refl, refl), ((refl, refl), tt));
  boxed = lit≤ tt;
  boxes = boxed high.slopes (record { above = record { lt = tt }; below = record { lt = tt }; others = λ i h n. alone i h n });
}

up_is : IsTransition 1 2 up
up_is = record { label = refl; source = lit< tt; target = lit< tt; relation = All-from_recursion (Wide 2) up.relation (refl, (refl, (refl, tt))) }

down_is : IsTransition 1 2 down
down_is = record { label = refl; source = lit< tt; target = lit< tt; relation = All-from_recursion (Wide 2) down.relation (refl, (refl, (refl, tt))) }

pub tank_is : IsWellFormed tank
tank_is = record {
  name = refl;
  variables = (lit≤ tt, lit≤ tt);
  variable_names = All-from_recursion (λ x. IsTrue (is_name x)) tank.variables (refl, tt);
  locations = (lit≤ tt, lit≤ tt);
  transitions = lit≤ tt;
  tolerances = (refl, All-from_recursion (λ w. IsLowest w × AtMost zero_fraction w) tank.obs ((zero_lowest, record { le = tt }), tt));
  each_location = All-from_recursion (IsLocation 1) tank.locations (normal_is, (high_is, tt));
  each_transition = All-from_recursion (IsTransition 1 2) tank.transitions (up_is, (down_is, tt));
}

abbrev open_place : Location
open_place = record { name = codes "a"; is_unsafe = false; init = Some strictly_inside; invariant = []; slopes = resting }

abbrev shut_place : Location
shut_place = record { name = codes "b"; is_unsafe = true; init = None; invariant = []; slopes = resting }

open_is : IsLocation 1 open_place
open_is = record {
  name = refl;
  init = All-from_recursion (Wide 1) strictly_inside (refl, (refl, tt));
  invariant = All-from_recursion (Wide 1) [] tt;
  slopes = All-from_recursion (Wide 2) resting (refl, (refl, tt));
  homogeneous = All-from_recursion Plain resting ((refl, refl), ((refl, refl), tt));
  boxed = lit≤ tt;
  boxes = boxed resting (record { above = record { lt = tt }; below = record { lt = tt }; others = λ i h n. alone i h n });
}

shut_is : IsLocation 1 shut_place
shut_is = record {
  name = refl;
  init = tt;
  invariant = All-from_recursion (Wide 1) [] tt;
  slopes = All-from_recursion (Wide 2) resting (refl, (refl, tt));
  homogeneous = All-from_recursion Plain resting ((refl, refl), ((refl, refl), tt));
  boxed = lit≤ tt;
  boxes = boxed resting (record { above = record { lt = tt }; below = record { lt = tt }; others = λ i h n. alone i h n });
}

pub shutter_is : IsWellFormed shutter
shutter_is = record {
  name = refl;
  variables = (lit≤ tt, lit≤ tt);
  variable_names = All-from_recursion (λ x. IsTrue (is_name x)) shutter.variables (refl, tt);
  locations = (lit≤ tt, lit≤ tt);
  transitions = lit≤ tt;
  tolerances = (refl, All-from_recursion (λ w. IsLowest w × AtMost zero_fraction w) shutter.obs ((zero_lowest, record { le = tt }), tt));
  each_location = All-from_recursion (IsLocation 1) shutter.locations (open_is, (shut_is, tt));
  each_transition = All-from_recursion (IsTransition 1 2) shutter.transitions
      (record { label = refl; source = lit< tt; target = lit< tt; relation = All-from_recursion (Wide 2) keeps_value (refl, (refl, tt)) }, tt);
}

abbrev fixed_place : Location
fixed_place = record { name = codes "a"; is_unsafe = true; init = Some at_zero; invariant = []; slopes = resting }

fixed_place_is : IsLocation 1 fixed_place
fixed_place_is = record {
  name = refl;
  init = All-from_recursion (Wide 1) at_zero (refl, (refl, tt));
  invariant = All-from_recursion (Wide 1) [] tt;
  slopes = All-from_recursion (Wide 2) resting (refl, (refl, tt));
  homogeneous = All-from_recursion Plain resting ((refl, refl), ((refl, refl), tt));
  boxed = lit≤ tt;
  boxes = boxed resting (record { above = record { lt = tt }; below = record { lt = tt }; others = λ i h n. alone i h n });
}

pub fixed_is : IsWellFormed (fixed zero_fraction)
fixed_is = record {
  name = refl;
  variables = (lit≤ tt, lit≤ tt);
  variable_names = All-from_recursion (λ x. IsTrue (is_name x)) (fixed zero_fraction).variables (refl, tt);
  locations = (lit≤ tt, lit≤ tt);
  transitions = lit≤ tt;
  tolerances = (refl, All-from_recursion (λ w. IsLowest w × AtMost zero_fraction w) (zero_fraction ∷ []) ((zero_lowest, record { le = tt }), tt));
  each_location = All-from_recursion (IsLocation 1) (fixed_place ∷ []) (fixed_place_is, tt);
  each_transition = All-from_recursion (IsTransition 1 1) [] tt;
}
