-- The runs of one history as the points of one system: of all their numbers, the last values first, and then backwards.
use Rattle.std.proofs.Common.{◌≡◌, ◌↔◌, ◌⊎◌, inl, inr, ℕ, zero, suc, ◌+◌, ◌<◌, ◌≤◌, List, [], ◌∷◌, ◌++◌, length, length-append, length-take, length-drop, take, drop, Option, Some, None, refl, sym, ap, subst, arith, ℤ, pos, ◌+ℤ◌, ◌*ℤ◌}
use Rattle.std.specs.Prelude.{All, IsSomeAnd}
use Rattle.std.proofs.lemmas.Int.{ints}
use Rattle.std.proofs.lemmas.Bool.{cases_lt}
use Rattle.std.proofs.lemmas.List.{get_or_past, take-append-drop}
use Rattle.poly_specs.proofs.LinearLemmas.{dot-nil, dot-append}
use Rattle.poly_specs.proofs.EliminationLemmas.{AllHold-from_in}
use Rattle.run_specs.proofs.StageLemmas.{leg_exact}
use Rattle.run_specs.proofs.SampleLemmas.{sample_exact}
use Rattle.run_specs.proofs.SystemLemmas.{IsSystem, of_rows, alike, pulled, dropped, taken, both, impossible, when, sum_is, nowhere_holds}
use Rattle.poly_specs.specs.Lists.{In, dot, number_at}
use Rattle.poly_specs.specs.Fractions.{Fraction, IsFraction, SameFraction, difference, zero_fraction}
use Rattle.poly_specs.specs.Rows.{Row, over, AllHold}
use Rattle.run_specs.specs.Automaton.{Automaton, Location, nowhere, width, location_at, transition_at, tolerance_at}
use Rattle.run_specs.specs.WellFormed.{IsLocation}
use Rattle.run_specs.specs.Logs.{Sample, IsPassing, cell_at}
use Rattle.run_specs.specs.Runs.{IsLeg, IsJump, end_loc}
use Rattle.run_specs.specs.Histories.{History}
use Rattle.run_specs.specs.Stages.{zeros, leg_rows, sample_rows}

-- ---- what is said of the numbers

-- after a leg: the values at the end, the length, and the numbers before, which begin with the values at the start
abbrev pub LegAfter : Automaton → ℕ → (ℤ → List ℤ → Type 0) → ℤ → List ℤ → Type 0
LegAfter a l P d ns =
    P d (drop (suc (width a)) ns) × IsLeg (location_at a l) d (take (width a) (drop (suc (width a)) ns)) (number_at (width a) ns) (take (width a) ns)

-- after a jump: the values after, and the numbers before, which begin with the values before
abbrev pub JumpAfter : Automaton → ℕ → ℕ → (ℤ → List ℤ → Type 0) → ℤ → List ℤ → Type 0
JumpAfter a l e P d ns =
    P d (drop (width a) ns) × ((transition_at a e).source ≡ l) × IsJump a e d (take (width a) (drop (width a) ns)) (take (width a) ns)

-- after the legs and jumps along a path from location l
abbrev pub PathFrom : Automaton → ℕ → List ℕ → (ℤ → List ℤ → Type 0) → ℤ → List ℤ → Type 0
PathFrom a l [] P = LegAfter a l P
PathFrom a l (e ∷ path) P = PathFrom a (transition_at a e).target path (JumpAfter a l e (LegAfter a l P))

-- how many numbers there are after a path, where there were n before it
abbrev pub path_columns : ℕ → List ℕ → ℕ → ℕ
path_columns m [] n = suc m + n
path_columns m (e ∷ path) n = path_columns m path (m + (suc m + n))

-- the coefficients of the sum of the lengths of a path, before the coefficients of the numbers before it
abbrev pub elapsed : ℕ → List ℕ → List ℤ → List ℤ
elapsed m [] cs = zeros m ++ pos 1 ∷ cs
elapsed m (e ∷ path) cs = elapsed m path (zeros m ++ (zeros m ++ pos 1 ∷ cs))

-- after a gap of this length along a path, at whose end the sample passes
abbrev pub GapFrom : Automaton → ℕ → ℕ → List ℕ → Fraction → List (Option Fraction) → (ℤ → List ℤ → Type 0) → ℤ → List ℤ → Type 0
GapFrom a k l path duration cells P d ns =
    (length path ≤ k) × (PathFrom a l path P d ns × (SameFraction (record { num = dot (elapsed (width a) path []) ns; den = d }) duration × IsPassing a cells (over d (take (width a) ns))))

-- after the gaps of these samples, from location l at time t
abbrev pub GapsFrom : Automaton → ℕ → ℕ → Fraction → List Sample → List (List ℕ) → (ℤ → List ℤ → Type 0) → ℤ → List ℤ → Type 0
GapsFrom a k l t [] [] P = P
GapsFrom a k l t [] (path ∷ paths) P = λ d ns. ⊥
GapsFrom a k l t (s ∷ ss) [] P = λ d ns. ⊥
GapsFrom a k l t (s ∷ ss) (path ∷ paths) P = GapsFrom a k (end_loc a l path) s.time ss paths (GapFrom a k l path (difference s.time t) s.cells P)

-- how many numbers there are after the gaps, where there were n before them
abbrev pub gaps_columns : ℕ → List (List ℕ) → ℕ → ℕ
gaps_columns m [] n = n
gaps_columns m (path ∷ paths) n = gaps_columns m paths (path_columns m path n)

-- the start of a run in location l
abbrev pub StartsAt : Automaton → ℕ → ℤ → List ℤ → Type 0
StartsAt a l d ns = IsSomeAnd (location_at a l).init (λ init. AllHold init (over d ns))

-- the numbers of a run of this history
abbrev pub HistoryHolds : Automaton → ℕ → List Sample → History → ℤ → List ℤ → Type 0
HistoryHolds a k log h = GapsFrom a k h.start zero_fraction log h.paths (StartsAt a h.start)

-- how many there are
abbrev pub columns : Automaton → History → ℕ
columns a h = gaps_columns (width a) h.paths (width a)

-- ---- parts of lists

module _ {A : Type 0} where
  drop_take : (k m j : ℕ) (xs : List A) → j ≡ k + m → drop k (take j xs) ≡ take m (drop k xs)
  drop_take zero m j xs e = ap (λ z. take z xs) (let f : j ≡ m = omega (arith, e) in f)
  drop_take (suc k) m zero xs e = absurd (omega arith)
  drop_take (suc k) zero (suc j) [] e = refl
  drop_take (suc k) (suc m) (suc j) [] e = refl
  drop_take (suc k) m (suc j) (x ∷ xs) e = drop_take k m j xs (omega arith)

  take_take : (k j : ℕ) (xs : List A) → k ≤ j → take k (take j xs) ≡ take k xs
  take_take zero j xs h = refl
  take_take (suc k) zero xs h = absurd (omega arith)
  take_take (suc k) (suc j) [] h = refl
  take_take (suc k) (suc j) (x ∷ xs) h = ap (λ ys. x ∷ ys) (take_take k j xs (omega arith))

  pub take_here : (m : ℕ) (xs ys : List A) → length xs ≡ m → take m (xs ++ ys) ≡ xs
  take_here zero [] ys e = refl
  take_here zero (x ∷ xs) ys e = absurd (omega arith)
  take_here (suc m) [] ys e = absurd (omega arith)
  take_here (suc m) (x ∷ xs) ys e = ap (λ zs. x ∷ zs) (take_here m xs ys (omega arith))

  pub drop_here : (m : ℕ) (xs ys : List A) → length xs ≡ m → drop m (xs ++ ys) ≡ ys
  drop_here zero [] ys e = refl
  drop_here zero (x ∷ xs) ys e = absurd (omega arith)
  drop_here (suc m) [] ys e = absurd (omega arith)
  drop_here (suc m) (x ∷ xs) ys e = drop_here m xs ys (omega arith)

number_take : (j k : ℕ) (ns : List ℤ) → j < k → number_at j (take k ns) ≡ number_at j ns
number_take j zero ns h = absurd (omega arith)
number_take j (suc k) [] h = refl
number_take zero (suc k) (n ∷ ns) h = refl
number_take (suc j) (suc k) (n ∷ ns) h = number_take j k ns (omega arith)

pub drop_number : (j : ℕ) (ns : List ℤ) → j < length ns → drop j ns ≡ number_at j ns ∷ drop (suc j) ns
drop_number j [] h = absurd (omega arith)
drop_number zero (n ∷ ns) h = refl
drop_number (suc j) (n ∷ ns) h = drop_number j ns (omega arith)

-- ---- the system of a leg

-- the numbers of a leg alone
abbrev LegOn : Location → ℕ → ℤ → List ℤ → Type 0
LegOn loc m d ns = IsLeg loc d (drop (suc m) ns) (number_at m ns) (take m ns)

opened_dot : (m : ℕ) (cs ns : List ℤ) → dot (take m cs ++ drop (suc m) cs) ns ≡ dot cs (take m ns ++ pos 0 ∷ drop m ns)
opened_dot zero [] ns = refl
opened_dot zero (c ∷ cs) ns = omega (arith, ints)
opened_dot (suc m) [] ns = refl
opened_dot (suc m) (c ∷ cs) [] = let z = dot-nil cs in omega (arith, ints, z)
opened_dot (suc m) (c ∷ cs) (n ∷ ns) = ap (λ z. c *ℤ n +ℤ z) (opened_dot m cs ns)

leg_on : (a : Automaton) (l : ℕ) → IsLocation (width a) (location_at a l) → IsSystem (suc (width a) + width a) (LegOn (location_at a l) (width a))
leg_on a l is =
    let m : ℕ = width a in
    let M : ℕ = suc m + m in
    alike M (λ d ns. AllHold (leg_rows a l []) (over d (take m ns ++ pos 0 ∷ drop m ns))) (LegOn (location_at a l) m) (λ d ns h len.
    let at : drop m ns ≡ number_at m ns ∷ drop (suc m) ns = drop_number m ns (omega (arith, len)) in
    let e = leg_exact a l [] d (take m ns) (pos 0) (number_at m ns) (drop (suc m) ns) is (λ i r g. absurd (omega arith))
    (omega (arith, length-take m ns, len)) (omega (arith, length-drop (suc m) ns, len)) in (
      λ g. (e.0 (subst (λ xs. AllHold (leg_rows a l []) (over d (take m ns ++ pos 0 ∷ xs))) at g)).1,
      λ g. subst (λ xs. AllHold (leg_rows a l []) (over d (take m ns ++ pos 0 ∷ xs))) (sym at) (e.1 (AllHold-from_in [] _ (λ r i. absurd i), g)),
    ))
    (pulled (suc M) (λ d ns. AllHold (leg_rows a l []) (over d ns)) M (λ cs. take m cs ++ drop (suc m) cs) (λ ns. take m ns ++ pos 0 ∷ drop m ns)
    (λ ns len. omega (arith, length-append (take m ns) (pos 0 ∷ drop m ns), length-take m ns, length-drop m ns, len))
    (λ cs ns lc ln. opened_dot m cs ns) (of_rows (suc M) (leg_rows a l [])))

pub same_leg : (loc : Location) (d : ℤ) (p u : List ℤ) (t s : ℤ) (q v : List ℤ) → p ≡ u → t ≡ s → q ≡ v → IsLeg loc d p t q ↔ IsLeg loc d u s v
same_leg loc d p u t s q v e f g = (
  λ h. subst (λ x. IsLeg loc d x s v) e (subst (λ x. IsLeg loc d p x v) f (subst (λ x. IsLeg loc d p t x) g h)),
  λ h. subst (λ x. IsLeg loc d x t q) (sym e) (subst (λ x. IsLeg loc d u x q) (sym f) (subst (λ x. IsLeg loc d u s x) (sym g) h)),
)

leg_among : (a : Automaton) (l k : ℕ) → IsLocation (width a) (location_at a l) → suc (width a) + width a ≤ k →
    IsSystem k (λ d ns. IsLeg (location_at a l) d (take (width a) (drop (suc (width a)) ns)) (number_at (width a) ns) (take (width a) ns))
leg_among a l k is h =
    let m : ℕ = width a in
    let M : ℕ = suc m + m in
    alike k (λ d ns. LegOn (location_at a l) m d (take M ns)) (λ d ns. IsLeg (location_at a l) d (take m (drop (suc m) ns)) (number_at m ns) (take m ns))
    (λ d ns hd len. same_leg (location_at a l) d (drop (suc m) (take M ns)) (take m (drop (suc m) ns)) (number_at m (take M ns)) (number_at m ns) (take m (take M ns)) (take m ns)
    (drop_take (suc m) m M ns refl) (number_take m M ns (omega arith)) (take_take m M ns (omega arith)))
    (taken M (LegOn (location_at a l) m) k h (leg_on a l is))

-- past the last location no point is
pub leg_system : (a : Automaton) (l k : ℕ) → All (IsLocation (width a)) a.locations → suc (width a) + width a ≤ k →
    IsSystem k (λ d ns. IsLeg (location_at a l) d (take (width a) (drop (suc (width a)) ns)) (number_at (width a) ns) (take (width a) ns))
leg_system a l k locs h = elim (cases_lt l (length a.locations)) [
  | inl lt ↦ leg_among a l k (locs l nowhere lt) h
  | inr ge ↦ impossible k _ (λ d ns hd len leg.
      nowhere_holds d (take (width a) ns) hd (subst (λ loc. AllHold loc.invariant (over d (take (width a) ns))) (get_or_past a.locations l nowhere ge) leg.inside_after))
]

-- ---- the system of a jump

-- the numbers of a jump alone
abbrev JumpOn : Automaton → ℕ → ℕ → ℤ → List ℤ → Type 0
JumpOn a e m d ns = IsJump a e d (drop m ns) (take m ns)

swapped_dot : (m : ℕ) (cs ns : List ℤ) → length cs ≡ m + m → length ns ≡ m + m → dot (drop m cs ++ take m cs) ns ≡ dot cs (drop m ns ++ take m ns)
swapped_dot m cs ns lc ln =
    let a = dot-append (drop m cs) (take m cs) (take m ns) (drop m ns) (omega (arith, length-drop m cs, length-take m ns, lc, ln)) in
    let b = dot-append (take m cs) (drop m cs) (drop m ns) (take m ns) (omega (arith, length-take m cs, length-drop m ns, lc, ln)) in
    let whole : dot (drop m cs ++ take m cs) (take m ns ++ drop m ns) ≡ dot (drop m cs ++ take m cs) ns = ap (dot (drop m cs ++ take m cs)) (take-append-drop m ns) in
    let other : dot (take m cs ++ drop m cs) (drop m ns ++ take m ns) ≡ dot cs (drop m ns ++ take m ns) = ap (λ xs. dot xs (drop m ns ++ take m ns)) (take-append-drop m cs) in
    omega (arith, ints, a, b, whole, other)

jump_on : (a : Automaton) (e : ℕ) → IsSystem (width a + width a) (JumpOn a e (width a))
jump_on a e =
    let m : ℕ = width a in
    let rel : List Row = (transition_at a e).relation in
    let inv : List Row = (location_at a (transition_at a e).target).invariant in
    alike (m + m) (λ d ns. AllHold rel (over d (drop m ns ++ take m ns)) × AllHold inv (over d (take m ns))) (JumpOn a e m)
    (λ d ns hd len. (
      λ g. record { same_size = omega (arith, length-take m ns, length-drop m ns, len); related = g.0; inside_after = g.1 },
      λ g. (g.related, g.inside_after),
    ))
    (both (m + m) (λ d ns. AllHold rel (over d (drop m ns ++ take m ns))) (λ d ns. AllHold inv (over d (take m ns)))
    (pulled (m + m) (λ d ns. AllHold rel (over d ns)) (m + m) (λ cs. drop m cs ++ take m cs) (λ ns. drop m ns ++ take m ns)
    (λ ns len. omega (arith, length-append (drop m ns) (take m ns), length-take m ns, length-drop m ns, len)) (swapped_dot m) (of_rows (m + m) rel))
    (taken m (λ d ns. AllHold inv (over d ns)) (m + m) (omega arith) (of_rows m inv)))

pub same_jump : (a : Automaton) (e : ℕ) (d : ℤ) (p u q v : List ℤ) → p ≡ u → q ≡ v → IsJump a e d p q ↔ IsJump a e d u v
same_jump a e d p u q v f g = (
  λ h. subst (λ x. IsJump a e d x v) f (subst (λ x. IsJump a e d p x) g h),
  λ h. subst (λ x. IsJump a e d x q) (sym f) (subst (λ x. IsJump a e d u x) (sym g) h),
)

pub jump_system : (a : Automaton) (e k : ℕ) → width a + width a ≤ k → IsSystem k (λ d ns. IsJump a e d (take (width a) (drop (width a) ns)) (take (width a) ns))
jump_system a e k h =
    let m : ℕ = width a in
    alike k (λ d ns. JumpOn a e m d (take (m + m) ns)) (λ d ns. IsJump a e d (take m (drop m ns)) (take m ns))
    (λ d ns hd len. same_jump a e d (drop m (take (m + m) ns)) (take m (drop m ns)) (take m (take (m + m) ns)) (take m ns)
    (drop_take m m (m + m) ns refl) (take_take m (m + m) ns (omega arith)))
    (taken (m + m) (JumpOn a e m) k h (jump_on a e))

-- ---- the system of a sample

-- the cells and the tolerances are fractions, and there is a cell for each variable
pub record AreCells (a : Automaton) (cells : List (Option Fraction)) : Type 0 where
  pub tolerances : (j : ℕ) → IsFraction (tolerance_at a j)
  pub values : (j : ℕ) (x : Fraction) → cell_at j cells ≡ Some x → IsFraction x
  pub sized : length cells ≡ width a

one_more_zero : (cs ns : List ℤ) → dot cs ns ≡ dot cs (ns ++ pos 0 ∷ [])
one_more_zero [] ns = refl
one_more_zero (c ∷ cs) [] = let z = dot-nil cs in omega (arith, ints, z)
one_more_zero (c ∷ cs) (n ∷ ns) = ap (λ z. c *ℤ n +ℤ z) (one_more_zero cs ns)

pub passing_system : (a : Automaton) (cells : List (Option Fraction)) (k : ℕ) → AreCells a cells → width a ≤ k → IsSystem k (λ d ns. IsPassing a cells (over d (take (width a) ns)))
passing_system a cells k are h =
    let m : ℕ = width a in
    let rows : List Row = sample_rows a zero_fraction cells [] in
    taken m (λ d ns. IsPassing a cells (over d ns)) k h
    (alike m (λ d ns. AllHold rows (over d (ns ++ pos 0 ∷ []))) (λ d ns. IsPassing a cells (over d ns))
    (λ d ns hd len.
    let e = sample_exact a zero_fraction cells [] d ns (pos 0) are.tolerances are.values are.sized len in (
      λ g. (e.0 g).2,
      λ g. e.1 (AllHold-from_in [] _ (λ r i. absurd i), omega (arith, ints), g),
    ))
    (pulled (suc m) (λ d ns. AllHold rows (over d ns)) m (λ cs. cs) (λ ns. ns ++ pos 0 ∷ []) (λ ns len. omega (arith, length-append ns (pos 0 ∷ []), len))
    (λ cs ns lc ln. one_more_zero cs ns) (of_rows (suc m) rows)))

-- ---- the systems of paths, gaps and runs

pub same_or_not : (x y : ℕ) → (x ≡ y) ⊎ (x ≡ y → ⊥)
same_or_not x y = elim (cases_lt x y) [
  | inl lt ↦ inr (λ e. omega (arith, e, lt))
  | inr ge ↦ elim (cases_lt y x) [ inl gt ↦ inr (λ e. omega (arith, e, gt)) | inr le ↦ inl (omega (arith, ge, le)) ]
]

module _ (a : Automaton) (locs : All (IsLocation (width a)) a.locations) where
  leg_after : (l n : ℕ) (P : ℤ → List ℤ → Type 0) → width a ≤ n → IsSystem n P → IsSystem (suc (width a) + n) (LegAfter a l P)
  leg_after l n P h s =
      both (suc (width a) + n) (λ d ns. P d (drop (suc (width a)) ns)) _ (dropped n P (suc (width a)) s) (leg_system a l (suc (width a) + n) locs (omega (arith, h)))

  jump_after : (l e n : ℕ) (P : ℤ → List ℤ → Type 0) → width a ≤ n → IsSystem n P → IsSystem (width a + n) (JumpAfter a l e P)
  jump_after l e n P h s =
      let m : ℕ = width a in
      let J : ℤ → List ℤ → Type 0 = λ d ns. IsJump a e d (take m (drop m ns)) (take m ns) in
      let source : ℕ = (transition_at a e).source in
      alike (m + n) (λ d ns. P d (drop m ns) × ((source ≡ l) × J d ns)) (JumpAfter a l e P)
      (λ d ns hd len. (λ g. (g.0, g.1.0, g.1.1), λ g. (g.0, (g.1, g.2))))
      (both (m + n) (λ d ns. P d (drop m ns)) (λ d ns. (source ≡ l) × J d ns) (dropped n P m s)
      (when (m + n) (source ≡ l) J (same_or_not source l) (jump_system a e (m + n) (omega (arith, h)))))

  path_wide : (path : List ℕ) (n : ℕ) → width a ≤ n → width a ≤ path_columns (width a) path n
  path_wide [] n h = omega (arith, h)
  path_wide (e ∷ path) n h = path_wide path (width a + (suc (width a) + n)) (omega arith)

  pub path_system : (l : ℕ) (path : List ℕ) (n : ℕ) (P : ℤ → List ℤ → Type 0) → width a ≤ n → IsSystem n P → IsSystem (path_columns (width a) path n) (PathFrom a l path P)
  path_system l [] n P h s = leg_after l n P h s
  path_system l (e ∷ path) n P h s =
      path_system (transition_at a e).target path (width a + (suc (width a) + n)) (JumpAfter a l e (LegAfter a l P)) (omega arith)
      (jump_after l e (suc (width a) + n) (LegAfter a l P) (omega (arith, h)) (leg_after l n P h s))

  pub gap_system : (k l : ℕ) (path : List ℕ) (duration : Fraction) (cells : List (Option Fraction)) (n : ℕ) (P : ℤ → List ℤ → Type 0) → AreCells a cells → width a ≤ n →
      IsSystem n P → IsSystem (path_columns (width a) path n) (GapFrom a k l path duration cells P)
  gap_system k l path duration cells n P are h s =
      let N : ℕ = path_columns (width a) path n in
      let Sum : ℤ → List ℤ → Type 0 = λ d ns. SameFraction (record { num = dot (elapsed (width a) path []) ns; den = d }) duration in
      let Pass : ℤ → List ℤ → Type 0 = λ d ns. IsPassing a cells (over d (take (width a) ns)) in
      when N (length path ≤ k) (λ d ns. PathFrom a l path P d ns × (Sum d ns × Pass d ns)) (few_or_not (length path))
      (both N (PathFrom a l path P) (λ d ns. Sum d ns × Pass d ns) (path_system l path n P h s)
      (both N Sum Pass (sum_is N (elapsed (width a) path []) duration) (passing_system a cells N are (path_wide path n h))))
    where
      few_or_not : (x : ℕ) → (x ≤ k) ⊎ (x ≤ k → ⊥)
      few_or_not x = elim (cases_lt k x) [ inl gt ↦ inr (λ e. omega (arith, e, gt)) | inr le ↦ inl le ]

  pub gaps_system : (k l : ℕ) (t : Fraction) (ss : List Sample) (paths : List (List ℕ)) (n : ℕ) (P : ℤ → List ℤ → Type 0) → ((s : Sample) → In s ss → AreCells a s.cells) → width a ≤ n →
      IsSystem n P → IsSystem (gaps_columns (width a) paths n) (GapsFrom a k l t ss paths P)
  gaps_system k l t [] [] n P are h s = s
  gaps_system k l t [] (path ∷ paths) n P are h s = impossible (gaps_columns (width a) (path ∷ paths) n) (λ d ns. ⊥) (λ d ns hd len g. g)
  gaps_system k l t (x ∷ ss) [] n P are h s = impossible n (λ d ns. ⊥) (λ d ns hd len g. g)
  gaps_system k l t (x ∷ ss) (path ∷ paths) n P are h s =
      gaps_system k (end_loc a l path) x.time ss paths (path_columns (width a) path n) (GapFrom a k l path (difference x.time t) x.cells P) (λ y i. are y (inr i)) (path_wide path n h)
      (gap_system k l path (difference x.time t) x.cells n P (are x (inl refl)) h s)

pub start_system : (a : Automaton) (l : ℕ) → IsSystem (width a) (StartsAt a l)
start_system a l = go (location_at a l).init
  where
    go : (init : Option (List Row)) → IsSystem (width a) (λ d ns. IsSomeAnd init (λ rows. AllHold rows (over d ns)))
    go None = impossible (width a) (λ d ns. ⊥) (λ d ns hd len g. g)
    go (Some rows) = of_rows (width a) rows

pub history_system : (a : Automaton) (k : ℕ) (log : List Sample) (h : History) → All (IsLocation (width a)) a.locations → ((s : Sample) → In s log → AreCells a s.cells) →
    IsSystem (columns a h) (HistoryHolds a k log h)
history_system a k log h locs are =
    gaps_system a locs k h.start zero_fraction log h.paths (width a) (StartsAt a h.start) are (omega arith) (start_system a h.start)
