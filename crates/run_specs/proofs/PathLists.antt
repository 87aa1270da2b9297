-- The paths that may be taken from the states of a key, in order.
use Rattle.std.proofs.Common.{◌≡◌, ◌⊎◌, inl, inr, ℕ, zero, suc, ◌<◌, ◌≤◌, List, [], ◌∷◌, ◌++◌, length, map, refl, sym, ◌∙◌, ap, subst, arith}
use Rattle.std.specs.Ordering.{nat_cmp, ordering_then}
use Rattle.std.specs.declared.cmp.Ordering.TheVariants.{Less}
use Rattle.std.specs.Cmp.{nat_cmp_is, nat_cmp_total}
use Rattle.std.specs.Cmp.Lexicographic.{slice_cmp}
use Rattle.std.proofs.lemmas.Cmp.{tied_itself}
use Rattle.std.proofs.lemmas.Bool.{cases_lt}
use Rattle.poly_specs.proofs.InclusionLemmas.{in_left, in_right, in_either}
use Rattle.poly_specs.proofs.EliminationLemmas.{out_map, in_map}
use Rattle.run_specs.proofs.HistorySystems.{same_or_not}
use Rattle.poly_specs.specs.Lists.{In}
use Rattle.run_specs.specs.Automaton.{Automaton, transition_at}
use Rattle.run_specs.specs.Passes.{Fits}
use Rattle.run_specs.specs.Keys.{Key, parent_at}
use Rattle.run_specs.specs.Outcomes.{MayTake, IsBefore}

-- ---- lists in order

-- each element is before each later one
abbrev pub InOrder : {A : Type 0} → (A → A → Type 0) → List A → Type 0
InOrder R [] = Unit {0}
InOrder {A} R (x ∷ xs) = ((y : A) → In y xs → R x y) × InOrder R xs

order-append : {A : Type 0} (R : A → A → Type 0) (xs ys : List A) → InOrder R xs → InOrder R ys → ((x y : A) → In x xs → In y ys → R x y) → InOrder R (xs ++ ys)
order-append R [] ys h g b = g
order-append R (x ∷ xs) ys h g b = (
  λ y i. elim (in_either y xs ys i) [ inl j ↦ h.0 y j | inr j ↦ b x y (inl refl) j ],
  order-append R xs ys h.1 g (λ z y i j. b z y (inr i) j),
)

order-map : {A B : Type 0} (R : A → A → Type 0) (S : B → B → Type 0) (f : A → B) → ((x y : A) → R x y → S (f x) (f y)) → (xs : List A) → InOrder R xs → InOrder S (map f xs)
order-map R S f h [] g = tt
order-map R S f h (x ∷ xs) g = (
  λ y i. let (z, j, e) = out_map f y xs i in subst (S (f x)) (sym e) (h x z (g.0 z j)),
  order-map R S f h xs g.1,
)

-- ---- paths from a location

-- transition e and then one of these paths, where the transition leaves location l
abbrev begun : (a : Automaton) (l e : ℕ) → ((transition_at a e).source ≡ l) ⊎ ((transition_at a e).source ≡ l → ⊥) → List (List ℕ) → List (List ℕ)
begun a l e (inl same) paths = map (λ p. e ∷ p) paths
begun a l e (inr other) paths = []

-- the same of all transitions below n, with the paths that go on from where each leads
abbrev starting : Automaton → ℕ → (ℕ → List (List ℕ)) → ℕ → List (List ℕ)
starting a l next zero = []
starting a l next (suc e) = starting a l next e ++ begun a l e (same_or_not (transition_at a e).source l) (next (transition_at a e).target)

-- the paths of at most k transitions that leave location l
abbrev paths_of : Automaton → ℕ → ℕ → List (List ℕ)
paths_of a zero l = [] ∷ []
paths_of a (suc k) l = [] ∷ starting a l (λ m. paths_of a k m) (length a.transitions)

-- a path by its first transition
record Begins (a : Automaton) (l : ℕ) (next : ℕ → List (List ℕ)) (n : ℕ) (p : List ℕ) (e : ℕ) (rest : List ℕ) : Type 0 where
  below : e < n
  source : (transition_at a e).source ≡ l
  goes_on : In rest (next (transition_at a e).target)
  is : p ≡ e ∷ rest

begun_is : (a : Automaton) (l e : ℕ) (d : ((transition_at a e).source ≡ l) ⊎ ((transition_at a e).source ≡ l → ⊥)) (paths : List (List ℕ)) (p : List ℕ) → In p (begun a l e d paths) →
    (rest : List ℕ) × ((transition_at a e).source ≡ l) × In rest paths × (p ≡ e ∷ rest)
begun_is a l e (inl same) paths p i = let (rest, j, f) = out_map (λ q. e ∷ q) p paths i in (rest, same, j, f)
begun_is a l e (inr other) paths p i = absurd i

starting_is : (a : Automaton) (l : ℕ) (next : ℕ → List (List ℕ)) (n : ℕ) (p : List ℕ) → In p (starting a l next n) → (e : ℕ) × (rest : List ℕ) × Begins a l next n p e rest
starting_is a l next zero p i = absurd i
starting_is a l next (suc n) p i =
    elim (in_either p (starting a l next n) (begun a l n (same_or_not (transition_at a n).source l) (next (transition_at a n).target)) i) [
      | inl j ↦ (let (e, rest, b) = starting_is a l next n p j in
          (e, rest, record { below = (let h = b.below in omega (arith, h)); source = b.source; goes_on = b.goes_on; is = b.is }))
      | inr j ↦ (let (rest, s, r, f) = begun_is a l n (same_or_not (transition_at a n).source l) (next (transition_at a n).target) p j in
          (n, rest, record { below = omega arith; source = s; goes_on = r; is = f }))
    ]

begun_has : (a : Automaton) (l e : ℕ) (d : ((transition_at a e).source ≡ l) ⊎ ((transition_at a e).source ≡ l → ⊥)) (paths : List (List ℕ)) (rest : List ℕ) → (transition_at a e).source ≡ l → In rest paths →
    In (e ∷ rest) (begun a l e d paths)
begun_has a l e (inl same) paths rest s i = in_map (λ q. e ∷ q) rest paths i
begun_has a l e (inr other) paths rest s i = absurd (other s)

starting_has : (a : Automaton) (l : ℕ) (next : ℕ → List (List ℕ)) (n e : ℕ) (rest : List ℕ) → e < n → (transition_at a e).source ≡ l → In rest (next (transition_at a e).target) →
    In (e ∷ rest) (starting a l next n)
starting_has a l next zero e rest h s i = absurd (omega arith)
starting_has a l next (suc n) e rest h s i = elim (cases_lt e n) [
  | inl lt ↦ in_left (e ∷ rest) (starting a l next n) (begun a l n (same_or_not (transition_at a n).source l) (next (transition_at a n).target)) (starting_has a l next n e rest lt s i)
  | inr ge ↦ (let same : n ≡ e = omega (arith, h, ge) in
      subst (λ m. In (e ∷ rest) (starting a l next n ++ begun a l m (same_or_not (transition_at a m).source l) (next (transition_at a m).target))) (sym same)
      (in_right (e ∷ rest) (starting a l next n) (begun a l e (same_or_not (transition_at a e).source l) (next (transition_at a e).target))
      (begun_has a l e (same_or_not (transition_at a e).source l) (next (transition_at a e).target) rest s i)))
]

paths_are : (a : Automaton) (k l : ℕ) (p : List ℕ) → In p (paths_of a k l) → (length p ≤ k) × Fits a l p
paths_are a zero l p (inl e) = subst (λ q. (length q ≤ 0) × Fits a l q) (sym e) (omega arith, tt)
paths_are a zero l p (inr i) = absurd i
paths_are a (suc k) l p (inl e) = subst (λ q. (length q ≤ suc k) × Fits a l q) (sym e) (omega arith, tt)
paths_are a (suc k) l p (inr i) =
    let (e, rest, b) = starting_is a l (λ m. paths_of a k m) (length a.transitions) p i in
    let r = paths_are a k (transition_at a e).target rest b.goes_on in
    let few = r.0 in
    subst (λ q. (length q ≤ suc k) × Fits a l q) (sym b.is) (omega (arith, few), (b.below, b.source, r.1))

paths_have : (a : Automaton) (k l : ℕ) (p : List ℕ) → length p ≤ k → Fits a l p → In p (paths_of a k l)
paths_have a zero l [] h f = inl refl
paths_have a zero l (e ∷ p) h f = absurd (omega arith)
paths_have a (suc k) l [] h f = inl refl
paths_have a (suc k) l (e ∷ p) h f =
    inr (starting_has a l (λ m. paths_of a k m) (length a.transitions) e p f.0 f.1 (paths_have a k (transition_at a e).target p (omega arith) f.2))

-- ---- their order

abbrev PathBefore : List ℕ → List ℕ → Type 0
PathBefore p q = slice_cmp nat_cmp p q ≡ Less

less : (l m : ℕ) → l < m → nat_cmp l m ≡ Less
less l m h = sym (nat_cmp_is l m Less h)

first_less : (d e : ℕ) (p q : List ℕ) → d < e → PathBefore (d ∷ p) (e ∷ q)
first_less d e p q h = ap (λ o. ordering_then o (slice_cmp nat_cmp p q)) (less d e h)

first_same : (e : ℕ) (p q : List ℕ) → PathBefore p q → PathBefore (e ∷ p) (e ∷ q)
first_same e p q h = ap (λ o. ordering_then o (slice_cmp nat_cmp p q)) (tied_itself nat_cmp_total e) ∙ h

begun_order : (a : Automaton) (l e : ℕ) (d : ((transition_at a e).source ≡ l) ⊎ ((transition_at a e).source ≡ l → ⊥)) (paths : List (List ℕ)) → InOrder PathBefore paths →
    InOrder PathBefore (begun a l e d paths)
begun_order a l e (inl same) paths h = order-map PathBefore PathBefore (λ p. e ∷ p) (λ p q b. first_same e p q b) paths h
begun_order a l e (inr other) paths h = tt

starting_order : (a : Automaton) (l : ℕ) (next : ℕ → List (List ℕ)) (n : ℕ) → ((m : ℕ) → InOrder PathBefore (next m)) → InOrder PathBefore (starting a l next n)
starting_order a l next zero h = tt
starting_order a l next (suc n) h =
    let d = same_or_not (transition_at a n).source l in
    order-append PathBefore (starting a l next n) (begun a l n d (next (transition_at a n).target)) (starting_order a l next n h)
    (begun_order a l n d (next (transition_at a n).target) (h (transition_at a n).target))
    (λ p q i j.
    let (e, rest, b) = starting_is a l next n p i in
    let (other, s, r, f) = begun_is a l n d (next (transition_at a n).target) q j in
    subst (λ x. PathBefore x q) (sym b.is) (subst (λ y. PathBefore (e ∷ rest) y) (sym f) (first_less e n rest other b.below)))

paths_order : (a : Automaton) (k l : ℕ) → InOrder PathBefore (paths_of a k l)
paths_order a zero l = ((λ q i. absurd i), tt)
paths_order a (suc k) l = (
  λ q i. let (e, rest, b) = starting_is a l (λ m. paths_of a k m) (length a.transitions) q i in subst (PathBefore []) (sym b.is) refl,
  starting_order a l (λ m. paths_of a k m) (length a.transitions) (λ m. paths_order a k m),
)

-- ---- paths from the states of a key

-- a path, with the number of the state before it
pub record Branch : Type 0 where
  pub parent : ℕ
  pub path : List ℕ

abbrev pub BranchBefore : Branch → Branch → Type 0
BranchBefore c d = IsBefore c.parent c.path d.parent d.path

abbrev pub branch : ℕ → List ℕ → Branch
branch i path = record { parent = i; path = path }

-- the branches from the first n states
abbrev branches_to : Key → ℕ → List Branch
branches_to key zero = []
branches_to key (suc n) = branches_to key n ++ map (branch n) (paths_of key.automaton key.jumps (parent_at key n).loc)

branches_are : (key : Key) (n : ℕ) → n ≤ length key.belief → (c : Branch) → In c (branches_to key n) → (c.parent < n) × MayTake key c.parent c.path
branches_are key zero h c i = absurd i
branches_are key (suc n) h c i =
    elim (in_either c (branches_to key n) (map (branch n) (paths_of key.automaton key.jumps (parent_at key n).loc)) i) [
      | inl j ↦ (let r = branches_are key n (omega arith) c j in let b = r.0 in (omega (arith, b), r.1))
      | inr j ↦ (
          let (p, k, e) = out_map (branch n) c (paths_of key.automaton key.jumps (parent_at key n).loc) j in
          let f = paths_are key.automaton key.jumps (parent_at key n).loc p k in
          subst (λ (d : Branch). (d.parent < suc n) × MayTake key d.parent d.path) (sym e) (omega arith, record { parent = omega (arith, h); few = f.0; fits = f.1 }))
    ]

branches_have : (key : Key) (n i : ℕ) (path : List ℕ) → i < n → MayTake key i path → In (branch i path) (branches_to key n)
branches_have key zero i path h may = absurd (omega arith)
branches_have key (suc n) i path h may = elim (cases_lt i n) [
  | inl lt ↦ in_left (branch i path) (branches_to key n) (map (branch n) (paths_of key.automaton key.jumps (parent_at key n).loc)) (branches_have key n i path lt may)
  | inr ge ↦ (let same : n ≡ i = omega (arith, h, ge) in
      subst (λ m. In (branch i path) (branches_to key n ++ map (branch m) (paths_of key.automaton key.jumps (parent_at key m).loc))) (sym same)
      (in_right (branch i path) (branches_to key n) (map (branch i) (paths_of key.automaton key.jumps (parent_at key i).loc))
      (in_map (branch i) path (paths_of key.automaton key.jumps (parent_at key i).loc) (paths_have key.automaton key.jumps (parent_at key i).loc path may.few may.fits))))
]

branches_order : (key : Key) (n : ℕ) → n ≤ length key.belief → InOrder BranchBefore (branches_to key n)
branches_order key zero h = tt
branches_order key (suc n) h =
    let paths : List (List ℕ) = paths_of key.automaton key.jumps (parent_at key n).loc in
    order-append BranchBefore (branches_to key n) (map (branch n) paths) (branches_order key n (omega arith))
    (order-map PathBefore BranchBefore (branch n) (λ p q b. ap (λ o. ordering_then o (slice_cmp nat_cmp p q)) (tied_itself nat_cmp_total n) ∙ b) paths
    (paths_order key.automaton key.jumps (parent_at key n).loc))
    (λ c d i j.
    let r = (branches_are key n (omega arith) c i).0 in
    let (p, k, e) = out_map (branch n) d paths j in
    subst (BranchBefore c) (sym e) (ap (λ o. ordering_then o (slice_cmp nat_cmp c.path p)) (less c.parent n r)))

-- all branches of a key, in order
pub record AreBranches (key : Key) (all : List Branch) : Type 0 where
  pub each : (c : Branch) → In c all → MayTake key c.parent c.path
  pub complete : (i : ℕ) (path : List ℕ) → MayTake key i path → In (branch i path) all
  pub order : InOrder BranchBefore all

pub branches_of : (key : Key) → (all : List Branch) × AreBranches key all
branches_of key = (
  branches_to key (length key.belief),
  record {
    each = λ c i. (branches_are key (length key.belief) (omega arith) c i).1;
    complete = λ i path may. branches_have key (length key.belief) i path may.parent may;
    order = branches_order key (length key.belief) (omega arith);
  },
)
