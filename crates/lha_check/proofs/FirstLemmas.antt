-- The first fault of a list of faults, from those of its parts.
use Rattle.std.proofs.Common.{◌≡◌, ℕ, ◌+◌, ◌<◌, get_or, List, [], ◌∷◌, ◌++◌, map, length, take, drop, Ok, Err, sym, ap, ◌∙◌, subst}
use Rattle.std.specs.Prelude.{Result, IfOk, IfErr, IsErrAnd}
use Rattle.model_specs.specs.Faults.{ModelFault}
use Rattle.lha_check.specs.declared.faults.CheckFault.{CheckFault}
use Rattle.lha_check.specs.declared.faults.CheckFault.TheVariants.{Memory}
use Rattle.lha_check.specs.Told.{told, IsFirst}
use Rattle.lha_check.proofs.ListLemmas.{from_one, past, names_more}

-- ---- two parts

pub ahead : (xs ys : List ModelFault) (e : CheckFault) → IsFirst xs e → IsFirst (xs ++ ys) e
ahead xs ys e h = record { begins = λ f is. let both = h.begins f is in (both.0 ++ ys, ap (λ zs. zs ++ ys) both.1) }

pub behind : (xs ys : List ModelFault) (e : CheckFault) → xs ≡ [] → IsFirst ys e → IsFirst (xs ++ ys) e
behind xs ys e none h = subst (λ zs. IsFirst (zs ++ ys) e) (sym none) h

pub neither : (xs ys : List ModelFault) → xs ≡ [] → ys ≡ [] → xs ++ ys ≡ []
neither xs ys e f = ap (λ zs. zs ++ ys) e ∙ f

pub no_memory : (xs : List ModelFault) (e : CheckFault) → e ≡ Memory → IsFirst xs e
no_memory xs e is = record { begins = λ f same. absurd (let b : ⊥ = cc (ap told is, same) in b) }

-- ---- what a call returns

-- a last call, behind parts without fault
pub last_fault : {T : Type 0} → (r : Result T CheckFault) (xs ys : List ModelFault) → xs ≡ [] → IfErr r (IsFirst ys) → IfErr r (IsFirst (xs ++ ys))
last_fault r xs ys none h = subst (λ zs. IfErr r (IsFirst (zs ++ ys))) (sym none) h

pub last_none : {T : Type 0} → (r : Result T CheckFault) (xs ys : List ModelFault) → xs ≡ [] → IfOk r (λ v. ys ≡ []) → IfOk r (λ v. xs ++ ys ≡ [])
last_none r xs ys none h = subst (λ zs. IfOk r (λ v. zs ++ ys ≡ [])) (sym none) h

-- the exit of a `?`
pub exits : {T : Type 0} → (r : Result T CheckFault) (xs : List ModelFault) (e : CheckFault) → IsErrAnd r (λ d. d ≡ e) → IsFirst xs e → IfErr r (IsFirst xs)
exits (Ok v) xs e is h = tt
exits (Err d) xs e is h = subst (IsFirst xs) (sym is) h

-- ---- a list that is gone over

-- F gives the faults of elements behind these names, and H those of one element
pub one_on : {X : Type 0} → (f : X → List ℕ) (F : List (List ℕ) → List X → List ModelFault) (H : List (List ℕ) → X → List ModelFault) →
    ((before : List (List ℕ)) (x : X) (xs : List X) → F before (x ∷ xs) ≡ H before x ++ F (before ++ f x ∷ []) xs) →
    (xs : List X) (i : ℕ) (x : X) → i < length xs → x ≡ get_or xs i x →
    F (map f (take i xs)) (drop i xs) ≡ H (map f (take i xs)) x ++ F (map f (take (i + 1) xs)) (drop (i + 1) xs)
one_on f F H step xs i x h is =
    ap (F (map f (take i xs))) (from_one xs i x h is) ∙ step (map f (take i xs)) x (drop (i + 1) xs)
    ∙ ap (λ before. H (map f (take i xs)) x ++ F before (drop (i + 1) xs)) (sym (names_more f xs i x h is))

-- the element at i has the first fault of all
pub fails_at : {X : Type 0} → (f : X → List ℕ) (F : List (List ℕ) → List X → List ModelFault) (H : List (List ℕ) → X → List ModelFault) →
    ((before : List (List ℕ)) (x : X) (xs : List X) → F before (x ∷ xs) ≡ H before x ++ F (before ++ f x ∷ []) xs) →
    (xs : List X) (i : ℕ) (x : X) (all : List ModelFault) (e : CheckFault) → i < length xs → x ≡ get_or xs i x →
    all ≡ F (map f (take i xs)) (drop i xs) → IsFirst (H (map f (take i xs)) x) e → IsFirst all e
fails_at f F H step xs i x all e h is so_far first =
    subst (λ zs. IsFirst zs e) (sym (so_far ∙ one_on f F H step xs i x h is))
    (ahead (H (map f (take i xs)) x) (F (map f (take (i + 1) xs)) (drop (i + 1) xs)) e first)

-- the element at i has none
pub goes_on : {X : Type 0} → (f : X → List ℕ) (F : List (List ℕ) → List X → List ModelFault) (H : List (List ℕ) → X → List ModelFault) →
    ((before : List (List ℕ)) (x : X) (xs : List X) → F before (x ∷ xs) ≡ H before x ++ F (before ++ f x ∷ []) xs) →
    (xs : List X) (i : ℕ) (x : X) (all : List ModelFault) → i < length xs → x ≡ get_or xs i x →
    all ≡ F (map f (take i xs)) (drop i xs) → H (map f (take i xs)) x ≡ [] → all ≡ F (map f (take (i + 1) xs)) (drop (i + 1) xs)
goes_on f F H step xs i x all h is so_far none =
    so_far ∙ one_on f F H step xs i x h is ∙ ap (λ zs. zs ++ F (map f (take (i + 1) xs)) (drop (i + 1) xs)) none

-- no element has one
pub has_ended : {X : Type 0} → (f : X → List ℕ) (F : List (List ℕ) → List X → List ModelFault) → ((before : List (List ℕ)) → F before [] ≡ []) →
    (xs : List X) (i : ℕ) (all : List ModelFault) → i ≡ length xs → all ≡ F (map f (take i xs)) (drop i xs) → all ≡ []
has_ended f F end xs i all e so_far = so_far ∙ ap (F (map f (take i xs))) (past xs i e) ∙ end (map f (take i xs))

-- the same of lists that are gone over without names

pub flat_fails_at : {X : Type 0} → (F : List X → List ModelFault) (H : X → List ModelFault) → ((x : X) (xs : List X) → F (x ∷ xs) ≡ H x ++ F xs) →
    (xs : List X) (i : ℕ) (x : X) (all : List ModelFault) (e : CheckFault) → i < length xs → x ≡ get_or xs i x →
    all ≡ F (drop i xs) → IsFirst (H x) e → IsFirst all e
flat_fails_at F H step xs i x all e h is so_far first =
    fails_at (λ y. []) (λ before. F) (λ before. H) (λ before. step) xs i x all e h is so_far first

pub flat_goes_on : {X : Type 0} → (F : List X → List ModelFault) (H : X → List ModelFault) → ((x : X) (xs : List X) → F (x ∷ xs) ≡ H x ++ F xs) →
    (xs : List X) (i : ℕ) (x : X) (all : List ModelFault) → i < length xs → x ≡ get_or xs i x →
    all ≡ F (drop i xs) → H x ≡ [] → all ≡ F (drop (i + 1) xs)
flat_goes_on F H step xs i x all h is so_far none =
    goes_on (λ y. []) (λ before. F) (λ before. H) (λ before. step) xs i x all h is so_far none

pub flat_has_ended : {X : Type 0} → (F : List X → List ModelFault) → F [] ≡ [] → (xs : List X) (i : ℕ) (all : List ModelFault) → i ≡ length xs →
    all ≡ F (drop i xs) → all ≡ []
flat_has_ended F end xs i all e so_far = has_ended (λ y. []) (λ before. F) (λ before. end) xs i all e so_far
