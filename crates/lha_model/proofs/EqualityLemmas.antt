-- Tests of equality that hold exactly where two records are equal.
use Rattle.std.specs.Prelude.{◌≡◌, Bool, ◌&&◌, Some, None, refl, nat_eq}
use Rattle.std.specs.Bool.{Decides}
use Rattle.std.specs.Option.{option_eq}
use Rattle.std.specs.Ordering.{int_eq}
use Rattle.std.specs.Cmp.{booleans_Decides}
use Rattle.std.specs.Cmp.Lexicographic.{pointwise}
use Rattle.std.proofs.Common.{ap}
use Rattle.std.proofs.Math.Bool.{beq}
use Rattle.std.proofs.lemmas.Bool.Decides.{Decides-eqb, Decides-int_eq, Decides-and, Decides-like}
use Rattle.std.proofs.lemmas.Slice.Eq.{slice_eq-Decides}
use Rattle.poly_specs.specs.Fractions.{Fraction}
use Rattle.poly_specs.specs.Rows.{Row}
use Rattle.run_specs.specs.Automaton.{Location, Transition, Automaton}
use Rattle.run_specs.specs.Logs.{Sample}

-- the test answers `true` exactly where both are equal
abbrev pub IsExact : {A : Type 0} → (A → A → Bool) → Type 0
IsExact {A} E = (x y : A) → Decides (E x y) (x ≡ y)

pub lists_exact : {A : Type 0} {E : A → A → Bool} → IsExact E → IsExact (pointwise E)
lists_exact each xs ys = slice_eq-Decides each xs ys _ refl

pub options_exact : {A : Type 0} {E : A → A → Bool} → IsExact E → IsExact (option_eq E)
options_exact each None None = (λ _. refl, λ _. refl)
options_exact each None (Some y) = (λ h. cc, λ h. cc)
options_exact each (Some x) None = (λ h. cc, λ h. cc)
options_exact each (Some x) (Some y) = Decides-like _ (λ e. ap Some e) (λ e. cc) (each x y)

pub names_exact : IsExact (pointwise nat_eq)
names_exact = lists_exact Decides-eqb

abbrev pub fraction_eq : Fraction → Fraction → Bool
fraction_eq x y = int_eq x.num y.num && int_eq x.den y.den

pub fractions_exact : IsExact fraction_eq
fractions_exact x y =
    Decides-like _ (λ h i. record { num = h.0 i; den = h.1 i }) (λ e. (ap (λ v. v.num) e, ap (λ v. v.den) e))
    (Decides-and _ _ (Decides-int_eq x.num y.num) (Decides-int_eq x.den y.den))

abbrev pub row_eq : Row → Row → Bool
row_eq x y = pointwise int_eq x.coef y.coef && (int_eq x.cst y.cst && beq x.strict y.strict)

pub rows_exact : IsExact row_eq
rows_exact x y =
    Decides-like _ (λ h i. record { coef = h.0 i; cst = h.1.0 i; strict = h.1.1 i })
    (λ e. (ap (λ r. r.coef) e, (ap (λ r. r.cst) e, ap (λ r. r.strict) e)))
    (Decides-and _ _ (lists_exact Decides-int_eq x.coef y.coef)
    (Decides-and _ _ (Decides-int_eq x.cst y.cst) (booleans_Decides x.strict y.strict)))

abbrev pub location_eq : Location → Location → Bool
location_eq x y =
    pointwise nat_eq x.name y.name && (beq x.is_unsafe y.is_unsafe && (option_eq (pointwise row_eq) x.init y.init
    && (pointwise row_eq x.invariant y.invariant && pointwise row_eq x.slopes y.slopes)))

pub locations_exact : IsExact location_eq
locations_exact x y =
    Decides-like _ (λ h i. record { name = h.0 i; is_unsafe = h.1.0 i; init = h.1.1.0 i; invariant = h.1.1.1.0 i; slopes = h.1.1.1.1 i })
    (λ e. (ap (λ l. l.name) e, (ap (λ l. l.is_unsafe) e, (ap (λ l. l.init) e, (ap (λ l. l.invariant) e, ap (λ l. l.slopes) e)))))
    (Decides-and _ _ (names_exact x.name y.name) (Decides-and _ _ (booleans_Decides x.is_unsafe y.is_unsafe)
    (Decides-and _ _ (options_exact (lists_exact rows_exact) x.init y.init)
    (Decides-and _ _ (lists_exact rows_exact x.invariant y.invariant) (lists_exact rows_exact x.slopes y.slopes)))))

abbrev pub transition_eq : Transition → Transition → Bool
transition_eq x y =
    pointwise nat_eq x.label y.label && (nat_eq x.source y.source && (nat_eq x.target y.target && pointwise row_eq x.relation y.relation))

pub transitions_exact : IsExact transition_eq
transitions_exact x y =
    Decides-like _ (λ h i. record { label = h.0 i; source = h.1.0 i; target = h.1.1.0 i; relation = h.1.1.1 i })
    (λ e. (ap (λ t. t.label) e, (ap (λ t. t.source) e, (ap (λ t. t.target) e, ap (λ t. t.relation) e))))
    (Decides-and _ _ (names_exact x.label y.label) (Decides-and _ _ (Decides-eqb x.source y.source)
    (Decides-and _ _ (Decides-eqb x.target y.target) (lists_exact rows_exact x.relation y.relation))))

abbrev pub automaton_eq : Automaton → Automaton → Bool
automaton_eq x y =
    pointwise nat_eq x.name y.name && (pointwise (pointwise nat_eq) x.variables y.variables
    && (pointwise fraction_eq x.obs y.obs && (pointwise location_eq x.locations y.locations && pointwise transition_eq x.transitions y.transitions)))

pub automata_exact : IsExact automaton_eq
automata_exact x y =
    Decides-like _ (λ h i. record { name = h.0 i; variables = h.1.0 i; obs = h.1.1.0 i; locations = h.1.1.1.0 i; transitions = h.1.1.1.1 i })
    (λ e. (ap (λ a. a.name) e, (ap (λ a. a.variables) e, (ap (λ a. a.obs) e, (ap (λ a. a.locations) e, ap (λ a. a.transitions) e)))))
    (Decides-and _ _ (names_exact x.name y.name) (Decides-and _ _ (lists_exact names_exact x.variables y.variables)
    (Decides-and _ _ (lists_exact fractions_exact x.obs y.obs)
    (Decides-and _ _ (lists_exact locations_exact x.locations y.locations) (lists_exact transitions_exact x.transitions y.transitions)))))

abbrev pub sample_eq : Sample → Sample → Bool
sample_eq x y =
    fraction_eq x.time y.time && pointwise (option_eq fraction_eq) x.cells y.cells

pub samples_exact : IsExact sample_eq
samples_exact x y =
    Decides-like _ (λ h i. record { time = h.0 i; cells = h.1 i }) (λ e. (ap (λ s. s.time) e, ap (λ s. s.cells) e))
    (Decides-and _ _ (fractions_exact x.time y.time) (lists_exact (options_exact fractions_exact) x.cells y.cells))
