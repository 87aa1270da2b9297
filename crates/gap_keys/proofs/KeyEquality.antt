-- The tests of states and keys are exact.
use Rattle.std.specs.Prelude.{◌≡◌, Bool, ◌&&◌, ◌==◌, List, [], ◌∷◌, ◌++◌, length}
use Rattle.std.specs.Hash as fed
use Rattle.std.specs.Hash.{HashWrites}
use Rattle.std.specs.List.{flat_map}
use Rattle.std.specs.Option.{option_eq}
use Rattle.std.specs.Cmp.{booleans_Decides}
use Rattle.std.specs.Cmp.Lexicographic.{pointwise}
use Rattle.std.proofs.Common.{ap, refl, sym, ◌∙◌}
use Rattle.std.proofs.lemmas.List.{length-map}
use Rattle.std.proofs.Math.Bool.{beq}
use Rattle.std.proofs.lemmas.Bool.Decides.{Decides-eqb, Decides-and, Decides-like}
use Rattle.lha_model.proofs.EqualityLemmas.{IsExact, lists_exact, options_exact, fraction_eq, fractions_exact, row_eq, rows_exact, automaton_eq, automata_exact}
use Rattle.run_specs.specs.Keys.{State, Key}
use Rattle.gap_keys.specs.Views.{StateView, states_of}

abbrev pub state_eq : State → State → Bool
state_eq x y = pointwise row_eq x.rows y.rows && ((x.loc == y.loc) && beq x.seen_unsafe y.seen_unsafe)

pub states_exact : IsExact state_eq
states_exact x y =
    Decides-like _ (λ h i. record { loc = h.1.0 i; seen_unsafe = h.1.1 i; rows = h.0 i })
    (λ e. (ap (λ s. s.rows) e, (ap (λ s. s.loc) e, ap (λ s. s.seen_unsafe) e)))
    (Decides-and _ _ (lists_exact rows_exact x.rows y.rows) (Decides-and _ _ (Decides-eqb x.loc y.loc) (booleans_Decides x.seen_unsafe y.seen_unsafe)))

-- with the width of the system, which the code compares first
abbrev pub view_eq : StateView → StateView → Bool
view_eq x y =
    ((x.width == y.width) && pointwise row_eq x.state.rows y.state.rows) && ((x.state.loc == y.state.loc) && beq x.state.seen_unsafe y.state.seen_unsafe)

pub views_exact : IsExact view_eq
views_exact x y =
    Decides-like _ (λ h i. record { state = record { loc = h.1.0 i; seen_unsafe = h.1.1 i; rows = h.0.1 i }; width = h.0.0 i })
    (λ e. ((ap (λ v. v.width) e, ap (λ v. v.state.rows) e), (ap (λ v. v.state.loc) e, ap (λ v. v.state.seen_unsafe) e)))
    (Decides-and _ _ (Decides-and _ _ (Decides-eqb x.width y.width) (lists_exact rows_exact x.state.rows y.state.rows))
    (Decides-and _ _ (Decides-eqb x.state.loc y.state.loc) (booleans_Decides x.state.seen_unsafe y.state.seen_unsafe)))

abbrev pub key_eq : Key → Key → Bool
key_eq x y =
    automaton_eq x.automaton y.automaton && ((x.jumps == y.jumps) && (fraction_eq x.gap y.gap
    && (pointwise (option_eq fraction_eq) x.seen y.seen && pointwise state_eq x.belief y.belief)))

pub keys_exact : IsExact key_eq
keys_exact x y =
    Decides-like _ (λ h i. record { automaton = h.0 i; jumps = h.1.0 i; belief = h.1.1.1.1 i; gap = h.1.1.0 i; seen = h.1.1.1.0 i })
    (λ e. (ap (λ k. k.automaton) e, (ap (λ k. k.jumps) e, (ap (λ k. k.gap) e, (ap (λ k. k.seen) e, ap (λ k. k.belief) e)))))
    (Decides-and _ _ (automata_exact x.automaton y.automaton) (Decides-and _ _ (Decides-eqb x.jumps y.jumps)
    (Decides-and _ _ (fractions_exact x.gap y.gap)
    (Decides-and _ _ (lists_exact (options_exact fractions_exact) x.seen y.seen) (lists_exact states_exact x.belief y.belief)))))

-- ---- lists of states

-- what the states feed to a hasher
each_fed : (F : State → HashWrites) (views : List StateView) (belief : List State) → states_of views ≡ belief → flat_map F belief ≡ flat_map (λ v. F v.state) views
each_fed F views belief same = ap (λ ss. flat_map F ss) (sym same) ∙ go views
  where
    go : (vs : List StateView) → flat_map F (states_of vs) ≡ flat_map (λ v. F v.state) vs
    go [] = refl
    go (v ∷ vs) = ap (λ ws. F v.state ++ ws) (go vs)

as_many : (views : List StateView) (belief : List State) → states_of views ≡ belief → length belief ≡ length views
as_many views belief same = ap length (sym same) ∙ length-map views (λ (v : StateView). v.state)

pub fed_states : (F : State → HashWrites) (views : List StateView) (belief : List State) → states_of views ≡ belief → fed.slice (λ v. F v.state) views ≡ fed.slice F belief
fed_states F views belief same = rw (as_many views belief same, each_fed F views belief same) refl
