-- The states of a key as their code shows them.
use Rattle.std.proofs.Common.{◌≡◌, ℕ, ◌<◌, List, length, get_or, sym, ◌∙◌, ap, subst}
use Rattle.std.specs.Prelude.{slice_index_or}
use Rattle.std.proofs.lemmas.List.{length-map, get_or-map}
use Rattle.std.proofs.lemmas.List.Elements.{All-get_or}
use Rattle.run_specs.specs.Keys.{State, no_state}
use Rattle.gap_keys.specs.Views.{StateView, AreWide, states_of}

pub many_of : (views : List StateView) (belief : List State) → states_of views ≡ belief → length views ≡ length belief
many_of views belief same = sym (length-map views (λ (x : StateView). x.state)) ∙ ap length same

module _ (views : List StateView) (belief : List State) (i : ℕ) where
  pub many_there : states_of views ≡ belief → i < length belief → i < length views
  many_there same lt = subst (λ n. i < n) (sym (many_of views belief same)) lt

  -- the one that is shown at this place
  module _ (v : StateView) (same : states_of views ≡ belief) (at : v ≡ get_or views i v) where
    pub state_there : i < length belief → v.state ≡ slice_index_or belief i no_state
    state_there lt =
        ap (λ (x : StateView). x.state) at ∙ sym (get_or-map (λ (x : StateView). x.state) views i v no_state (many_there same lt))
        ∙ ap (λ (ss : List State). slice_index_or ss i no_state) same

    pub width_there : (m : ℕ) → i < length belief → AreWide m views → v.width ≡ m
    width_there m lt wide = ap (λ (x : StateView). x.width) at ∙ All-get_or (λ (x : StateView). x.width ≡ m) views i v (many_there same lt) wide
