-- Lists of states of an automaton.
use Rattle.std.proofs.Common.{◌≡◌, List, [], ◌∷◌}
use Rattle.std.specs.Prelude.{All}
use Rattle.std.proofs.lemmas.List.Elements.{All-nil, All-cons, All-head, All-tail, All-map, All-weaker}
use Rattle.run_specs.specs.Automaton.{Automaton, width}
use Rattle.run_specs.specs.Keys.{IsState}
use Rattle.gap_keys.specs.States.{IsStateOf}
use Rattle.gap_keys.specs.Views.{StateView, AreWide, states_of}

module _ (a : Automaton) where
  pub both_of : (vs : List StateView) → All (IsStateOf a) vs → All (IsState a) (states_of vs) × AreWide (width a) vs
  both_of vs h = (
    All-map (IsState a) (λ (v : StateView). v.state) vs (All-weaker (IsStateOf a) (λ v. IsState a v.state) (λ v i. i.state) vs h),
    All-weaker (IsStateOf a) (λ v. v.width ≡ width a) (λ v i. i.wide) vs h,
  )

  pub each_of : (vs : List StateView) → All (IsState a) (states_of vs) → AreWide (width a) vs → All (IsStateOf a) vs
  each_of [] h w = All-nil (IsStateOf a)
  each_of (v ∷ vs) h w =
      All-cons (IsStateOf a) v vs
      (record { state = All-head (IsState a) v.state (states_of vs) h; wide = All-head (λ (x : StateView). x.width ≡ width a) v vs w })
      (each_of vs (All-tail (IsState a) v.state (states_of vs) h) (All-tail (λ (x : StateView). x.width ≡ width a) v vs w))
