-- States and items as their code shows them: beside those of the definitions, for how many columns their systems were made.
use Rattle.std.specs.Prelude.{◌≡◌, ℕ, List, All, map}
use Rattle.poly_specs.specs.Systems.{System}
use Rattle.run_specs.specs.Keys.{State}
use Rattle.run_specs.specs.Outcomes.{Item}

-- a state, and for how many columns its system was made
pub record StateView : Type 0 where
  pub state : State
  pub width : ℕ

-- the system of a state
abbrev pub system_of : StateView → System
system_of s = record { width = s.width; rows = s.state.rows }

abbrev pub states_of : List StateView → List State
states_of views = map (λ v. v.state) views

-- their systems have m columns
abbrev pub AreWide : ℕ → List StateView → Type 0
AreWide m views = All (λ v. v.width ≡ m) views

-- an item, and for how many columns the system of its state was made
pub record ItemView : Type 0 where
  pub item : Item
  pub width : ℕ

-- the state of an item
abbrev pub state_view : ItemView → StateView
state_view x = record { state = x.item.state; width = x.width }

abbrev pub items_of : List ItemView → List Item
items_of views = map (λ v. v.item) views

-- the systems of their states have m columns
abbrev pub AreItemsWide : ℕ → List ItemView → Type 0
AreItemsWide m views = All (λ v. v.width ≡ m) views
