-- States that were found, and whether they include another one.
use Rattle.std.specs.Prelude.{◌≡◌, ◌⊎◌, ℕ, Bool, List, map, All}
use Rattle.poly_specs.specs.Bits.{SomePasses}
use Rattle.poly_specs.specs.Bounds.{IsPoint, Includes, inclusion_numbers}
use Rattle.poly_specs.specs.Rows.{Point, Row, AllHold}
use Rattle.run_specs.specs.Outcomes.{Item}
use Rattle.gap_keys.specs.Views.{ItemView}
use Rattle.sample_succ.specs.declared.finding.Found.{Found}

-- the item that was found
abbrev pub item_of : Found → Item
item_of f = record { parent = f.parent; path = f.path.items; state = record { loc = f.loc; seen_unsafe = f.seen_unsafe; rows = f.rows.rows } }

abbrev pub items_of : List Found → List Item
items_of fs = map item_of fs

-- and as its code shows it
abbrev pub view_of : Found → ItemView
view_of f = record { item = item_of f; width = f.rows.width }

abbrev pub views_of : List Found → List ItemView
views_of fs = map view_of fs

-- their rows have m columns
abbrev pub AreWide : ℕ → List Found → Type 0
AreWide m fs = All (λ f. f.rows.width ≡ m) fs

-- a point shows that the big system does not include the small one, or deciding it passes
abbrev pub IsNotShown : ℕ → List Row → List Row → Type 0
IsNotShown m big small = SomePasses (inclusion_numbers m big small) ⊎ ((p : Point) × IsPoint m small p × (AllHold big p → ⊥))

-- the state is in this location with this mark, and includes the rows
abbrev pub DoesCover : ℕ → ℕ → Bool → List Row → Found → Type 0
DoesCover m l mark rows f = (f.loc ≡ l) × (f.seen_unsafe ≡ mark) × Includes m f.rows.rows rows

-- if it is in this location with this mark, it is not shown to include the rows
abbrev pub DoesNotCover : ℕ → ℕ → Bool → List Row → Found → Type 0
DoesNotCover m l mark rows f = f.loc ≡ l → f.seen_unsafe ≡ mark → IsNotShown m f.rows.rows rows
