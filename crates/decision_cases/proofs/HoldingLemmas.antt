-- What is known of a system that is told to hold at a point.
use Rattle.std.proofs.Common.{◌≡◌, ◌⊎◌, inl, inr, Bool, true, List, [], ◌∷◌, Some}
use Rattle.std.proofs.lemmas.List.Elements.{All-nil, All-cons}
use Rattle.poly_specs.specs.Rows.{Point, Row, Holds, AllHold}
use Rattle.poly_specs.specs.Systems.{IsHeld}

pub held_all : (rows : List Row) (p : Point) (b : Bool) → b ≡ true → IsHeld rows p (Some b) → AllHold rows p
held_all [] p b e h = All-nil (λ r. Holds r p)
held_all (r ∷ rows) p b e (inl (some, is)) = absurd (let f : ⊥ = cc in f)
held_all (r ∷ rows) p b e (inr (inl (none, not, is))) = absurd (let f : ⊥ = cc in f)
held_all (r ∷ rows) p b e (inr (inr (none, h, rest))) = All-cons (λ s. Holds s p) r rows h (held_all rows p b e rest)
