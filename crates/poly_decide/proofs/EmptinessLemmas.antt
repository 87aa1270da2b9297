-- What is left of a system without any columns tells whether it has a point.
use Rattle.std.proofs.Common.{◌≡◌, ◌↔◌, inl, inr, ℕ, zero, suc, ◌+◌, ◌<◌, ◌≤◌, Bool, true, false, List, [], ◌∷◌, length, replicate, get_or, refl, sym, ◌∙◌, subst, arith, ℤ, pos}
use Rattle.std.specs.Prelude.{Any, IsTrue, MatchBool, slice_index_or}
use Rattle.std.proofs.lemmas.Int.{ints}
use Rattle.std.proofs.lemmas.List.{length-replicate, get_or_default}
use Rattle.poly_specs.proofs.LineLemmas.{Allows-or_not}
use Rattle.poly_specs.specs.Lists.{dot}
use Rattle.poly_specs.specs.Rows.{Point, Row, row_value, over, Allows, AllHold, HasPoint}
use Rattle.poly_specs.specs.Systems.{System, Levels, IsLevel, AreLevels, no_system}

pub dot-zeros : (cs : List ℤ) (n : ℕ) → dot cs (replicate n (pos 0)) ≡ pos 0
dot-zeros [] n = refl
dot-zeros (c ∷ cs) zero = refl
dot-zeros (c ∷ cs) (suc n) = omega (arith, ints, dot-zeros cs n)

-- ---- the point with 0 in each column

abbrev origin : ℕ → Point
origin n = over (pos 1) (replicate n (pos 0))

value-origin : (r : Row) (n : ℕ) → row_value r (origin n) ≡ r.cst
value-origin r n = omega (arith, ints, dot-zeros r.coef n)

origin_level : (w : ℕ) (rows left : List Row) → IsLevel w 0 rows left → AllHold left (origin w) ↔ HasPoint w rows
origin_level w rows left level =
    let both = level.same (origin w) (record { lt = tt }) (length-replicate w (pos 0)) in (
      λ h. (let (q, e) = both.0 h in (q, e.positive, e.sized, e.holds)),
      λ h. both.1 (h.0, record { positive = h.1; sized = h.2; same = refl; holds = h.3 }),
    )

pub level_tells : (w : ℕ) (rows left : List Row) (b : Bool) → IsLevel w 0 rows left → IsTrue b ↔ Any (λ r. Allows r.strict r.cst → ⊥) left →
    MatchBool b (HasPoint w rows → ⊥) (HasPoint w rows)
level_tells w rows left true level tells = λ some.
    let all = (origin_level w rows left level).1 some in
    let (k, r, lt, at, never) = tells.0 refl in
    let here : Allows r.strict (row_value r (origin w)) = subst (λ s. Allows s.strict (row_value s (origin w))) at (all k r lt) in
    never (subst (Allows r.strict) (value-origin r w) here)
level_tells w rows left false level tells = (origin_level w rows left level).0 all
  where
    never : (k : ℕ) (r : Row) → k < length left → get_or left k r ≡ r → (Allows r.strict r.cst → ⊥) → ⊥
    never k r lt at n = let f = tells.1 (k, r, lt, at, n) in let g : ⊥ = cc in g

    all : AllHold left (origin w)
    all k d lt =
        let r : Row = get_or left k d in
        elim (Allows-or_not r.strict r.cst) [
          | inl h ↦ subst (Allows r.strict) (sym (value-origin r w)) h
          | inr n ↦ absurd (never k r lt (get_or_default left k r d lt) n)
        ]

-- ---- the level of a list of levels

pub level_at : (s t : System) (levels : Levels) (i : ℕ) → AreLevels 0 s levels → i ≤ s.width → t ≡ get_or levels.systems i t → IsLevel s.width i s.rows t.rows
level_at s t levels i are h at =
    let some : i < length levels.systems = (let n = are.one_for_each in omega (arith, n)) in
    let e : 0 + i ≡ i = omega arith in
    let here = subst (λ c. IsLevel s.width c s.rows (slice_index_or levels.systems i no_system).rows) e (are.each i (omega arith)) in
    subst (λ u. IsLevel s.width i s.rows u.rows) (get_or_default levels.systems i no_system t some ∙ sym at) here
