-- The cells by variable are those under the columns of the variables' names.
use Rattle.std.proofs.Common.{◌≡◌, ℕ, zero, suc, ◌<◌, List, [], ◌∷◌, map, length, get_or, set, replicate, true, false, Option, None, refl, sym, ap, ◌∙◌, arith, bytes_eq}
use Rattle.std.specs.Prelude.{if◌then◌else◌}
use Rattle.std.specs.List.{IsDistinct, AllByRecursion}
use Rattle.std.proofs.lemmas.Slice.Eq.{bytes_eq-Decides}
use Rattle.std.proofs.lemmas.Bool.{false_from_ne_true}
use Rattle.poly_specs.specs.Fractions.{Fraction}
use Rattle.run_specs.specs.Sessions.{AreColumns, placed}
use Rattle.log_specs.specs.LogSessions.{cell_under}
use Rattle.log_table.specs.Tables.{name_at}

same_bytes : (x : List ℕ) → bytes_eq x x ≡ true
same_bytes x = (bytes_eq-Decides x x).1 refl

differ_back : (x y : List ℕ) → bytes_eq x y ≡ false → bytes_eq y x ≡ false
differ_back x y e =
    false_from_ne_true (bytes_eq y x) (λ f. let back = (bytes_eq-Decides x y).1 (sym ((bytes_eq-Decides y x).0 f)) in let g : ⊥ = cc in g)

-- ---- one cell more

module _ {X : Type 0} (f : List ℕ → X) (x : X) where
  -- x under this name, f under the others
  over : List ℕ → List ℕ → X
  over name v = if bytes_eq v name then x else f v

  at_name : (name v : List ℕ) → bytes_eq v name ≡ true → x ≡ over name v
  unfolding over
  at_name name v e = sym (ap (λ b. if b then x else f v) e)

  past_name : (name v : List ℕ) → bytes_eq v name ≡ false → f v ≡ over name v
  unfolding over
  past_name name v e = sym (ap (λ b. if b then x else f v) e)

  others : (name : List ℕ) (vs : List (List ℕ)) → AllByRecursion (λ v. bytes_eq name v ≡ false) vs → map f vs ≡ map (over name) vs
  others name [] h = refl
  others name (v ∷ vs) h = let first = past_name name v (differ_back name v h.0) in let rest = others name vs h.1 in cc

  apart : (name : List ℕ) (vs : List (List ℕ)) (c : ℕ) → c < length vs → AllByRecursion (λ v. bytes_eq name v ≡ false) vs → bytes_eq name (get_or vs c []) ≡ false
  apart name [] c lt h = absurd (let g : ⊥ = omega (arith, lt) in g)
  apart name (v ∷ vs) zero lt h = h.0
  apart name (v ∷ vs) (suc c) lt h = apart name vs c (omega (arith, lt)) h.1

  placed_over : (vs : List (List ℕ)) (c : ℕ) → c < length vs → IsDistinct bytes_eq vs → set (map f vs) c x ≡ map (over (get_or vs c [])) vs
  unfolding IsDistinct
  placed_over [] c lt h = absurd (let g : ⊥ = omega (arith, lt) in g)
  placed_over (v ∷ vs) zero lt h = let first = at_name v v (same_bytes v) in let rest = others v vs h.0 in cc
  placed_over (v ∷ vs) (suc c) lt h =
      let first = past_name (get_or vs c []) v (apart v vs c (omega (arith, lt)) h.0) in
      let rest = placed_over vs c (omega (arith, lt)) h.1 in
      cc

-- ---- all cells

blank : (vs : List (List ℕ)) → ◌≡◌ {A = List (Option Fraction)} (replicate (length vs) None) (map (λ _. None) vs)
blank [] = refl
blank (v ∷ vs) = let rest = blank vs in cc

pub placed_under : (vs : List (List ℕ)) (columns : List ℕ) (cells : List (Option Fraction)) → IsDistinct bytes_eq vs → AreColumns (length vs) columns →
    placed (length vs) columns cells ≡ map (cell_under (map (name_at vs) columns) cells) vs
unfolding over
placed_under vs [] cells distinct h = blank vs
placed_under vs (c ∷ columns) [] distinct h = blank vs
placed_under vs (c ∷ columns) (cell ∷ cells) distinct h =
    ap (λ zs. set zs c cell) (placed_under vs columns cells distinct h.2) ∙ placed_over (cell_under (map (name_at vs) columns) cells) cell vs c h.0 distinct
