-- The level of a column, among the levels of a system.
use Rattle.std.proofs.Common.{◌≡◌, ℕ, ◌+◌, ◌-◌, ◌<◌, ◌≤◌, length, get_or, sym, ap, ◌∙◌, subst, arith}
use Rattle.std.proofs.lemmas.List.{get_or_default}
use Rattle.poly_specs.specs.Systems.{System, Levels, IsLevel, AreLevels, no_system}
use Rattle.poly_specs.specs.Rows.{AllWide}
use Rattle.column_pick.specs.Nexts.{whole_of}

pub level_is : (l : Levels) (x : ℕ) (t : System) → AreLevels l.first (whole_of l) l → l.first ≤ x → x < (whole_of l).width →
    t ≡ get_or l.systems (x + 1 - l.first) t → IsLevel (whole_of l).width (x + 1) (whole_of l).rows t.rows
level_is l x t are from within is =
    let i : ℕ = x + 1 - l.first in
    let at : l.first + i ≡ x + 1 = omega (arith, from) in
    let inside : i < length l.systems = (let n = are.one_for_each in omega (arith, n, from, within)) in
    let same : get_or l.systems i no_system ≡ t = get_or_default l.systems i no_system t inside ∙ sym is in
    subst (λ s. IsLevel (whole_of l).width (x + 1) (whole_of l).rows s.rows) same
    (subst (λ c. IsLevel (whole_of l).width c (whole_of l).rows (get_or l.systems i no_system).rows) at (are.each i (omega (arith, from, within))))

-- what is left in the column and those before it
pub level_of : (l : Levels) (x : ℕ) → AreLevels l.first (whole_of l) l → l.first ≤ x → x < (whole_of l).width →
    IsLevel (whole_of l).width (x + 1) (whole_of l).rows (get_or l.systems (x + 1 - l.first) no_system).rows
level_of l x are from within =
    let i : ℕ = x + 1 - l.first in
    let at : l.first + i ≡ x + 1 = omega (arith, from) in
    subst (λ c. IsLevel (whole_of l).width c (whole_of l).rows (get_or l.systems i no_system).rows) at (are.each i (omega (arith, from, within)))

-- the whole system has its width
pub whole_wide : (first : ℕ) (s : System) (l : Levels) → AreLevels first s l → first ≤ s.width → AllWide s.width s.rows
whole_wide first s l are fits = subst (λ t. AllWide s.width t.rows) are.whole (are.each (s.width - first) (omega (arith, fits))).wide

-- ---- the levels of a system that is known

pub whole_is : (first : ℕ) (s : System) (l : Levels) → AreLevels first s l → whole_of l ≡ s
whole_is first s l are =
    let last : length l.systems - 1 ≡ s.width - first = (let n = are.one_for_each in omega (arith, n)) in
    ap (λ i. get_or l.systems i no_system) last ∙ are.whole

pub own_levels : (first : ℕ) (s : System) (l : Levels) → AreLevels first s l → AreLevels l.first (whole_of l) l
own_levels first s l are =
    subst (λ t. AreLevels l.first t l) (sym (whole_is first s l are)) (subst (λ f. AreLevels f s l) (sym are.from_first) are)
