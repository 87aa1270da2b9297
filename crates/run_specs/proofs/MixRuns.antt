-- Between two runs of one history there is a run for each ratio.
use Rattle.std.proofs.Common.{◌≡◌, ℕ, List, [], ◌∷◌, length, map, Option, Some, None, refl, sym, ◌∙◌, ap, subst, arith, ℤ, pos, ◌+ℤ◌, ◌*ℤ◌, ◌<ℤ◌}
use Rattle.std.specs.Prelude.{All, IsSomeAnd}
use Rattle.std.specs.List.{AllZip, list_any}
use Rattle.std.proofs.lemmas.List.{length-map}
use Rattle.std.proofs.lemmas.List.Folds.{Any-from_list_any, list_any-from_Any}
use Rattle.poly_specs.proofs.IntLemmas.{products, expand, add_mul, mul_comm_int, product_positive}
use Rattle.poly_specs.proofs.FractionLemmas.{same-trans, shuffle}
use Rattle.poly_specs.proofs.ColumnLemmas.{coordinates, point-from_coordinates}
use Rattle.run_specs.proofs.MixLemmas.{mixed, length-mixed, number-mixed, IsMix, mix-positive, rows-mixed, mixed_leg, mixed_moves, transitions-mixed, total-mixed, lead-mixed, passing-mixed}
use Rattle.poly_specs.specs.Fractions.{Fraction, IsFraction, SameFraction, difference, zero_fraction}
use Rattle.poly_specs.specs.Rows.{Point, Row, over, coordinate, SamePoint, AllHold}
use Rattle.run_specs.specs.Automaton.{Automaton, width, location_at}
use Rattle.run_specs.specs.WellFormed.{IsLocation}
use Rattle.run_specs.specs.Logs.{Sample}
use Rattle.run_specs.specs.Runs.{GapRun, Place, Run, LeadOn, IsGapRun, Continues, Follows, IsStart, IsRun, path_of, end_of, end_loc, end_point, start_point, goes_unsafe, total}
use Rattle.run_specs.specs.Histories.{History, history_of}
use Rattle.run_specs.specs.Aims.{Aim, EndsWhere, IsAimedRun}

-- ---- fractions

-- what stands between y and z, nearer to y the greater w is against x
abbrev pub mid : ℤ → ℤ → Fraction → Fraction → Fraction
mid w x y z = record {
  num = y.num *ℤ (w *ℤ z.den) +ℤ z.num *ℤ (x *ℤ y.den);
  den = y.den *ℤ (w *ℤ z.den) +ℤ z.den *ℤ (x *ℤ y.den);
}

pub gap_mix : (w x d c : ℤ) → pos 0 <ℤ w → pos 0 <ℤ x → pos 0 <ℤ d → pos 0 <ℤ c → IsMix (w *ℤ c) (x *ℤ d) d c (d *ℤ (w *ℤ c) +ℤ c *ℤ (x *ℤ d))
gap_mix w x d c hw hx hd hc =
    record { first = product_positive w c hw hc; second = product_positive x d hx hd; first_den = hd; second_den = hc; den = refl }

pub mid-den : (w x : ℤ) (y z : Fraction) → pos 0 <ℤ w → pos 0 <ℤ x → IsFraction y → IsFraction z → IsFraction (mid w x y z)
mid-den w x y z hw hx hy hz = mix-positive (gap_mix w x y.den z.den hw hx hy hz)

den_apart : (w x d c : ℤ) → d *ℤ (w *ℤ c) +ℤ c *ℤ (x *ℤ d) ≡ (w +ℤ x) *ℤ (d *ℤ c)
den_apart w x d c = simp expand (omega (arith, products))

-- one side of the cross product, without the sum of the weights
cross : (w x a d b c d' c' : ℤ) → (a *ℤ (w *ℤ c) +ℤ b *ℤ (x *ℤ d)) *ℤ (d' *ℤ c') ≡ (a *ℤ d') *ℤ ((w *ℤ c) *ℤ c') +ℤ (b *ℤ c') *ℤ ((x *ℤ d) *ℤ d')
cross w x a d b c d' c' =
    add_mul (a *ℤ (w *ℤ c)) (b *ℤ (x *ℤ d)) (d' *ℤ c')
    ∙ ap (λ z. z +ℤ (b *ℤ (x *ℤ d)) *ℤ (d' *ℤ c')) (shuffle a (w *ℤ c) d' c')
    ∙ ap (λ z. (a *ℤ d') *ℤ ((w *ℤ c) *ℤ c') +ℤ z) (ap (λ z. (b *ℤ (x *ℤ d)) *ℤ z) (mul_comm_int d' c') ∙ shuffle b (x *ℤ d) c' d')

swap_last : (w c d : ℤ) → (w *ℤ c) *ℤ d ≡ (w *ℤ d) *ℤ c
swap_last w c d = omega (arith, products)

move_out : (n u d : ℤ) → n *ℤ (u *ℤ d) ≡ u *ℤ (n *ℤ d)
move_out n u d = omega (arith, products)

pub mid-same : (w x : ℤ) (y z y' z' : Fraction) → SameFraction y y' → SameFraction z z' → SameFraction (mid w x y z) (mid w x y' z')
mid-same w x y z y' z' e f =
    let n : ℤ = (mid w x y z).num in
    let n' : ℤ = (mid w x y' z').num in
    let apart : n *ℤ (y'.den *ℤ z'.den) ≡ n' *ℤ (y.den *ℤ z.den) =
    cross w x y.num y.den z.num z.den y'.den z'.den
    ∙ ap (λ u. u *ℤ ((w *ℤ z.den) *ℤ z'.den) +ℤ (z.num *ℤ z'.den) *ℤ ((x *ℤ y.den) *ℤ y'.den)) e
    ∙ ap (λ u. (y'.num *ℤ y.den) *ℤ ((w *ℤ z.den) *ℤ z'.den) +ℤ u *ℤ ((x *ℤ y.den) *ℤ y'.den)) f
    ∙ ap (λ u. (y'.num *ℤ y.den) *ℤ u +ℤ (z'.num *ℤ z.den) *ℤ ((x *ℤ y.den) *ℤ y'.den)) (swap_last w z.den z'.den)
    ∙ ap (λ u. (y'.num *ℤ y.den) *ℤ ((w *ℤ z'.den) *ℤ z.den) +ℤ (z'.num *ℤ z.den) *ℤ u) (swap_last x y.den y'.den)
    ∙ sym (cross w x y'.num y'.den z'.num z'.den y.den z.den) in
    ap (λ d. n *ℤ d) (den_apart w x y'.den z'.den)
    ∙ move_out n (w +ℤ x) (y'.den *ℤ z'.den)
    ∙ ap (λ u. (w +ℤ x) *ℤ u) apart
    ∙ sym (move_out n' (w +ℤ x) (y.den *ℤ z.den))
    ∙ ap (λ d. n' *ℤ d) (sym (den_apart w x y.den z.den))

-- between v and v there is v alone
mid-alone : (w x : ℤ) (v : Fraction) → SameFraction (mid w x v v) v
mid-alone w x v = go v.num v.den (w *ℤ v.den) (x *ℤ v.den)
  where
    go : (n d k m : ℤ) → (n *ℤ k +ℤ n *ℤ m) *ℤ d ≡ n *ℤ (d *ℤ k +ℤ d *ℤ m)
    go n d k m = simp expand (omega (arith, products))

pub mid-of_same : (w x : ℤ) (y z v : Fraction) → pos 0 <ℤ w → pos 0 <ℤ x → IsFraction y → IsFraction z → IsFraction v → SameFraction y v → SameFraction z v → SameFraction (mid w x y z) v
mid-of_same w x y z v hw hx hy hz hv e f =
    same-trans (mid w x y z) (mid w x v v) v (mid-den w x y z hw hx hy hz) (mid-den w x v v hw hx hv hv) hv (mid-same w x y z v v e f) (mid-alone w x v)

-- ---- points and places

abbrev pub mixed_point : ℤ → ℤ → Point → Point → Point
mixed_point w x p q = over (p.den *ℤ (w *ℤ q.den) +ℤ q.den *ℤ (x *ℤ p.den)) (mixed (w *ℤ q.den) (x *ℤ p.den) p.num q.num)

coordinate-mixed : (w x : ℤ) (p q : Point) → length p.num ≡ length q.num → (j : ℕ) → coordinate j (mixed_point w x p q) ≡ mid w x (coordinate j p) (coordinate j q)
coordinate-mixed w x p q l j = λ i. record { num = number-mixed (w *ℤ q.den) (x *ℤ p.den) p.num q.num l j i; den = p.den *ℤ (w *ℤ q.den) +ℤ q.den *ℤ (x *ℤ p.den) }

point-mixed : (n : ℕ) (w x : ℤ) (p q p' q' : Point) → length p.num ≡ n → length q.num ≡ n → length p'.num ≡ n → length q'.num ≡ n → SamePoint p p' → SamePoint q q' →
    SamePoint (mixed_point w x p q) (mixed_point w x p' q')
point-mixed n w x p q p' q' lp lq lp' lq' e f =
    point-from_coordinates (mixed_point w x p q) (mixed_point w x p' q')
    (length-mixed (w *ℤ q.den) (x *ℤ p.den) p.num q.num (lp ∙ sym lq) ∙ lp ∙ sym lp' ∙ sym (length-mixed (w *ℤ q'.den) (x *ℤ p'.den) p'.num q'.num (lp' ∙ sym lq')))
    (λ j h. subst (λ y. SameFraction y (coordinate j (mixed_point w x p' q'))) (sym (coordinate-mixed w x p q (lp ∙ sym lq) j))
    (subst (λ y. SameFraction (mid w x (coordinate j p) (coordinate j q)) y) (sym (coordinate-mixed w x p' q' (lp' ∙ sym lq') j))
    (mid-same w x (coordinate j p) (coordinate j q) (coordinate j p') (coordinate j q') (coordinates p p' e j) (coordinates q q' f j))))

pub length-same_point : (p q : Point) → SamePoint p q → length p.num ≡ length q.num
length-same_point p q e = sym (length-map p.num (λ n. n *ℤ q.den)) ∙ ap length e ∙ length-map q.num (λ n. n *ℤ p.den)

abbrev pub mixed_place : ℤ → ℤ → Place → Place → Place
mixed_place w x p q = record { loc = p.loc; point = mixed_point w x p.point q.point }

-- ---- gap runs

abbrev pub mixed_gap : ℤ → ℤ → GapRun → GapRun → GapRun
mixed_gap w x g h = record {
  den = g.den *ℤ (w *ℤ h.den) +ℤ h.den *ℤ (x *ℤ g.den);
  start_loc = g.start_loc;
  start = mixed (w *ℤ h.den) (x *ℤ g.den) g.start h.start;
  moves = mixed_moves (w *ℤ h.den) (x *ℤ g.den) g.moves h.moves;
  last = mixed_leg (w *ℤ h.den) (x *ℤ g.den) g.last h.last;
}

abbrev pub mixed_gaps : ℤ → ℤ → List GapRun → List GapRun → List GapRun
mixed_gaps w x [] hs = []
mixed_gaps w x (g ∷ gs) [] = []
mixed_gaps w x (g ∷ gs) (h ∷ hs) = mixed_gap w x g h ∷ mixed_gaps w x gs hs

-- the weights, and an automaton whose locations are as they ought to be
pub record IsMixing (a : Automaton) (w x : ℤ) : Type 0 where
  pub first : pos 0 <ℤ w
  pub second : pos 0 <ℤ x
  pub locations : All (IsLocation (width a)) a.locations

lasts-mixed : (k m t s d c n b : ℤ) → t *ℤ b ≡ n *ℤ d → s *ℤ b ≡ n *ℤ c → (t *ℤ k +ℤ s *ℤ m) *ℤ b ≡ n *ℤ (d *ℤ k +ℤ c *ℤ m)
lasts-mixed k m t s d c n b e f =
    let one : (t *ℤ k +ℤ s *ℤ m) *ℤ b ≡ (t *ℤ b) *ℤ k +ℤ (s *ℤ b) *ℤ m = simp expand (omega (arith, products)) in
    let two : n *ℤ (d *ℤ k +ℤ c *ℤ m) ≡ (n *ℤ d) *ℤ k +ℤ (n *ℤ c) *ℤ m = simp expand (omega (arith, products)) in
    one ∙ ap (λ z. z *ℤ k +ℤ (s *ℤ b) *ℤ m) e ∙ ap (λ z. (n *ℤ d) *ℤ k +ℤ z *ℤ m) f ∙ sym two

gap_run-mixed : (a : Automaton) (w x : ℤ) (duration : Fraction) (g h : GapRun) → IsMixing a w x → length g.start ≡ width a → length h.start ≡ width a →
    g.start_loc ≡ h.start_loc → path_of g ≡ path_of h → IsGapRun a duration g → IsGapRun a duration h → IsGapRun a duration (mixed_gap w x g h)
gap_run-mixed a w x duration g h is lg lh loc same one two =
    let mix = gap_mix w x g.den h.den is.first is.second one.positive two.positive in
    let leads : LeadOn a h.den g.start_loc h.start h.moves h.last = subst (λ l. LeadOn a h.den l h.start h.moves h.last) (sym loc) two.leads in
    record {
      positive = mix-positive mix;
      leads = lead-mixed a g.start_loc g.start h.start g.moves h.moves g.last h.last mix is.locations lg lh same one.leads leads;
      lasts = ap (λ t. t *ℤ duration.den) (total-mixed (w *ℤ h.den) (x *ℤ g.den) g.moves h.moves g.last h.last same)
          ∙ lasts-mixed (w *ℤ h.den) (x *ℤ g.den) (total g.moves g.last) (total h.moves h.last) g.den h.den duration.num duration.den one.lasts two.lasts;
    }

path-mixed : (w x : ℤ) (g h : GapRun) → path_of g ≡ path_of h → path_of (mixed_gap w x g h) ≡ path_of g
path-mixed w x g h same = transitions-mixed (w *ℤ h.den) (x *ℤ g.den) g.moves h.moves same

-- ---- runs

-- the places are in one location, and their points are points of the automaton
pub record ArePlaces (a : Automaton) (p q : Place) : Type 0 where
  pub loc : p.loc ≡ q.loc
  pub first : length p.point.num ≡ width a
  pub second : length q.point.num ≡ width a
  pub first_den : pos 0 <ℤ p.point.den
  pub second_den : pos 0 <ℤ q.point.den

-- two gap runs along one path, from points of the automaton
pub record IsAlike (a : Automaton) (g h : GapRun) : Type 0 where
  pub loc : g.start_loc ≡ h.start_loc
  pub path : path_of g ≡ path_of h
  pub first_start : length g.start ≡ width a
  pub second_start : length h.start ≡ width a
  pub first_end : length g.last.at_end ≡ width a
  pub second_end : length h.last.at_end ≡ width a
  pub first_den : pos 0 <ℤ g.den
  pub second_den : pos 0 <ℤ h.den
  pub first_leads : LeadOn a g.den g.start_loc g.start g.moves g.last
  pub second_leads : LeadOn a h.den h.start_loc h.start h.moves h.last

alike : (a : Automaton) (k : ℕ) (p q : Place) (duration : Fraction) (s : Sample) (g h : GapRun) → ArePlaces a p q → path_of g ≡ path_of h →
    Continues a k p duration s g → Continues a k q duration s h → IsAlike a g h
alike a k p q duration s g h places same one two = record {
  loc = one.same_loc ∙ places.loc ∙ sym two.same_loc;
  path = same;
  first_start = length-same_point (start_point g) p.point one.same_point ∙ places.first;
  second_start = length-same_point (start_point h) q.point two.same_point ∙ places.second;
  first_end = one.passes.sized;
  second_end = two.passes.sized;
  first_den = one.gap_run.positive;
  second_den = two.gap_run.positive;
  first_leads = one.gap_run.leads;
  second_leads = two.gap_run.leads;
}

after : (a : Automaton) (g h : GapRun) → IsAlike a g h → ArePlaces a (end_of a g) (end_of a h)
after a g h is = record {
  loc = ap (λ l. end_loc a l (path_of g)) is.loc ∙ ap (λ w. end_loc a h.start_loc w) is.path;
  first = is.first_end;
  second = is.second_end;
  first_den = is.first_den;
  second_den = is.second_den;
}

continues-mixed : (a : Automaton) (k : ℕ) (w x : ℤ) (p q : Place) (duration : Fraction) (s : Sample) (g h : GapRun) → IsMixing a w x → ArePlaces a p q → path_of g ≡ path_of h →
    Continues a k p duration s g → Continues a k q duration s h → Continues a k (mixed_place w x p q) duration s (mixed_gap w x g h)
continues-mixed a k w x p q duration s g h is places same one two =
    let like = alike a k p q duration s g h places same one two in
    let mix = gap_mix w x g.den h.den is.first is.second like.first_den like.second_den in
    record {
      same_loc = one.same_loc;
      same_point = point-mixed (width a) w x (start_point g) (start_point h) p.point q.point like.first_start like.second_start places.first places.second one.same_point two.same_point;
      few = omega (arith, one.few, same_length);
      gap_run = gap_run-mixed a w x duration g h is like.first_start like.second_start like.loc same one.gap_run two.gap_run;
      passes = passing-mixed a s.cells g.last.at_end h.last.at_end mix one.passes two.passes;
    }
  where
    same_length : length (mixed_gap w x g h).moves ≡ length g.moves
    same_length =
        sym (length-map (mixed_gap w x g h).moves (λ m. m.transition)) ∙ ap length (path-mixed w x g h same) ∙ length-map g.moves (λ m. m.transition)

paths_head : (g h : GapRun) (gs hs : List GapRun) → map path_of (g ∷ gs) ≡ map path_of (h ∷ hs) → path_of g ≡ path_of h
paths_head g h gs hs e = cc

paths_tail : (g h : GapRun) (gs hs : List GapRun) → map path_of (g ∷ gs) ≡ map path_of (h ∷ hs) → map path_of gs ≡ map path_of hs
paths_tail g h gs hs e = cc

pub all_alike : (a : Automaton) (k : ℕ) (p q : Place) (t : Fraction) (ss : List Sample) (gs hs : List GapRun) → ArePlaces a p q → map path_of gs ≡ map path_of hs →
    Follows a k p t ss gs → Follows a k q t ss hs → AllZip (IsAlike a) gs hs
all_alike a k p q t [] [] [] places same one two = tt
all_alike a k p q t [] [] (h ∷ hs) places same one two = absurd two
all_alike a k p q t [] (g ∷ gs) hs places same one two = absurd one
all_alike a k p q t (s ∷ ss) [] hs places same one two = absurd one
all_alike a k p q t (s ∷ ss) (g ∷ gs) [] places same one two = absurd two
all_alike a k p q t (s ∷ ss) (g ∷ gs) (h ∷ hs) places same one two =
    let like = alike a k p q (difference s.time t) s g h places (paths_head g h gs hs same) one.0 two.0 in
    (like, all_alike a k (end_of a g) (end_of a h) s.time ss gs hs (after a g h like) (paths_tail g h gs hs same) one.1 two.1)

follows-mixed : (a : Automaton) (k : ℕ) (w x : ℤ) (p q : Place) (t : Fraction) (ss : List Sample) (gs hs : List GapRun) → IsMixing a w x → ArePlaces a p q → map path_of gs ≡ map path_of hs →
    Follows a k p t ss gs → Follows a k q t ss hs → Follows a k (mixed_place w x p q) t ss (mixed_gaps w x gs hs)
follows-mixed a k w x p q t [] [] [] is places same one two = tt
follows-mixed a k w x p q t [] [] (h ∷ hs) is places same one two = absurd two
follows-mixed a k w x p q t [] (g ∷ gs) hs is places same one two = absurd one
follows-mixed a k w x p q t (s ∷ ss) [] hs is places same one two = absurd one
follows-mixed a k w x p q t (s ∷ ss) (g ∷ gs) [] is places same one two = absurd two
follows-mixed a k w x p q t (s ∷ ss) (g ∷ gs) (h ∷ hs) is places same one two =
    let path = paths_head g h gs hs same in
    let like = alike a k p q (difference s.time t) s g h places path one.0 two.0 in
    let rest = follows-mixed a k w x (end_of a g) (end_of a h) s.time ss gs hs is (after a g h like) (paths_tail g h gs hs same) one.1 two.1 in
    let here : mixed_place w x (end_of a g) (end_of a h) ≡ end_of a (mixed_gap w x g h) =
    λ i. record { loc = end_loc a g.start_loc (sym (path-mixed w x g h path) i); point = mixed_point w x (end_point g) (end_point h) } in
    (continues-mixed a k w x p q (difference s.time t) s g h is places path one.0 two.0, subst (λ place. Follows a k place s.time ss (mixed_gaps w x gs hs)) here rest)

abbrev pub mixed_run : ℤ → ℤ → Run → Run → Run
mixed_run w x r s = record { start = mixed_place w x r.start s.start; gaps = mixed_gaps w x r.gaps s.gaps }

pub start_places : (a : Automaton) (r s : Run) → history_of r ≡ history_of s → IsStart a r.start → IsStart a s.start → ArePlaces a r.start s.start
start_places a r s same one two = record {
  loc = ap (λ (h : History). h.start) same;
  first = one.sized;
  second = two.sized;
  first_den = one.positive;
  second_den = two.positive;
}

both_some : {A : Type 0} (o : Option A) (P Q R : A → Type 0) → ((y : A) → P y → Q y → R y) → IsSomeAnd o P → IsSomeAnd o Q → IsSomeAnd o R
both_some None P Q R f h g = absurd h
both_some (Some y) P Q R f h g = f y h g

start-mixed : (a : Automaton) (w x : ℤ) (p q : Place) → IsMixing a w x → ArePlaces a p q → IsStart a p → IsStart a q → IsStart a (mixed_place w x p q)
start-mixed a w x p q is places one two =
    let mix = gap_mix w x p.point.den q.point.den is.first is.second places.first_den places.second_den in
    record {
      positive = mix-positive mix;
      sized = length-mixed (w *ℤ q.point.den) (x *ℤ p.point.den) p.point.num q.point.num (places.first ∙ sym places.second) ∙ places.first;
      allowed = both_some (location_at a p.loc).init (λ init. AllHold init p.point) (λ init. AllHold init q.point) (λ init. AllHold init (mixed_point w x p.point q.point))
          (λ init h g. rows-mixed init p.point.num q.point.num mix (places.first ∙ sym places.second) h g)
          one.allowed (subst (λ l. IsSomeAnd (location_at a l).init (λ init. AllHold init q.point)) (sym places.loc) two.allowed);
    }

pub run-mixed : (a : Automaton) (k : ℕ) (w x : ℤ) (ss : List Sample) (r s : Run) → IsMixing a w x → history_of r ≡ history_of s → IsRun a k ss r → IsRun a k ss s →
    IsRun a k ss (mixed_run w x r s)
run-mixed a k w x ss r s is same one two =
    let places = start_places a r s same one.starts two.starts in
    record {
      starts = start-mixed a w x r.start s.start is places one.starts two.starts;
      follows = follows-mixed a k w x r.start s.start zero_fraction ss r.gaps s.gaps is places (ap (λ (h : History). h.paths) same) one.follows two.follows;
    }

paths-mixed : (w x : ℤ) (gs hs : List GapRun) → map path_of gs ≡ map path_of hs → map path_of (mixed_gaps w x gs hs) ≡ map path_of gs
paths-mixed w x [] hs same = refl
paths-mixed w x (g ∷ gs) [] same = absurd (let b : ⊥ = cc in b)
paths-mixed w x (g ∷ gs) (h ∷ hs) same =
    let a = path-mixed w x g h (paths_head g h gs hs same) in let b = paths-mixed w x gs hs (paths_tail g h gs hs same) in cc

pub history-mixed : (w x : ℤ) (r s : Run) → history_of r ≡ history_of s → history_of (mixed_run w x r s) ≡ history_of r
history-mixed w x r s same = λ i. record { start = r.start.loc; paths = paths-mixed w x r.gaps s.gaps (ap (λ (h : History). h.paths) same) i }

unsafe-mixed : (a : Automaton) (w x : ℤ) (gs hs : List GapRun) → map path_of gs ≡ map path_of hs →
    list_any (λ g. goes_unsafe a g.start_loc (path_of g)) (mixed_gaps w x gs hs) ≡ list_any (λ g. goes_unsafe a g.start_loc (path_of g)) gs
unsafe-mixed a w x [] hs same = refl
unsafe-mixed a w x (g ∷ gs) [] same = absurd (let b : ⊥ = cc in b)
unsafe-mixed a w x (g ∷ gs) (h ∷ hs) same =
    let here = ap (λ path. goes_unsafe a g.start_loc path) (path-mixed w x g h (paths_head g h gs hs same)) in
    let rest = unsafe-mixed a w x gs hs (paths_tail g h gs hs same) in cc

ends-mixed : (a : Automaton) (w x : ℤ) (rows : List Row) (gs hs : List GapRun) → IsMixing a w x → AllZip (IsAlike a) gs hs → EndsWhere rows gs → EndsWhere rows hs →
    EndsWhere rows (mixed_gaps w x gs hs)
ends-mixed a w x rows [] hs is like one two = absurd one
ends-mixed a w x rows (g ∷ gs) [] is like one two = absurd two
ends-mixed a w x rows (g ∷ []) (h ∷ []) is like one two =
    rows-mixed rows g.last.at_end h.last.at_end (gap_mix w x g.den h.den is.first is.second like.0.first_den like.0.second_den) (like.0.first_end ∙ sym like.0.second_end) one two
ends-mixed a w x rows (g ∷ []) (h ∷ h' ∷ hs) is like one two = absurd like.1
ends-mixed a w x rows (g ∷ g' ∷ gs) (h ∷ []) is like one two = absurd like.1
ends-mixed a w x rows (g ∷ g' ∷ gs) (h ∷ h' ∷ hs) is like one two = ends-mixed a w x rows (g' ∷ gs) (h' ∷ hs) is like.1 one two

pub runs_alike : (a : Automaton) (k : ℕ) (ss : List Sample) (r s : Run) → history_of r ≡ history_of s → IsRun a k ss r → IsRun a k ss s → AllZip (IsAlike a) r.gaps s.gaps
runs_alike a k ss r s same one two =
    all_alike a k r.start s.start zero_fraction ss r.gaps s.gaps (start_places a r s same one.starts two.starts) (ap (λ (h : History). h.paths) same) one.follows two.follows

pub aimed-mixed : (a : Automaton) (k : ℕ) (w x : ℤ) (ss : List Sample) (aim : Aim) (r s : Run) → IsMixing a w x → history_of r ≡ history_of s →
    IsAimedRun a k ss aim r → IsAimedRun a k ss aim s → IsAimedRun a k ss aim (mixed_run w x r s)
aimed-mixed a k w x ss aim r s is same one two = record {
  run_of = run-mixed a k w x ss r s is same one.run_of two.run_of;
  meets = record {
    visits = λ t. Any-from_list_any (λ g. goes_unsafe a g.start_loc (path_of g)) (mixed_gaps w x r.gaps s.gaps)
        (unsafe-mixed a w x r.gaps s.gaps (ap (λ (h : History). h.paths) same) ∙ list_any-from_Any (λ g. goes_unsafe a g.start_loc (path_of g)) r.gaps (one.meets.visits t));
    ends = ends-mixed a w x aim.rows r.gaps s.gaps is (runs_alike a k ss r s same one.run_of two.run_of) one.meets.ends two.meets.ends;
  };
}
