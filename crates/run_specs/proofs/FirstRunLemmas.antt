-- A log has at most one first run.
use Rattle.std.proofs.Common.{◌≡◌, inl, inr, ℕ, zero, suc, ◌<◌, ◌≤◌, List, [], ◌∷◌, ◌++◌, length, length-append, take, get_or, refl, sym, ◌∙◌, ap, subst, arith, ℤ, pos, ◌*ℤ◌}
use Rattle.std.specs.Prelude.{All}
use Rattle.std.specs.List.{AllZip}
use Rattle.std.proofs.lemmas.List.Elements.{All-head, All-tail}
use Rattle.poly_specs.proofs.LinearLemmas.{SamePoint-trans}
use Rattle.poly_specs.proofs.FractionLemmas.{same-trans}
use Rattle.poly_specs.proofs.PickLemmas.{unique, pick-alike}
use Rattle.poly_specs.proofs.PrimitiveLemmas.{one_spelling}
use Rattle.run_specs.proofs.HistoryLemmas.{one_earlier}
use Rattle.run_specs.proofs.MixLemmas.{transitions}
use Rattle.run_specs.proofs.MixRuns.{IsAlike, runs_alike}
use Rattle.run_specs.proofs.PickedLemmas.{AllFractions, before_numbers, last_numbers, picked_numbers, left_interval}
use Rattle.poly_specs.specs.Lists.{scaled}
use Rattle.poly_specs.specs.Fractions.{Fraction, SameFraction, fractions, zero_fraction}
use Rattle.poly_specs.specs.Rows.{SamePoint}
use Rattle.run_specs.specs.Automaton.{Automaton, width, transition_at}
use Rattle.run_specs.specs.WellFormed.{IsWellFormed}
use Rattle.run_specs.specs.Logs.{Sample}
use Rattle.run_specs.specs.Runs.{Leg, Move, GapRun, Place, Run, LeadOn, Follows, start_point, end_point, end_of}
use Rattle.run_specs.specs.Histories.{History, history_of}
use Rattle.run_specs.specs.Aims.{Aim, EndsWhere, IsAimedRun}
use Rattle.run_specs.specs.FirstRun.{backwards, numbers_before, last_values, picked, pick_at, IsLeft, IsReduced, IsFirstRun}

-- ---- lists of fractions

AllZip-trans : (i : ℕ) (xs ys zs : List Fraction) → AllFractions xs → AllFractions ys → AllFractions zs →
    AllZip SameFraction (take i xs) (take i ys) → AllZip SameFraction (take i ys) (take i zs) → AllZip SameFraction (take i xs) (take i zs)
AllZip-trans zero xs ys zs hx hy hz e f = tt
AllZip-trans (suc i) [] [] [] hx hy hz e f = tt
AllZip-trans (suc i) [] [] (z ∷ zs) hx hy hz e f = absurd f
AllZip-trans (suc i) [] (y ∷ ys) zs hx hy hz e f = absurd e
AllZip-trans (suc i) (x ∷ xs) [] zs hx hy hz e f = absurd e
AllZip-trans (suc i) (x ∷ xs) (y ∷ ys) [] hx hy hz e f = absurd f
AllZip-trans (suc i) (x ∷ xs) (y ∷ ys) (z ∷ zs) hx hy hz e f =
    (same-trans x y z hx.0 hy.0 hz.0 e.0 f.0, AllZip-trans i xs ys zs hx.1 hy.1 hz.1 e.1 f.1)

AllZip-swap : (i : ℕ) (xs ys : List Fraction) → AllZip SameFraction (take i xs) (take i ys) → AllZip SameFraction (take i ys) (take i xs)
AllZip-swap zero xs ys e = tt
AllZip-swap (suc i) [] [] e = tt
AllZip-swap (suc i) [] (y ∷ ys) e = absurd e
AllZip-swap (suc i) (x ∷ xs) [] e = absurd e
AllZip-swap (suc i) (x ∷ xs) (y ∷ ys) e = (sym e.0, AllZip-swap i xs ys e.1)

one_more : (i : ℕ) (xs ys : List Fraction) → i < length xs → i < length ys → AllZip SameFraction (take i xs) (take i ys) →
    SameFraction (get_or xs i zero_fraction) (get_or ys i zero_fraction) → AllZip SameFraction (take (suc i) xs) (take (suc i) ys)
one_more i [] ys h g e f = absurd (omega arith)
one_more i (x ∷ xs) [] h g e f = absurd (omega arith)
one_more zero (x ∷ xs) (y ∷ ys) h g e f = (f, tt)
one_more (suc i) (x ∷ xs) (y ∷ ys) h g e f = (e.0, one_more i xs ys (omega arith) (omega arith) e.1 f)

take_whole : (xs : List Fraction) → take (length xs) xs ≡ xs
take_whole [] = refl
take_whole (x ∷ xs) = ap (λ ns. x ∷ ns) (take_whole xs)

pub AllZip-split : (xs ys us vs : List Fraction) → length xs ≡ length ys → AllZip SameFraction (xs ++ us) (ys ++ vs) → AllZip SameFraction xs ys × AllZip SameFraction us vs
AllZip-split [] [] us vs l e = (tt, e)
AllZip-split [] (y ∷ ys) us vs l e = absurd (omega arith)
AllZip-split (x ∷ xs) [] us vs l e = absurd (omega arith)
AllZip-split (x ∷ xs) (y ∷ ys) us vs l e = let r = AllZip-split xs ys us vs (omega arith) e.1 in ((e.0, r.0), r.1)

-- ---- the numbers that are picked

history_same : (a : Automaton) (k : ℕ) (ss : List Sample) (aim : Aim) (r s : Run) → IsFirstRun a k ss aim r → IsFirstRun a k ss aim s → history_of r ≡ history_of s
history_same a k ss aim r s one two = elim (one_earlier (history_of r) (history_of s)) [
  | inl e ↦ absurd (two.earliest r one.aimed e)
  | inr (inl e) ↦ e
  | inr (inr e) ↦ absurd (one.earliest s two.aimed e)
]

-- what is left for a number does not depend on which of two runs that agree so far is looked at
left_alike : (a : Automaton) (k : ℕ) (ss : List Sample) (aim : Aim) (r s : Run) (i : ℕ) (v : Fraction) → history_of s ≡ history_of r → IsAimedRun a k ss aim r → IsAimedRun a k ss aim s →
    AllZip SameFraction (take i (picked s)) (take i (picked r)) → IsLeft a k ss aim s i v → IsLeft a k ss aim r i v
left_alike a k ss aim r s i v history one two same (other, t) =
    let n = picked_numbers a (pos 1) (pos 1) other s (runs_alike a k ss other s t.same_history t.aimed.run_of two.run_of) in
    let m = picked_numbers a (pos 1) (pos 1) s r (runs_alike a k ss s r history two.run_of one.run_of) in (
      other,
      record {
        aimed = t.aimed;
        same_history = t.same_history ∙ history;
        same_numbers = AllZip-trans i (picked other) (picked s) (picked r) n.first n.second m.second t.same_numbers same;
        value = t.value;
      },
    )

agree : (a : Automaton) (k : ℕ) (ss : List Sample) (aim : Aim) (r s : Run) (i : ℕ) → IsWellFormed a → IsFirstRun a k ss aim r → IsFirstRun a k ss aim s → i ≤ length (picked r) →
    AllZip SameFraction (take i (picked r)) (take i (picked s))
agree a k ss aim r s zero wf one two h = tt
agree a k ss aim r s (suc i) wf one two h =
    let history = history_same a k ss aim r s one two in
    let long = (picked_numbers a (pos 1) (pos 1) r s (runs_alike a k ss r s history one.aimed.run_of two.aimed.run_of)).long in
    let so_far = agree a k ss aim r s i wf one two (omega arith) in
    let first : i < length (picked r) = omega arith in
    let second : i < length (picked s) = omega (arith, long) in
    let there = pick-alike {S = IsLeft a k ss aim s i} {T = IsLeft a k ss aim r i}
    (λ v. left_alike a k ss aim r s i v (sym history) one.aimed two.aimed (AllZip-swap i (picked r) (picked s) so_far))
    (λ v. left_alike a k ss aim s r i v history two.aimed one.aimed so_far) (pick_at i s) (two.picks i second) in
    one_more i (picked r) (picked s) first second so_far
    (unique (pick_at i r) (pick_at i s) (left_interval a k ss aim r i wf one.aimed first) (one.picks i first) there)

pub all_agree : (a : Automaton) (k : ℕ) (ss : List Sample) (aim : Aim) (r s : Run) → IsWellFormed a → IsFirstRun a k ss aim r → IsFirstRun a k ss aim s → AllZip SameFraction (picked r) (picked s)
all_agree a k ss aim r s wf one two =
    let history = history_same a k ss aim r s one two in
    let long = (picked_numbers a (pos 1) (pos 1) r s (runs_alike a k ss r s history one.aimed.run_of two.aimed.run_of)).long in
    let all = agree a k ss aim r s (length (picked r)) wf one two (omega arith) in
    let first : take (length (picked r)) (picked r) ≡ picked r = take_whole (picked r) in
    let second : take (length (picked r)) (picked s) ≡ picked s = ap (λ n. take n (picked s)) long ∙ take_whole (picked s) in
    subst (λ ys. AllZip SameFraction (picked r) ys) second (subst (λ xs. AllZip SameFraction xs (take (length (picked r)) (picked s))) first all)

-- ---- gap runs from their numbers

pub scaled_same : (d c : ℤ) (ns ms : List ℤ) → AllZip SameFraction (fractions d ns) (fractions c ms) → scaled c ns ≡ scaled d ms
scaled_same d c [] [] e = refl
scaled_same d c [] (m ∷ ms) e = absurd e
scaled_same d c (n ∷ ns) [] e = absurd e
scaled_same d c (n ∷ ns) (m ∷ ms) e = let a : n *ℤ c ≡ m *ℤ d = e.0 in let b = scaled_same d c ns ms e.1 in cc

pub scaled-append : (c : ℤ) (ns ms : List ℤ) → scaled c (ns ++ ms) ≡ scaled c ns ++ scaled c ms
scaled-append c [] ms = refl
scaled-append c (n ∷ ns) ms = ap (λ xs. (n *ℤ c) ∷ xs) (scaled-append c ns ms)

pub split_same : (ps qs us vs : List ℤ) → length ps ≡ length qs → ps ++ us ≡ qs ++ vs → (ps ≡ qs) × (us ≡ vs)
split_same [] [] us vs l e = (refl, e)
split_same [] (q ∷ qs) us vs l e = absurd (omega arith)
split_same (p ∷ ps) [] us vs l e = absurd (omega arith)
split_same (p ∷ ps) (q ∷ qs) us vs l e =
    let head : p ≡ q = cc in
    let tail : ps ++ us ≡ qs ++ vs = cc in
    let r = split_same ps qs us vs (omega arith) tail in
    let rest : ps ≡ qs = r.0 in (cc, r.1)

-- the same numbers come from the same start, lengths and values
record AreSame (p u : List ℤ) (ms ns : List Move) (f g : Leg) : Type 0 where
  start : p ≡ u
  moves : ms ≡ ns
  lasts : f.length_of ≡ g.length_of

decoded : (a : Automaton) (n : ℕ) (d c : ℤ) (l j : ℕ) (p u : List ℤ) (ms ns : List Move) (f g : Leg) → length p ≡ n → length u ≡ n → transitions ms ≡ transitions ns →
    LeadOn a d l p ms f → LeadOn a c j u ns g → backwards p ms f ≡ backwards u ns g → AreSame p u ms ns f g
decoded a n d c l j p u [] [] f g lp lu t h i e = record { start = cc; moves = refl; lasts = cc }
decoded a n d c l j p u [] (z ∷ ns) f g lp lu t h i e = absurd (let b : ⊥ = cc in b)
decoded a n d c l j p u (y ∷ ms) [] f g lp lu t h i e = absurd (let b : ⊥ = cc in b)
decoded a n d c l j p u (y ∷ ms) (z ∷ ns) f g lp lu t h i e =
    let here : y.transition ≡ z.transition = cc in
    let later : transitions ms ≡ transitions ns = cc in
    let ly : length y.leg.at_end ≡ n = h.0.same_size ∙ lp in
    let lz : length z.leg.at_end ≡ n = i.0.same_size ∙ lu in
    let one = length-append (backwards y.after ms f) y.leg.at_end in
    let two = length-append (backwards z.after ns g) z.leg.at_end in
    let whole = ap length e in
    let one_whole = length-append (backwards y.after ms f ++ y.leg.at_end) (y.leg.length_of ∷ p) in
    let two_whole = length-append (backwards z.after ns g ++ z.leg.at_end) (z.leg.length_of ∷ u) in
    let s = split_same (backwards y.after ms f ++ y.leg.at_end) (backwards z.after ns g ++ z.leg.at_end) (y.leg.length_of ∷ p) (z.leg.length_of ∷ u)
    (omega (arith, whole, one_whole, two_whole, lp, lu)) e in
    let inner = split_same (backwards y.after ms f) (backwards z.after ns g) y.leg.at_end z.leg.at_end (omega (arith, whole, one_whole, two_whole, one, two, lp, lu, ly, lz)) s.0 in
    let r = decoded a n d c (transition_at a y.transition).target (transition_at a z.transition).target y.after z.after ms ns f g (h.2.same_size ∙ ly) (i.2.same_size ∙ lz) later h.3 i.3 inner.0 in
    let time : y.leg.length_of ≡ z.leg.length_of = let x : y.leg.length_of ∷ p ≡ z.leg.length_of ∷ u = s.1 in cc in
    let first : p ≡ u = let x : y.leg.length_of ∷ p ≡ z.leg.length_of ∷ u = s.1 in cc in
    let move : y ≡ z = λ k. record { leg = record { length_of = time k; at_end = inner.1 k }; transition = here k; after = r.start k } in
    record { start = first; moves = λ k. move k ∷ r.moves k; lasts = r.lasts }

gap_same : (a : Automaton) (g h : GapRun) → IsAlike a g h → IsReduced g → IsReduced h → SamePoint (end_point g) (end_point h) →
    AllZip SameFraction (fractions g.den (backwards g.start g.moves g.last)) (fractions h.den (backwards h.start h.moves h.last)) → g ≡ h
gap_same a g h is one two ends backs =
    let x : List ℤ = backwards g.start g.moves g.last in
    let y : List ℤ = backwards h.start h.moves h.last in
    let back : scaled h.den x ≡ scaled g.den y = scaled_same g.den h.den x y backs in
    let all : scaled h.den (g.last.at_end ++ x) ≡ scaled g.den (h.last.at_end ++ y) =
    scaled-append h.den g.last.at_end x ∙ ap (λ ns. ns ++ scaled h.den x) ends ∙ ap (λ ns. scaled g.den h.last.at_end ++ ns) back ∙ sym (scaled-append g.den h.last.at_end y) in
    let s = one_spelling g.den h.den (g.last.at_end ++ x) (h.last.at_end ++ y) is.first_den is.second_den one two all in
    let parts = split_same g.last.at_end h.last.at_end x y (is.first_end ∙ sym is.second_end) s.1 in
    let r = decoded a (width a) g.den h.den g.start_loc h.start_loc g.start h.start g.moves h.moves g.last h.last is.first_start is.second_start is.path is.first_leads is.second_leads parts.1 in
    λ k. record { den = s.0 k; start_loc = is.loc k; start = r.start k; moves = r.moves k; last = record { length_of = r.lasts k; at_end = parts.0 k } }

-- where the later gaps are equal, this one ends at one point in both runs
ends_same : (a : Automaton) (k : ℕ) (p q : Place) (t : Fraction) (ss : List Sample) (g h : GapRun) (gs hs : List GapRun) → AllZip (IsAlike a) (g ∷ gs) (h ∷ hs) →
    Follows a k p t ss (g ∷ gs) → Follows a k q t ss (h ∷ hs) → AllZip SameFraction (last_values (g ∷ gs)) (last_values (h ∷ hs)) → gs ≡ hs → SamePoint (end_point g) (end_point h)
ends_same a k p q t [] g h gs hs is one two last same = absurd one
ends_same a k p q t (s ∷ ss) g h [] [] is one two last same = scaled_same g.den h.den g.last.at_end h.last.at_end last
ends_same a k p q t (s ∷ ss) g h [] (h' ∷ hs) is one two last same = absurd (let b : ⊥ = cc in b)
ends_same a k p q t (s ∷ ss) g h (g' ∷ gs) [] is one two last same = absurd (let b : ⊥ = cc in b)
ends_same a k p q t (s ∷ []) g h (g' ∷ gs) (h' ∷ hs) is one two last same = absurd one.1
ends_same a k p q t (s ∷ s' ∷ ss) g h (g' ∷ gs) (h' ∷ hs) is one two last same =
    let next : g' ≡ h' = cc in
    let there : SamePoint (start_point g') (end_point h) = subst (λ x. SamePoint (start_point x) (end_point h)) (sym next) two.1.0.same_point in
    SamePoint-trans (end_point g) (start_point g') (end_point h) is.1.0.first_den (sym one.1.0.same_point) there

pub gaps_same : (a : Automaton) (k : ℕ) (p q : Place) (t : Fraction) (ss : List Sample) (gs hs : List GapRun) → AllZip (IsAlike a) gs hs →
    Follows a k p t ss gs → Follows a k q t ss hs → All IsReduced gs → All IsReduced hs →
    AllZip SameFraction (last_values gs) (last_values hs) → AllZip SameFraction (numbers_before gs) (numbers_before hs) → gs ≡ hs
gaps_same a k p q t ss [] [] is one two rg rh last before = refl
gaps_same a k p q t ss [] (h ∷ hs) is one two rg rh last before = absurd is
gaps_same a k p q t ss (g ∷ gs) [] is one two rg rh last before = absurd is
gaps_same a k p q t [] (g ∷ gs) (h ∷ hs) is one two rg rh last before = absurd one
gaps_same a k p q t (s ∷ ss) (g ∷ gs) (h ∷ hs) is one two rg rh last before =
    let long = (before_numbers a (pos 1) (pos 1) gs hs is.1).long in
    let parts = AllZip-split (numbers_before gs) (numbers_before hs) (fractions g.den (backwards g.start g.moves g.last)) (fractions h.den (backwards h.start h.moves h.last)) long before in
    let later : gs ≡ hs = gaps_same a k (end_of a g) (end_of a h) s.time ss gs hs is.1 one.1 two.1 (All-tail IsReduced g gs rg) (All-tail IsReduced h hs rh)
    (later_last gs hs last is.1) parts.0 in
    let ends = ends_same a k p q t (s ∷ ss) g h gs hs is one two last later in
    let here : g ≡ h = gap_same a g h is.0 (All-head IsReduced g gs rg) (All-head IsReduced h hs rh) ends parts.1 in
    λ i. here i ∷ later i
  where
    later_last : (gs hs : List GapRun) → AllZip SameFraction (last_values (g ∷ gs)) (last_values (h ∷ hs)) → AllZip (IsAlike a) gs hs → AllZip SameFraction (last_values gs) (last_values hs)
    later_last [] [] last is = tt
    later_last [] (h' ∷ hs) last is = absurd is
    later_last (g' ∷ gs) [] last is = absurd is
    later_last (g' ∷ gs) (h' ∷ hs) last is = last

-- ---- the first run

same_start : (a : Automaton) (k : ℕ) (ss : List Sample) (aim : Aim) (r s : Run) → IsAimedRun a k ss aim r → IsAimedRun a k ss aim s → r.gaps ≡ s.gaps → SamePoint r.start.point s.start.point
same_start a k ss aim r s one two same = go ss r.gaps s.gaps same one.meets.ends one.run_of.follows two.run_of.follows
  where
    go : (ss : List Sample) (gs hs : List GapRun) → gs ≡ hs → EndsWhere aim.rows gs →
        Follows a k r.start zero_fraction ss gs → Follows a k s.start zero_fraction ss hs → SamePoint r.start.point s.start.point
    go ss [] hs same v f1 f2 = absurd v
    go [] (g ∷ gs) hs same v f1 f2 = absurd f1
    go (s' ∷ ss) (g ∷ gs) [] same v f1 f2 = absurd f2
    go (s' ∷ ss) (g ∷ gs) (h ∷ hs) same v f1 f2 =
        let here : g ≡ h = cc in
        let there : SamePoint (start_point g) s.start.point = subst (λ x. SamePoint (start_point x) s.start.point) (sym here) f2.0.same_point in
        SamePoint-trans r.start.point (start_point g) s.start.point f1.0.gap_run.positive (sym f1.0.same_point) there

pub one_first_run : (a : Automaton) (k : ℕ) (ss : List Sample) (aim : Aim) (r s : Run) → IsWellFormed a → IsFirstRun a k ss aim r → IsFirstRun a k ss aim s →
    (r.gaps ≡ s.gaps) × (r.start.loc ≡ s.start.loc) × SamePoint r.start.point s.start.point
one_first_run a k ss aim r s wf one two =
    let history = history_same a k ss aim r s one two in
    let is = runs_alike a k ss r s history one.aimed.run_of two.aimed.run_of in
    let parts = AllZip-split (last_values r.gaps) (last_values s.gaps) (numbers_before r.gaps) (numbers_before s.gaps) (last_numbers a (pos 1) (pos 1) r.gaps s.gaps is).long (all_agree a k ss aim r s wf one two) in
    let gaps : r.gaps ≡ s.gaps = gaps_same a k r.start s.start zero_fraction ss r.gaps s.gaps is one.aimed.run_of.follows two.aimed.run_of.follows one.reduced two.reduced parts.0 parts.1 in
    (gaps, ap (λ (h : History). h.start) history, same_start a k ss aim r s one.aimed two.aimed gaps)
