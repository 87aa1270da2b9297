-- Tests that compute whether literals are runs.
use Rattle.std.proofs.Common.{◌≡◌, ℕ, zero, suc, subst, arith, List, [], ◌∷◌, ◌++◌, length, get_or, refl, ℤ, pos, negsuc, ◌*ℤ◌, ◌≤ℤ◌, ◌<ℤ◌, Bool, true, false, T, ◌&&◌, Option, Some, None, lit≤}
use Rattle.std.specs.Prelude.{int_le, int_lt, ◌==◌, nat_le, IsSomeAnd}
use Rattle.std.specs.List.{list_all}
use Rattle.std.proofs.lemmas.Int.{ints}
use Rattle.std.proofs.lemmas.Bool.{eqb-true}
use Rattle.std.proofs.lemmas.List.Elements.{All-nil, All-cons}
use Rattle.poly_specs.specs.Lists.{minus, scaled, number_at}
use Rattle.poly_specs.specs.Fractions.{Fraction, DifferAtMost, difference, zero_fraction}
use Rattle.poly_specs.specs.Rows.{Row, Point, over, row_value, Allows, Holds, AllHold}
use Rattle.run_specs.specs.Automaton.{Location, Automaton, width, location_at, transition_at}
use Rattle.run_specs.specs.Logs.{Sample, IsPassing}
use Rattle.run_specs.specs.Runs.{Leg, Move, GapRun, Place, Run, IsLeg, IsJump, LeadOn, Continues, Follows, IsRun, start_point, end_point, end_of, total}

pub and_out : (a b : Bool) → T (a && b) → T a × T b
and_out true b h = (tt, h)
and_out false b h = absurd h

-- ---- numbers

abbrev same_int : ℤ → ℤ → Bool
same_int x y = int_le x y && int_le y x

same_int_from : (x y : ℤ) → T (same_int x y) → x ≡ y
same_int_from x y h =
    let b = and_out (int_le x y) (int_le y x) h in
    let p : x ≤ℤ y = record { le = b.0 } in
    let q : y ≤ℤ x = record { le = b.1 } in omega (arith, ints)

abbrev same_ints : List ℤ → List ℤ → Bool
same_ints [] [] = true
same_ints [] (y ∷ ys) = false
same_ints (x ∷ xs) [] = false
same_ints (x ∷ xs) (y ∷ ys) = same_int x y && same_ints xs ys

same_ints_from : (xs ys : List ℤ) → T (same_ints xs ys) → xs ≡ ys
same_ints_from [] [] h = refl
same_ints_from [] (y ∷ ys) h = absurd h
same_ints_from (x ∷ xs) [] h = absurd h
same_ints_from (x ∷ xs) (y ∷ ys) h =
    let b = and_out (same_int x y) (same_ints xs ys) h in
    let p = same_int_from x y b.0 in let q = same_ints_from xs ys b.1 in cc

pub same_nat_from : (m n : ℕ) → T (m == n) → m ≡ n
same_nat_from m n h = eqb-true m n (true_from (m == n) h)
  where
    true_from : (b : Bool) → T b → b ≡ true
    true_from true h = refl
    true_from false h = absurd h

-- ---- rows

abbrev allows_test : Bool → ℤ → Bool
allows_test true v = int_lt v (pos 0)
allows_test false v = int_le v (pos 0)

abbrev pub holds_test : List Row → Point → Bool
holds_test rows p = list_all (λ r. allows_test r.strict (row_value r p)) rows

allows_from : (s : Bool) (v : ℤ) → T (allows_test s v) → Allows s v
allows_from true v h = record { lt = h }
allows_from false v h = record { le = h }

pub holds_from : (rows : List Row) (p : Point) → T (holds_test rows p) → AllHold rows p
holds_from [] p h = All-nil (λ r. Holds r p)
holds_from (r ∷ rows) p h =
    let b = and_out (allows_test r.strict (row_value r p)) (holds_test rows p) h in
    All-cons (λ r. Holds r p) r rows (allows_from r.strict (row_value r p) b.0) (holds_from rows p b.1)

-- ---- legs and jumps

-- of a leg of this length: equal ends, or the slopes
abbrev moves_test : Location → ℤ → List ℤ → ℤ → List ℤ → Bool
moves_test loc d p (pos zero) q = same_ints q p
moves_test loc d p (pos (suc t)) q = holds_test loc.slopes (over d (minus q p ++ pos (suc t) ∷ []))
moves_test loc d p (negsuc t) q = false

abbrev leg_test : Location → ℤ → List ℤ → ℤ → List ℤ → Bool
leg_test loc d p t q = (length q == length p) && (holds_test loc.invariant (over d p) && (holds_test loc.invariant (over d q) && moves_test loc d p t q))

leg_from : (loc : Location) (d : ℤ) (p : List ℤ) (t : ℤ) (q : List ℤ) → T (leg_test loc d p t q) → IsLeg loc d p t q
leg_from loc d p t q h =
    let a = and_out (length q == length p) _ h in
    let b = and_out (holds_test loc.invariant (over d p)) _ a.1 in
    let c = and_out (holds_test loc.invariant (over d q)) _ b.1 in
    record {
      same_size = same_nat_from (length q) (length p) a.0;
      lasts = lasts t c.1;
      inside_before = holds_from loc.invariant (over d p) b.0;
      inside_after = holds_from loc.invariant (over d q) c.0;
      still = still t c.1;
      straight = straight t c.1;
    }
  where
    lasts : (t : ℤ) → T (moves_test loc d p t q) → pos 0 ≤ℤ t
    lasts (pos t) h = omega (arith, ints)
    lasts (negsuc t) h = absurd h

    still : (t : ℤ) → T (moves_test loc d p t q) → t ≡ pos 0 → q ≡ p
    still (pos zero) h e = same_ints_from q p h
    still (pos (suc t)) h e = absurd (omega (arith, ints, e))
    still (negsuc t) h e = absurd h

    straight : (t : ℤ) → T (moves_test loc d p t q) → pos 0 <ℤ t → AllHold loc.slopes (over d (minus q p ++ t ∷ []))
    straight (pos zero) h m = absurd (omega (arith, ints))
    straight (pos (suc t)) h m = holds_from loc.slopes (over d (minus q p ++ pos (suc t) ∷ [])) h
    straight (negsuc t) h m = absurd h

abbrev jump_test : Automaton → ℕ → ℤ → List ℤ → List ℤ → Bool
jump_test a e d p q =
    (length q == length p) && (holds_test (transition_at a e).relation (over d (p ++ q)) && holds_test (location_at a (transition_at a e).target).invariant (over d q))

jump_from : (a : Automaton) (e : ℕ) (d : ℤ) (p q : List ℤ) → T (jump_test a e d p q) → IsJump a e d p q
jump_from a e d p q h =
    let b = and_out (length q == length p) _ h in
    let c = and_out (holds_test (transition_at a e).relation (over d (p ++ q))) _ b.1 in
    record {
      same_size = same_nat_from (length q) (length p) b.0;
      related = holds_from (transition_at a e).relation (over d (p ++ q)) c.0;
      inside_after = holds_from (location_at a (transition_at a e).target).invariant (over d q) c.1;
    }

abbrev lead_test : Automaton → ℤ → ℕ → List ℤ → List Move → Leg → Bool
lead_test a d l p [] last = leg_test (location_at a l) d p last.length_of last.at_end
lead_test a d l p (m ∷ ms) last =
    leg_test (location_at a l) d p m.leg.length_of m.leg.at_end
    && (((transition_at a m.transition).source == l)
    && (jump_test a m.transition d m.leg.at_end m.after && lead_test a d (transition_at a m.transition).target m.after ms last))

lead_from : (a : Automaton) (d : ℤ) (l : ℕ) (p : List ℤ) (ms : List Move) (last : Leg) → T (lead_test a d l p ms last) → LeadOn a d l p ms last
lead_from a d l p [] last h = leg_from (location_at a l) d p last.length_of last.at_end h
lead_from a d l p (m ∷ ms) last h =
    let x = and_out (leg_test (location_at a l) d p m.leg.length_of m.leg.at_end) _ h in
    let y = and_out ((transition_at a m.transition).source == l) _ x.1 in
    let z = and_out (jump_test a m.transition d m.leg.at_end m.after) _ y.1 in (
      leg_from (location_at a l) d p m.leg.length_of m.leg.at_end x.0,
      same_nat_from (transition_at a m.transition).source l y.0,
      jump_from a m.transition d m.leg.at_end m.after z.0,
      lead_from a d (transition_at a m.transition).target m.after ms last z.1,
    )

-- ---- samples

abbrev near_test : Fraction → Option Fraction → Fraction → Bool
near_test w None x = true
near_test w (Some v) x =
    int_le ((difference v x).num *ℤ w.den) (w.num *ℤ (difference v x).den) && int_le ((difference x v).num *ℤ w.den) (w.num *ℤ (difference x v).den)

near_from : (w : Fraction) (cell : Option Fraction) (x v : Fraction) → T (near_test w cell x) → cell ≡ Some v → DifferAtMost w v x
near_from w None x v h e = absurd (let b : ⊥ = cc in b)
near_from w (Some u) x v h e =
    let same : u ≡ v = cc in
    let b = and_out (int_le ((difference u x).num *ℤ w.den) (w.num *ℤ (difference u x).den)) _ h in
    subst (λ y. DifferAtMost w y x) same (record { le = b.0 }, record { le = b.1 })

abbrev cells_test : List Fraction → List (Option Fraction) → ℤ → List ℤ → Bool
cells_test ws [] d ns = true
cells_test [] (c ∷ cells) d ns = false
cells_test (w ∷ ws) (c ∷ cells) d [] = false
cells_test (w ∷ ws) (c ∷ cells) d (n ∷ ns) = near_test w c (record { num = n; den = d }) && cells_test ws cells d ns

cells_from : (ws : List Fraction) (cells : List (Option Fraction)) (d : ℤ) (ns : List ℤ) → T (cells_test ws cells d ns) → (j : ℕ) (v : Fraction) →
    get_or cells j None ≡ Some v → DifferAtMost (get_or ws j zero_fraction) v (record { num = number_at j ns; den = d })
cells_from ws [] d ns h j v e = absurd (let b : ⊥ = cc in b)
cells_from [] (c ∷ cells) d ns h j v e = absurd h
cells_from (w ∷ ws) (c ∷ cells) d [] h j v e = absurd h
cells_from (w ∷ ws) (c ∷ cells) d (n ∷ ns) h zero v e =
    near_from w c (record { num = n; den = d }) v (and_out (near_test w c (record { num = n; den = d })) _ h).0 e
cells_from (w ∷ ws) (c ∷ cells) d (n ∷ ns) h (suc j) v e =
    cells_from ws cells d ns (and_out (near_test w c (record { num = n; den = d })) _ h).1 j v e

abbrev passing_test : Automaton → List (Option Fraction) → Point → Bool
passing_test a cells p = (length p.num == width a) && cells_test a.obs cells p.den p.num

passing_from : (a : Automaton) (cells : List (Option Fraction)) (p : Point) → T (passing_test a cells p) → IsPassing a cells p
passing_from a cells p h =
    let b = and_out (length p.num == width a) _ h in
    record { sized = same_nat_from (length p.num) (width a) b.0; near = cells_from a.obs cells p.den p.num b.1 }

-- ---- runs

abbrev same_point_test : Point → Point → Bool
same_point_test p q = same_ints (scaled q.den p.num) (scaled p.den q.num)

abbrev gap_test : Automaton → ℕ → Place → Fraction → Sample → GapRun → Bool
gap_test a k before duration s g =
    (g.start_loc == before.loc)
    && (same_point_test (start_point g) before.point
    && (nat_le (length g.moves) k
    && (int_lt (pos 0) g.den
    && (lead_test a g.den g.start_loc g.start g.moves g.last
    && (same_int (total g.moves g.last *ℤ duration.den) (duration.num *ℤ g.den) && passing_test a s.cells (end_point g))))))

gap_from_test : (a : Automaton) (k : ℕ) (before : Place) (duration : Fraction) (s : Sample) (g : GapRun) → T (gap_test a k before duration s g) → Continues a k before duration s g
gap_from_test a k before duration s g h =
    let b = and_out (g.start_loc == before.loc) _ h in
    let c = and_out (same_point_test (start_point g) before.point) _ b.1 in
    let d = and_out (nat_le (length g.moves) k) _ c.1 in
    let e = and_out (int_lt (pos 0) g.den) _ d.1 in
    let f = and_out (lead_test a g.den g.start_loc g.start g.moves g.last) _ e.1 in
    let i = and_out (same_int (total g.moves g.last *ℤ duration.den) (duration.num *ℤ g.den)) _ f.1 in
    record {
      same_loc = same_nat_from g.start_loc before.loc b.0;
      same_point = same_ints_from (scaled before.point.den g.start) (scaled g.den before.point.num) c.0;
      few = lit≤ d.0;
      gap_run = record {
        positive = record { lt = e.0 };
        leads = lead_from a g.den g.start_loc g.start g.moves g.last f.0;
        lasts = same_int_from (total g.moves g.last *ℤ duration.den) (duration.num *ℤ g.den) i.0;
      };
      passes = passing_from a s.cells (end_point g) i.1;
    }

abbrev follows_test : Automaton → ℕ → Place → Fraction → List Sample → List GapRun → Bool
follows_test a k before t [] [] = true
follows_test a k before t [] (g ∷ gs) = false
follows_test a k before t (s ∷ ss) [] = false
follows_test a k before t (s ∷ ss) (g ∷ gs) = gap_test a k before (difference s.time t) s g && follows_test a k (end_of a g) s.time ss gs

follows_from : (a : Automaton) (k : ℕ) (before : Place) (t : Fraction) (ss : List Sample) (gs : List GapRun) → T (follows_test a k before t ss gs) → Follows a k before t ss gs
follows_from a k before t [] [] h = tt
follows_from a k before t [] (g ∷ gs) h = absurd h
follows_from a k before t (s ∷ ss) [] h = absurd h
follows_from a k before t (s ∷ ss) (g ∷ gs) h =
    let b = and_out (gap_test a k before (difference s.time t) s g) _ h in
    (gap_from_test a k before (difference s.time t) s g b.0, follows_from a k (end_of a g) s.time ss gs b.1)

abbrev init_test : Option (List Row) → Point → Bool
init_test None p = false
init_test (Some init) p = holds_test init p

init_from : (o : Option (List Row)) (p : Point) → T (init_test o p) → IsSomeAnd o (λ init. AllHold init p)
init_from None p h = absurd h
init_from (Some init) p h = holds_from init p h

abbrev pub run_test : Automaton → ℕ → List Sample → Run → Bool
run_test a k ss run =
    int_lt (pos 0) run.start.point.den
    && ((length run.start.point.num == width a)
    && (init_test (location_at a run.start.loc).init run.start.point && follows_test a k run.start zero_fraction ss run.gaps))

pub run_from : (a : Automaton) (k : ℕ) (ss : List Sample) (run : Run) → T (run_test a k ss run) → IsRun a k ss run
run_from a k ss run h =
    let b = and_out (int_lt (pos 0) run.start.point.den) _ h in
    let c = and_out (length run.start.point.num == width a) _ b.1 in
    let d = and_out (init_test (location_at a run.start.loc).init run.start.point) _ c.1 in
    record {
      starts = record {
        positive = record { lt = b.0 };
        sized = same_nat_from (length run.start.point.num) (width a) c.0;
        allowed = init_from (location_at a run.start.loc).init run.start.point d.0;
      };
      follows = follows_from a k run.start zero_fraction ss run.gaps d.1;
    }
