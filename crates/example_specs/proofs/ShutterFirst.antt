-- The first run of the shutter, unobserved: it rests at 1/2 and jumps.
use Rattle.std.proofs.Common.{◌≡◌, inl, inr, ℕ, zero, suc, ◌<◌, ◌≤◌, Bool, true, false, List, [], ◌∷◌, length, map, take, Some, None, refl, sym, ◌∙◌, ap, subst, arith, ℤ, pos, ◌+ℤ◌, ◌*ℤ◌, ◌≤ℤ◌, ◌<ℤ◌, lit<, lit≤, unsigned_abs}
use Rattle.std.specs.Prelude.{IsSomeAnd}
use Rattle.std.specs.List.{AllZip, list_any}
use Rattle.std.specs.Int.{◌∣◌}
use Rattle.std.proofs.Math.Nat.{eq-one_of_dvd-one}
use Rattle.std.proofs.lemmas.Int.{ints}
use Rattle.std.proofs.lemmas.List.Elements.{All-from_recursion, All-head}
use Rattle.std.proofs.lemmas.List.Folds.{list_any-from_Any}
use Rattle.poly_specs.proofs.FractionLemmas.{AtMost-Below, Below-AtMost, Below-AtMost_trans, same-AtMost, same-trans}
use Rattle.poly_specs.specs.Fractions.{Fraction, IsFraction, SameFraction, Below, zero_fraction}
use Rattle.poly_specs.specs.Rows.{Point, over, Holds, AllHold}
use Rattle.poly_specs.specs.Picks.{IsPick}
use Rattle.run_specs.proofs.AimLemmas.{alarm_visit}
use Rattle.run_specs.specs.Automaton.{never, location_at, transition_at}
use Rattle.run_specs.specs.Logs.{Sample, cell_at}
use Rattle.run_specs.specs.Runs.{Leg, Move, GapRun, Place, Run, IsLeg, IsJump, LeadOn, Follows, IsStart, goes_unsafe, path_of, total}
use Rattle.run_specs.specs.Histories.{history_of, IsEarlier}
use Rattle.run_specs.specs.Aims.{IsAimedRun, to_alarm}
use Rattle.run_specs.specs.FirstRun.{picked, pick_at, IsLeft, IsReduced, IsFirstRun}
use Rattle.example_specs.proofs.TankBounds.{one_number}
use Rattle.example_specs.proofs.PickExamples.{none_inside, pick_zero, pick_only}
use Rattle.example_specs.proofs.Runs.{half_is, half_visits}
use Rattle.example_specs.proofs.ShutterBounds.{leg_keeps, jump_keeps}
use Rattle.example_specs.specs.Literals.{fraction, whole, blank, keeps_value}
use Rattle.example_specs.specs.Shutters.{shutter, strictly_inside, half_run}

abbrev log : List Sample
log = blank (whole 0) ∷ []

-- ---- the runs that rest at x over d

abbrev still : ℤ → Leg
still x = record { length_of = pos 0; at_end = x ∷ [] }

abbrev still_gap : ℤ → ℤ → GapRun
still_gap d x = record {
  den = d;
  start_loc = 0;
  start = x ∷ [];
  moves = record { leg = still x; transition = 0; after = x ∷ [] } ∷ [];
  last = still x;
}

abbrev still_run : ℤ → ℤ → Run
still_run d x = record { start = record { loc = 0; point = over d (x ∷ []) }; gaps = still_gap d x ∷ [] }

at_rest : (l : ℕ) (d x : ℤ) → AllHold (location_at shutter l).invariant (over d (x ∷ [])) → IsLeg (location_at shutter l) d (x ∷ []) (pos 0) (x ∷ [])
at_rest l d x h = record {
  same_size = refl;
  lasts = record { le = tt };
  inside_before = h;
  inside_after = h;
  still = λ _. refl;
  straight = λ m. absurd (omega (arith, ints, m));
}

no_rows : (p : Point) → AllHold [] p
no_rows p = All-from_recursion (λ r. Holds r p) [] tt

still_is : (d x : ℤ) → pos 0 <ℤ x → x <ℤ d → IsAimedRun shutter 1 log to_alarm (still_run d x)
still_is d x lo up = record {
  run_of = record {
    starts = record {
      positive = positive;
      sized = refl;
      allowed = All-from_recursion (λ r. Holds r (over d (x ∷ []))) strictly_inside (omega (arith, ints, lo), (omega (arith, ints, up), tt));
    };
    follows = (
      record {
        same_loc = refl;
        same_point = refl;
        few = lit≤ tt;
        gap_run = record {
          positive = positive;
          leads = (
            at_rest 0 d x (no_rows (over d (x ∷ []))),
            refl,
            record {
              same_size = refl;
              related = All-from_recursion (λ r. Holds r (over d (x ∷ x ∷ []))) keeps_value (omega (arith, ints), (omega (arith, ints), tt));
              inside_after = no_rows (over d (x ∷ []));
            },
            at_rest 1 d x (no_rows (over d (x ∷ []))),
          );
          lasts = omega (arith, ints);
        };
        passes = record { sized = refl; near = λ j v e. absurd (nothing j v e) };
      },
      tt,
    );
  };
  meets = (alarm_visit shutter (still_run d x)).1 (0, _, lit< tt, refl, refl);
}
  where
    positive : pos 0 <ℤ d
    positive = omega (arith, ints, lo, up)

    nothing : (j : ℕ) (v : Fraction) → cell_at j (None ∷ []) ≡ Some v → ⊥
    nothing zero v e = let b : ⊥ = cc in b
    nothing (suc j) v e = let b : ⊥ = cc in b

-- ---- each alarm run is one of them

record IsStill (run : Run) (d x : ℤ) : Type 0 where
  loc : run.start.loc ≡ 0
  gaps : run.gaps ≡ still_gap d x ∷ []
  positive : pos 0 <ℤ d
  above : pos 0 <ℤ x
  under : x <ℤ d

-- where a run starts
record StartsInside (p : Place) (x : ℤ) : Type 0 where
  loc : p.loc ≡ 0
  num : p.point.num ≡ x ∷ []
  above : pos 0 <ℤ x
  under : x <ℤ p.point.den

starts_inside : (p : Place) → IsStart shutter p → (x : ℤ) × StartsInside p x
starts_inside p s = go p.loc p.point.num refl refl s.sized s.allowed
  where
    go : (l : ℕ) (ns : List ℤ) → p.loc ≡ l → p.point.num ≡ ns → length ns ≡ 1 → IsSomeAnd (location_at shutter l).init (λ init. AllHold init (over p.point.den ns)) → (x : ℤ) × StartsInside p x
    go zero ns e f l h =
        let q = one_number ns l in
        let rows = subst (λ v. AllHold strictly_inside (over p.point.den v)) q.1 h in
        let r = rows 0 never (lit< tt) in
        let u = rows 1 never (lit< tt) in
        (q.0, record { loc = e; num = f ∙ q.1; above = omega (arith, ints, r); under = omega (arith, ints, u) })
    go (suc zero) ns e f l h = absurd h
    go (suc (suc l)) ns e f l' h = absurd h

both_zero : (t u : ℤ) → pos 0 ≤ℤ t → pos 0 ≤ℤ u → t +ℤ u ≡ pos 0 → (t ≡ pos 0) × (u ≡ pos 0)
both_zero t u h g e = (omega (arith, ints, h, g, e), omega (arith, ints, h, g, e))

-- a point that is equal to one strictly between 0 and 1
inside_again : (ps : List ℤ) (d y e : ℤ) → pos 0 <ℤ d → pos 0 <ℤ e → pos 0 <ℤ y → y <ℤ e → map (λ n. n *ℤ e) ps ≡ map (λ n. n *ℤ d) (y ∷ []) →
    (x : ℤ) × (ps ≡ x ∷ []) × (pos 0 <ℤ x) × (x <ℤ d)
inside_again [] d y e hd he lo up s = absurd (let l = ap length s in omega arith)
inside_again (x ∷ []) d y e hd he lo up s =
    let m : x *ℤ e ≡ y *ℤ d = cc in
    let p : Fraction = record { num = x; den = d } in
    let q : Fraction = record { num = y; den = e } in
    let b = same-AtMost p q m in
    let above = Below-AtMost_trans zero_fraction q p (record { lt = tt }) he hd (omega (arith, ints, lo)) b.1 in
    let under = AtMost-Below p q (whole 1) hd he (record { lt = tt }) b.0 (omega (arith, ints, up)) in
    (x, refl, omega (arith, ints, above), omega (arith, ints, under))
inside_again (x ∷ z ∷ ps) d y e hd he lo up s = absurd (let l = ap length s in omega arith)

-- a gap run from x that jumps, over d
gap_still : (d x t : ℤ) (ms : List Move) (last : Leg) → pos 0 <ℤ d → length ms ≤ 1 → goes_unsafe shutter 0 (map (λ m. m.transition) ms) ≡ true → total ms last ≡ pos 0 →
    LeadOn shutter d 0 (x ∷ []) ms last → (ms ≡ record { leg = still x; transition = 0; after = x ∷ [] } ∷ []) × (last ≡ still x)
gap_still d x t [] last hd few unsafe lasts leads = absurd (let b : ⊥ = cc in b)
gap_still d x t (m ∷ n ∷ ms) last hd few unsafe lasts leads = absurd (omega arith)
gap_still d x t (m ∷ []) last hd few unsafe lasts leads =
    let times = both_zero m.leg.length_of last.length_of leads.0.lasts leads.3.lasts lasts in
    let q = one_number m.leg.at_end leads.0.same_size in
    let end : m.leg.at_end ≡ x ∷ [] = q.1 ∙ ap (λ z. z ∷ []) (leg_keeps 0 d x m.leg.length_of q.0 hd (subst (λ z. IsLeg (location_at shutter 0) d (x ∷ []) m.leg.length_of z) q.1 leads.0)) in
    let jump = subst (λ z. IsJump shutter m.transition d z m.after) end leads.2 in
    let z = one_number m.after jump.same_size in
    let after : m.after ≡ x ∷ [] = z.1 ∙ ap (λ v. v ∷ []) (jump_keeps m.transition d x z.0 hd (subst (λ v. IsJump shutter m.transition d (x ∷ []) v) z.1 jump)) in
    let first : m.transition ≡ 0 = only m.transition (x ∷ []) m.after jump in
    let l = subst (λ v. IsLeg (location_at shutter (transition_at shutter m.transition).target) d v last.length_of last.at_end) after leads.3 in
    let y = one_number last.at_end l.same_size in
    let final : last.at_end ≡ x ∷ [] = y.1 ∙ ap (λ v. v ∷ [])
    (leg_keeps (transition_at shutter m.transition).target d x last.length_of y.0 hd (subst (λ v. IsLeg (location_at shutter (transition_at shutter m.transition).target) d (x ∷ []) last.length_of v) y.1 l)) in
    let move : m ≡ record { leg = still x; transition = 0; after = x ∷ [] } =
    λ i. record { leg = record { length_of = times.0 i; at_end = end i }; transition = first i; after = after i } in
    (λ i. move i ∷ [], λ i. record { length_of = times.1 i; at_end = final i })
  where
    only : (e : ℕ) (p q : List ℤ) → IsJump shutter e d p q → e ≡ 0
    only zero p q j = refl
    only (suc e) p q j = absurd (let n = j.related 0 never (lit< tt) in omega (arith, ints, n, hd))

still_from : (run : Run) → IsAimedRun shutter 1 log to_alarm run → (d x : ℤ) × IsStill run d x
still_from run alarm = go run.gaps refl alarm.run_of.follows (list_any-from_Any (λ g. goes_unsafe shutter g.start_loc (path_of g)) run.gaps ((alarm_visit shutter run).0 alarm.meets))
  where
    go : (gs : List GapRun) → run.gaps ≡ gs → Follows shutter 1 run.start zero_fraction log gs → list_any (λ g. goes_unsafe shutter g.start_loc (path_of g)) gs ≡ true → (d x : ℤ) × IsStill run d x
    go [] e h v = absurd h
    go (g ∷ k ∷ gs) e h v = absurd h.1
    go (g ∷ []) e h v =
        let (y, start) = starts_inside run.start alarm.run_of.starts in
        let hd = h.0.gap_run.positive in
        let there = h.0.same_point ∙ ap (λ ns. map (λ n. n *ℤ g.den) ns) start.num in
        let (x, num, above, under) = inside_again g.start g.den y run.start.point.den hd alarm.run_of.starts.positive start.above start.under there in
        let loc : g.start_loc ≡ 0 = h.0.same_loc ∙ start.loc in
        let leads = subst (λ l. LeadOn shutter g.den l (x ∷ []) g.moves g.last) loc (subst (λ ns. LeadOn shutter g.den g.start_loc ns g.moves g.last) num h.0.gap_run.leads) in
        let unsafe : goes_unsafe shutter 0 (path_of g) ≡ true = ap (λ l. goes_unsafe shutter l (path_of g)) (sym loc) ∙ or_false (goes_unsafe shutter g.start_loc (path_of g)) v in
        let lasts = h.0.gap_run.lasts in
        let none : total g.moves g.last ≡ pos 0 = omega (arith, ints, lasts) in
        let rest = gap_still g.den x (pos 0) g.moves g.last hd h.0.few unsafe none leads in (
          g.den,
          x,
          record {
            loc = start.loc;
            gaps = e ∙ (λ i. record { den = g.den; start_loc = loc i; start = num i; moves = rest.0 i; last = rest.1 i } ∷ []);
            positive = hd;
            above = above;
            under = under;
          },
        )
      where
        or_false : (b : Bool) → list_any (λ (c : Bool). c) (b ∷ []) ≡ true → b ≡ true
        or_false true e = refl
        or_false false e = e

-- ---- the picks

-- the value of a number of such a run
record Left (i : ℕ) (v : Fraction) (d x : ℤ) : Type 0 where
  positive : pos 0 <ℤ d
  above : pos 0 <ℤ x
  under : x <ℤ d
  same_numbers : AllZip SameFraction (take i (picked (still_run d x))) (take i (picked half_run))
  value : SameFraction (pick_at i (still_run d x)) v

left_from : (i : ℕ) (v : Fraction) → IsLeft shutter 1 log to_alarm half_run i v → (d x : ℤ) × Left i v d x
left_from i v (other, t) =
    let (d, x, s) = still_from other t.aimed in (
      d,
      x,
      record {
        positive = s.positive;
        above = s.above;
        under = s.under;
        same_numbers = subst (λ gs. AllZip SameFraction (take i (picked (record { start = half_run.start; gaps = gs }))) (take i (picked half_run))) s.gaps t.same_numbers;
        value = subst (λ gs. SameFraction (pick_at i (record { start = half_run.start; gaps = gs })) v) s.gaps t.value;
      },
    )

half_alarm : IsAimedRun shutter 1 log to_alarm half_run
half_alarm = record { run_of = half_is; meets = (alarm_visit shutter half_run).1 half_visits }

-- the run itself takes its own numbers
own : (i : ℕ) → AllZip SameFraction (take i (picked half_run)) (take i (picked half_run)) → IsLeft shutter 1 log to_alarm half_run i (pick_at i half_run)
own i same = (half_run, record { aimed = half_alarm; same_history = refl; same_numbers = same; value = refl })

-- a number that can be 1/2 alone
pick_half : (S : Fraction → Type 0) → S (fraction 1 2) → ((v : Fraction) → IsFraction v → S v → SameFraction v (fraction 1 2)) → IsPick S (fraction 1 2)
pick_half S s only =
    pick_only S (fraction 1 2) (record { lt = tt }) (record { lt = tt }) (record { lt = tt }) s only

-- the last value: strictly between 0 and 1
pick_last : IsPick (IsLeft shutter 1 log to_alarm half_run 0) (fraction 1 2)
pick_last = record {
  positive = record { lt = tt };
  some = (fraction 1 2, record { lt = tt }, own 0 tt);
  kind = inr (
    λ y hy s i. (let b = bounds y hy s in none_inside y hy i.0 i.1 (omega (arith, ints, b.0)) (omega (arith, ints, b.1))),
    (
      zero_fraction,
      whole 1,
      inl (
        record { le = tt },
        record {
          low_is = record { lt = tt };
          high_is = record { lt = tt };
          ordered = record { le = tt };
          outside = λ y hy s. (let b = bounds y hy s in (Below-AtMost zero_fraction y b.0, Below-AtMost y (whole 1) b.1));
          between = λ y hy a b. (
            still_run y.den y.num,
            record { aimed = still_is y.den y.num (omega (arith, ints, a)) (omega (arith, ints, b)); same_history = refl; same_numbers = tt; value = refl },
          );
        },
      ),
      inr (inr (
        λ s. (let b = bounds zero_fraction (record { lt = tt }) s in absurd (omega (arith, ints, b.0))),
        λ s. (let b = bounds (whole 1) (record { lt = tt }) s in absurd (omega (arith, ints, b.1))),
        refl,
      )),
    ),
  );
}
  where
    bounds : (v : Fraction) → IsFraction v → IsLeft shutter 1 log to_alarm half_run 0 v → Below zero_fraction v × Below v (whole 1)
    bounds v hv s =
        let (d, x, l) = left_from 0 v s in
        let p : Fraction = record { num = x; den = d } in
        let e : SameFraction p v = l.value in
        let b = same-AtMost p v e in (
          Below-AtMost_trans zero_fraction p v (record { lt = tt }) l.positive hv (omega (arith, ints, l.above)) b.0,
          AtMost-Below v p (whole 1) hv l.positive (record { lt = tt }) b.1 (omega (arith, ints, l.under)),
        )

-- a number that equals the last value
again : (v : Fraction) (d x : ℤ) → IsFraction v → pos 0 <ℤ d → SameFraction (record { num = x; den = d }) (fraction 1 2) → SameFraction (record { num = x; den = d }) v → SameFraction v (fraction 1 2)
again v d x hv hd e f = same-trans v (record { num = x; den = d }) (fraction 1 2) hv hd (record { lt = tt }) (sym f) e

picks : (i : ℕ) → i < 6 → IsPick (IsLeft shutter 1 log to_alarm half_run i) (pick_at i half_run)
picks zero h = pick_last
picks (suc zero) h = pick_zero (IsLeft shutter 1 log to_alarm half_run 1) (pos 2) (record { lt = tt }) (own 1 (refl, tt))
picks (suc (suc zero)) h = pick_half (IsLeft shutter 1 log to_alarm half_run 2) (own 2 (refl, (refl, tt)))
    (λ v hv s. let (d, x, l) = left_from 2 v s in again v d x hv l.positive l.same_numbers.0 l.value)
picks (suc (suc (suc zero))) h = pick_half (IsLeft shutter 1 log to_alarm half_run 3) (own 3 (refl, (refl, (refl, tt))))
    (λ v hv s. let (d, x, l) = left_from 3 v s in again v d x hv l.positive l.same_numbers.0 l.value)
picks (suc (suc (suc (suc zero)))) h = pick_zero (IsLeft shutter 1 log to_alarm half_run 4) (pos 2) (record { lt = tt }) (own 4 (refl, (refl, (refl, (refl, tt)))))
picks (suc (suc (suc (suc (suc zero))))) h = pick_half (IsLeft shutter 1 log to_alarm half_run 5) (own 5 (refl, (refl, (refl, (refl, (refl, tt))))))
    (λ v hv s. let (d, x, l) = left_from 5 v s in again v d x hv l.positive l.same_numbers.0 l.value)
picks (suc (suc (suc (suc (suc (suc i)))))) h = absurd (omega arith)

none_earlier : (other : Run) → IsAimedRun shutter 1 log to_alarm other → IsEarlier (history_of other) (history_of half_run) → ⊥
none_earlier other alarm e =
    let (d, x, s) = still_from other alarm in
    let same : history_of other ≡ history_of half_run = λ i. record { start = s.loc i; paths = map path_of (s.gaps i) } in
    let f : IsEarlier (history_of half_run) (history_of half_run) = subst (λ h. IsEarlier h (history_of half_run)) same e in
    let b : ⊥ = cc in b

pub half_is_first : IsFirstRun shutter 1 log to_alarm half_run
half_is_first = record {
  aimed = half_alarm;
  earliest = none_earlier;
  picks = picks;
  reduced = All-from_recursion IsReduced half_run.gaps (λ k h all. eq-one_of_dvd-one (All-head (λ n. k ∣ unsigned_abs n) (pos 1) (pos 0 ∷ pos 1 ∷ pos 1 ∷ pos 0 ∷ pos 1 ∷ []) all), tt);
}
