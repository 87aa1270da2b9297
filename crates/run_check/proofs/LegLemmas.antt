-- The numbers that slopes are asked at, and the steps of legs and jumps.
use Rattle.std.proofs.Common.{◌≡◌, inl, inr, ℕ, suc, ◌+◌, ◌<◌, ◌≤◌, true, List, [], ◌∷◌, ◌++◌, length, drop, get_or, refl, sym, ◌∙◌, ap, ap₂, subst, arith, append_assoc, append-nil, length-append, ℤ, pos, ◌-ℤ◌, ◌≤ℤ◌, ◌<ℤ◌, Result, Err}
use Rattle.std.specs.Prelude.{⊤, int_lt}
use Rattle.std.proofs.lemmas.Int.{ints}
use Rattle.std.proofs.lemmas.List.{drop_more, drop_all}
use Rattle.poly_specs.specs.Bits.{FitsBits, SomePasses, NonePasses}
use Rattle.poly_specs.specs.Lists.{minus}
use Rattle.poly_specs.specs.Rows.{Row, AllWide}
use Rattle.run_specs.specs.Runs.{Leg, Move}
use Rattle.run_specs.specs.Automaton.{Automaton, Location, location_at, transition_at}
use Rattle.replay_specs.specs.declared.checks.Stop.{Stop}
use Rattle.replay_specs.specs.declared.checks.Stop.TheVariants.{Fails, Passes}
use Rattle.replay_specs.specs.RunChecks.{Step, Answers, row_steps, slope_steps, leg_steps, jump_steps}
use Rattle.replay_specs.proofs.CheckLemmas.{answers_asked, answers_refused}
use Rattle.lin_row.proofs.FitLemmas.{AllFit, none_passes, all_fit, AllFit-back, AllFit-append}
use Rattle.run_check.proofs.StepLemmas.{Leads, some_passes_not}

-- these are the first i differences, and none passes
pub record SlopesSoFar (items : List ℤ) (i : ℕ) (p q : List ℤ) : Type 0 where
  pub count : length items ≡ i
  pub value : items ++ minus (drop i q) (drop i p) ≡ minus q p
  pub fits : AllFit items

pub no_slopes : (p q : List ℤ) → SlopesSoFar [] 0 p q
no_slopes p q = record { count = refl; value = refl; fits = tt }

module _ (items : List ℤ) (i : ℕ) (p q : List ℤ) (so_far : SlopesSoFar items i p q) where
  module _ (lt : i < length q) (sized : length q ≡ length p) where
    abbrev rise : ℤ
    rise = get_or q i (pos 0) -ℤ get_or p i (pos 0)

    next : minus (drop i q) (drop i p) ≡ rise ∷ minus (drop (i + 1) q) (drop (i + 1) p)
    next = ap₂ minus (drop_more q i (pos 0) lt) (drop_more p i (pos 0) (omega arith))

    next_value : items ++ (rise ∷ minus (drop (i + 1) q) (drop (i + 1) p)) ≡ minus q p
    next_value = ap (λ ns. items ++ ns) (sym next) ∙ so_far.value

    pub slopes_more : FitsBits rise → SlopesSoFar (items ++ rise ∷ []) (i + 1) p q
    slopes_more h = record {
      count = omega (arith, length-append items (rise ∷ []), so_far.count);
      value = append_assoc items (rise ∷ []) (minus (drop (i + 1) q) (drop (i + 1) p)) ∙ next_value;
      fits = AllFit-append items (rise ∷ []) so_far.fits (h, tt);
    }

    pub slopes_stop : (FitsBits rise → ⊥) → SomePasses (minus q p)
    slopes_stop h = some_passes_not (minus q p)
        (λ g. h (AllFit-back items (rise ∷ minus (drop (i + 1) q) (drop (i + 1) p)) (subst AllFit (sym next_value) (all_fit (minus q p) g))).0)

  pub slopes_are : length q ≤ i → NonePasses (minus q p) × (items ≡ minus q p)
  slopes_are le =
      let e : items ≡ minus q p = sym (append-nil items) ∙ ap (λ ns. items ++ minus ns (drop i p)) (sym (drop_all i q le)) ∙ so_far.value in
      (subst NonePasses e (none_passes items so_far.fits), e)

-- ---- slopes

module _ (slopes : List Row) (d : ℤ) (p : List ℤ) (leg : Leg) where
  pub moves_pass : SomePasses (minus leg.at_end p) → Answers (slope_steps true slopes d p leg) (Err Passes)
  moves_pass h = inl (h, refl)

  pub moves_answer : (at : List ℤ) (x : Result ⊤ Stop) → NonePasses (minus leg.at_end p) → at ≡ minus leg.at_end p ++ leg.length_of ∷ [] →
      Answers (row_steps slopes d at) x → Answers (slope_steps true slopes d p leg) x
  moves_answer at x h e g = inr (h, inr (tt, subst (λ ns. Answers (row_steps slopes d ns) x) e g))

length_minus : (q p : List ℤ) → length q ≡ length p → length (minus q p) ≡ length p
length_minus [] p e = e
length_minus (n ∷ q) [] e = absurd (omega arith)
length_minus (n ∷ q) (k ∷ p) e = ap suc (length_minus q p (omega arith))

pub slopes_wide : (slopes : List Row) (at p q : List ℤ) (t : ℤ) → at ≡ minus q p ++ t ∷ [] → length q ≡ length p → AllWide (length p + 1) slopes → AllWide (length at) slopes
slopes_wide slopes at p q t e sized h = λ k d lt.
    let l = h k d lt in omega (arith, l, ap length e, length-append (minus q p) (t ∷ []), length_minus q p sized)

-- ---- legs

abbrev pub leg_rest : Location → ℤ → List ℤ → Leg → List Step
leg_rest loc d p leg = row_steps loc.invariant d leg.at_end ++ slope_steps (int_lt (pos 0) leg.length_of) loc.slopes d p leg

pub leg_leads : (loc : Location) (d : ℤ) (p : List ℤ) (leg : Leg) → pos 0 ≤ℤ leg.length_of → Leads (row_steps loc.invariant d p ++ leg_rest loc d p leg) (leg_steps loc d p leg)
unfolding leg_steps
leg_leads loc d p leg h = record { leads = λ x g. answers_asked (pos 0 ≤ℤ leg.length_of) (row_steps loc.invariant d p ++ leg_rest loc d p leg) x h g }

pub leg_refused : (loc : Location) (d : ℤ) (p : List ℤ) (leg : Leg) → leg.length_of <ℤ pos 0 → Answers (leg_steps loc d p leg) (Err Fails)
unfolding leg_steps
leg_refused loc d p leg h =
    answers_refused (pos 0 ≤ℤ leg.length_of) (row_steps loc.invariant d p ++ leg_rest loc d p leg) (λ g. omega (arith, ints, h, g))

-- ---- jumps

module _ (a : Automaton) (l : ℕ) (d : ℤ) (m : Move) where
  abbrev pub jump_rows : List Step
  jump_rows = row_steps (transition_at a m.transition).relation d (m.leg.at_end ++ m.after)

  abbrev pub jump_rest : List Step
  jump_rest = row_steps (location_at a (transition_at a m.transition).target).invariant d m.after

  pub jump_leads : (transition_at a m.transition).source ≡ l → Leads (jump_rows ++ jump_rest) (jump_steps a l d m)
  unfolding jump_steps
  jump_leads h = record { leads = λ x g. answers_asked ((transition_at a m.transition).source ≡ l) (jump_rows ++ jump_rest) x h g }

  pub jump_refused : ((transition_at a m.transition).source ≡ l → ⊥) → Answers (jump_steps a l d m) (Err Fails)
  unfolding jump_steps
  jump_refused h = answers_refused ((transition_at a m.transition).source ≡ l) (jump_rows ++ jump_rest) h
