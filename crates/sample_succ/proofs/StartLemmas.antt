-- The opening, location by location.
use Rattle.std.proofs.Common.{◌≡◌, inl, inr, ℕ, suc, ◌+◌, ◌<◌, ◌≤◌, false, List, [], ◌∷◌, ◌++◌, length, Option, Some, None, refl, sym, ◌∙◌, ap, subst, arith}
use Rattle.std.specs.Prelude.{IsSomeAnd, IfSome}
use Rattle.std.proofs.lemmas.List.{map-append}
use Rattle.std.proofs.lemmas.List.Elements.{All-push}
use Rattle.std.proofs.lemmas.Bool.{cases_lt}
use Rattle.std.proofs.lemmas.List.{get_or_past}
use Rattle.poly_specs.proofs.InclusionLemmas.{in_left, in_right, in_either}
use Rattle.run_specs.proofs.EndLemmas.{wide_both}
use Rattle.sample_succ.proofs.StageFacts.{opening_rows_are}
use Rattle.run_specs.proofs.PassesLemmas.{same_in}
use Rattle.run_specs.proofs.StageWidths.{location_is}
use Rattle.poly_specs.specs.Bits.{SomePasses}
use Rattle.poly_specs.specs.Bounds.{emptiness_numbers}
use Rattle.poly_specs.specs.Lists.{In}
use Rattle.poly_specs.specs.Rows.{Row, AllWide, HasPoint}
use Rattle.poly_specs.specs.Systems.{System}
use Rattle.run_specs.specs.Automaton.{Automaton, Location, width, location_at, nowhere}
use Rattle.run_specs.specs.Keys.{State}
use Rattle.run_specs.specs.Openings.{IsOpeningState, AreOpening, LocsRise, opening_rows}
use Rattle.run_specs.specs.Passes.{OpeningPasses}
use Rattle.run_specs.specs.Stages.{opening_stage, stage_numbers}
use Rattle.run_specs.specs.WellFormed.{IsWellFormed}
use Rattle.gap_keys.specs.Views.{StateView, states_of}
use Rattle.sample_succ.specs.Starts.{IsStartState, StartsBefore, IsStart, AreStartsBefore}
use Rattle.sample_succ.proofs.PlainLemmas.{test_pass}

-- ---- one location

module _ (a : Automaton) (wf : IsWellFormed a) (l : ℕ) (hl : l < length a.locations) where
  pub start_wide : (init : List Row) → (location_at a l).init ≡ Some init → AllWide (width a) (init ++ (location_at a l).invariant)
  start_wide init e =
      let loc = location_is a wf l hl in
      wide_both (width a) init (location_at a l).invariant (subst (λ o. IfSome o (AllWide (width a))) e loc.init) loc.invariant

  pub start_passes : (init : List Row) → (location_at a l).init ≡ Some init → SomePasses (emptiness_numbers (width a) (init ++ (location_at a l).invariant)) → OpeningPasses a
  start_passes init e h =
      let rows : List Row = init ++ (location_at a l).invariant in (
        l,
        subst (λ o. IsSomeAnd o (λ init. SomePasses (stage_numbers (opening_stage a l init)))) (sym e)
            (test_pass (opening_stage a l init) rows (subst (λ rs. (x : Row) → In x rows → In x rs) (sym (opening_rows_are a l init (start_wide init e))) (same_in rows)) h),
      )

  rows_of : (init : List Row) → (location_at a l).init ≡ Some init → opening_rows a l ≡ Some (init ++ (location_at a l).invariant)
  rows_of init e = rw (opening_rows, e) refl

  no_rows : (location_at a l).init ≡ None → opening_rows a l ≡ None
  no_rows e = rw (opening_rows, e) refl

  pub no_start : (location_at a l).init ≡ None → IsStartState a l None
  no_start e rows f h = let g = sym (no_rows e) ∙ f in let b : ⊥ = cc in b

  pub empty_start : (init : List Row) → (location_at a l).init ≡ Some init → (HasPoint (width a) (init ++ (location_at a l).invariant) → ⊥) → IsStartState a l None
  empty_start init e none rows f h = none (subst (HasPoint (width a)) (some_same (sym f ∙ rows_of init e)) h)
    where
      some_same : {x y : List Row} → Some x ≡ Some y → x ≡ y
      some_same {x} {y} g = ap (λ (o : Option (List Row)). elim o as (λ _. List Row) [ None ↦ x | Some z ↦ z ]) g

  pub some_start : (init : List Row) (s : State) → (location_at a l).init ≡ Some init → HasPoint (width a) (init ++ (location_at a l).invariant) →
      s ≡ record { loc = l; seen_unsafe = false; rows = init ++ (location_at a l).invariant } → IsStartState a l (Some s)
  some_start init s e h is =
      let rows : List Row = init ++ (location_at a l).invariant in
      subst (λ t. IsStartState a l (Some t)) (sym is) (
        refl,
        subst (λ o. IsSomeAnd o (λ rs. IsOpeningState (width a) rs (record { loc = l; seen_unsafe = false; rows = rows }))) (sym (rows_of init e))
            (record { unmarked = refl; plain = same_in rows; same = λ p hp lp. (λ g. g, λ g. g); some_point = h }),
      )

-- ---- one location more

rise_more : (n l : ℕ) (xs : List State) (s : State) → LocsRise n xs → ((x : State) → In x xs → x.loc < l) → n ≤ l → s.loc ≡ l → LocsRise n (xs ++ s ∷ [])
rise_more n l [] s h all hn e = (omega (arith, e), tt)
rise_more n l (x ∷ xs) s h all hn e = (h.0, rise_more (suc x.loc) l xs s h.1 (λ y i. all y (inr i)) (let b = all x (inl refl) in omega (arith, b)) e)

pub starts_none : (a : Automaton) (n : ℕ) → StartsBefore a 0 []
starts_none a n = record { each = λ s i. absurd i; all = λ l rows h. absurd (omega arith); rise = tt }

pub starts_same : (a : Automaton) (l : ℕ) (states : List State) → StartsBefore a l states → IsStartState a l None → StartsBefore a (l + 1) states
starts_same a l states is none = record {
  each = λ s i. (let e = is.each s i in (let h = e.0 in omega (arith, h), e.1));
  all = λ k rows h e p. elim (cases_lt k l) [
    | inl lt ↦ is.all k rows lt e p
    | inr ge ↦ (let same : k ≡ l = omega (arith, h) in absurd (none rows (ap (opening_rows a) (sym same) ∙ e) p))
  ];
  rise = is.rise;
}

pub starts_more : (a : Automaton) (l : ℕ) (states : List State) (s : State) → StartsBefore a l states → IsStartState a l (Some s) → StartsBefore a (l + 1) (states ++ s ∷ [])
starts_more a l states s is some = record {
  each = λ x i. elim (in_either x states (s ∷ []) i) [
    | inl j ↦ (let e = is.each x j in (let h = e.0 in omega (arith, h), e.1))
    | inr (inl e) ↦ subst (λ y. (y.loc < l + 1) × IsSomeAnd (opening_rows a y.loc) (λ rows. IsOpeningState (width a) rows y)) (sym e)
        (omega (arith, some.0), subst (λ k. IsSomeAnd (opening_rows a k) (λ rows. IsOpeningState (width a) rows s)) (sym some.0) some.1)
    | inr (inr j) ↦ absurd j
  ];
  all = λ k rows h e p. elim (cases_lt k l) [
    | inl lt ↦ (let (x, i, f) = is.all k rows lt e p in (x, in_left x states (s ∷ []) i, f))
    | inr ge ↦ (let same : k ≡ l = omega (arith, h) in (s, in_right s states (s ∷ []) (inl refl), some.0 ∙ sym same))
  ];
  rise = rise_more 0 l states s is.rise (λ x i. (is.each x i).0) (omega arith) some.0;
}

-- the same of states as their code shows them
pub same_starts : (a : Automaton) (l : ℕ) (views : List StateView) → AreStartsBefore a l views → IsStart a l None → AreStartsBefore a (l + 1) views
same_starts a l views is none = record { starts = starts_same a l (states_of views) is.starts none; wide = is.wide }

pub more_starts : (a : Automaton) (l : ℕ) (views : List StateView) (v : StateView) → AreStartsBefore a l views → IsStart a l (Some v) → AreStartsBefore a (l + 1) (views ++ v ∷ [])
more_starts a l views v is some = record {
  starts = subst (StartsBefore a (l + 1)) (sym (map-append (λ (x : StateView). x.state) views (v ∷ []))) (starts_more a l (states_of views) v.state is.starts some.0);
  wide = All-push (λ (x : StateView). x.width ≡ width a) views v is.wide some.1;
}

-- after the last location
pub starts_all : (a : Automaton) (n : ℕ) (states : List State) → length a.locations ≤ n → StartsBefore a n states → AreOpening a states
starts_all a n states h is = record {
  each = λ s i. (is.each s i).1;
  all = λ l rows e p. elim (cases_lt l n) [
    | inl lt ↦ is.all l rows lt e p
    | inr ge ↦ absurd (let past = get_or_past a.locations l nowhere (omega (arith, h)) in
        let none : opening_rows a l ≡ None = ap (λ (x : Location). elim x.init as (λ _. Option (List Row)) [ None ↦ None | Some init ↦ Some (init ++ x.invariant) ]) past in
        let g = sym none ∙ e in let b : ⊥ = cc in b)
  ];
  rise = is.rise;
}

-- ---- what is read of a location

pub start_system : (a : Automaton) (l : ℕ) (place : Location) (init inside rows : List Row) (w : ℕ) (s : System) → place ≡ location_at a l → Some init ≡ place.init → inside ≡ place.invariant →
    rows ≡ init ++ inside → w ≡ width a → s ≡ record { width = w; rows = rows } →
    ((location_at a l).init ≡ Some init) × (s ≡ record { width = width a; rows = init ++ (location_at a l).invariant })
start_system a l place init inside rows w s e f g h k is = (
  sym (ap (λ x. x.init) e) ∙ sym f,
  is ∙ ap (λ n. record { width = n; rows = rows }) k ∙ ap (λ rs. record { width = width a; rows = rs }) (h ∙ ap (λ rs. init ++ rs) (g ∙ ap (λ x. x.invariant) e)),
)
