-- Paths that are extended: their stages, where they end, and their order.
use Rattle.std.proofs.Common.{◌≡◌, ℕ, ◌+◌, ◌<◌, Bool, true, false, ◌||◌, List, [], ◌∷◌, ◌++◌, length, refl, sym, ◌∙◌, ap}
use Rattle.std.specs.Ordering.{nat_cmp, ordering_then, ordering_reverse}
use Rattle.std.specs.declared.cmp.Ordering.{Ordering}
use Rattle.std.specs.declared.cmp.Ordering.TheVariants.{Less, Equal}
use Rattle.std.specs.Cmp.{IsTotalOrder, on_total, then_total, nat_cmp_total, nat_cmp_is}
use Rattle.std.specs.Cmp.Lexicographic.{slice_cmp, nat_list_cmp_total}
use Rattle.run_specs.proofs.StageWidths.{location_is, transition_is, leg_after_wide, jump_wide_of}
use Rattle.poly_specs.specs.Rows.{Row, AllWide}
use Rattle.run_specs.specs.Automaton.{Automaton, width, location_at, transition_at}
use Rattle.run_specs.specs.Outcomes.{IsBefore}
use Rattle.run_specs.specs.Passes.{Fits}
use Rattle.run_specs.specs.Runs.{end_loc, goes_unsafe}
use Rattle.run_specs.specs.Stages.{rows_after, leg_stage, jump_stage, path_rows, path_stages}
use Rattle.run_specs.specs.WellFormed.{IsWellFormed}
use Rattle.sample_succ.specs.Walks.{before_rows, before_stages}

module _ (a : Automaton) where
  pub end_more : (l : ℕ) (path other : List ℕ) → end_loc a l (path ++ other) ≡ end_loc a (end_loc a l path) other
  end_more l [] other = refl
  end_more l (e ∷ path) other = end_more (transition_at a e).target path other

  pub fits_more : (l : ℕ) (path : List ℕ) (e : ℕ) → Fits a l path → e < length a.transitions → (transition_at a e).source ≡ end_loc a l path → Fits a l (path ++ e ∷ [])
  fits_more l [] e fits h same = (h, same, tt)
  fits_more l (x ∷ path) e fits h same = (fits.0, fits.1, fits_more (transition_at a x).target path e fits.2 h same)

  pub fits_rest : (l : ℕ) (path other : List ℕ) → Fits a l (path ++ other) → Fits a (end_loc a l path) other
  fits_rest l [] other fits = fits
  fits_rest l (e ∷ path) other fits = fits_rest (transition_at a e).target path other fits.2

  or_more : (x y z : Bool) → (x || (y || z)) ≡ ((x || y) || z)
  or_more true y z = refl
  or_more false y z = refl

  pub unsafe_more : (b : Bool) (l : ℕ) (path : List ℕ) (e : ℕ) →
      (b || goes_unsafe a l (path ++ e ∷ [])) ≡ ((b || goes_unsafe a l path) || (location_at a (transition_at a e).target).is_unsafe)
  unsafe_more b l [] e = or_more b (location_at a l).is_unsafe (location_at a (transition_at a e).target).is_unsafe
  unsafe_more b l (x ∷ path) e =
      let u : Bool = (location_at a l).is_unsafe in
      let g : Bool = goes_unsafe a (transition_at a x).target path in
      let f : Bool = (location_at a (transition_at a e).target).is_unsafe in
      ap (λ z. b || z) (unsafe_more u (transition_at a x).target path e) ∙ or_more b (u || g) f

  -- ---- stages

  pub before_more : (l : ℕ) (path : List ℕ) (e : ℕ) (state : List Row) →
      before_rows a l (path ++ e ∷ []) state ≡ rows_after (jump_stage a e (rows_after (leg_stage a (end_loc a l path) (before_rows a l path state))))
  before_more l [] e state = refl
  before_more l (x ∷ path) e state = before_more (transition_at a x).target path e (rows_after (jump_stage a x (rows_after (leg_stage a l state))))

  pub stages_more : (l : ℕ) (path : List ℕ) (e : ℕ) (state : List Row) →
      before_stages a l (path ++ e ∷ []) state
      ≡ before_stages a l path state ++ leg_stage a (end_loc a l path) (before_rows a l path state)
      ∷ jump_stage a e (rows_after (leg_stage a (end_loc a l path) (before_rows a l path state))) ∷ []
  stages_more l [] e state = refl
  stages_more l (x ∷ path) e state =
      ap (λ ss. leg_stage a l state ∷ jump_stage a x (rows_after (leg_stage a l state)) ∷ ss)
      (stages_more (transition_at a x).target path e (rows_after (jump_stage a x (rows_after (leg_stage a l state)))))

  pub path_stages_at : (l : ℕ) (path other : List ℕ) (state : List Row) →
      path_stages a l (path ++ other) state ≡ before_stages a l path state ++ path_stages a (end_loc a l path) other (before_rows a l path state)
  path_stages_at l [] other state = refl
  path_stages_at l (x ∷ path) other state =
      ap (λ ss. leg_stage a l state ∷ jump_stage a x (rows_after (leg_stage a l state)) ∷ ss)
      (path_stages_at (transition_at a x).target path other (rows_after (jump_stage a x (rows_after (leg_stage a l state)))))

  pub path_rows_at : (l : ℕ) (path other : List ℕ) (state : List Row) →
      path_rows a l (path ++ other) state ≡ path_rows a (end_loc a l path) other (before_rows a l path state)
  path_rows_at l [] other state = refl
  path_rows_at l (x ∷ path) other state = path_rows_at (transition_at a x).target path other (rows_after (jump_stage a x (rows_after (leg_stage a l state))))

  pub path_rows_end : (l : ℕ) (path : List ℕ) (state : List Row) →
      path_rows a l path state ≡ rows_after (leg_stage a (end_loc a l path) (before_rows a l path state))
  path_rows_end l [] state = refl
  path_rows_end l (x ∷ path) state = path_rows_end (transition_at a x).target path (rows_after (jump_stage a x (rows_after (leg_stage a l state))))

  pub before_wide : (wf : IsWellFormed a) (l : ℕ) (path : List ℕ) (state : List Row) → l < length a.locations → Fits a l path → AllWide (width a + 1) state → AllWide (width a + 1) (before_rows a l path state)
  before_wide wf l [] state h fits wide = wide
  before_wide wf l (x ∷ path) state h fits wide =
      before_wide wf (transition_at a x).target path (rows_after (jump_stage a x (rows_after (leg_stage a l state)))) (transition_is a wf x fits.0).target fits.2
      (jump_wide_of a wf x (rows_after (leg_stage a l state)) fits.0 (leg_after_wide a l state (location_is a wf l h) wide))

-- ---- the order of parents and paths

abbrev place_cmp : ℕ × List ℕ → ℕ × List ℕ → Ordering
place_cmp x y = ordering_then (nat_cmp x.0 y.0) (slice_cmp nat_cmp x.1 y.1)

place_total : IsTotalOrder place_cmp
place_total = then_total (on_total (λ (x : ℕ × List ℕ). x.0) nat_cmp_total) (on_total (λ (x : ℕ × List ℕ). x.1) nat_list_cmp_total)

pub before_trans : (i j k : ℕ) (p q r : List ℕ) → IsBefore i p j q → IsBefore j q k r → IsBefore i p k r
before_trans i j k p q r h g = place_total.trans (i, p) (j, q) (k, r) h g

pub not_both : (i j : ℕ) (p q : List ℕ) → IsBefore i p j q → IsBefore j q i p → ⊥
not_both i j p q h g = let f = place_total.antisymm (i, p) (j, q) ∙ ap ordering_reverse g in let e = sym h ∙ f in let b : ⊥ = cc in b

same_number : (n : ℕ) → nat_cmp n n ≡ Equal
same_number n = sym (nat_cmp_is n n Equal refl)

pub lesser_number : (m n : ℕ) → m < n → nat_cmp m n ≡ Less
lesser_number m n h = sym (nat_cmp_is m n Less h)

at_same : (i : ℕ) (p q : List ℕ) → slice_cmp nat_cmp p q ≡ Less → IsBefore i p i q
at_same i p q h = rw (same_number i) h

-- a path stands before those that extend it
pub before_longer : (i : ℕ) (path : List ℕ) (e : ℕ) (other : List ℕ) → IsBefore i path i (path ++ e ∷ other)
before_longer i path e other = at_same i path (path ++ e ∷ other) (go path)
  where
    go : (path : List ℕ) → slice_cmp nat_cmp path (path ++ e ∷ other) ≡ Less
    go [] = refl
    go (x ∷ path) = rw (same_number x) (go path)

-- and those by a lesser transition stand before those by a greater one
pub before_next : (i : ℕ) (path : List ℕ) (e f : ℕ) (other : List ℕ) → e < f → IsBefore i (path ++ e ∷ other) i (path ++ f ∷ [])
before_next i path e f other h = at_same i (path ++ e ∷ other) (path ++ f ∷ []) (go path)
  where
    go : (path : List ℕ) → slice_cmp nat_cmp (path ++ e ∷ other) (path ++ f ∷ []) ≡ Less
    go [] = rw (lesser_number e f h) refl
    go (x ∷ path) = rw (same_number x) (go path)

-- what stands at a lesser parent stands before
pub before_parent : (i j : ℕ) (p q : List ℕ) → i < j → IsBefore i p j q
before_parent i j p q h = rw (lesser_number i j h) refl
