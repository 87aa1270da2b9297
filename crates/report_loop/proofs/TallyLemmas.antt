-- The tally of a log that is judged tells which replies there were.
use Rattle.std.proofs.Common.{◌≡◌, ◌↔◌, ◌⊎◌, inl, inr, ℕ, zero, suc, ◌<◌, ◌≤◌, ◌+◌, List, [], ◌∷◌, ◌++◌, length, Bool, true, false, IsTrue, refl, sym, ap, ◌∙◌, subst, arith}
use Rattle.std.specs.Prelude.{Contains, slice_index_or, nat_le}
use Rattle.std.proofs.lemmas.List.Elements.{Contains-append_right}
use Rattle.run_specs.specs.declared.Verdict.{Verdict}
use Rattle.run_specs.specs.declared.Verdict.TheVariants as verdict
use Rattle.log_session.specs.declared.tally.Tally.{Tally}
use Rattle.log_session.specs.Tallies.{with_reply, tally_after, tally_of, no_replies}

-- of some replies, and then others
tally_join : (t : Tally) (vs ws : List Verdict) → tally_after (tally_after t vs) ws ≡ tally_after t (vs ++ ws)
tally_join t [] ws = refl
tally_join t (v ∷ vs) ws = tally_join (with_reply t v) vs ws

pub tally_more : (t : Tally) (vs ws : List Verdict) → t ≡ tally_of vs → tally_after t ws ≡ tally_of (vs ++ ws)
tally_more t vs ws e = ap (λ z. tally_after z ws) e ∙ tally_join no_replies vs ws

-- an element of a longer list is its first, or among the others
front_or_later : (v w : Verdict) (vs : List Verdict) (k : ℕ) → k < length (v ∷ vs) → slice_index_or (v ∷ vs) k w ≡ w → (v ≡ w) ⊎ Contains vs w
front_or_later v w vs zero l e = inl e
front_or_later v w vs (suc k) l e = inr (k, omega (arith, l), e)

-- a count that one verdict alone raises
module _ (count : Tally → ℕ) (w : Verdict) (raised : (t : Tally) → count (with_reply t w) ≡ count t + 1)
    (others : (t : Tally) (v : Verdict) → (count (with_reply t v) ≡ count t) ⊎ (v ≡ w)) where
  grows_one : (t : Tally) (v : Verdict) → count t ≤ count (with_reply t v)
  grows_one t v = by (others t v)
    where
      by : (count (with_reply t v) ≡ count t) ⊎ (v ≡ w) → count t ≤ count (with_reply t v)
      by (inl e) = omega (arith, e)
      by (inr e) = let more = ap (λ z. count (with_reply t z)) e ∙ raised t in omega (arith, more)

  grows : (t : Tally) (vs : List Verdict) → count t ≤ count (tally_after t vs)
  grows t [] = omega arith
  grows t (v ∷ vs) =
      let one = grows_one t v in
      let rest = grows (with_reply t v) vs in
      omega (arith, one, rest)

  found : (t : Tally) (vs : List Verdict) → Contains vs w → 1 ≤ count (tally_after t vs)
  found t [] c = let l = c.1 in absurd (omega (arith, l))
  found t (v ∷ vs) c = by (front_or_later v w vs c.0 c.1 c.2) (found (with_reply t v) vs)
    where
      by : (v ≡ w) ⊎ Contains vs w → (Contains vs w → 1 ≤ count (tally_after (with_reply t v) vs)) → 1 ≤ count (tally_after (with_reply t v) vs)
      by (inl e) later =
          let more = ap (λ z. count (with_reply t z)) e ∙ raised t in
          let rest = grows (with_reply t v) vs in
          omega (arith, more, rest)
      by (inr c) later = later c

  counted_in : (t : Tally) (vs : List Verdict) → count t < count (tally_after t vs) → Contains vs w
  counted_in t [] l = absurd (omega (arith, l))
  counted_in t (v ∷ vs) l = by (others t v) (counted_in (with_reply t v) vs)
    where
      by : (count (with_reply t v) ≡ count t) ⊎ (v ≡ w) → (count (with_reply t v) < count (tally_after (with_reply t v) vs) → Contains vs w) → Contains (v ∷ vs) w
      by (inl e) later = Contains-append_right (v ∷ []) vs w (later (omega (arith, l, e)))
      by (inr e) later = (0, omega arith, e)

alarm_raised : (t : Tally) → (with_reply t verdict.Alarm).alarm ≡ t.alarm + 1
alarm_raised t = refl

alarm_others : (t : Tally) (v : Verdict) → ((with_reply t v).alarm ≡ t.alarm) ⊎ (v ≡ verdict.Alarm)
alarm_others t verdict.Alarm = inr refl
alarm_others t verdict.Safe = inl refl
alarm_others t verdict.Impossible = inl refl
alarm_others t verdict.Overflow = inl refl

overflow_raised : (t : Tally) → (with_reply t verdict.Overflow).overflow ≡ t.overflow + 1
overflow_raised t = refl

overflow_others : (t : Tally) (v : Verdict) → ((with_reply t v).overflow ≡ t.overflow) ⊎ (v ≡ verdict.Overflow)
overflow_others t verdict.Alarm = inl refl
overflow_others t verdict.Safe = inl refl
overflow_others t verdict.Impossible = inl refl
overflow_others t verdict.Overflow = inr refl

-- some reply is an alarm exactly where one is counted
pub alarm_told : (t : Tally) (vs : List Verdict) → t ≡ tally_of vs → (1 ≤ t.alarm → Contains vs verdict.Alarm) × (Contains vs verdict.Alarm → 1 ≤ t.alarm)
alarm_told t vs e = (
  λ l. counted_in (λ z. z.alarm) verdict.Alarm alarm_raised alarm_others no_replies vs (subst (λ z. 1 ≤ z.alarm) e l),
  λ c. subst (λ z. 1 ≤ z.alarm) (sym e) (found (λ z. z.alarm) verdict.Alarm alarm_raised alarm_others no_replies vs c),
)

-- and so for an overflow
pub overflow_told : (t : Tally) (vs : List Verdict) → t ≡ tally_of vs → (1 ≤ t.overflow → Contains vs verdict.Overflow) × (Contains vs verdict.Overflow → 1 ≤ t.overflow)
overflow_told t vs e = (
  λ l. counted_in (λ z. z.overflow) verdict.Overflow overflow_raised overflow_others no_replies vs (subst (λ z. 1 ≤ z.overflow) e l),
  λ c. subst (λ z. 1 ≤ z.overflow) (sym e) (found (λ z. z.overflow) verdict.Overflow overflow_raised overflow_others no_replies vs c),
)
