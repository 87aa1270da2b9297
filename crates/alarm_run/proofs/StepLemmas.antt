-- A step of the walk, as the code takes it: from an entry and its items.
use Rattle.std.proofs.Common.{◌≡◌, inl, inr, ℕ, zero, suc, ◌+◌, ◌<◌, ◌≤◌, List, [], ◌∷◌, ◌++◌, get_or, length, Option, Some, refl, sym, ◌∙◌, ap, subst, arith}
use Rattle.std.specs.Prelude.{All, slice_get}
use Rattle.std.proofs.lemmas.List.{get_or-map, length-map}
use Rattle.gap_keys.specs.Answering.{outcome_of}
use Rattle.gap_keys.specs.Views.{ItemView, items_of}
use Rattle.gap_keys.specs.declared.outcomes.Outcome as code
use Rattle.gap_runs.specs.Befores.{common_point}
use Rattle.gap_runs.specs.Gaps.{GapValue, IsGapBack, GapBackPasses}
use Rattle.live_session.specs.Entries.{entry_of}
use Rattle.poly_specs.specs.Fractions.{Fraction, IsFraction}
use Rattle.poly_specs.specs.Lists.{In}
use Rattle.poly_specs.specs.Rows.{AllHold}
use Rattle.replay_specs.specs.RunTexts.{IsWritableGap}
use Rattle.run_specs.specs.Automaton.{width}
use Rattle.run_specs.specs.Keys.{Key, no_state, parent_at}
use Rattle.run_specs.specs.Outcomes.{Item, Next, MayTake, IsEnd}
use Rattle.run_specs.specs.Runs.{GapRun, Run}
use Rattle.run_specs.specs.SessionHistories.{Entry, SessionHistory, IsHistory}
use Rattle.run_specs.specs.StateHistories.{no_history, followed, state_at, history_at, histories_at}
use Rattle.alarm_run.proofs.EntryLemmas.{IsLeaving, leaving}
use Rattle.alarm_run.proofs.WalkLemmas.{step_may, step_reached, step_place, step_walked, step_passes}
use Rattle.alarm_run.specs.Entries.{key_at}
use Rattle.alarm_run.specs.Walks.{WalkValue, IsAlarmed, AlarmedPasses, IsPlace, IsWalked, IsWalkedBack}

pub some_is : {A : Type 0} (x y : A) → Some x ≡ Some y → x ≡ y
some_is x y e = cc

pub next_is : (xs ys : List Item) → Next xs ≡ Next ys → xs ≡ ys
next_is xs ys e = cc

item_in : {A : Type 0} (xs : List A) (i : ℕ) (d : A) → i < length xs → In (get_or xs i d) xs
item_in [] i d h = absurd (omega (arith, h))
item_in (x ∷ xs) zero d h = inl refl
item_in (x ∷ xs) (suc i) d h = inr (item_in xs i d (omega (arith, h)))

module _ (h : SessionHistory) (is : IsHistory h) (i : ℕ) (hi : i < length h.gaps) (w : WalkValue) (place : IsPlace h (i + 1) w) where
  plus : i + 1 ≡ suc i
  plus = omega arith

  there : IsPlace h (suc i) w
  there = subst (λ j. IsPlace h j w) plus place

  found : (gap : Fraction) × (seen : List (Option Fraction)) × (items : List Item) × IsLeaving h i gap seen items
  found = leaving h i is hi (let b = there.below in omega (arith, b))

  -- the entry has items
  module _ (entry : Entry) (at : slice_get h.gaps i ≡ Some entry) where
    entry_is : record { key = key_at h i found.0 found.1; outcome = Next found.2 } ≡ entry
    entry_is = some_is _ entry (sym found.3.at ∙ at)

    pub has_items : (items : List Item) × (entry.outcome ≡ Next items)
    has_items = (found.2, sym (ap (λ (x : Entry). x.outcome) entry_is))

    -- and these are its items
    module _ (items : List Item) (outcome : entry.outcome ≡ Next items) where
      items_are : found.2 ≡ items
      items_are = next_is found.2 items (ap (λ (x : Entry). x.outcome) entry_is ∙ outcome)

      leaves : IsLeaving h i found.0 found.1 items
      leaves = subst (IsLeaving h i found.0 found.1) items_are found.3

      key_is : key_at h i found.0 found.1 ≡ entry.key
      key_is = ap (λ (x : Entry). x.key) entry_is

      pub number_below : w.number < length items
      number_below = let b = there.below in omega (arith, b, ap length leaves.states_are, length-map items (λ (x : Item). x.state))

      module _ (y : Item) (d : Item) (item : get_or items w.number d ≡ y) where
        has : In y items
        has = subst (λ z. In z items) item (item_in items w.number d number_below)

        state : state_at h (suc i) w.number ≡ y.state
        state =
            ap (λ ss. get_or ss w.number no_state) leaves.states_are ∙ get_or-map (λ (x : Item). x.state) items w.number d no_state number_below ∙ ap (λ (x : Item). x.state) item

        from : history_at h (suc i) w.number ≡ followed (history_at h i y.parent) y.path
        from =
            ap (λ hs. get_or hs w.number no_history) leaves.histories_are
            ∙ get_or-map (λ (x : Item). followed (get_or (histories_at h i) x.parent no_history) x.path) items w.number d no_history number_below
            ∙ ap (λ (x : Item). followed (history_at h i x.parent) x.path) item

        pub may : MayTake entry.key y.parent y.path
        may = subst (λ k. MayTake k y.parent y.path) key_is (step_may h is i found.0 found.1 items leaves hi w there y has state from)

        pub reached : IsEnd entry.key y.parent y.path (common_point w.last)
        reached = subst (λ k. IsEnd k y.parent y.path (common_point w.last)) key_is (step_reached h is i found.0 found.1 items leaves hi w there y has state from)

        pub sized : length w.last ≡ width entry.key.automaton
        sized = subst (λ (k : Key). length w.last ≡ width k.automaton) key_is there.sized

        pub next_place : (b : GapValue) → length b.start ≡ width entry.key.automaton → All IsFraction b.start → AllHold (parent_at entry.key y.parent).rows (common_point b.start) → IsWritableGap b.gap →
            IsPlace h i (record { number = y.parent; last = b.start; gaps = w.gaps ++ b.gap ∷ [] })
        next_place b long all inside writable =
            step_place h is i found.0 found.1 items leaves hi w there y has state from b (subst (λ (k : Key). length b.start ≡ width k.automaton) (sym key_is) long) all
            (subst (λ k. AllHold (parent_at k y.parent).rows (common_point b.start)) (sym key_is) inside) writable

        pub next_walked : (b : GapValue) → IsGapBack entry.key y.parent y.path w.last b → (n : ℕ) → i < n → n ≤ length h.gaps → IsWalkedBack h n (i + 1) w →
            IsWalkedBack h n i (record { number = y.parent; last = b.start; gaps = w.gaps ++ b.gap ∷ [] })
        next_walked b back n lt few walked run first =
            step_walked h is i found.0 found.1 items leaves hi w there y has state from n run lt few first (subst (λ j. IsWalked h j run w) plus (walked run first)) b
            (subst (λ k. IsGapBack k y.parent y.path w.last b) (sym key_is) back)

        pub next_passes : GapBackPasses entry.key y.parent y.path w.last → (n : ℕ) (run : Run) → i < n → n ≤ length h.gaps → IsAlarmed h n run → IsWalked h (i + 1) run w → AlarmedPasses h n
        next_passes p n run lt few first walked =
            step_passes h is i found.0 found.1 items leaves hi w there y has state from n run lt few first (subst (λ j. IsWalked h j run w) plus walked)
            (subst (λ k. GapBackPasses k y.parent y.path w.last) (sym key_is) p)

-- ---- as the code has it

at_these : (P : Key → ℕ → List ℕ → List Fraction → Type 0) (k key : Key) (i parent : ℕ) (p path : List ℕ) (l last : List Fraction) → key ≡ k → parent ≡ i → path ≡ p → last ≡ l → P k i p l → P key parent path last
at_these P k key i parent p path l last ek ei ep el x =
    subst (λ z. P z parent path last) (sym ek) (subst (λ z. P k z path last) (sym ei) (subst (λ z. P k i z last) (sym ep) (subst (λ z. P k i p z) (sym el) x)))

-- the entry is the one that is held, w is the walk as it is taken apart, and these are its items
module _ (h : SessionHistory) (is : IsHistory h) (i : ℕ) (hi : i < length h.gaps) (told w : WalkValue) (same : w ≡ told) (place : IsPlace h (i + 1) told) (held : Key × code.Outcome)
    (at : slice_get h.gaps i ≡ Some (entry_of held)) (xs : List ItemView) (outcome : outcome_of held.1 ≡ Next (items_of xs)) where
  mine : IsPlace h (i + 1) w
  mine = subst (IsPlace h (i + 1)) (sym same) place

  pub index_below : w.number < length xs
  index_below = omega (arith, number_below h is i hi w mine (entry_of held) at (items_of xs) outcome, length-map xs (λ (v : ItemView). v.item))

  module _ (v : ItemView) (index : v ≡ get_or xs w.number v) (key : Key) (ek : key ≡ held.0) (parent : ℕ) (ei : parent ≡ v.item.parent) (path : List ℕ) (ep : path ≡ v.item.path)
      (last : List Fraction) (el : last ≡ w.last) where
    item : get_or (items_of xs) w.number v.item ≡ v.item
    item = get_or-map (λ (x : ItemView). x.item) xs w.number v v.item index_below ∙ ap (λ (x : ItemView). x.item) (sym index)

    abbrev these : (P : Key → ℕ → List ℕ → List Fraction → Type 0) → P held.0 v.item.parent v.item.path w.last → P key parent path last
    these P = at_these P held.0 key v.item.parent parent v.item.path path w.last last ek ei ep el

    pub code_may : MayTake key parent path
    code_may = these (λ k j p l. MayTake k j p) (may h is i hi w mine (entry_of held) at (items_of xs) outcome v.item v.item item)

    pub code_sized : length last ≡ width key.automaton
    code_sized = these (λ k j p l. length l ≡ width k.automaton) (sized h is i hi w mine (entry_of held) at (items_of xs) outcome v.item v.item item)

    pub code_reached : IsEnd key parent path (common_point last)
    code_reached = these (λ k j p l. IsEnd k j p (common_point l)) (reached h is i hi w mine (entry_of held) at (items_of xs) outcome v.item v.item item)

    pub code_passes : GapBackPasses key parent path last → (n : ℕ) (run : Run) → i < n → n ≤ length h.gaps → IsAlarmed h n run → IsWalked h (i + 1) run told → AlarmedPasses h n
    code_passes =
        these (λ k j p l. GapBackPasses k j p l → (n : ℕ) (run : Run) → i < n → n ≤ length h.gaps → IsAlarmed h n run → IsWalked h (i + 1) run told → AlarmedPasses h n)
        (λ p n run lt few first walked. next_passes h is i hi w mine (entry_of held) at (items_of xs) outcome v.item v.item item p n run lt few first (subst (IsWalked h (i + 1) run) (sym same) walked))

    -- the walk goes on at this number
    module _ (b : GapValue) (number : ℕ) (en : number ≡ v.item.parent) (gaps : List GapRun) (eg : gaps ≡ w.gaps ++ b.gap ∷ []) where
      abbrev further : WalkValue
      further = record { number = number; last = b.start; gaps = gaps }

      further_is : record { number = v.item.parent; last = b.start; gaps = w.gaps ++ b.gap ∷ [] } ≡ further
      further_is = λ j. record { number = sym en j; last = b.start; gaps = sym eg j }

      pub code_place : length b.start ≡ width key.automaton → All IsFraction b.start → AllHold (parent_at key parent).rows (common_point b.start) → IsWritableGap b.gap → IsPlace h i further
      code_place =
          these (λ k j p l. length b.start ≡ width k.automaton → All IsFraction b.start → AllHold (parent_at k j).rows (common_point b.start) → IsWritableGap b.gap → IsPlace h i further)
          (λ long all inside writable. subst (IsPlace h i) further_is (next_place h is i hi w mine (entry_of held) at (items_of xs) outcome v.item v.item item b long all inside writable))

      pub code_walked : IsGapBack key parent path last b → (n : ℕ) → i < n → n ≤ length h.gaps → IsWalkedBack h n (i + 1) told → IsWalkedBack h n i further
      code_walked =
          these (λ k j p l. IsGapBack k j p l b → (n : ℕ) → i < n → n ≤ length h.gaps → IsWalkedBack h n (i + 1) told → IsWalkedBack h n i further)
          (λ back n lt few walked. subst (IsWalkedBack h n i) further_is
          (next_walked h is i hi w mine (entry_of held) at (items_of xs) outcome v.item v.item item b back n lt few (subst (IsWalkedBack h n (i + 1)) (sym same) walked)))
