-- Slots, one sample after the other.
use Rattle.std.proofs.Common.{◌≡◌, ℕ, suc, ◌+◌, ◌<◌, List, [], ◌∷◌, ◌++◌, length, take, drop, map, get_or, None, Some, refl, sym, ap, subst, ◌∙◌, vec_len, arith, append_assoc, append-nil}
use Rattle.std.specs.Prelude.{slice_get}
use Rattle.std.proofs.lemmas.List.{take_more, drop_more, map-append, length-append, length-map, length-take-le}
use Rattle.std.proofs.lemmas.List.Elements.{All-get_or}
use Rattle.std.proofs.lemmas.Option.{slice_get-get_or, slice_get_within, get_or_from_slice_get}
use Rattle.poly_specs.specs.Fractions.{zero_fraction}
use Rattle.run_specs.specs.declared.Verdict.{Verdict}
use Rattle.run_specs.specs.Logs.{Sample}
use Rattle.run_specs.specs.Sessions.{MonitorSession, IsInTime, MayBegin, accepted, wanted_for}
use Rattle.live_session.specs.Driven.{IsDriven}
use Rattle.live_session.proofs.DrivenLemmas.{driven_log, driven_columns, driven_automaton, driven_idle}
use Rattle.live_session.specs.declared.refusals.SampleRefusal.{SampleRefusal}
use Rattle.live_session.specs.declared.refusals.SampleRefusal.TheVariants.{Cells, Time, Limit, Memory}
use Rattle.session_drive.specs.declared.counts.DriveFault.{DriveFault}
use Rattle.session_drive.specs.declared.counts.DriveFault.TheVariants as fault
use Rattle.session_drive.specs.Remembered.{IsUndriven}
use Rattle.watch_pool.specs.Counted.{looks_for}
use Rattle.watch_pool.specs.Slots.{MayDrive, HasLogNumbers, IsReady, Drives, DrivesSome, DrivesPrefix, DrivesAll}
use Rattle.watch_pool.specs.OneSample.{IsReadyAt, DrivesOne, DrivesNone}
use Rattle.watch_pool.specs.declared.receipts.Receipt.{Receipt}
use Rattle.watch_pool.specs.declared.slots.Slot.{Slot}

-- ---- which samples may be driven

-- a sample that may be begun is not refused
pub never_refused : (s : MonitorSession) (x : Sample) (f : DriveFault) (why : SampleRefusal) → f ≡ fault.Refused why → IsUndriven s x f → MayBegin s x → ⊥
never_refused s x f why refused is may = go why (subst (IsUndriven s x) refused is)
  where
    go : (y : SampleRefusal) → IsUndriven s x (fault.Refused y) → ⊥
    go Cells h = h.0 may.cells
    go Time h = h.0.1 may.time
    go Limit h = omega (arith, h.0.2, may.room)
    go Memory h = h.1 refl

may_begin_like : (s t : MonitorSession) (x : Sample) → t.columns ≡ s.columns → t.log ≡ s.log → MayBegin s x → MayBegin t x
may_begin_like s t x columns log may = record {
  cells = may.cells ∙ ap length (sym columns);
  time = subst (λ samples. IsInTime samples x.time) (sym log) may.time;
  room = subst (λ samples. length samples < 200000) (sym log) may.room;
}

may_drive_like : (xs : List Sample) (s t : MonitorSession) → t.columns ≡ s.columns → t.history.automaton ≡ s.history.automaton → t.log ≡ s.log → MayDrive s xs → MayDrive t xs
may_drive_like [] s t columns automaton log may = tt
may_drive_like (x ∷ xs) s t columns automaton log may = (
  may_begin_like s t x columns log may.0,
  may_drive_like xs (record s { log = s.log ++ accepted s x ∷ [] }) (record t { log = t.log ++ accepted t x ∷ [] }) columns automaton
      (rw (columns, automaton, log) refl) may.1,
)

may_drive_next : (xs : List Sample) (s t : MonitorSession) (x : Sample) (v : Verdict) → IsDriven s t x v → MayDrive s (x ∷ xs) → MayDrive t xs
may_drive_next xs s t x v is may =
    may_drive_like xs (record s { log = s.log ++ accepted s x ∷ [] }) t (driven_columns s t x v is) (driven_automaton s t x v is) (driven_log s t x v is) may.1

module _ {H F : Type 0} where
  -- ---- which samples were

  drives_more : (xs : List Sample) (ds : List (Verdict × Receipt H F)) (s m t : MonitorSession) (x : Sample) (d : Verdict × Receipt H F) →
      Drives s xs ds m → IsDriven m t x d.0 → d.1.counts.looks ≡ looks_for (wanted_for m x None) → Drives s (xs ++ x ∷ []) (ds ++ d ∷ []) t
  drives_more [] [] s m t x d none is looks =
      (t, subst (λ (u : MonitorSession). IsDriven u t x d.0) none is, looks ∙ ap (λ (u : MonitorSession). looks_for (wanted_for u x None)) none, refl)
  drives_more [] (e ∷ ds) s m t x d none is looks = absurd none
  drives_more (y ∷ xs) [] s m t x d none is looks = absurd none
  drives_more (y ∷ xs) (e ∷ ds) s m t x d some is looks = (some.0, some.1, some.2, drives_more xs ds some.0 m t x d some.3 is looks)

  drives_length : (xs : List Sample) (ds : List (Verdict × Receipt H F)) (s t : MonitorSession) → Drives s xs ds t → length ds ≡ length xs
  drives_length [] [] s t h = refl
  drives_length [] (d ∷ ds) s t h = absurd h
  drives_length (x ∷ xs) [] s t h = absurd h
  drives_length (x ∷ xs) (d ∷ ds) s t h = ap suc (drives_length xs ds h.0 t h.3)

  -- ---- one of the pending samples

  module _ (slot : Slot H F) (i : ℕ) (ready : IsReadyAt i slot) (x : Sample) (read : x ≡ get_or slot.pending.items i x) where
    pub is_sample : x ≡ ready.sample
    is_sample = read ∙ get_or_from_slice_get slot.pending.items i ready.sample x ready.here

    pub has_numbers : HasLogNumbers x
    has_numbers = subst HasLogNumbers (sym is_sample) ready.numbers

    pub may_begin : MayBegin slot.session x
    may_begin = subst (MayBegin slot.session) (sym is_sample) ready.may_begin

  -- ---- all of them, one after the other

  pub none_driven : (slot : Slot H F) → IsReady slot → DrivesSome 0 slot slot
  none_driven slot ready = record {
    done = [];
    some = omega arith;
    driven = refl;
    idle = ready.idle;
    replies = sym (append-nil slot.replies.items);
    receipts = sym (append-nil slot.receipts.items);
    pending = refl;
  }

  -- so far i samples were driven, and the others may be
  pub record DrivesUpTo (i : ℕ) (old new : Slot H F) : Type 0 where
    pub some : DrivesSome i old new
    pub may_drive : MayDrive new.session (drop i old.pending.items)

  pub at_first : (slot : Slot H F) → IsReady slot → DrivesUpTo 0 slot slot
  at_first slot ready = record { some = none_driven slot ready; may_drive = ready.may_drive }

  module _ (old mid : Slot H F) (i : ℕ) (is : DrivesUpTo i old mid) where
    -- the next one may be begun
    pub next_ready : IsReady old → i < length old.pending.items → IsReadyAt i mid
    next_ready ready within =
        let xs = old.pending.items in
        let d : Sample = record { time = zero_fraction; cells = [] } in
        let may : MayDrive mid.session (get_or xs i d ∷ drop (i + 1) xs) = subst (MayDrive mid.session) (drop_more xs i d within) is.may_drive in
        record {
          sample = get_or xs i d;
          here = ap (λ v. slice_get v.items i) is.some.pending ∙ slice_get-get_or xs i d within;
          idle = is.some.idle;
          numbers = All-get_or HasLogNumbers xs i d within ready.numbers;
          may_begin = may.0;
        }

    module _ (new : Slot H F) (one : DrivesOne i mid new) where
      abbrev xs : List Sample
      xs = old.pending.items

      here : slice_get xs i ≡ Some one.sample
      here = ap (λ v. slice_get v.items i) (sym is.some.pending) ∙ one.here

      within : i < length xs
      within = slice_get_within xs i one.sample here

      at : get_or xs i one.sample ≡ one.sample
      at = get_or_from_slice_get xs i one.sample one.sample here

      abbrev answer : Verdict × Receipt H F
      answer = (one.reply, one.receipt)

      one_more : DrivesSome (i + 1) old new
      one_more = record {
        done = is.some.done ++ answer ∷ [];
        some = omega (arith, within);
        driven = subst (λ ys. Drives old.session ys (is.some.done ++ answer ∷ []) new.session)
            (ap (λ y. take i xs ++ y ∷ []) (sym at) ∙ sym (take_more xs i one.sample within))
            (drives_more (take i xs) is.some.done old.session mid.session new.session one.sample answer is.some.driven one.driven one.looks);
        idle = driven_idle mid.session new.session one.sample one.reply one.driven;
        replies = one.replies ∙ (ap (λ vs. vs ++ one.reply ∷ []) is.some.replies
            ∙ (append_assoc old.replies.items (map (λ (d : Verdict × Receipt H F). d.0) is.some.done) (one.reply ∷ [])
            ∙ ap (λ vs. old.replies.items ++ vs) (sym (map-append (λ (d : Verdict × Receipt H F). d.0) is.some.done (answer ∷ [])))));
        receipts = one.receipts ∙ (ap (λ rs. rs ++ one.receipt ∷ []) is.some.receipts
            ∙ (append_assoc old.receipts.items (map (λ (d : Verdict × Receipt H F). d.1) is.some.done) (one.receipt ∷ [])
            ∙ ap (λ rs. old.receipts.items ++ rs) (sym (map-append (λ (d : Verdict × Receipt H F). d.1) is.some.done (answer ∷ [])))));
        pending = one.pending ∙ is.some.pending;
      }

      pub one_up : DrivesUpTo (i + 1) old new
      one_up = record {
        some = one_more;
        may_drive = may_drive_next (drop (i + 1) xs) mid.session new.session one.sample one.reply one.driven
            (subst (λ y. MayDrive mid.session (y ∷ drop (i + 1) xs)) at (subst (MayDrive mid.session) (drop_more xs i one.sample within) is.may_drive));
      }

    -- a sample for which memory is wanting changes nothing
    pub no_more : (new : Slot H F) → DrivesNone mid new → DrivesSome i old new
    no_more new none = record {
      done = is.some.done;
      some = is.some.some;
      driven = subst (Drives old.session (take i old.pending.items) is.some.done) (sym none.session) is.some.driven;
      idle = ap (λ (s : MonitorSession). s.phase) none.session ∙ is.some.idle;
      replies = none.replies ∙ is.some.replies;
      receipts = none.receipts ∙ is.some.receipts;
      pending = none.pending ∙ is.some.pending;
    }

  replies_after : (n : ℕ) (old new : Slot H F) (so : DrivesSome n old new) → length new.replies.items ≡ length old.replies.items + n
  replies_after n old new so =
      let replies = map (λ (d : Verdict × Receipt H F). d.0) so.done in
      ap length so.replies ∙ (length-append old.replies.items replies ∙ ap (λ k. length old.replies.items + k)
      (length-map so.done (λ (d : Verdict × Receipt H F). d.0)
      ∙ (drives_length (take n old.pending.items) so.done old.session new.session so.driven ∙ length-take-le n old.pending.items so.some)))

  -- where a slot has a reply more for each pending sample, all of them were driven
  pub all_when_counted : (old new : Slot H F) (start : ℕ) → DrivesPrefix old new → start ≡ vec_len old.replies → vec_len new.replies ≡ start + vec_len new.pending → DrivesAll old new
  all_when_counted old new start some from counted =
      let so = some.1 in
      let pending : vec_len new.pending ≡ vec_len old.pending = ap (λ v. vec_len v) so.pending in
      let more : length new.replies.items ≡ length old.replies.items + some.0 = replies_after some.0 old new so in
      let sized : vec_len old.pending ≡ length old.pending.items = old.pending.ok.0 in
      let before : vec_len old.replies ≡ length old.replies.items = old.replies.ok.0 in
      let after : vec_len new.replies ≡ length new.replies.items = new.replies.ok.0 in
      let n : some.0 ≡ length old.pending.items = omega (arith, from, counted, pending, more, sized, before, after) in
      subst (λ k. DrivesSome k old new) n so
