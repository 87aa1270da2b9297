-- At a node: the leg, the sample, and the jumps from there.
use Rattle.std.proofs.Common.{◌≡◌, inl, inr, ℕ, ◌+◌, ◌<◌, ◌||◌, List, [], ◌∷◌, ◌++◌, length, length-append, sym, ◌∙◌, ap, subst, arith}
use Rattle.std.specs.Prelude.{All, Any, Some, None}
use Rattle.poly_specs.specs.Bits.{SomePasses}
use Rattle.poly_specs.specs.Rows.{Row, AllWide}
use Rattle.poly_specs.specs.Systems.{System}
use Rattle.run_specs.specs.Automaton.{width, location_at, transition_at}
use Rattle.run_specs.specs.Keys.{Key, IsKey, parent_at}
use Rattle.run_specs.specs.Outcomes.{MayTake, KeyPasses, loc_after, mark_after}
use Rattle.run_specs.specs.Stages.{rows_after, stage_numbers, at_most, leg_stage, jump_stage, sample_stage}
use Rattle.run_specs.specs.WellFormed.{IsWellFormed}
use Rattle.sample_succ.specs.declared.finding.Found.{Found}
use Rattle.sample_succ.specs.declared.finding.Node.{Node}
use Rattle.sample_succ.specs.Covers.{items_of, AreWide, DoesCover, DoesNotCover}
use Rattle.sample_succ.specs.Plain.{IsPlain, IsLeft, IsLeftInTime}
use Rattle.sample_succ.specs.Walks.{plain_before, plain_after, IsNodeAt, IsNode, IsAfter, IsJumped, AreFound, AllBefore, WalkedTo, IsPutNew}
use Rattle.sample_succ.proofs.ItemLemmas.{none_walked, empty_walked, covered_walked, item_walked}
use Rattle.sample_succ.proofs.LateLemmas.{point_back_with}
use Rattle.sample_succ.proofs.NodeLemmas.{point_back, loc_within, plain_wide, after_wide, leg_plain, jump_plain, sample_plain, leg_fault, jump_fault, sample_fault, no_leg, no_jump, next_node}
use Rattle.sample_succ.proofs.PathLemmas.{end_more, fits_more, fits_rest, unsafe_more}
use Rattle.sample_succ.proofs.PlainLemmas.{plain_same, plain_then}

module _ (key : Key) (wf : IsWellFormed key.automaton) (is : IsKey key) (n : Node) (node : IsNode key n) where
  pub known : n.loc < length key.automaton.locations
  known = subst (λ l. l < length key.automaton.locations) (sym node.loc) (loc_within key wf is n.parent n.path.items node.at.may_take)

  -- ---- the leg

  pub leg_passes : SomePasses (stage_numbers (leg_stage key.automaton n.loc n.before.rows)) → KeyPasses key
  leg_passes h = leg_fault key wf is n.parent n.path.items n.before node.at (subst (λ l. SomePasses (stage_numbers (leg_stage key.automaton l n.before.rows))) node.loc h)

  leg_is : AllWide (width key.automaton + 1) n.before.rows → IsPlain (width key.automaton + 1) (rows_after (leg_stage key.automaton n.loc n.before.rows)) (plain_after key n.parent n.path.items)
  leg_is wide =
      let l : ℕ = loc_after key n.parent n.path.items in
      subst (λ k. IsPlain (width key.automaton + 1) (rows_after (leg_stage key.automaton k n.before.rows)) (plain_after key n.parent n.path.items)) (sym node.loc)
      (leg_plain key wf is l n.before.rows (plain_before key n.parent n.path.items) (loc_within key wf is n.parent n.path.items node.at.may_take) wide (plain_wide key wf is n.parent n.path.items node.at.may_take) node.at.plain)

  pub leg_after : (s : System) → AllWide (width key.automaton + 1) n.before.rows → IsLeft (leg_stage key.automaton n.loc n.before.rows) (Some s) → IsAfter key n.parent n.path.items s
  leg_after s wide left = record {
    wide = left.0;
    plain = plain_then (width key.automaton + 1) s.rows (rows_after (leg_stage key.automaton n.loc n.before.rows)) (plain_after key n.parent n.path.items) left.1 (leg_is wide);
    some_point = left.2;
  }

  pub leg_none : (fs : List Found) → AllWide (width key.automaton + 1) n.before.rows → AreWide (width key.automaton) fs → AreFound key (items_of fs) → IsLeft (leg_stage key.automaton n.loc n.before.rows) None →
      WalkedTo key n.parent n.path.items (length key.automaton.transitions) fs fs
  leg_none fs wide each found left = none_walked key wf is n.parent n.path.items (length key.automaton.transitions) fs each found (λ other q may e.
      no_leg key wf is n.parent n.path.items other q
      (λ point. left (point_back (width key.automaton + 1) (rows_after (leg_stage key.automaton n.loc n.before.rows)) (plain_after key n.parent n.path.items) (leg_is wide) point)) may e)

  module _ (s : System) (after : IsAfter key n.parent n.path.items s) (wide : AllWide (width key.automaton + 1) s.rows) where
    -- ---- the sample

    pub sample_passes : SomePasses (stage_numbers (sample_stage key.automaton key.gap key.seen s.rows)) → KeyPasses key
    sample_passes h = sample_fault key wf is n.parent n.path.items n.before s node.at after h

    sample_is : (rows : List Row) → IsPlain (width key.automaton) rows (rows_after (sample_stage key.automaton key.gap key.seen s.rows)) →
        IsPlain (width key.automaton) rows (rows_after (sample_stage key.automaton key.gap key.seen (plain_after key n.parent n.path.items)))
    sample_is rows h = sample_plain key wf is n.parent s.rows (plain_after key n.parent n.path.items) rows node.at.may_take.parent wide (after_wide key wf is n.parent n.path.items node.at.may_take) after.plain h

    pub sample_none : (fs : List Found) → AreWide (width key.automaton) fs → AreFound key (items_of fs) → IsLeft (sample_stage key.automaton key.gap key.seen s.rows) None →
        WalkedTo key n.parent n.path.items 0 fs fs
    sample_none fs each found left =
        let rows : List Row = rows_after (sample_stage key.automaton key.gap key.seen s.rows) in
        empty_walked key wf is n.parent n.path.items node.at.may_take rows (sample_is rows (plain_same (width key.automaton) rows)) fs each found left

    module _ (t : System) (left : IsLeft (sample_stage key.automaton key.gap key.seen s.rows) (Some t)) where
      pub sample_covered : (fs : List Found) → AreWide (width key.automaton) fs → AreFound key (items_of fs) → AllBefore (items_of fs) n.parent n.path.items →
          Any (DoesCover t.width n.loc n.seen_unsafe t.rows) fs → WalkedTo key n.parent n.path.items 0 fs fs
      sample_covered fs each found before some =
          covered_walked key wf is n.parent n.path.items node.at.may_take t.rows (sample_is t.rows left.1) fs each found before
          (subst (λ b. Any (DoesCover (width key.automaton) (loc_after key n.parent n.path.items) b t.rows) fs) node.mark
          (subst (λ l. Any (DoesCover (width key.automaton) l n.seen_unsafe t.rows) fs) node.loc (subst (λ w. Any (DoesCover w n.loc n.seen_unsafe t.rows) fs) left.0 some)))

      pub sample_item : (old new : List Found) → AreWide (width key.automaton) new → AreFound key (items_of old) → AllBefore (items_of old) n.parent n.path.items →
          All (DoesNotCover t.width n.loc n.seen_unsafe t.rows) old →
          items_of new ≡ items_of old ++ record { parent = n.parent; path = n.path.items; state = record { loc = n.loc; seen_unsafe = n.seen_unsafe; rows = t.rows } } ∷ [] →
          WalkedTo key n.parent n.path.items 0 old new
      sample_item old new each found before none e =
          item_walked key wf is n.parent n.path.items node.at.may_take t.rows (sample_is t.rows left.1) old new each found before left.2
          (subst (λ b. All (DoesNotCover (width key.automaton) (loc_after key n.parent n.path.items) b t.rows) old) node.mark
          (subst (λ l. All (DoesNotCover (width key.automaton) l n.seen_unsafe t.rows) old) node.loc (subst (λ w. All (DoesNotCover w n.loc n.seen_unsafe t.rows) old) left.0 none)))
          (e ∙ ap (λ l. items_of old ++ record { parent = n.parent; path = n.path.items; state = record { loc = l; seen_unsafe = n.seen_unsafe; rows = t.rows } } ∷ []) node.loc
          ∙ ap (λ b. items_of old ++ record { parent = n.parent; path = n.path.items; state = record { loc = loc_after key n.parent n.path.items; seen_unsafe = b; rows = t.rows } } ∷ []) node.mark)

      pub put_walked : (old new : List Found) → AreWide (width key.automaton) old → AreFound key (items_of old) → AllBefore (items_of old) n.parent n.path.items → IsPutNew n t old new →
          WalkedTo key n.parent n.path.items 0 old new
      put_walked old new each found before (inl (some, same)) = subst (WalkedTo key n.parent n.path.items 0 old) (sym same) (sample_covered old each found before some)
      put_walked old new each found before (inr put) = sample_item old new (put.wide (width key.automaton) left.0 each) found before put.not_covered put.items

    -- ---- a jump

    module _ (e : ℕ) (he : e < length key.automaton.transitions) (room : length n.path.items < key.jumps) where
      -- the transition leaves another location
      pub jump_away : ((transition_at key.automaton e).source ≡ n.loc → ⊥) → IsJumped key n.parent n.path.items e None
      jump_away away other q may end = away ((fits_rest key.automaton (parent_at key n.parent).loc n.path.items (e ∷ other) may.fits).1 ∙ sym node.loc)

      module _ (source : (transition_at key.automaton e).source ≡ n.loc) where
        may_jump : MayTake key n.parent (n.path.items ++ e ∷ [])
        may_jump = record {
          parent = node.at.may_take.parent;
          few = omega (arith, room, length-append n.path.items (e ∷ []));
          fits = fits_more key.automaton (parent_at key n.parent).loc n.path.items e node.at.may_take.fits he (source ∙ node.loc);
        }

        pub jump_passes : SomePasses (stage_numbers (jump_stage key.automaton e s.rows)) → KeyPasses key
        jump_passes h = jump_fault key wf is n.parent n.path.items e n.before s node.at after may_jump h

        jump_is : IsPlain (width key.automaton + 1) (rows_after (jump_stage key.automaton e s.rows)) (rows_after (jump_stage key.automaton e (plain_after key n.parent n.path.items)))
        jump_is = jump_plain key wf is e s.rows (plain_after key n.parent n.path.items) he wide (after_wide key wf is n.parent n.path.items node.at.may_take) after.plain

        pub jump_none : IsLeftInTime key (jump_stage key.automaton e s.rows) None → IsJumped key n.parent n.path.items e None
        jump_none left other q may end = no_jump key wf is n.parent n.path.items e other q node.at.may_take
            (λ point. left (point_back_with (width key.automaton + 1) (at_most (width key.automaton + 1) (width key.automaton) key.gap) (rows_after (jump_stage key.automaton e s.rows)) (rows_after (jump_stage key.automaton e (plain_after key n.parent n.path.items))) jump_is point)) may end

        target_is : (transition_at key.automaton e).target ≡ loc_after key n.parent (n.path.items ++ e ∷ [])
        target_is = sym (end_more key.automaton (parent_at key n.parent).loc n.path.items (e ∷ []))

        mark_is : (n.seen_unsafe || (location_at key.automaton (transition_at key.automaton e).target).is_unsafe) ≡ mark_after key n.parent (n.path.items ++ e ∷ [])
        mark_is = ap (λ b. b || (location_at key.automaton (transition_at key.automaton e).target).is_unsafe) node.mark
            ∙ sym (unsafe_more key.automaton (parent_at key n.parent).seen_unsafe (parent_at key n.parent).loc n.path.items e)

        pub jump_some : (t : System) (x : Node) → IsLeft (jump_stage key.automaton e s.rows) (Some t) → x.parent ≡ n.parent → x.path.items ≡ n.path.items ++ e ∷ [] →
            x.loc ≡ (transition_at key.automaton e).target → x.seen_unsafe ≡ (n.seen_unsafe || (location_at key.automaton (transition_at key.automaton e).target).is_unsafe) → x.before ≡ t →
            IsJumped key n.parent n.path.items e (Some x)
        jump_some t x left p w l b r =
            let path : List ℕ = n.path.items ++ e ∷ [] in
            let plain = plain_then (width key.automaton + 1) t.rows (rows_after (jump_stage key.automaton e s.rows)) (rows_after (jump_stage key.automaton e (plain_after key n.parent n.path.items))) left.1 jump_is in
            let at : IsNodeAt key n.parent path t = next_node key wf is n.parent n.path.items e n.before s t node.at after may_jump left.0 plain left.2 in (
              p,
              w,
              record {
                loc = l ∙ target_is ∙ ap (λ i. loc_after key i path) (sym p) ∙ ap (loc_after key x.parent) (sym w);
                mark = b ∙ mark_is ∙ ap (λ i. mark_after key i path) (sym p) ∙ ap (mark_after key x.parent) (sym w);
                at = subst (λ i. IsNodeAt key i x.path.items x.before) (sym p) (subst (λ v. IsNodeAt key n.parent v x.before) (sym w) (subst (IsNodeAt key n.parent path) (sym r) at));
              },
            )
