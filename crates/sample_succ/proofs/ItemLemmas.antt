-- One item more, or one that is covered: what was found stays exact.
use Rattle.std.proofs.Common.{◌≡◌, ◌↔◌, ◌⊎◌, inl, inr, ℕ, zero, suc, ◌<◌, List, [], ◌∷◌, ◌++◌, length, refl, sym, ◌∙◌, ap, subst, arith, pos, ◌<ℤ◌}
use Rattle.std.specs.Prelude.{All, Any, slice_index_or}
use Rattle.std.proofs.lemmas.List.{append-nil}
use Rattle.poly_specs.specs.Lists.{In}
use Rattle.poly_specs.specs.Rows.{Point, Row, AllHold, HasPoint}
use Rattle.poly_specs.proofs.EliminationLemmas.{in_map, out_map}
use Rattle.poly_specs.proofs.InclusionLemmas.{in_left, in_right, in_either}
use Rattle.fm_eliminate.proofs.PivotLemmas.{each_in}
use Rattle.run_specs.specs.Automaton.{width}
use Rattle.run_specs.specs.Keys.{Key, IsKey, parent_at}
use Rattle.run_specs.specs.Outcomes.{Item, MayTake, IsEnd, loc_after, mark_after, IsBefore, IsItem, ItemsRise, AreRising, IsAccounted, IsNeeded}
use Rattle.run_specs.specs.Stages.{rows_after, gap_start, sample_stage}
use Rattle.run_specs.specs.WellFormed.{IsWellFormed}
use Rattle.sample_succ.specs.declared.finding.Found.{Found}
use Rattle.sample_succ.specs.Covers.{item_of, items_of, AreWide, IsNotShown, DoesCover, DoesNotCover}
use Rattle.sample_succ.specs.Plain.{IsPlain}
use Rattle.sample_succ.specs.Walks.{plain_after, AreFound, AllBefore, BeginsBelow, WalkedTo}
use Rattle.sample_succ.proofs.NodeLemmas.{rows_are_ends}
use Rattle.sample_succ.proofs.PathLemmas.{not_both, path_rows_end}

-- ---- lists

module _ {X : Type 0} where
  stands_at : (xs : List X) (k : ℕ) (x : X) → k < length xs → slice_index_or xs k x ≡ x → In x xs
  stands_at [] k x h e = absurd (omega arith)
  stands_at (y ∷ xs) zero x h e = inl (sym e)
  stands_at (y ∷ xs) (suc k) x h e = inr (stands_at xs k x (omega arith) e)

  any_out : (P : X → Type 0) (xs : List X) → Any P xs → (x : X) × In x xs × P x
  any_out P xs (k, x, h, e, p) = (x, stands_at xs k x h e, p)

rise_after : (i : ℕ) (path : List ℕ) (xs : List Item) (x : Item) → ItemsRise i path xs → IsBefore i path x.parent x.path → ((y : Item) → In y xs → IsBefore y.parent y.path x.parent x.path) → ItemsRise i path (xs ++ x ∷ [])
rise_after i path [] x h b all = (b, tt)
rise_after i path (y ∷ xs) x h b all = (h.0, rise_after y.parent y.path xs x h.1 (all y (inl refl)) (λ z j. all z (inr j)))

rise_more : (xs : List Item) (x : Item) → AreRising xs → ((y : Item) → In y xs → IsBefore y.parent y.path x.parent x.path) → AreRising (xs ++ x ∷ [])
rise_more [] x h all = tt
rise_more (y ∷ xs) x h all = rise_after y.parent y.path xs x h (all y (inl refl)) (λ z j. all z (inr j))

pub accounted_more : (key : Key) (items more : List Item) (i : ℕ) (path : List ℕ) → ((x : Item) → In x items → In x more) → IsAccounted key items i path → IsAccounted key more i path
accounted_more key items more i path grown (inl (x, j, p, q)) = inl (x, grown x j, p, q)
accounted_more key items more i path grown (inr (inl none)) = inr (inl none)
accounted_more key items more i path grown (inr (inr (x, c))) = inr (inr (x, record { item = grown x c.item; alike = c.alike; included = c.included }))

-- nothing but the path itself begins below 0
module _ (key : Key) (items : List Item) (i : ℕ) (path : List ℕ) where
  here_only : IsAccounted key items i path → (other : List ℕ) → BeginsBelow 0 other → MayTake key i (path ++ other) → IsAccounted key items i (path ++ other)
  here_only h [] b may = subst (IsAccounted key items i) (sym (append-nil path)) h
  here_only h (e ∷ other) b may = absurd (omega (arith, b))

module _ (key : Key) (wf : IsWellFormed key.automaton) (is : IsKey key) where
  -- ---- the same list

  pub unchanged : (i : ℕ) (path : List ℕ) (n : ℕ) (fs : List Found) → AreWide (width key.automaton) fs → AreFound key (items_of fs) →
      ((other : List ℕ) → BeginsBelow n other → MayTake key i (path ++ other) → IsAccounted key (items_of fs) i (path ++ other)) → WalkedTo key i path n fs fs
  unchanged i path n fs wide found accounted = record { wide = wide; found = found; grown = λ x j. j; from = λ x j. inl j; accounted = accounted }

  -- no run goes along the path or one that extends it
  pub none_walked : (i : ℕ) (path : List ℕ) (n : ℕ) (fs : List Found) → AreWide (width key.automaton) fs → AreFound key (items_of fs) →
      ((other : List ℕ) (q : Point) → MayTake key i (path ++ other) → IsEnd key i (path ++ other) q → ⊥) → WalkedTo key i path n fs fs
  none_walked i path n fs wide found none = unchanged i path n fs wide found (λ other b may. inr (inl (λ q e. none other q may e)))

  module _ (i : ℕ) (path : List ℕ) (may : MayTake key i path) (rows : List Row)
      (plain : IsPlain (width key.automaton) rows (rows_after (sample_stage key.automaton key.gap key.seen (plain_after key i path)))) where
    ends : (q : Point) → pos 0 <ℤ q.den → length q.num ≡ width key.automaton → AllHold rows q ↔ IsEnd key i path q
    ends = rows_are_ends key wf is i path rows may plain

    -- no run ends there
    pub empty_walked : (fs : List Found) → AreWide (width key.automaton) fs → AreFound key (items_of fs) → (HasPoint (width key.automaton) rows → ⊥) → WalkedTo key i path 0 fs fs
    empty_walked fs wide found none = unchanged i path 0 fs wide found (here_only key (items_of fs) i path
        (inr (inl (λ q e. none (q, e.positive, e.sized, (ends q e.positive e.sized).1 e)))))

    -- an earlier item includes its ends
    pub covered_walked : (fs : List Found) → AreWide (width key.automaton) fs → AreFound key (items_of fs) → AllBefore (items_of fs) i path →
        Any (DoesCover (width key.automaton) (loc_after key i path) (mark_after key i path) rows) fs → WalkedTo key i path 0 fs fs
    covered_walked fs wide found before some =
        let (f, j, c) = any_out (DoesCover (width key.automaton) (loc_after key i path) (mark_after key i path) rows) fs some in
        let x : Item = item_of f in
        let k : In x (items_of fs) = in_map item_of f fs j in
        unchanged i path 0 fs wide found (here_only key (items_of fs) i path (inr (inr (
          x,
          record {
            item = k;
            alike = record { before = before x k; same_loc = c.0; same_mark = c.1 };
            included = λ q e. ((found.each x k).ends q e.positive e.sized).0 (c.2 q (record { positive = e.positive; sized = e.sized; holds = (ends q e.positive e.sized).1 e }));
          },
        ))))

    abbrev new_item : Item
    new_item = record { parent = i; path = path; state = record { loc = loc_after key i path; seen_unsafe = mark_after key i path; rows = rows } }

    item_is : HasPoint (width key.automaton) rows → IsItem key new_item
    item_is (q, hq, lq, h) = record {
      may_take = may;
      loc = refl;
      mark = refl;
      ends = ends;
      some_end = (q, (ends q hq lq).0 h);
      plain = λ r j. subst (λ rs. In r (rows_after (sample_stage key.automaton key.gap key.seen rs)))
          (sym (path_rows_end key.automaton (parent_at key i).loc path (gap_start (width key.automaton) (parent_at key i).rows))) (plain.among r j);
    }

    not_needed : (y : Item) → IsItem key y → IsNotShown (width key.automaton) y.state.rows rows → IsNeeded key y new_item
    not_needed y item (inl passes) alike included = passes
    not_needed y item (inr (p, at, not)) alike included =
        absurd (not ((item.ends p at.positive at.sized).1 (included p ((ends p at.positive at.sized).0 at.holds))))

    -- one item more
    pub item_walked : (old new : List Found) → AreWide (width key.automaton) new → AreFound key (items_of old) → AllBefore (items_of old) i path → HasPoint (width key.automaton) rows →
        All (DoesNotCover (width key.automaton) (loc_after key i path) (mark_after key i path) rows) old → items_of new ≡ items_of old ++ new_item ∷ [] → WalkedTo key i path 0 old new
    item_walked old new wide found before point none e =
        let x : Item = new_item in
        let xs : List Item = items_of old in
        let item = item_is point in
        record {
          wide = wide;
          found = subst (AreFound key) (sym e) (record {
            each = λ y j. elim (in_either y xs (x ∷ []) j) [
              | inl k ↦ found.each y k
              | inr (inl f) ↦ subst (IsItem key) (sym f) item
              | inr (inr k) ↦ absurd k
            ];
            rising = rise_more xs x found.rising before;
            needed = λ y z j k. needed item y z (in_either y xs (x ∷ []) j) (in_either z xs (x ∷ []) k);
          });
          grown = λ y j. subst (In y) (sym e) (in_left y xs (x ∷ []) j);
          from = λ y j. elim (in_either y xs (x ∷ []) (subst (In y) e j)) [
            | inl k ↦ inl k
            | inr (inl f) ↦ inr (ap (λ z. z.parent) f, ([], ap (λ z. z.path) f ∙ sym (append-nil path), tt))
            | inr (inr k) ↦ absurd k
          ];
          accounted = here_only key (items_of new) i path (inl (x, subst (In x) (sym e) (in_right x xs (x ∷ []) (inl refl)), refl, refl));
        }
      where
        old_needed : (y : Item) → In y (items_of old) → IsNeeded key y new_item
        old_needed y j alike included =
            let (f, k, g) = out_map item_of y old j in
            let shown = each_in (DoesNotCover (width key.automaton) (loc_after key i path) (mark_after key i path) rows) old none f k
            (ap (λ z. z.state.loc) (sym g) ∙ alike.same_loc) (ap (λ z. z.state.seen_unsafe) (sym g) ∙ alike.same_mark) in
            not_needed y (found.each y j) (subst (λ z. IsNotShown (width key.automaton) z.state.rows rows) (sym g) shown) alike included

        needed : IsItem key new_item → (y z : Item) → In y (items_of old) ⊎ In y (new_item ∷ []) → In z (items_of old) ⊎ In z (new_item ∷ []) → IsNeeded key y z
        needed item y z (inl j) (inl k) = found.needed y z j k
        needed item y z (inl j) (inr (inl f)) = subst (IsNeeded key y) (sym f) (old_needed y j)
        needed item y z (inl j) (inr (inr k)) = absurd k
        needed item y z (inr (inl f)) (inl k) = λ alike included. absurd (not_both z.parent i z.path path (before z k)
            (subst (λ w. IsBefore w.parent w.path z.parent z.path) f alike.before))
        needed item y z (inr (inl f)) (inr (inl g)) = λ alike included. (let h : IsBefore i path i path = subst (λ w. IsBefore i path w.parent w.path) g (subst (λ w. IsBefore w.parent w.path z.parent z.path) f alike.before) in
            absurd (not_both i i path path h h))
        needed item y z (inr (inl f)) (inr (inr k)) = absurd k
        needed item y z (inr (inr j)) k = absurd j
