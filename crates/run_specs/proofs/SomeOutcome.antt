-- Each key has exact items: a path that may be taken gets one where it has an end, unless an earlier item that is alike has all its ends.
use Rattle.std.proofs.Common.{◌≡◌, ◌⊎◌, inl, inr, ℕ, Bool, true, false, List, [], ◌∷◌, ◌++◌, append_assoc, append-nil, refl, sym, ◌∙◌, ap, subst}
use Rattle.std.specs.Ordering.{nat_cmp, ordering_then, ordering_reverse}
use Rattle.std.specs.declared.cmp.Ordering.{Ordering}
use Rattle.std.specs.declared.cmp.Ordering.TheVariants.{Greater}
use Rattle.std.specs.Cmp.{IsTotalOrder, on_total, then_total, nat_cmp_total}
use Rattle.std.specs.Cmp.Lexicographic.{slice_cmp, nat_list_cmp_total}
use Rattle.poly_specs.proofs.InclusionLemmas.{in_left, in_right, in_either}
use Rattle.poly_specs.proofs.PickingLemmas.{point_or_none}
use Rattle.run_specs.proofs.StageWidths.{gap_wide}
use Rattle.run_specs.proofs.GapExact.{gap_exact}
use Rattle.run_specs.proofs.HistorySystems.{same_or_not}
use Rattle.run_specs.proofs.RowDecisions.{within_or_not}
use Rattle.run_specs.proofs.PathLists.{InOrder, Branch, BranchBefore, branch, branches_of}
use Rattle.poly_specs.specs.Lists.{In}
use Rattle.poly_specs.specs.Rows.{Point, Row, AllWide}
use Rattle.run_specs.specs.Automaton.{width}
use Rattle.run_specs.specs.WellFormed.{IsWellFormed}
use Rattle.run_specs.specs.Stages.{gap_rows}
use Rattle.run_specs.specs.Keys.{Key, IsKey, IsState, no_state, parent_at}
use Rattle.run_specs.specs.Outcomes.{Item, MayTake, IsEnd, IsIncluded, loc_after, mark_after, IsBefore, IsItem, ItemsRise, AreRising, IsEarlierLike, IsCovered, IsAccounted, AreExact}

-- ---- the order of branches

abbrev branch_cmp : Branch → Branch → Ordering
branch_cmp c d = ordering_then (nat_cmp c.parent d.parent) (slice_cmp nat_cmp c.path d.path)

branch_total : IsTotalOrder branch_cmp
branch_total = then_total (on_total (λ (c : Branch). c.parent) nat_cmp_total) (on_total (λ (c : Branch). c.path) nat_list_cmp_total)

not_both : (c d : Branch) → BranchBefore c d → BranchBefore d c → ⊥
not_both c d e f = let g : branch_cmp c d ≡ Greater = branch_total.antisymm c d ∙ ap ordering_reverse f in absurd (let b : ⊥ = cc in b)

-- ---- lists of items

rises_more : (i : ℕ) (path : List ℕ) (xs : List Item) (x : Item) → IsBefore i path x.parent x.path → ItemsRise i path xs →
    ((y : Item) → In y xs → IsBefore y.parent y.path x.parent x.path) → ItemsRise i path (xs ++ x ∷ [])
rises_more i path [] x h r b = (h, tt)
rises_more i path (y ∷ xs) x h r b = (r.0, rises_more y.parent y.path xs x (b y (inl refl)) r.1 (λ z j. b z (inr j)))

rising_more : (xs : List Item) (x : Item) → AreRising xs → ((y : Item) → In y xs → IsBefore y.parent y.path x.parent x.path) → AreRising (xs ++ x ∷ [])
rising_more [] x r b = tt
rising_more (y ∷ xs) x r b = rises_more y.parent y.path xs x (b y (inl refl)) r (λ z j. b z (inr j))

bools_same : (a b : Bool) → (a ≡ b) ⊎ (a ≡ b → ⊥)
bools_same true true = inl refl
bools_same true false = inr (λ e. cc)
bools_same false true = inr (λ e. cc)
bools_same false false = inl refl

module _ (key : Key) (wf : IsWellFormed key.automaton) (is : IsKey key) where
  -- the rows after the plain stages of a gap along this path
  abbrev plain : ℕ → List ℕ → List Row
  plain i path = gap_rows key.automaton (parent_at key i).loc path key.gap key.seen (parent_at key i).rows

  plain_wide : (i : ℕ) (path : List ℕ) → MayTake key i path → AllWide (width key.automaton) (plain i path)
  plain_wide i path may =
      let state : IsState key.automaton (parent_at key i) = is.belief i no_state may.parent in
      gap_wide key.automaton wf (parent_at key i).loc path key.gap key.seen (parent_at key i).rows state.loc may.fits state.wide

  -- ---- what can be told of paths

  end_or_none : (i : ℕ) (path : List ℕ) → MayTake key i path → ((q : Point) × IsEnd key i path q) ⊎ ((q : Point) → IsEnd key i path q → ⊥)
  end_or_none i path may = elim (point_or_none (width key.automaton) (plain i path) (plain_wide i path may)) [
    | inl (q, hq, lq, h) ↦ inl (q, (gap_exact key i path q wf is may hq lq).0 h)
    | inr none ↦ inr (λ q end. none (q, end.positive, end.sized, (gap_exact key i path q wf is may end.positive end.sized).1 end))
  ]

  included_or_not : (i : ℕ) (path : List ℕ) (j : ℕ) (other : List ℕ) → MayTake key i path → MayTake key j other →
      IsIncluded key i path j other ⊎ (IsIncluded key i path j other → ⊥)
  included_or_not i path j other may may_other =
      elim (within_or_not (width key.automaton) (plain i path) (plain j other) (plain_wide i path may) (plain_wide j other may_other)) [
        | inl within ↦ inl (λ q end. (gap_exact key j other q wf is may_other end.positive end.sized).0
            (within q end.positive end.sized ((gap_exact key i path q wf is may end.positive end.sized).1 end)))
        | inr others ↦ inr (λ included. others (λ q hq lq h.
            (gap_exact key j other q wf is may_other hq lq).1 (included q ((gap_exact key i path q wf is may hq lq).0 h))))
      ]

  -- ---- the item of a path

  abbrev item_of : Branch → Item
  item_of c = record {
    parent = c.parent;
    path = c.path;
    state = record { loc = loc_after key c.parent c.path; seen_unsafe = mark_after key c.parent c.path; rows = plain c.parent c.path };
  }

  item_is : (c : Branch) → MayTake key c.parent c.path → (q : Point) × IsEnd key c.parent c.path q → IsItem key (item_of c)
  item_is c may some = record {
    may_take = may;
    loc = refl;
    mark = refl;
    ends = λ q hq lq. gap_exact key c.parent c.path q wf is may hq lq;
    some_end = some;
    plain = λ r i. i;
  }

  -- ---- the items so far

  -- these items account for the branches that are done
  record Account (done : List Branch) (items : List Item) : Type 0 where
    each : (x : Item) → In x items → IsItem key x
    rising : AreRising items
    among : (x : Item) → In x items → In (branch x.parent x.path) done
    complete : (c : Branch) → In c done → IsAccounted key items c.parent c.path
    none_covered : (x y : Item) → In x items → In y items → IsEarlierLike key y.parent y.path x → IsIncluded key y.parent y.path x.parent x.path → ⊥

  -- no item that is alike has all ends of this branch
  abbrev IsNew : List Item → Branch → Type 0
  IsNew items c = (x : Item) → In x items → IsEarlierLike key c.parent c.path x → IsIncluded key c.parent c.path x.parent x.path → ⊥

  -- whether this item covers the branch
  covers_or_not : (items : List Item) (c : Branch) (x : Item) → In x items → MayTake key c.parent c.path → IsItem key x → IsBefore x.parent x.path c.parent c.path →
      IsCovered key items c.parent c.path x ⊎ (IsEarlierLike key c.parent c.path x → IsIncluded key c.parent c.path x.parent x.path → ⊥)
  covers_or_not items c x i may item before =
      elim (same_or_not x.state.loc (loc_after key c.parent c.path)) [
        | inl loc ↦ elim (bools_same x.state.seen_unsafe (mark_after key c.parent c.path)) [
          | inl mark ↦ elim (included_or_not c.parent c.path x.parent x.path may item.may_take) [
            | inl included ↦ inl (record { item = i; alike = record { before = before; same_loc = loc; same_mark = mark }; included = included })
            | inr others ↦ inr (λ alike included. others included)
          ]
          | inr other ↦ inr (λ alike included. other alike.same_mark)
        ]
        | inr other ↦ inr (λ alike included. other alike.same_loc)
      ]

  covered_or_new : (items xs : List Item) (c : Branch) → ((x : Item) → In x xs → In x items) → MayTake key c.parent c.path → ((x : Item) → In x items → IsItem key x) →
      ((x : Item) → In x items → IsBefore x.parent x.path c.parent c.path) → ((x : Item) × IsCovered key items c.parent c.path x) ⊎ IsNew xs c
  covered_or_new items [] c sub may each before = inr (λ x i. absurd i)
  covered_or_new items (y ∷ xs) c sub may each before =
      let i : In y items = sub y (inl refl) in
      elim (covers_or_not items c y i may (each y i) (before y i)) [
        | inl covered ↦ inl (y, covered)
        | inr not_this ↦ elim (covered_or_new items xs c (λ x j. sub x (inr j)) may each before) [
          | inl covered ↦ inl covered
          | inr none ↦ inr (λ x j. elim j [
            | inl e ↦ subst (λ z. IsEarlierLike key c.parent c.path z → IsIncluded key c.parent c.path z.parent z.path → ⊥) (sym e) not_this
            | inr k ↦ none x k
          ])
        ]
      ]

  -- ---- one branch more

  accounted_more : (items more : List Item) (i : ℕ) (path : List ℕ) → IsAccounted key items i path → IsAccounted key (items ++ more) i path
  accounted_more items more i path (inl (x, j, e, f)) = inl (x, in_left x items more j, e, f)
  accounted_more items more i path (inr (inl none)) = inr (inl none)
  accounted_more items more i path (inr (inr (x, c))) = inr (inr (x, record { item = in_left x items more c.item; alike = c.alike; included = c.included }))

  -- the branch is accounted for by the items that are there
  stays : (done : List Branch) (c : Branch) (items : List Item) → Account done items → IsAccounted key items c.parent c.path → Account (done ++ c ∷ []) items
  stays done c items a here = record {
    each = a.each;
    rising = a.rising;
    among = λ x i. in_left (branch x.parent x.path) done (c ∷ []) (a.among x i);
    complete = λ d i. elim (in_either d done (c ∷ []) i) [
      | inl j ↦ a.complete d j
      | inr j ↦ elim j [ inl e ↦ subst (λ (b : Branch). IsAccounted key items b.parent b.path) (sym e) here | inr none ↦ absurd none ]
    ];
    none_covered = a.none_covered;
  }

  -- the branch gets an item
  joins : (done : List Branch) (c : Branch) (items : List Item) → Account done items → IsItem key (item_of c) → ((x : Item) → In x items → IsBefore x.parent x.path c.parent c.path) → IsNew items c →
      Account (done ++ c ∷ []) (items ++ item_of c ∷ [])
  joins done c items a item before new =
      let new_item : Item = item_of c in
      record {
        each = λ x i. elim (in_either x items (new_item ∷ []) i) [ inl j ↦ a.each x j | inr j ↦ subst (IsItem key) (sym (only x j)) item ];
        rising = rising_more items new_item a.rising before;
        among = λ x i. elim (in_either x items (new_item ∷ []) i) [
          | inl j ↦ in_left (branch x.parent x.path) done (c ∷ []) (a.among x j)
          | inr j ↦ in_right (branch x.parent x.path) done (c ∷ []) (inl (ap (λ (y : Item). branch y.parent y.path) (only x j)))
        ];
        complete = λ d i. elim (in_either d done (c ∷ []) i) [
          | inl j ↦ accounted_more items (new_item ∷ []) d.parent d.path (a.complete d j)
          | inr j ↦ elim j [
            | inl e ↦ inl (new_item, in_right new_item items (new_item ∷ []) (inl refl), ap (λ (b : Branch). b.parent) (sym e), ap (λ (b : Branch). b.path) (sym e))
            | inr none ↦ absurd none
          ]
        ];
        none_covered = λ x y i j like included. elim (in_either y items (new_item ∷ []) j) [
          | inl yj ↦ elim (in_either x items (new_item ∷ []) i) [
            | inl xi ↦ a.none_covered x y xi yj like included
            | inr xi ↦ (let later : BranchBefore c (branch y.parent y.path) = subst (λ (z : Item). IsBefore z.parent z.path y.parent y.path) (only x xi) like.before in
                not_both c (branch y.parent y.path) later (before y yj))
          ]
          | inr yj ↦ elim (in_either x items (new_item ∷ []) i) [
            | inl xi ↦ new x xi (subst (λ (z : Item). IsEarlierLike key z.parent z.path x) (only y yj) like) (subst (λ (z : Item). IsIncluded key z.parent z.path x.parent x.path) (only y yj) included)
            | inr xi ↦ (let itself : BranchBefore c c =
                subst (λ (z : Item). IsBefore z.parent z.path c.parent c.path) (only x xi) (subst (λ (z : Item). IsBefore x.parent x.path z.parent z.path) (only y yj) like.before) in
                not_both c c itself itself)
          ]
        ];
      }
    where
      only : (x : Item) → In x (item_of c ∷ []) → x ≡ item_of c
      only x (inl e) = e
      only x (inr none) = absurd none

  one_more : (done : List Branch) (c : Branch) (items : List Item) → Account done items → MayTake key c.parent c.path → ((d : Branch) → In d done → BranchBefore d c) →
      (more : List Item) × Account (done ++ c ∷ []) more
  one_more done c items a may before =
      elim (end_or_none c.parent c.path may) [
        | inl some ↦ elim (covered_or_new items items c (λ x i. i) may a.each (λ x i. before (branch x.parent x.path) (a.among x i))) [
          | inl covered ↦ (items, stays done c items a (inr (inr covered)))
          | inr new ↦ (items ++ item_of c ∷ [], joins done c items a (item_is c may some) (λ x i. before (branch x.parent x.path) (a.among x i)) new)
        ]
        | inr none ↦ (items, stays done c items a (inr (inl none)))
      ]

  -- ---- all branches

  all_done : (done cs : List Branch) (items : List Item) → Account done items → ((c : Branch) → In c cs → MayTake key c.parent c.path) → InOrder BranchBefore cs →
      ((d c : Branch) → In d done → In c cs → BranchBefore d c) → (more : List Item) × Account (done ++ cs) more
  all_done done [] items a may order before = (items, subst (λ ds. Account ds items) (sym (append-nil done)) a)
  all_done done (c ∷ cs) items a may order before =
      let (more, b) = one_more done c items a (may c (inl refl)) (λ d i. before d c i (inl refl)) in
      let (all, r) = all_done (done ++ c ∷ []) cs more b (λ d i. may d (inr i)) order.1
      (λ d e i j. elim (in_either d done (c ∷ []) i) [
        | inl k ↦ before d e k (inr j)
        | inr k ↦ elim k [ inl same ↦ subst (λ x. BranchBefore x e) (sym same) (order.0 e j) | inr none ↦ absurd none ]
      ]) in
      (all, subst (λ ds. Account ds all) (append_assoc done (c ∷ []) cs) r)

  pub some_items : (items : List Item) × AreExact key items
  some_items =
      let (cs, all) = branches_of key in
      let (items, a) = all_done [] cs []
      (record { each = λ x i. absurd i; rising = tt; among = λ x i. absurd i; complete = λ c i. absurd i; none_covered = λ x y i j like included. i })
      all.each all.order (λ d c i j. absurd i) in (
        items,
        record {
          each = a.each;
          rising = a.rising;
          complete = λ i path may. a.complete (branch i path) (all.complete i path may);
          needed = λ x y i j like included. absurd (a.none_covered x y i j like included);
        },
      )
