-- The walk over the paths from a parent, and from all parents.
use Rattle.std.proofs.Common.{◌≡◌, ◌⊎◌, inl, inr, ℕ, ◌+◌, ◌-◌, ◌<◌, ◌≤◌, List, [], ◌∷◌, ◌++◌, length, length-append, append_assoc, sym, ◌∙◌, ap, subst, arith}
use Rattle.std.specs.Prelude.{Some}
use Rattle.std.proofs.lemmas.Bool.{cases_lt}
use Rattle.std.proofs.lemmas.List.{append-nil}
use Rattle.std.proofs.lemmas.List.Elements.{All-nil}
use Rattle.poly_specs.specs.Lists.{In}
use Rattle.poly_specs.specs.Rows.{Point}
use Rattle.poly_specs.specs.Systems.{System}
use Rattle.run_specs.proofs.PassesLemmas.{same_in}
use Rattle.run_specs.specs.Automaton.{width}
use Rattle.run_specs.specs.Keys.{Key, parent_at}
use Rattle.run_specs.specs.Outcomes.{Item, MayTake, IsEnd, IsBefore, AreExact, IsAccounted}
use Rattle.run_specs.specs.Stages.{gap_start}
use Rattle.sample_succ.specs.declared.finding.Found.{Found}
use Rattle.sample_succ.specs.declared.finding.Node.{Node}
use Rattle.sample_succ.specs.Covers.{items_of}
use Rattle.sample_succ.specs.Plain.{IsPlain}
use Rattle.sample_succ.specs.Walks.{AllBefore, BeginsBelow, IsUnder, WalkedTo, WalkedFrom, IsNodeAt, IsJumped}
use Rattle.sample_succ.proofs.ItemLemmas.{accounted_more}
use Rattle.sample_succ.proofs.PathLemmas.{before_trans, before_longer, before_next, before_parent, fits_rest}

module _ (key : Key) where
  -- ---- longer paths

  -- a path that may be taken goes on by a transition of the automaton
  pub begins_below : (i : ℕ) (path other : List ℕ) → MayTake key i (path ++ other) → BeginsBelow (length key.automaton.transitions) other
  begins_below i path [] may = tt
  begins_below i path (e ∷ other) may = (fits_rest key.automaton (parent_at key i).loc path (e ∷ other) may.fits).0

  -- one that has as many transitions as the key allows does not go on
  no_room : (i : ℕ) (path other : List ℕ) → length path ≡ key.jumps → MayTake key i (path ++ other) → BeginsBelow 0 other
  no_room i path [] e may = tt
  no_room i path (f ∷ other) e may = absurd (let h = may.few in omega (arith, h, e, length-append path (f ∷ other)))

  -- no longer path is left
  pub walked_all : (i : ℕ) (path : List ℕ) (old new : List Found) → length path ≡ key.jumps → WalkedTo key i path 0 old new → WalkedTo key i path (length key.automaton.transitions) old new
  walked_all i path old new e w = record {
    wide = w.wide;
    found = w.found;
    grown = w.grown;
    from = λ x j. under x (w.from x j);
    accounted = λ other b may. w.accounted other (no_room i path other e may) may;
  }
    where
      more : (other : List ℕ) → BeginsBelow 0 other → BeginsBelow (length key.automaton.transitions) other
      more [] b = tt
      more (f ∷ other) b = absurd (omega (arith, b))

      under : (x : Item) → In x (items_of old) ⊎ ((x.parent ≡ i) × IsUnder path 0 x.path) → In x (items_of old) ⊎ ((x.parent ≡ i) × IsUnder path (length key.automaton.transitions) x.path)
      under x (inl j) = inl j
      under x (inr (p, (other, s, b))) = inr (p, (other, s, more other b))

  -- ---- transition by transition

  begins_more : (n : ℕ) (other : List ℕ) → BeginsBelow n other → BeginsBelow (n + 1) other
  begins_more n [] b = tt
  begins_more n (f ∷ other) b = omega (arith, b)

  under_more : (i n : ℕ) (path : List ℕ) (old : List Item) (x : Item) → In x old ⊎ ((x.parent ≡ i) × IsUnder path n x.path) → In x old ⊎ ((x.parent ≡ i) × IsUnder path (n + 1) x.path)
  under_more i n path old x (inl j) = inl j
  under_more i n path old x (inr (p, (other, s, b))) = inr (p, (other, s, begins_more n other b))

  -- either the first transition is below n, or it is number n
  split_first : (n : ℕ) (other : List ℕ) → BeginsBelow (n + 1) other → BeginsBelow n other ⊎ ((rest : List ℕ) × (other ≡ n ∷ rest))
  split_first n [] b = inl tt
  split_first n (f ∷ other) b = elim (cases_lt f n) [
    | inl lt ↦ inl lt
    | inr ge ↦ inr (other, (let e : f ≡ n = omega (arith, b) in ap (λ k. k ∷ other) e))
  ]

  pub walked_past : (i : ℕ) (path : List ℕ) (e : ℕ) (old new : List Found) → WalkedTo key i path e old new →
      ((other : List ℕ) (q : Point) → MayTake key i (path ++ e ∷ other) → IsEnd key i (path ++ e ∷ other) q → ⊥) → WalkedTo key i path (e + 1) old new
  walked_past i path e old new w none = record {
    wide = w.wide;
    found = w.found;
    grown = w.grown;
    from = λ x j. under_more i e path (items_of old) x (w.from x j);
    accounted = λ other b may. go other may (split_first e other b);
  }
    where
      go : (other : List ℕ) → MayTake key i (path ++ other) → BeginsBelow e other ⊎ ((rest : List ℕ) × (other ≡ e ∷ rest)) → IsAccounted key (items_of new) i (path ++ other)
      go other may (inl b) = w.accounted other b may
      go other may (inr (rest, s)) = subst (λ o. IsAccounted key (items_of new) i (path ++ o)) (sym s)
          (inr (inl (λ q end. none rest q (subst (λ o. MayTake key i (path ++ o)) s may) end)))

  pub walked_into : (i : ℕ) (path : List ℕ) (e : ℕ) (old mid new : List Found) → WalkedTo key i path e old mid → WalkedTo key i (path ++ e ∷ []) (length key.automaton.transitions) mid new →
      WalkedTo key i path (e + 1) old new
  walked_into i path e old mid new w v = record {
    wide = v.wide;
    found = v.found;
    grown = λ x j. v.grown x (w.grown x j);
    from = λ x j. from x (v.from x j);
    accounted = λ other b may. go other may (split_first e other b);
  }
    where
      joined : (rest : List ℕ) → (path ++ e ∷ []) ++ rest ≡ path ++ e ∷ rest
      joined rest = append_assoc path (e ∷ []) rest

      from : (x : Item) → In x (items_of mid) ⊎ ((x.parent ≡ i) × IsUnder (path ++ e ∷ []) (length key.automaton.transitions) x.path) → In x (items_of old) ⊎ ((x.parent ≡ i) × IsUnder path (e + 1) x.path)
      from x (inl j) = under_more i e path (items_of old) x (w.from x j)
      from x (inr (p, (rest, s, b))) = inr (p, (e ∷ rest, s ∙ joined rest, omega arith))

      go : (other : List ℕ) → MayTake key i (path ++ other) → BeginsBelow e other ⊎ ((rest : List ℕ) × (other ≡ e ∷ rest)) → IsAccounted key (items_of new) i (path ++ other)
      go other may (inl b) = accounted_more key (items_of mid) (items_of new) i (path ++ other) v.grown (w.accounted other b may)
      go other may (inr (rest, s)) =
          let whole : path ++ other ≡ (path ++ e ∷ []) ++ rest = ap (λ o. path ++ o) s ∙ sym (joined rest) in
          let there = subst (MayTake key i) whole may in
          subst (IsAccounted key (items_of new) i) (sym whole) (v.accounted rest (begins_below i (path ++ e ∷ []) rest there) there)

  -- what was found so far stands before the next longer path
  pub still_before : (i : ℕ) (path : List ℕ) (e : ℕ) (old new : List Found) → AllBefore (items_of old) i path → WalkedTo key i path e old new → AllBefore (items_of new) i (path ++ e ∷ [])
  still_before i path e old new before w x j = go (w.from x j)
    where
      under : (other : List ℕ) → BeginsBelow e other → x.parent ≡ i → x.path ≡ path ++ other → IsBefore x.parent x.path i (path ++ e ∷ [])
      under [] b p s =
          let same : x.path ≡ path = s ∙ append-nil path in
          subst (λ k. IsBefore k x.path i (path ++ e ∷ [])) (sym p) (subst (λ w. IsBefore i w i (path ++ e ∷ [])) (sym same) (before_longer i path e []))
      under (f ∷ other) b p s =
          subst (λ k. IsBefore k x.path i (path ++ e ∷ [])) (sym p) (subst (λ w. IsBefore i w i (path ++ e ∷ [])) (sym s) (before_next i path f e other b))

      go : In x (items_of old) ⊎ ((x.parent ≡ i) × IsUnder path e x.path) → IsBefore x.parent x.path i (path ++ e ∷ [])
      go (inl k) = before_trans x.parent i i x.path path (path ++ e ∷ []) (before x k) (before_longer i path e [])
      go (inr (p, (other, s, b))) = under other b p s

  -- ---- the node that a jump leads to

  module _ (n x : Node) (e : ℕ) (next : IsJumped key n.parent n.path.items e (Some x)) where
    pub next_walked : (old mid new : List Found) → WalkedTo key n.parent n.path.items e old mid → WalkedTo key x.parent x.path.items (length key.automaton.transitions) mid new →
        WalkedTo key n.parent n.path.items (e + 1) old new
    next_walked old mid new w v = walked_into n.parent n.path.items e old mid new w
        (subst (λ p. WalkedTo key n.parent p (length key.automaton.transitions) mid new) next.1 (subst (λ i. WalkedTo key i x.path.items (length key.automaton.transitions) mid new) next.0 v))

    pub next_before : (old mid : List Found) → AllBefore (items_of old) n.parent n.path.items → WalkedTo key n.parent n.path.items e old mid → AllBefore (items_of mid) x.parent x.path.items
    next_before old mid before w =
        subst (λ i. AllBefore (items_of mid) i x.path.items) (sym next.0) (subst (AllBefore (items_of mid) n.parent) (sym next.1) (still_before n.parent n.path.items e old mid before w))

    pub next_left : (left : ℕ) → length n.path.items + left ≡ key.jumps → (left ≡ 0 → ⊥) → length x.path.items + (left - 1) ≡ key.jumps
    next_left left h some = let l = ap length next.1 in let m = length-append n.path.items (e ∷ []) in omega (arith, l, m, h, some)

  -- ---- parent by parent

  pub from_none : WalkedFrom key 0 []
  from_none = record {
    wide = All-nil (λ f. f.rows.width ≡ width key.automaton);
    found = record { each = λ x j. absurd j; rising = tt; needed = λ x y j. absurd j };
    below = λ x j. absurd j;
    accounted = λ i path h. absurd (omega arith);
  }

  pub all_before : (n : ℕ) (fs : List Found) → WalkedFrom key n fs → AllBefore (items_of fs) n []
  all_before n fs w x j = before_parent x.parent n x.path [] (w.below x j)

  pub from_next : (n : ℕ) (old new : List Found) → WalkedFrom key n old → WalkedTo key n [] (length key.automaton.transitions) old new → WalkedFrom key (n + 1) new
  from_next n old new w v = record {
    wide = v.wide;
    found = v.found;
    below = λ x j. elim (v.from x j) [
      | inl k ↦ (let h = w.below x k in omega (arith, h))
      | inr u ↦ (let p = u.0 in omega (arith, p))
    ];
    accounted = λ i path h may. elim (cases_lt i n) [
      | inl lt ↦ accounted_more key (items_of old) (items_of new) i path v.grown (w.accounted i path lt may)
      | inr ge ↦ (let same : i ≡ n = omega (arith, h) in
          subst (λ k. IsAccounted key (items_of new) k path) (sym same) (v.accounted path (begins_below n [] path (subst (λ k. MayTake key k path) same may)) (subst (λ k. MayTake key k path) same may)))
    ];
  }

  pub all_exact : (n : ℕ) (fs : List Found) → length key.belief ≤ n → WalkedFrom key n fs → AreExact key (items_of fs)
  all_exact n fs h w = record {
    each = w.found.each;
    rising = w.found.rising;
    complete = λ i path may. w.accounted i path (let p = may.parent in omega (arith, h, p)) may;
    needed = w.found.needed;
  }

  -- ---- the start of a walk

  pub root_node : (i : ℕ) (before : System) → i < length key.belief → before ≡ record { width = width key.automaton + 1; rows = gap_start (width key.automaton) (parent_at key i).rows } →
      IsNodeAt key i [] before
  root_node i before h e = record {
    may_take = record { parent = h; few = omega arith; fits = tt };
    wide = ap (λ s. s.width) e;
    plain = subst (λ rows. IsPlain (width key.automaton + 1) rows (gap_start (width key.automaton) (parent_at key i).rows)) (sym (ap (λ s. s.rows) e))
        (record { among = same_in (gap_start (width key.automaton) (parent_at key i).rows); same = λ p hp lp. (λ g. g, λ g. g) });
    reached = tt;
  }
