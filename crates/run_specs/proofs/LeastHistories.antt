-- Of the histories within limits that have a property, one is the least.
use Rattle.std.proofs.Common.{◌≡◌, ◌⊎◌, inl, inr, ℕ, zero, suc, ◌<◌, ◌≤◌, List, [], ◌∷◌, ◌++◌, map, length, refl, sym, ap, subst, arith}
use Rattle.std.specs.Prelude.{All}
use Rattle.std.specs.List.{flat_map}
use Rattle.std.proofs.lemmas.Bool.{cases_lt}
use Rattle.std.proofs.lemmas.List.Elements.{All-nil, All-cons, All-head, All-tail, All-weaker}
use Rattle.poly_specs.proofs.InclusionLemmas.{in_left, in_right, in_either, in_flat_map}
use Rattle.poly_specs.proofs.EliminationLemmas.{in_map, out_map, out_flat_map}
use Rattle.poly_specs.specs.Lists.{In}
use Rattle.run_specs.proofs.SampleLemmas.{in_below, out_below}
use Rattle.run_specs.proofs.HistoryLemmas.{history_total, one_earlier, not_both}
use Rattle.run_specs.specs.Histories.{History, IsEarlier}
use Rattle.run_specs.specs.Stages.{below}

-- a history within these limits
pub record IsWithin (starts transitions k gaps : ℕ) (h : History) : Type 0 where
  pub start : h.start < starts
  pub one_for_each_gap : length h.paths ≡ gaps
  pub few : All (λ path. (length path ≤ k) × All (λ e. e < transitions) path) h.paths

-- ---- the lists of items of a list

module _ {A : Type 0} (xs : List A) where
  abbrev each_before : List A → List (List A)
  each_before ys = map (λ x. x ∷ ys) xs

  -- of this length
  abbrev of_length : ℕ → List (List A)
  of_length zero = [] ∷ []
  of_length (suc n) = flat_map each_before (of_length n)

  in_of_length : (ys : List A) → All (λ y. In y xs) ys → In ys (of_length (length ys))
  in_of_length [] h = inl refl
  in_of_length (y ∷ ys) h =
      in_flat_map each_before ys (y ∷ ys) (of_length (length ys))
      (in_of_length ys (All-tail (λ z. In z xs) y ys h))
      (in_map (λ x. x ∷ ys) y xs (All-head (λ z. In z xs) y ys h))

  out_of_length : (n : ℕ) (ys : List A) → In ys (of_length n) → (length ys ≡ n) × All (λ y. In y xs) ys
  out_of_length zero ys (inl e) = (ap length e, subst (All (λ y. In y xs)) (sym e) (All-nil (λ y. In y xs)))
  out_of_length zero ys (inr i) = absurd i
  out_of_length (suc n) ys i =
      let (zs, j, k) = out_flat_map each_before ys (of_length n) i in
      let (x, l, e) = out_map (λ x. x ∷ zs) ys xs k in
      let r = out_of_length n zs j in
      subst (λ (ws : List A). (length ws ≡ suc n) × All (λ y. In y xs) ws) (sym e) (ap suc r.0, All-cons (λ y. In y xs) x zs l r.1)

  -- of at most this length
  abbrev up_to : ℕ → List (List A)
  up_to zero = of_length zero
  up_to (suc n) = of_length (suc n) ++ up_to n

  in_up_to : (n : ℕ) (ys : List A) → length ys ≤ n → All (λ y. In y xs) ys → In ys (up_to n)
  in_up_to zero ys le h = let e : length ys ≡ 0 = omega arith in subst (λ m. In ys (of_length m)) e (in_of_length ys h)
  in_up_to (suc n) ys le h = elim (cases_lt (length ys) (suc n)) [
    | inl lt ↦ in_right ys (of_length (suc n)) (up_to n) (in_up_to n ys (omega arith) h)
    | inr ge ↦ in_left ys (of_length (suc n)) (up_to n) (let e : length ys ≡ suc n = omega arith in subst (λ m. In ys (of_length m)) e (in_of_length ys h))
  ]

  out_up_to : (n : ℕ) (ys : List A) → In ys (up_to n) → (length ys ≤ n) × All (λ y. In y xs) ys
  out_up_to zero ys i = let r = out_of_length zero ys i in let e = r.0 in (omega arith, r.1)
  out_up_to (suc n) ys i = elim (in_either ys (of_length (suc n)) (up_to n) i) [
    | inl j ↦ (let r = out_of_length (suc n) ys j in let e = r.0 in (omega arith, r.1))
    | inr j ↦ (let r = out_up_to n ys j in let le = r.0 in (omega arith, r.1))
  ]

-- ---- the histories within limits

module _ (starts transitions k gaps : ℕ) where
  abbrev IsPath : List ℕ → Type 0
  IsPath path = (length path ≤ k) × All (λ e. e < transitions) path

  abbrev paths : List (List ℕ)
  paths = up_to (below transitions) k

  in_paths : (path : List ℕ) → IsPath path → In path paths
  in_paths path h =
      in_up_to (below transitions) k path h.0 (All-weaker (λ e. e < transitions) (λ e. In e (below transitions)) (λ e. in_below transitions e) path h.1)

  out_paths : (path : List ℕ) → In path paths → IsPath path
  out_paths path i =
      let r = out_up_to (below transitions) k path i in
      (r.0, All-weaker (λ e. In e (below transitions)) (λ e. e < transitions) (λ e. out_below transitions e) path r.1)

  abbrev from_start : ℕ → List History
  from_start s = map (λ ps. record { start = s; paths = ps }) (of_length paths gaps)

  abbrev histories : List History
  histories = flat_map from_start (below starts)

  in_histories : (h : History) → IsWithin starts transitions k gaps h → In h histories
  in_histories h w =
      let listed : In h.paths (of_length paths gaps) =
      subst (λ n. In h.paths (of_length paths n)) w.one_for_each_gap
      (in_of_length paths h.paths (All-weaker IsPath (λ path. In path paths) in_paths h.paths w.few)) in
      in_flat_map from_start h.start h (below starts) (in_below starts h.start w.start)
      (in_map (λ ps. record { start = h.start; paths = ps }) h.paths (of_length paths gaps) listed)

  out_histories : (h : History) → In h histories → IsWithin starts transitions k gaps h
  out_histories h i =
      let (s, j, l) = out_flat_map from_start h (below starts) i in
      let (ps, m, e) = out_map (λ ps. record { start = s; paths = ps }) h (of_length paths gaps) l in
      let r = out_of_length paths gaps ps m in
      subst (IsWithin starts transitions k gaps) (sym e)
      (record { start = out_below starts s j; one_for_each_gap = r.0; few = All-weaker (λ path. In path paths) IsPath out_paths ps r.1 })

-- ---- the least

-- first is in the list and has the property, and no earlier one there has
record IsLeastIn (P : History → Type 0) (hs : List History) (first : History) : Type 0 where
  listed : In first hs
  has : P first
  least : (other : History) → In other hs → P other → IsEarlier other first → ⊥

module _ (P : History → Type 0) where
  not_itself : (h other : History) → other ≡ h → IsEarlier other h → ⊥
  not_itself h other e lt = let self : IsEarlier h h = subst (λ x. IsEarlier x h) e lt in not_both h h self self

  -- a head that has the property
  with_head : (h : History) (hs : List History) → P h → (first : History) → IsLeastIn P hs first → (f : History) × IsLeastIn P (h ∷ hs) f
  with_head h hs p first r = elim (one_earlier h first) [
    | inl lt ↦ (
      h,
      record {
        listed = inl refl;
        has = p;
        least = λ other i q o. elim i [
          | inl e ↦ not_itself h other e o
          | inr j ↦ r.least other j q (history_total.trans other h first o lt)
        ];
      },
    )
    | inr rest ↦ (
      first,
      record {
        listed = inr r.listed;
        has = r.has;
        least = λ other i q o. elim i [
          | inl e ↦ not_under rest (subst (λ x. IsEarlier x first) e o)
          | inr j ↦ r.least other j q o
        ];
      },
    )
  ]
    where
      not_under : (h ≡ first) ⊎ IsEarlier first h → IsEarlier h first → ⊥
      not_under (inl e) lt = not_itself first h e lt
      not_under (inr gt) lt = not_both h first lt gt

  least_in : (hs : List History) → ((h : History) → In h hs → P h ⊎ (P h → ⊥)) →
      ((first : History) × IsLeastIn P hs first) ⊎ ((h : History) → In h hs → P h → ⊥)
  least_in [] tell = inr (λ h i p. i)
  least_in (h ∷ hs) tell = elim (tell h (inl refl)) [
    | inl p ↦ elim (least_in hs (λ g i. tell g (inr i))) [
      | inl (first, r) ↦ inl (with_head h hs p first r)
      | inr none ↦ inl (
        h,
        record {
          listed = inl refl;
          has = p;
          least = λ other i q o. elim i [ inl e ↦ not_itself h other e o | inr j ↦ none other j q ];
        },
      )
    ]
    | inr n ↦ elim (least_in hs (λ g i. tell g (inr i))) [
      | inl (first, r) ↦ inl (
        first,
        record {
          listed = inr r.listed;
          has = r.has;
          least = λ other i q o. elim i [ inl e ↦ n (subst P e q) | inr j ↦ r.least other j q o ];
        },
      )
      | inr none ↦ inr (λ g i q. elim i [ inl e ↦ n (subst P e q) | inr j ↦ none g j q ])
    ]
  ]

-- of the histories within limits that have a property, which can be told of each, one is the least
pub least_history : (starts transitions k gaps : ℕ) (P : History → Type 0) →
    ((h : History) → IsWithin starts transitions k gaps h → P h ⊎ (P h → ⊥)) →
    (h : History) → IsWithin starts transitions k gaps h → P h →
    (first : History) × IsWithin starts transitions k gaps first × P first × ((other : History) → IsWithin starts transitions k gaps other → P other → IsEarlier other first → ⊥)
least_history starts transitions k gaps P tell h w p =
    elim (least_in P (histories starts transitions k gaps) (λ g i. tell g (out_histories starts transitions k gaps g i))) [
      | inl (first, r) ↦ (
        first,
        out_histories starts transitions k gaps first r.listed,
        r.has,
        λ other v q o. r.least other (in_histories starts transitions k gaps other v) q o,
      )
      | inr none ↦ absurd (none h (in_histories starts transitions k gaps h w) p)
    ]
