-- The order of histories is total.
use Rattle.std.proofs.Common.{◌≡◌, ◌↔◌, ◌⊎◌, inl, inr, refl, ap, sym, ◌∙◌}
use Rattle.std.specs.Ordering.{nat_cmp, ordering_then, ordering_reverse}
use Rattle.std.specs.declared.cmp.Ordering.{Ordering}
use Rattle.std.specs.declared.cmp.Ordering.TheVariants.{Less, Equal, Greater}
use Rattle.std.specs.Cmp.{IsTotalOrder, on_total, then_total, nat_cmp_total}
use Rattle.std.specs.Cmp.Lexicographic.{slice_cmp, nat_list_cmp_total}
use Rattle.std.proofs.lemmas.Cmp.{lists_total}
use Rattle.std.specs.FinMap.{nat_cmp-IsAntisymmetric, slice_cmp-IsAntisymmetric}
use Rattle.run_specs.specs.Histories.{History, history_cmp, IsEarlier}

pub history_total : IsTotalOrder history_cmp
history_total = then_total (on_total (λ (h : History). h.start) nat_cmp_total) (on_total (λ (h : History). h.paths) (lists_total nat_list_cmp_total))

-- both parts of a comparison that ends in Equal did
both_equal : (a b : Ordering) → ordering_then a b ≡ Equal → (a ≡ Equal) × (b ≡ Equal)
both_equal Less b e = absurd (let f : ⊥ = cc in f)
both_equal Equal b e = (refl, e)
both_equal Greater b e = absurd (let f : ⊥ = cc in f)

own_opposite : (o : Ordering) → o ≡ ordering_reverse o → o ≡ Equal
own_opposite Less e = absurd (let f : ⊥ = cc in f)
own_opposite Equal e = refl
own_opposite Greater e = absurd (let f : ⊥ = cc in f)

pub same_history : (h k : History) → history_cmp h k ≡ Equal ↔ (h ≡ k)
same_history h k = (
  λ e.
      let b = both_equal (nat_cmp h.start k.start) (slice_cmp (slice_cmp nat_cmp) h.paths k.paths) e in
      let s : h.start ≡ k.start = nat_cmp-IsAntisymmetric h.start k.start b.0 in
      let p : h.paths ≡ k.paths = slice_cmp-IsAntisymmetric (slice_cmp-IsAntisymmetric nat_cmp-IsAntisymmetric) h.paths k.paths b.1 in
      λ i. record { start = s i; paths = p i },
  λ e. ap (λ x. history_cmp h x) (sym e) ∙ own_opposite (history_cmp h h) (history_total.antisymm h h),
)

-- one of the three cases holds
three : (h k : History) (o : Ordering) → history_cmp h k ≡ o → IsEarlier h k ⊎ ((h ≡ k) ⊎ IsEarlier k h)
three h k Less e = inl e
three h k Equal e = inr (inl ((same_history h k).0 e))
three h k Greater e = inr (inr (history_total.antisymm k h ∙ ap ordering_reverse e))

pub one_earlier : (h k : History) → IsEarlier h k ⊎ ((h ≡ k) ⊎ IsEarlier k h)
one_earlier h k = three h k (history_cmp h k) refl

pub not_both : (h k : History) → IsEarlier h k → IsEarlier k h → ⊥
not_both h k e f = let g = history_total.antisymm h k ∙ ap ordering_reverse f in absurd (let b : ⊥ = cc in b)
