-- What is left of a system, column after column, where implied rows are dropped between them.
use Rattle.std.proofs.Common.{◌≡◌, ◌↔◌, ℕ, zero, suc, ◌+◌, ◌-◌, ◌<◌, ◌≤◌, List, [], ◌∷◌, length, get_or, refl, sym, ◌∙◌, ap, subst, arith, pos, ◌<ℤ◌}
use Rattle.std.specs.Prelude.{slice_index_or}
use Rattle.std.proofs.lemmas.List.Elements.{All-cons}
use Rattle.poly_specs.proofs.EliminationLemmas.{AllHold-from_in, AllHold-at_in}
use Rattle.fm_eliminate.proofs.LeavingLemmas.{all_from_in}
use Rattle.fm_eliminate.proofs.LevelLemmas.{last_level, level_step, head_width}
use Rattle.fm_eliminate.proofs.PivotLemmas.{each_in}
use Rattle.poly_specs.specs.Rows.{Point, coef_at, AllHold, AllWide}
use Rattle.poly_specs.specs.Systems.{System, IsLevel, AreLevels, IsProjection, no_system}
use Rattle.poly_decide.proofs.PruneLemmas.{sublist_among, wide_among}
use Rattle.poly_decide.specs.Pruned.{IsPruned, IsLevelOf}

-- a pruned system holds where the system does
pub pruned_same : (s t : System) (p : Point) → IsPruned s t → pos 0 <ℤ p.den → length p.num ≡ s.width → AllHold t.rows p ↔ AllHold s.rows p
pruned_same s t p pruned d l = (
  λ h. pruned.thinned.enough p (record { positive = d; sized = l; holds = h }),
  λ h. AllHold-from_in t.rows p (λ r i. AllHold-at_in s.rows p h r (sublist_among t.rows s.rows pruned.thinned.some r i)),
)

pub whole_level : (s : System) → AllWide s.width s.rows → IsLevelOf s s.width s
whole_level s wide = record { same_width = refl; level = last_level s.width s.rows wide }

-- some of the rows, with the same points, are as good a level
thinned_level : (s all few : System) (c : ℕ) → all.width ≡ s.width → IsLevel s.width c s.rows all.rows → IsPruned all few → IsLevelOf s c few
thinned_level s all few c width level pruned =
    let among = sublist_among few.rows all.rows pruned.thinned.some in
    record {
      same_width = pruned.same_width ∙ width;
      level = record {
        wide = wide_among s.width all.rows few.rows level.wide among;
        free = λ x h g. all_from_in (λ r. coef_at x r ≡ pos 0) few.rows (λ r i. each_in (λ t. coef_at x t ≡ pos 0) all.rows (level.free x h g) r (among r i));
        plain = λ r i. level.plain r (among r i);
        same = λ p d l. (
          λ h. (level.same p d l).0 ((pruned_same all few p pruned d (l ∙ sym width)).0 h),
          λ h. (pruned_same all few p pruned d (l ∙ sym width)).1 ((level.same p d l).1 h),
        );
      };
    }

pub next_level : (s left all few : System) (x : ℕ) → x < s.width → AllWide s.width s.rows → IsLevelOf s (x + 1) left → all.width ≡ left.width →
    IsProjection left.width x left.rows all.rows → IsPruned all few → IsLevelOf s x few
next_level s left all few x within wide before width projection pruned =
    let here = subst (λ w. IsProjection w x left.rows all.rows) before.same_width projection in
    thinned_level s all few x (width ∙ before.same_width) (level_step s.width x s.rows left.rows all.rows within wide before.level here) pruned

-- ---- whole lists of levels

module _ (c : ℕ) (s head : System) (systems : List System) (within : c < s.width)
    (levels : AreLevels (c + 1) s (record { first = c + 1; systems = systems })) (at : head ≡ get_or systems 0 head) where
  -- the first level is what is left there
  pub first_left : IsLevelOf s (c + 1) head
  first_left =
      let e : c + 1 + 0 ≡ c + 1 = omega arith in
      let some : 0 < length systems = (let n = levels.one_for_each in omega (arith, n)) in
      record {
        same_width = head_width c s head systems within levels at;
        level = subst (λ t. IsLevel s.width (c + 1) s.rows t.rows) (head_is systems some at)
            (subst (λ n. IsLevel s.width n s.rows (slice_index_or systems 0 no_system).rows) e (levels.each 0 (omega arith)));
      }
    where
      head_is : (ts : List System) → 0 < length ts → head ≡ get_or ts 0 head → slice_index_or ts 0 no_system ≡ head
      head_is [] h e = absurd (omega arith)
      head_is (t ∷ ts) h e = sym e

  pub left_added : (left : System) (new : List System) → IsLevelOf s c left → new ≡ left ∷ systems → AreLevels c s (record { first = c; systems = new })
  left_added left new here e = subst (λ all. AreLevels c s (record { first = c; systems = all })) (sym e) (record {
    from_first = refl;
    one_for_each = (let n = levels.one_for_each in omega (arith, n));
    widths = All-cons (λ t. t.width ≡ s.width) left systems here.same_width levels.widths;
    each = each;
    whole = (let f : s.width - c ≡ suc (s.width - (c + 1)) = omega arith in ap (λ i. slice_index_or (left ∷ systems) i no_system) f ∙ levels.whole);
  })
    where
      each : (i : ℕ) → c + i ≤ s.width → IsLevel s.width (c + i) s.rows (slice_index_or (left ∷ systems) i no_system).rows
      each zero g = let f : c ≡ c + 0 = omega arith in subst (λ n. IsLevel s.width n s.rows left.rows) f here.level
      each (suc i) g = let f : c + 1 + i ≡ c + suc i = omega arith in
          subst (λ n. IsLevel s.width n s.rows (slice_index_or systems i no_system).rows) f (levels.each i (omega arith))
