use Rattle.std.proofs.Common.{◌≡◌, ℕ, Bool, ◌+◌, ◌<◌, ◌≤◌, ◌++◌, List, length, take, drop, sym, subst, arith}
use Rattle.std.specs.Prelude.{Any, MatchBool}
use Rattle.poly_specs.specs.Bounds.{Entails}
use Rattle.poly_specs.specs.Columns.{IsDominated}
use Rattle.poly_specs.specs.Rows.{Row, AllWide}
use Rattle.poly_decide.proofs.DominationLemmas.{undominated_past, undominated_without, undominated_kept}
use Rattle.poly_decide.proofs.PruneLemmas.{thinned_same, thinned_without, wide_others}
use Rattle.poly_decide.proofs.pruning.without_one.Goals as goal

-- what the search tells
abbrev Told : ℕ → List Row → Row → Bool → Type 0
Told n rows r b = MatchBool b (Entails n rows r) (Any (λ other. IsDominated r other) rows → ⊥)

pub returns-then-place-len-clause-thinned : goal.returns-then-place-len-clause-thinned
returns-then-place-len-clause-thinned c = thinned_same c.args.width c.args.rows.items

pub returns-then-place-len-clause-undominated : goal.returns-then-place-len-clause-undominated
returns-then-place-len-clause-undominated c h =
    let past : length c.args.rows.items ≤ c.args.place = omega (arith, c.len.ensures) in
    undominated_past c.args.rows.items c.args.place past

pub is_found_implied-requires-clause-wide : goal.is_found_implied-requires-clause-wide
is_found_implied-requires-clause-wide c =
    let within : c.args.place < length c.args.rows.items = omega (arith, c.len.ensures) in
    let others = subst (λ (rs : List Row). c.in_ok-others.others.items ≡ take c.args.place rs ++ drop (c.args.place + 1) rs) c.as_slice.ensures.value c.in_ok-others.ensures in
    subst (AllWide c.args.width) (sym c.as_slice-2.ensures.value) (wide_others c.args.width c.args.rows.items c.in_ok-others.others.items c.args.place within others c.requires.wide)

pub returns-then-branch-clause-thinned : goal.returns-then-branch-clause-thinned
returns-then-branch-clause-thinned c =
    let within : c.args.place < length c.args.rows.items = omega (arith, c.len.ensures) in
    let others = subst (λ (rs : List Row). c.in_ok-others.others.items ≡ take c.args.place rs ++ drop (c.args.place + 1) rs) c.as_slice.ensures.value c.in_ok-others.ensures in
    let told = subst (Told c.args.width c.as_slice-2.result.now c.index.result.now) c.if-branch.true c.in_ok-is_found_implied.ensures in
    let implied = subst (λ (rs : List Row). Entails c.args.width rs c.index.result.now) c.as_slice-2.ensures.value told in
    thinned_without c.args.width c.args.rows.items c.in_ok-others.others.items c.args.place c.index.result.now within c.index.ensures others implied

pub returns-then-branch-clause-undominated : goal.returns-then-branch-clause-undominated
returns-then-branch-clause-undominated c h =
    let within : c.args.place < length c.args.rows.items = omega (arith, c.len.ensures) in
    let others = subst (λ (rs : List Row). c.in_ok-others.others.items ≡ take c.args.place rs ++ drop (c.args.place + 1) rs) c.as_slice.ensures.value c.in_ok-others.ensures in
    undominated_without c.args.rows.items c.in_ok-others.others.items c.args.place within others h

pub returns-clause-thinned : goal.returns-clause-thinned
returns-clause-thinned c = thinned_same c.args.width c.args.rows.items

pub returns-clause-undominated : goal.returns-clause-undominated
returns-clause-undominated c h =
    let within : c.args.place < length c.args.rows.items = omega (arith, c.len.ensures) in
    let others = subst (λ (rs : List Row). c.in_ok-others.others.items ≡ take c.args.place rs ++ drop (c.args.place + 1) rs) c.as_slice.ensures.value c.in_ok-others.ensures in
    let told = subst (Told c.args.width c.as_slice-2.result.now c.index.result.now) c.if-branch.false c.in_ok-is_found_implied.ensures in
    let none = subst (λ (rs : List Row). Any (λ other. IsDominated c.index.result.now other) rs → ⊥) c.as_slice-2.ensures.value told in
    undominated_kept c.args.rows.items c.in_ok-others.others.items c.args.place c.index.result.now within c.index.ensures others none h
