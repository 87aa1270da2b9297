-- Where the first line feed stands, given that none is among the first bytes.
use Rattle.std.proofs.Common.{◌≡◌, ◌≢◌, ℕ, ◌+◌, ◌<◌, ◌≤◌, List, length, take, drop, slice_index, Option, Some, None, IfNone, arith, sym, subst, ◌∙◌}
use Rattle.std.proofs.lemmas.List.{take-append-drop, length-drop, get_or-drop}
use Rattle.std.proofs.lemmas.List.Elements.{All-append}
use Rattle.std.proofs.Math.Seq.{take-add}
use Rattle.report_specs.specs.Lines.{HasNoFeed}

pub no_feed_after : (bytes : List ℕ) (n : ℕ) → HasNoFeed (take n bytes) → HasNoFeed (drop n bytes) → HasNoFeed bytes
no_feed_after bytes n front rest = subst HasNoFeed (take-append-drop n bytes) (All-append (λ b. b ≢ 10) (take n bytes) (drop n bytes) front rest)

pub feed_after : (bytes rest : List ℕ) (n at : ℕ) → rest ≡ drop n bytes → n ≤ length bytes → HasNoFeed (take n bytes) →
    (at < length rest) × (slice_index rest at ≡ 10) × HasNoFeed (take at rest) →
    (n + at < length bytes) × (slice_index bytes (n + at) ≡ 10) × HasNoFeed (take (n + at) bytes)
feed_after bytes rest n at is fits front feed =
    let P : List ℕ → Type 0 = λ xs. (at < length xs) × (slice_index xs at ≡ 10) × HasNoFeed (take at xs) in
    let here = subst P is feed in
    let place : at < length (drop n bytes) = here.0 in (
      omega (arith, length-drop n bytes),
      sym (get_or-drop n bytes at 0) ∙ here.1,
      subst HasNoFeed (sym (take-add n at bytes)) (All-append (λ b. b ≢ 10) (take n bytes) (take at (drop n bytes)) front here.2),
    )

pub where_none : {X P : Type 0} → (o : Option X) → P → IfNone o P
where_none None p = p
where_none (Some x) p = tt
