-- A line that is given holds no line feed.
use Rattle.std.proofs.Common.{◌≢◌, ℕ, zero, suc, List, [], ◌∷◌, Bool, true, false, cond, Option, nat_eq, sym, subst, inl, inr}
use Rattle.std.proofs.lemmas.List.Elements.{All-nil, All-cons, All-head, All-tail}
use Rattle.report_specs.specs.Lines.{HasNoFeed, without_return, unmarked}
use Rattle.report_specs.proofs.LineLemmas.{no_feed_unmarked}

no_feed_one : (t : Bool) (b : ℕ) → HasNoFeed (b ∷ []) → HasNoFeed (cond t [] (b ∷ []))
no_feed_one true b h = All-nil (λ c. c ≢ 10)
no_feed_one false b h = h

pub no_feed_return : (bytes : List ℕ) → HasNoFeed bytes → HasNoFeed (without_return bytes)
no_feed_return [] h = h
no_feed_return (b ∷ []) h = no_feed_one (nat_eq b 13) b h
no_feed_return (b ∷ c ∷ rest) h =
    All-cons (λ x. x ≢ 10) b (without_return (c ∷ rest)) (All-head (λ x. x ≢ 10) b (c ∷ rest) h)
    (no_feed_return (c ∷ rest) (All-tail (λ x. x ≢ 10) b (c ∷ rest) h))

pub no_feed_behind : (given : ℕ) (raw : List ℕ) → HasNoFeed raw → HasNoFeed (unmarked given raw)
no_feed_behind zero raw h = no_feed_unmarked raw h
no_feed_behind (suc n) raw h = h
