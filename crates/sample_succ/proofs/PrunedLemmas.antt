-- A system without rows that others imply says the same as plain rows.
use Rattle.std.proofs.Common.{◌≡◌, ℕ, List, subst}
use Rattle.poly_specs.proofs.EliminationLemmas.{AllHold-from_in, AllHold-at_in}
use Rattle.poly_decide.proofs.PruneLemmas.{sublist_among}
use Rattle.poly_decide.specs.Pruned.{IsPruned}
use Rattle.poly_specs.specs.Lists.{IsAmong}
use Rattle.poly_specs.specs.Rows.{Row}
use Rattle.poly_specs.specs.Systems.{System}
use Rattle.sample_succ.specs.Plain.{IsPlain}
use Rattle.sample_succ.proofs.PlainLemmas.{plain_then}

pruned_same : (s few : System) → IsPruned s few → IsPlain s.width few.rows s.rows
pruned_same s few pruned =
    let among : IsAmong few.rows s.rows = sublist_among few.rows s.rows pruned.thinned.some in
    record {
      among = among;
      same = λ p h l. (
        λ g. pruned.thinned.enough p (record { positive = h; sized = l; holds = g }),
        λ g. AllHold-from_in few.rows p (λ r i. AllHold-at_in s.rows p g r (among r i)),
      );
    }

pub pruned_plain : (n : ℕ) (s few : System) (plain : List Row) → s.width ≡ n → IsPruned s few → IsPlain n s.rows plain → IsPlain n few.rows plain
pruned_plain n s few plain w pruned is = plain_then n few.rows s.rows plain (subst (λ k. IsPlain k few.rows s.rows) w (pruned_same s few pruned)) is
