-- A text that is read in pieces.
use Rattle.std.proofs.Common.{◌≡◌, ℕ, ◌≤◌, List, [], length, length-append, Option, None, Some, sym, ap, ◌∙◌, subst, arith}
use Rattle.std.specs.Prelude.{IfSome}
use Rattle.std.specs.Io.KnownBytes.{Consumes, IsAtEnd}
use Rattle.log_reader.specs.Gains.{Gains}
use Rattle.log_reader.proofs.FillLemmas.{Consumes-more, Consumes-nothing}
use Rattle.replay_log.specs.Replays.{IsWholeText, text_limit}

pub read_more : (a b c : Option (List ℕ)) (old new : List ℕ) (n : ℕ) → Consumes a b old → Gains b c old new n → Consumes a c new
read_more a b c old new n h g = subst (λ z. Consumes a c z) (sym g.grown) (Consumes-more a b c old g.got h g.consumed)

at_end : (a b : Option (List ℕ)) → IsAtEnd b → IfSome a (λ _. IsAtEnd b)
at_end None b h = tt
at_end (Some xs) b h = h

pub is_whole : (a b : Option (List ℕ)) (text : List ℕ) → Consumes a b text → IsAtEnd b → length text ≤ text_limit → IsWholeText a b text
is_whole a b text h end within = record { consumed = h; ended = at_end a b end; within = within }

pub read_nothing : (a : Option (List ℕ)) (text : List ℕ) → text ≡ [] → Consumes a a text
read_nothing a text e = subst (λ z. Consumes a a z) (sym e) (Consumes-nothing a)

-- at the end nothing was gained
pub still_within : (a b : Option (List ℕ)) (old new : List ℕ) (n limit : ℕ) → Gains a b old new n → n ≡ 0 → length old ≤ limit → length new ≤ limit
still_within a b old new n limit g e le =
    let size = ap length g.grown ∙ length-append old g.got in
    let got = g.size in
    omega (arith, size, got, e, le)
