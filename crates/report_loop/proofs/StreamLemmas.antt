-- The bytes that a reader got from a source, over several calls.
use Rattle.std.proofs.Common.{◌≡◌, inl, inr, ℕ, ◌+◌, ◌<◌, List, [], ◌++◌, length, append_assoc, Bool, true, false, Option, None, Some, sym, ◌∙◌, ap, subst, arith}
use Rattle.std.specs.Prelude.{IfSome}
use Rattle.std.proofs.lemmas.List.{append-nil, length-append}
use Rattle.std.specs.Io.KnownBytes.{Consumes, IsAtEnd}
use Rattle.report_specs.specs.Lines.{ended, lines_of, whole_lines}
use Rattle.report_specs.specs.Report.{AreFirstLines}
use Rattle.report_specs.proofs.LineLemmas.{whole_lines_more}
use Rattle.log_reader.specs.Reading.{Reading, Gets, HasGiven}

-- ---- the bytes that were read

-- the number of bytes got is that of the bytes read
pub counted : (before now : Option (List ℕ)) (r new : Reading) (read got : List ℕ) → Gets before now r new got → r.taken ≡ length read → new.taken ≡ length (read ++ got)
counted before now r new read got g c = g.counted ∙ ap (λ n. n + length got) c ∙ omega (arith, length-append read got)

-- at the end of the source, and then still
still_at_end : (b l m : Option (List ℕ)) (read : List ℕ) → Consumes b l read → Consumes l m [] → IfSome b (λ _. IsAtEnd l) → IfSome b (λ _. IsAtEnd m)
still_at_end None l m read c d e = tt
still_at_end (Some xs) None m read c d e = absurd c
still_at_end (Some xs) (Some ys) None read c d e = absurd d
still_at_end (Some xs) (Some ys) (Some zs) read c d e = sym d ∙ e

at_end_told : (b m : Option (List ℕ)) → IsAtEnd m → IfSome b (λ _. IsAtEnd m)
at_end_told None m e = tt
at_end_told (Some xs) m e = e

pub ends_by : (b l m : Option (List ℕ)) (read : List ℕ) (r new : Reading) (got : List ℕ) (t : Bool) → r.has_ended ≡ t → Consumes b l read → Gets l m r new got → new.has_ended ≡ true →
    (r.has_ended ≡ true → IfSome b (λ _. IsAtEnd l)) → IfSome b (λ _. IsAtEnd m)
ends_by b l m read r new got true e c g n before = still_at_end b l m read c (subst (λ z. Consumes l m z) (g.ended e).1 g.consumed) (before e)
ends_by b l m read r new got false e c g n before = at_end_told b m (g.end e n)

pub below_by : (l m : Option (List ℕ)) (r new : Reading) (got : List ℕ) (t : Bool) → r.has_ended ≡ t → Gets l m r new got → new.has_ended ≡ true →
    (r.has_ended ≡ true → r.taken < r.most) → new.taken < new.most
below_by l m r new got true e g n before = let b = before e in let c = g.counted ∙ ap (λ z. r.taken + length z) (g.ended e).1 in omega (arith, b, c, g.most)
below_by l m r new got false e g n before = g.below e n

-- the lines given are the first of what was read
pub first_given : (Ended : Type 0) (a b : Option (List ℕ)) (read : List ℕ) (r new : Reading) (got : List ℕ) (lines : List (List ℕ)) → HasGiven read r lines → Gets a b r new got →
    (new.has_ended ≡ true → Ended) → AreFirstLines Ended (read ++ got) lines
first_given Ended a b read r new got lines (inl i) g over =
    let m = whole_lines_more i.0 (r.held ++ got) i.1.no_feeds in
    inl (m.0, ap (λ z. whole_lines (z ++ got)) i.1.split ∙ ap whole_lines (append_assoc (ended i.0) r.held got) ∙ m.1 ∙ ap (λ z. z ++ m.0) (sym i.2))
first_given Ended a b read r new got lines (inr o) g over =
    inr (over (g.ended o.0).0, o.2 ∙ sym (ap lines_of (append-nil read)) ∙ ap (λ z. lines_of (read ++ z)) (sym (g.ended o.0).1))
