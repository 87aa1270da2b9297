-- What rows are to an automaton, by the tests of the code.
use Rattle.std.proofs.Common.{◌≡◌, ◌≢◌, ℕ, zero, suc, ◌+◌, ◌-◌, List, [], ◌∷◌, length, Bool, true, false, ◌&&◌, not, ◌==◌, if◌then◌else◌, None, Some, Result, Ok, Err, refl, ap, ◌∙◌, arith}
use Rattle.std.specs.Prelude.{slice_get}
use Rattle.poly_specs.specs.Fractions.{Fraction}
use Rattle.run_specs.specs.Automaton.{Automaton}
use Rattle.run_specs.specs.Logs.{Sample}
use Rattle.log_specs.specs.declared.Refusal.{Refusal}
use Rattle.log_specs.specs.declared.Refusal.TheVariants as why
use Rattle.log_specs.specs.LogRows.{Cells}
use Rattle.log_specs.specs.LogSessions.{Judgement, no_lines, refused, opened, accepted, are_columns, may_follow, is_below, sample_in, judge_header, judge_cells}
use Rattle.log_reader.specs.declared.refusal.RowRefusal.{RowRefusal}
use Rattle.log_reader.specs.declared.refusal.RowRefusal.TheVariants as row
use Rattle.log_reader.specs.Rows.{IsRefused}
use Rattle.log_samples.specs.SoFar.{session}
use Rattle.log_samples.specs.Rows.{IsHeaderOf, IsSampleOf, open_state, is_full, is_accepted}

-- ---- times

follows_from : (ss : List Sample) (i : ℕ) (x : Sample) (t : Fraction) → i + 1 ≡ length ss → Some x ≡ slice_get ss i → is_below x.time t ≡ may_follow ss t
follows_from [] i x t n e = absurd (omega (arith, n))
follows_from (s ∷ []) zero x t n e = ap (λ (y : Sample). is_below y.time t) (let f : x ≡ s = cc in f)
follows_from (s ∷ []) (suc i) x t n e = absurd (omega (arith, n))
follows_from (s ∷ r ∷ ss) zero x t n e = absurd (omega (arith, n))
follows_from (s ∷ r ∷ ss) (suc i) x t n e = follows_from (r ∷ ss) i x t (omega (arith, n)) e

pub follows_last : (ss : List Sample) (x : Sample) (t : Fraction) → Some x ≡ slice_get ss (length ss - 1) → is_below x.time t ≡ may_follow ss t
follows_last [] x t e = absurd (let b : ⊥ = cc in b)
follows_last (s ∷ ss) x t e = follows_from (s ∷ ss) (length (s ∷ ss) - 1) x t (omega arith) e

-- ---- headers

-- a row that is refused has a refusal
pub told : {A : Type 0} (x : RowRefusal) (r : Result A Refusal) → x ≢ row.Memory → IsRefused x r → (e : Refusal) × (r ≡ Err e)
told row.Long r ne is = (why.Long, is)
told row.Text r ne is = (why.Text, is)
told row.Fields r ne is = (why.Fields, is)
told row.Name r ne is = (why.Name, is)
told row.Number r ne is = (why.Number, is)
told row.Memory r ne is = absurd (ne refl)

pub refused_header : (a : Automaton) (x : RowRefusal) (r : Result (List (List ℕ)) Refusal) → x ≢ row.Memory → IsRefused x r → IsHeaderOf a r None
refused_header a x r ne is = let t = told x r ne is in (t.0, ap (λ h. judge_header (a ∷ []) no_lines h) t.1)

pub columns_refused : (a : Automaton) (r : Result (List (List ℕ)) Refusal) (names : List (List ℕ)) → r ≡ Ok names → are_columns a.variables names ≡ false → IsHeaderOf a r None
columns_refused a r names e are =
    (why.Column, ap (λ h. judge_header (a ∷ []) no_lines h) e ∙ ap (λ b. if not b then refused why.Column else opened (session a names [])) are)

-- ---- samples

-- the tests of a sample, in their order
abbrev judged_by : Bool → Bool → Bool → Judgement → Judgement
judged_by cells time full j =
    if not cells then refused why.Cells else if not time then refused why.Time else if full then refused why.Limit else j

some_fails : (x y z : Bool) (j : Judgement) → x && (y && not z) ≡ false → (e : Refusal) × (judged_by x y z j ≡ refused e)
some_fails true true false j e = absurd (let b : ⊥ = cc in b)
some_fails true true true j e = (why.Limit, refl)
some_fails true false z j e = (why.Time, refl)
some_fails false y z j e = (why.Cells, refl)

pub refused_cells : (a : Automaton) (columns : List (List ℕ)) (ss : List Sample) (x : RowRefusal) (r : Result Cells Refusal) → x ≢ row.Memory → IsRefused x r → IsSampleOf a columns ss r None
refused_cells a columns ss x r ne is = let t = told x r ne is in (t.0, ap (λ h. judge_cells (open_state a columns ss) h) t.1)

pub not_accepted : (a : Automaton) (columns : List (List ℕ)) (ss : List Sample) (r : Result Cells Refusal) (c : Cells) → r ≡ Ok c → is_accepted (length columns) ss c ≡ false →
    IsSampleOf a columns ss r None
not_accepted a columns ss r c e is =
    let fails = some_fails (length c.cells == length columns) (may_follow ss c.time) (is_full ss) (accepted (session a columns ss) (sample_in (session a columns ss) c)) is in
    (fails.0, ap (λ h. judge_cells (open_state a columns ss) h) e ∙ fails.1)
