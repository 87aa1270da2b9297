-- What rows do to a table.
use Rattle.std.proofs.Common.{◌≡◌, ℕ, ◌≤◌, List, length, Bool, Some, None, sym, ap, ◌∙◌, subst, arith, bytes_eq}
use Rattle.std.specs.Prelude.{All}
use Rattle.std.specs.List.{IsDistinct}
use Rattle.std.specs.Map.{keys_of, lookup, remove_entry}
use Rattle.log_specs.specs.declared.Refusal.TheVariants as why
use Rattle.log_specs.specs.LogSessions.{judge_closing, judge_sample, session_of, refused}
use Rattle.log_specs.specs.LogRows.{Cells}
use Rattle.log_table.specs.Tables.{Table, state_with, IsClosing}
use Rattle.log_table.specs.Parts.{Opened, table_of, IsOpen, IsKept}
use Rattle.log_table.proofs.EntryLemmas.{found, missing, removed_sessions, removed_replies, all_left}

abbrev Entries : Type 0
Entries = List (List ℕ × Opened)

module _ (k n : ℕ) (es : Entries) (t : Table) (view : table_of k es n ≡ t) (name key : List ℕ) (is : key ≡ name) where
  by_name : {A : Type 0} (f : List ℕ → A) → f key ≡ f name
  by_name f = ap f is

  pub unknown_closing : lookup (bytes_eq key) es ≡ None → (begun : Bool) → judge_closing name (session_of (state_with begun t) name) ≡ refused why.Unknown
  unknown_closing none begun =
      subst (λ (u : Table). judge_closing name (session_of (state_with begun u) name) ≡ refused why.Unknown) view
      (ap (judge_closing name) (missing name es (subst (λ (q : List ℕ). lookup (bytes_eq q) es ≡ None) is none)))

  pub unknown_sample : (c : Cells) → lookup (bytes_eq key) es ≡ None → (begun : Bool) → judge_sample (state_with begun t) c (session_of (state_with begun t) name) ≡ refused why.Unknown
  unknown_sample c none begun =
      subst (λ (u : Table). judge_sample (state_with begun u) c (session_of (state_with begun u) name) ≡ refused why.Unknown) view
      (ap (judge_sample (state_with begun (table_of k es n)) c) (missing name es (subst (λ (q : List ℕ). lookup (bytes_eq q) es ≡ None) is none)))

  closes_named : (o : Opened) → IsDistinct bytes_eq (keys_of es) → lookup (bytes_eq name) es ≡ Some o →
      IsClosing (table_of k es n) (table_of k (remove_entry (bytes_eq name) es) n) name
  closes_named o distinct there = record {
    judged = λ begun. ap (judge_closing name) (found name es o there);
    next =
        let sessions = removed_sessions name es distinct in
        let replies = removed_replies name es distinct in
        cc (sessions, replies);
  }

  pub closes : (left : Entries) (o : Opened) → IsDistinct bytes_eq (keys_of es) → lookup (bytes_eq key) es ≡ Some o → left ≡ remove_entry (bytes_eq key) es →
      IsClosing t (table_of k left n) name
  closes left o distinct there gone =
      subst (λ (u : Table). IsClosing u (table_of k left n) name) view
      (subst (λ (xs : Entries). IsClosing (table_of k es n) (table_of k xs n) name) (sym (gone ∙ ap (λ (q : List ℕ). remove_entry (bytes_eq q) es) is))
      (closes_named o distinct (subst (λ (q : List ℕ). lookup (bytes_eq q) es ≡ Some o) is there)))

pub kept_closing : (k n : ℕ) (es left : Entries) (key : List ℕ) → IsKept k es n → left ≡ remove_entry (bytes_eq key) es → length left ≤ length es →
    IsDistinct bytes_eq (keys_of left) → IsKept k left n
kept_closing k n es left key kept gone fewer distinct = record {
  few_jumps = kept.few_jumps;
  distinct = distinct;
  opened = subst (λ (xs : Entries). All (λ e. IsOpen k n e.1) xs) (sym gone) (all_left key (IsOpen k n) es kept.opened);
  few = let f = kept.few in omega (arith, f, fewer);
  limited = kept.limited;
}
