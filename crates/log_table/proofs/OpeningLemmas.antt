-- How an opening is judged.
use Rattle.std.proofs.Common.{◌≡◌, ℕ, ◌+◌, ◌≤◌, ◌<◌, List, [], ◌∷◌, ◌++◌, map, length, Bool, true, false, not, Option, Some, None, refl, sym, ap, ◌∙◌, subst, arith, bytes_eq, is_some}
use Rattle.std.specs.Prelude.{All, if◌then◌else◌, nat_le}
use Rattle.std.specs.List.{IsDistinct}
use Rattle.std.specs.Map.{keys_of, lookup}
use Rattle.std.proofs.lemmas.Bool.{le-leb, lt-leb}
use Rattle.std.proofs.lemmas.List.{length-map, map_push}
use Rattle.std.proofs.lemmas.List.Elements.{All-push}
use Rattle.run_specs.specs.Automaton.{Automaton}
use Rattle.run_specs.specs.Keys.{State}
use Rattle.log_specs.specs.declared.Refusal.TheVariants as why
use Rattle.log_specs.specs.LogSessions.{LogSession, LogState, Judgement, refused, opened, are_columns, judge_columns, judge_automaton, judge_opening, session_of}
use Rattle.live_session.specs.Parts.{new_session}
use Rattle.log_table.specs.Columns.{AreNumbersOf}
use Rattle.log_table.specs.Tables.{Table, state_with, IsOpening}
use Rattle.log_table.specs.Parts.{Opened, log_session_of, session_in, reply_in, table_of, IsOpen, IsKept}
use Rattle.log_table.proofs.EntryLemmas.{found, missing}

abbrev Entries : Type 0
Entries = List (List ℕ × Opened)

-- ---- whether there is an entry

pub some_there : (q : Option Opened) → is_some q ≡ true → (o : Opened) × (q ≡ Some o)
some_there None e = absurd (let f : ⊥ = cc in f)
some_there (Some o) e = (o, refl)

pub none_there : (q : Option Opened) → is_some q ≡ false → q ≡ None
none_there None e = refl
none_there (Some o) e = absurd (let f : ⊥ = cc in f)

-- the session that an opening opens
abbrev fresh : List ℕ → Automaton → List (List ℕ) → LogSession
fresh name a names = record { name = name; automaton = a; columns = names; samples = [] }

module _ (at : LogState) (name : List ℕ) (names : List (List ℕ)) (a : Automaton) where
  rest : Bool → Judgement
  rest full = if full then refused why.Limit else opened (fresh name a names)

  by_columns : (b full : Bool) → are_columns a.variables names ≡ b → nat_le 1000 (length at.open_sessions) ≡ full →
      judge_columns at name names a ≡ (if not b then refused why.Column else rest full)
  unfolding rest
  by_columns b full e f = cc (e, f)

module _ (k n : ℕ) (es : Entries) (t : Table) (view : table_of k es n ≡ t) (name key : List ℕ) (is : key ≡ name) (names : List (List ℕ)) where
  abbrev judged : Bool → Option Automaton → Judgement
  judged begun a = judge_opening (state_with begun t) name names a (session_of (state_with begun t) name)

  pub again : (o : Opened) → lookup (bytes_eq key) es ≡ Some o → (a : Option Automaton) (begun : Bool) → judged begun a ≡ refused why.Again
  again o there a begun =
      subst (λ (u : Table). judge_opening (state_with begun u) name names a (session_of (state_with begun u) name) ≡ refused why.Again) view
      (ap (judge_opening (state_with begun (table_of k es n)) name names a) (found name es o (subst (λ (q : List ℕ). lookup (bytes_eq q) es ≡ Some o) is there)))

  module _ (none : lookup (bytes_eq key) es ≡ None) where
    by_automaton : (a : Option Automaton) (begun : Bool) → judged begun a ≡ judge_automaton (state_with begun t) name names a
    by_automaton a begun =
        subst (λ (u : Table). judge_opening (state_with begun u) name names a (session_of (state_with begun u) name) ≡ judge_automaton (state_with begun u) name names a) view
        (ap (judge_opening (state_with begun (table_of k es n)) name names a) (missing name es (subst (λ (q : List ℕ). lookup (bytes_eq q) es ≡ None) is none)))

    pub unknown_automaton : (a : Option Automaton) → a ≡ None → (begun : Bool) → judged begun a ≡ refused why.Unknown
    unknown_automaton a e begun = by_automaton a begun ∙ ap (judge_automaton (state_with begun t) name names) e

    by_some : (o : Option Automaton) (a : Automaton) → o ≡ Some a → (begun : Bool) → judged begun o ≡ judge_columns (state_with begun t) name names a
    by_some o a e begun = by_automaton o begun ∙ ap (judge_automaton (state_with begun t) name names) e

    pub no_columns : (o : Option Automaton) (a : Automaton) → o ≡ Some a → are_columns a.variables names ≡ false → (begun : Bool) → judged begun o ≡ refused why.Column
    unfolding rest
    no_columns o a e f begun = by_some o a e begun ∙ by_columns (state_with begun t) name names a false (nat_le 1000 (length t.sessions)) f refl

    count : length t.sessions ≡ length es
    count = sym (ap (λ (u : Table). length u.sessions) view) ∙ length-map es session_in

    pub too_many : (o : Option Automaton) (a : Automaton) → o ≡ Some a → are_columns a.variables names ≡ true → 1000 ≤ length es → (begun : Bool) → judged begun o ≡ refused why.Limit
    unfolding rest
    too_many o a e f many begun =
        by_some o a e begun ∙ by_columns (state_with begun t) name names a true true f (ap (nat_le 1000) count ∙ le-leb 1000 (length es) many)

    -- ---- a session that opens

    module _ (o : Option Automaton) (a : Automaton) (e : o ≡ Some a) (columns : List ℕ) (known : Option (List State)) (numbers : AreNumbersOf a.variables names columns) (few : length es < 1000) where
      abbrev added : Opened
      added = record { session = new_session a k columns known; last = None }

      is_fresh : log_session_of name added.session ≡ fresh name a names
      is_fresh = ap (λ cs. record (fresh name a names) { columns = cs }) numbers.same

      opens : (begun : Bool) → judged begun o ≡ opened (log_session_of name added.session)
      unfolding rest
      opens begun =
          by_some o a e begun ∙ by_columns (state_with begun t) name names a true false numbers.named (ap (nat_le 1000) count ∙ lt-leb 1000 (length es) few)
          ∙ ap opened (sym is_fresh)

      pub opening_told : (after : Entries) → after ≡ es ++ (key, added) ∷ [] → IsOpening t (table_of k after n) name names o
      opening_told after grown = record {
        session = log_session_of name added.session;
        judged = opens;
        next =
            let same = sym view in
            let sessions : map session_in after ≡ map session_in es ++ log_session_of name added.session ∷ [] =
            ap (map session_in) grown ∙ map_push session_in es (key, added) ∙ ap (λ q. map session_in es ++ log_session_of q added.session ∷ []) is in
            let replies : map reply_in after ≡ map reply_in es ++ record { session = name; reply = None } ∷ [] =
            ap (map reply_in) grown ∙ map_push reply_in es (key, added) ∙ ap (λ q. map reply_in es ++ record { session = q; reply = None } ∷ []) is in
            cc (same, sessions, replies);
      }

      pub kept_opening : (after : Entries) → after ≡ es ++ (key, added) ∷ [] → IsDistinct bytes_eq (keys_of after) → IsDistinct bytes_eq a.variables → length after ≡ length es + 1 →
          IsKept k es n → IsKept k after n
      kept_opening after grown distinct variables len kept = record {
        few_jumps = kept.few_jumps;
        distinct = distinct;
        opened = subst (λ (xs : Entries). All (λ x. IsOpen k n x.1) xs) (sym grown) (All-push (λ x. IsOpen k n x.1) es (key, added) kept.opened
            (record { idle = refl; jumps = refl; few = omega arith; distinct = variables; told = tt }));
        few = omega (arith, few, len);
        limited = kept.limited;
      }
