use Rattle.std.proofs.Common.{◌≡◌, [], ◌∷◌, ◌++◌, length, None, false, sym, ap, ◌∙◌, subst, arith, bytes_eq}
use Rattle.std.specs.List.{IsDistinct}
use Rattle.std.specs.Option.{option_map}
use Rattle.std.specs.Arc.{arc_value}
use Rattle.std.specs.Map.{lookup}
use Rattle.std.proofs.lemmas.List.{length_push}
use Rattle.indexmap.proofs.CallerLemmas.{insert_entry-new}
use Rattle.run_specs.specs.Automaton.{Automaton}
use Rattle.run_specs.specs.Sessions.{MonitorSession}
use Rattle.log_specs.specs.LogSessions.{are_columns}
use Rattle.live_session.specs.Parts.{new_session}
use Rattle.log_table.specs.Columns.{AreNumbersOf}
use Rattle.log_table.specs.Parts.{Opened}
use Rattle.log_table.proofs.OpeningLemmas.{some_there, none_there, again, unknown_automaton, no_columns, too_many, opening_told, kept_opening}
use Rattle.log_table.proofs.table.LogTable.open.Goals as goal

pub returns-then-contains_key-clause-refusal : goal.returns-then-contains_key-clause-refusal
returns-then-contains_key-clause-refusal c =
    let i = c.self.inside in
    let there = some_there (lookup (bytes_eq c.of-name.result) i.sessions.entries) (sym c.contains_key.ensures ∙ c.if-contains_key.true) in
    again i.jumps i.accepted i.sessions.entries c.args.self.now c.self.view_is c.args.name.now c.of-name.result c.of-name.ensures c.args.columns.now there.0 there.1
    (option_map (λ a. arc_value a.now) c.args.automaton)

pub returns-in_default-clause-refusal : goal.returns-in_default-clause-refusal
returns-in_default-clause-refusal c =
    let i = c.self.inside in
    let none = none_there (lookup (bytes_eq c.of-name.result) i.sessions.entries) (sym c.contains_key.ensures ∙ c.if-contains_key.false) in
    unknown_automaton i.jumps i.accepted i.sessions.entries c.args.self.now c.self.view_is c.args.name.now c.of-name.result c.of-name.ensures c.args.columns.now none
    (option_map (λ a. arc_value a.now) c.args.automaton) (ap (option_map (λ a. arc_value a.now)) c.in_default.is)

pub returns-in_default-2-clause-refusal : goal.returns-in_default-2-clause-refusal
returns-in_default-2-clause-refusal c =
    let i = c.self.inside in
    let none = none_there (lookup (bytes_eq c.of-name.result) i.sessions.entries) (sym c.contains_key.ensures ∙ c.if-contains_key.false) in
    let told : are_columns c.vars.result.now c.args.columns.now ≡ false = rw c.in_default-2.is at c.in_ok-columns.ensures in
    let variables = c.vars.ensures.value ∙ ap (λ (z : Automaton). z.variables) c.deref.ensures in
    no_columns i.jumps i.accepted i.sessions.entries c.args.self.now c.self.view_is c.args.name.now c.of-name.result c.of-name.ensures c.args.columns.now none
    (option_map (λ a. arc_value a.now) c.args.automaton) (arc_value c.in-Some.automaton.now) (ap (option_map (λ a. arc_value a.now)) c.in-Some.is)
    (subst (λ vs. are_columns vs c.args.columns.now ≡ false) variables told)

pub returns-then-len-ge-MOST_OPEN-clause-refusal : goal.returns-then-len-ge-MOST_OPEN-clause-refusal
returns-then-len-ge-MOST_OPEN-clause-refusal c =
    let i = c.self.inside in
    let none = none_there (lookup (bytes_eq c.of-name.result) i.sessions.entries) (sym c.contains_key.ensures ∙ c.if-contains_key.false) in
    let told : AreNumbersOf c.vars.result.now c.args.columns.now c.in-Some-2.columns.items = rw c.in-Some-2.is at c.in_ok-columns.ensures in
    let variables = c.vars.ensures.value ∙ ap (λ (z : Automaton). z.variables) c.deref.ensures in
    let numbers = subst (λ vs. AreNumbersOf vs c.args.columns.now c.in-Some-2.columns.items) variables told in
    let len = c.len.ensures.len in
    let many = c.if-len-ge-MOST_OPEN.true in
    too_many i.jumps i.accepted i.sessions.entries c.args.self.now c.self.view_is c.args.name.now c.of-name.result c.of-name.ensures c.args.columns.now none
    (option_map (λ a. arc_value a.now) c.args.automaton) (arc_value c.in-Some.automaton.now) (ap (option_map (λ a. arc_value a.now)) c.in-Some.is)
    numbers.named (omega (arith, len, many))

pub invariant_of-self : goal.invariant_of-self
invariant_of-self c =
    let i = c.self.inside in
    let a = arc_value c.in-Some.automaton.now in
    let none = none_there (lookup (bytes_eq c.of-name.result) i.sessions.entries) (sym c.contains_key.ensures ∙ c.if-contains_key.false) in
    let told : AreNumbersOf c.vars.result.now c.args.columns.now c.in-Some-2.columns.items = rw c.in-Some-2.is at c.in_ok-columns.ensures in
    let variables = c.vars.ensures.value ∙ ap (λ (z : Automaton). z.variables) c.deref.ensures in
    let numbers = subst (λ vs. AreNumbersOf vs c.args.columns.now c.in-Some-2.columns.items) variables told in
    let len = c.len.ensures.len in
    let few = c.if-len-ge-MOST_OPEN.false in
    let known = c.in_ok-session.ensures.0 in
    let session = c.in_ok-session.ensures.2 ∙ ap (λ z. new_session z i.jumps c.in-Some-2.columns.items known) c.in_ok-automaton.ensures in
    let added : c.new-2.result ≡ record { session = new_session a i.jumps c.in-Some-2.columns.items known; last = None } =
    c.new-2.ensures ∙ ap (λ (x : MonitorSession). record { session = x; last = None }) session in
    let grown = c.in-Ok.ensures.entries
    ∙ insert_entry-new bytes_eq i.sessions c.of-name.result c.new-2.result none
    ∙ ap (λ (x : Opened). i.sessions.entries ++ (c.of-name.result, x) ∷ []) added in
    let distinct : IsDistinct bytes_eq a.variables = rw c.in-Some.is at c.requires.distinct in
    let longer = ap length grown ∙ length_push i.sessions.entries (c.of-name.result, record { session = new_session a i.jumps c.in-Some-2.columns.items known; last = None }) in
    kept_opening i.jumps i.accepted i.sessions.entries c.args.self.now c.self.view_is c.args.name.now c.of-name.result c.of-name.ensures c.args.columns.now none
    (option_map (λ z. arc_value z.now) c.args.automaton) a (ap (option_map (λ z. arc_value z.now)) c.in-Some.is) c.in-Some-2.columns.items known numbers (omega (arith, len, few))
    c.insert.new.self.entries grown c.insert.ensures.unique distinct longer c.self.invariant

pub returns-in-Ok-clause-ok : goal.returns-in-Ok-clause-ok
returns-in-Ok-clause-ok c =
    let i = c.self.inside in
    let a = arc_value c.in-Some.automaton.now in
    let none = none_there (lookup (bytes_eq c.of-name.result) i.sessions.entries) (sym c.contains_key.ensures ∙ c.if-contains_key.false) in
    let told : AreNumbersOf c.vars.result.now c.args.columns.now c.in-Some-2.columns.items = rw c.in-Some-2.is at c.in_ok-columns.ensures in
    let variables = c.vars.ensures.value ∙ ap (λ (z : Automaton). z.variables) c.deref.ensures in
    let numbers = subst (λ vs. AreNumbersOf vs c.args.columns.now c.in-Some-2.columns.items) variables told in
    let len = c.len.ensures.len in
    let few = c.if-len-ge-MOST_OPEN.false in
    let known = c.in_ok-session.ensures.0 in
    let session = c.in_ok-session.ensures.2 ∙ ap (λ z. new_session z i.jumps c.in-Some-2.columns.items known) c.in_ok-automaton.ensures in
    let added : c.new-2.result ≡ record { session = new_session a i.jumps c.in-Some-2.columns.items known; last = None } =
    c.new-2.ensures ∙ ap (λ (x : MonitorSession). record { session = x; last = None }) session in
    let grown = c.in-Ok.ensures.entries
    ∙ insert_entry-new bytes_eq i.sessions c.of-name.result c.new-2.result none
    ∙ ap (λ (x : Opened). i.sessions.entries ++ (c.of-name.result, x) ∷ []) added in
    opening_told i.jumps i.accepted i.sessions.entries c.args.self.now c.self.view_is c.args.name.now c.of-name.result c.of-name.ensures c.args.columns.now none
    (option_map (λ z. arc_value z.now) c.args.automaton) a (ap (option_map (λ z. arc_value z.now)) c.in-Some.is) c.in-Some-2.columns.items known numbers (omega (arith, len, few))
    c.insert.new.self.entries grown
