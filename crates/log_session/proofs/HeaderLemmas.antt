-- How a header is judged: as an opening by the first automaton, before a session is open.
use Rattle.std.proofs.Common.{◌≡◌, ℕ, List, [], Bool, false, Option, None, Ok, sym, ap, ◌∙◌, subst}
use Rattle.run_specs.specs.Automaton.{Automaton}
use Rattle.log_specs.specs.declared.LogForm.{LogForm}
use Rattle.log_specs.specs.declared.LogForm.TheVariants.{Check}
use Rattle.log_specs.specs.declared.RunsMode.{RunsMode}
use Rattle.log_specs.specs.LogSessions.{LogState, first_automaton, judge_opening, judge_header, session_of}
use Rattle.log_table.specs.Tables.{Table}
use Rattle.log_session.specs.declared.tally.Tally.{Tally}
use Rattle.log_session.specs.Progress.{Progress}
use Rattle.log_session.specs.Parts.{progress_of, IsKept}
use Rattle.log_session.specs.Told.{TellsHeader, TellsOpening}
use Rattle.log_session.proofs.ToldLemmas.{told_as}

none_open : (at : LogState) → at.open_sessions ≡ [] → session_of at [] ≡ None
none_open at e = ap (λ ss. session_of (record at { open_sessions = ss }) []) e

-- what is told of the opening is told of the header
pub header_told : (form : LogForm) (models : List Automaton) (runs : RunsMode) (t : Table) (b : Bool) (x : Tally) (p new : Progress) (number : ℕ) (names : List (List ℕ)) (a : Option Automaton) (before after : List ℕ) →
    progress_of form models runs t b x ≡ p → IsKept form models t b → p.form ≡ Check → p.known.state.has_begun ≡ false → a ≡ first_automaton p.models →
    TellsOpening p new number [] names a before after → TellsHeader p new number (Ok names) before after
header_told form models runs t b x p new number names a before after view kept check begun is told = λ task of.
    let none : p.known.state.open_sessions ≡ [] =
    subst (λ (q : Progress). q.known.state.open_sessions ≡ []) view
    (kept.first (ap (λ (q : Progress). q.form) view ∙ check) (ap (λ (q : Progress). q.known.state.has_begun) view ∙ begun)) in
    let first : a ≡ first_automaton task.models = is ∙ ap first_automaton (sym of.models) in
    told_as task p new number (judge_header task.models p.known.state (Ok names)) (judge_opening p.known.state [] names a (session_of p.known.state [])) before after
    (ap (λ o. judge_opening p.known.state [] names o None) (sym first) ∙ ap (judge_opening p.known.state [] names a) (sym (none_open p.known.state none)))
    (told task of)
