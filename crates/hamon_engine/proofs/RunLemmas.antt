-- What a run says, by what its parts say.
use Rattle.std.proofs.Common.{◌≡◌, ◌≢◌, ◌⊎◌, inl, inr, ℕ, List, [], length, Option, None, Some, refl, sym, subst, arith}
use Rattle.std.specs.Prelude.{IfSome}
use Rattle.std.specs.Io.KnownBytes.{Keeps}
use Rattle.mon_io.specs.Faults.{Rose}
use Rattle.run_specs.specs.Automaton.{Automaton}
use Rattle.text_specs.specs.ModelTexts.{SaysAutomata}
use Rattle.command_words.specs.CommandLine.{Command, Check, Watch, Replay, Request}
use Rattle.report_loop.specs.declared.status.Status.{Status}
use Rattle.report_loop.specs.declared.status.Status.TheVariants as status
use Rattle.report_loop.specs.Outcome.{Streams, IsUntouched}
use Rattle.hamon_engine.specs.declared.models.NoModels.{NoModels}
use Rattle.hamon_engine.specs.declared.models.NoModels.TheVariants.{Refused, Failed, Memory}
use Rattle.hamon_engine.specs.Models.{AreModelsOf, LacksModels}
use Rattle.hamon_engine.specs.Outside.{Outside}
use Rattle.hamon_engine.specs.ReplayRuns.{CompletesReplay, HasReplayCause}
use Rattle.hamon_engine.specs.Runs.{CompletesCommand, Completes, Does, HasNoModel, RunsText, RunsWords, HasLogCause, HasCommandCause, HasCause, model_of}
use Rattle.hamon_engine.specs.Telling.{status_of, ended_by}
use Rattle.hamon_engine.proofs.CommandLemmas.{does_no_words, does_memory, does_complete, memory_cause}

keeps_same : (o : Option (List ℕ)) → Keeps o o
keeps_same None = tt
keeps_same (Some xs) = refl

pub untouched_same : (s : Streams) → IsUntouched s s
untouched_same s = record { log = keeps_same s.log; out = keeps_same s.out }

abbrev pub outside : Streams → (List ℕ → Option (List ℕ)) → ℕ → Outside
outside s t f = record { streams = s; shelf = t; shelf_faults = f }

-- ---- no model

no_model : (s : Streams) (t u : List ℕ → Option (List ℕ)) (f h : ℕ) (x : Status) → ((x ≡ status.ReadFault) × Rose f h) ⊎ (x ≡ status.Memory) → HasNoModel (outside s t f) (outside s u h) x
no_model s t u f h x why = record { untouched = untouched_same s; why = why }

-- nothing is known of the text: it may say automata or none
runs_without : (s : Streams) (t u : List ℕ → Option (List ℕ)) (f h : ℕ) (x : Status) (q : Request) (text : List ℕ) → ((x ≡ status.ReadFault) × Rose f h) ⊎ (x ≡ status.Memory) →
    RunsText (outside s t f) (outside s u h) x q text
runs_without s t u f h x q text why = record {
  does = λ automata says. inr (no_model s t u f h x why);
  refuses = λ none. record { untouched = untouched_same s; why = inr (no_model s t u f h x why) };
}

told_without : (s : Streams) (t u : List ℕ → Option (List ℕ)) (f h : ℕ) (x : Status) (q : Request) (o : Option (List ℕ)) → ((x ≡ status.ReadFault) × Rose f h) ⊎ (x ≡ status.Memory) →
    IfSome o (RunsText (outside s t f) (outside s u h) x q)
told_without s t u f h x q None why = tt
told_without s t u f h x q (Some text) why = runs_without s t u f h x q text why

told_refused : (s : Streams) (t u : List ℕ → Option (List ℕ)) (f h : ℕ) (q : Request) (o : Option (List ℕ)) →
    IfSome o (λ text. (automata : List Automaton) → SaysAutomata text automata → ⊥) → IfSome o (RunsText (outside s t f) (outside s u h) status.Model q)
told_refused s t u f h q None none = tt
told_refused s t u f h q (Some text) none = record {
  does = λ automata says. absurd (none automata says);
  refuses = λ no. record { untouched = untouched_same s; why = inl refl };
}

no_automata : (o : Option (List ℕ)) (P : List ℕ → Type 0) → ((text : List ℕ) → P text → (automata : List Automaton) → SaysAutomata text automata → ⊥) → IfSome o P →
    IfSome o (λ text. (automata : List Automaton) → SaysAutomata text automata → ⊥)
no_automata None P f h = tt
no_automata (Some text) P f h = f text h

pub lacks_runs : (s : Streams) (t u : List ℕ → Option (List ℕ)) (f h : ℕ) (why : NoModels) (r : Request) → LacksModels (t (model_of r.command)) f h why →
    RunsWords (outside s t f) (outside s u h) (status_of (ended_by why)) (Some r)
lacks_runs s t u f h (Refused line) r l =
    (λ e. cc, told_refused s t u f h r (t (model_of r.command)) (no_automata (t (model_of r.command)) _ (λ text is. is.none) l.holds))
lacks_runs s t u f h Failed r l = (λ e. cc, told_without s t u f h status.ReadFault r (t (model_of r.command)) (inl (refl, l)))
lacks_runs s t u f h Memory r l = (λ e. cc, told_without s t u f h status.Memory r (t (model_of r.command)) (inr refl))

log_lacks_cause : (s : Streams) (t u : List ℕ → Option (List ℕ)) (f h : ℕ) (why : NoModels) (o : Option (List ℕ)) → LacksModels o f h why →
    HasLogCause (outside s t f) (outside s u h) (status_of (ended_by why))
log_lacks_cause s t u f h (Refused line) o l = untouched_same s
log_lacks_cause s t u f h Failed o l = inr l
log_lacks_cause s t u f h Memory o l = tt

replay_lacks_cause : (s : Streams) (t u : List ℕ → Option (List ℕ)) (f h : ℕ) (why : NoModels) (o told : Option (List ℕ)) → LacksModels o f h why →
    HasReplayCause told (outside s t f) (outside s u h) (status_of (ended_by why))
replay_lacks_cause s t u f h (Refused line) o told l = untouched_same s
replay_lacks_cause s t u f h Failed o told l = inr l
replay_lacks_cause s t u f h Memory o told l = tt

pub lacks_cause : (s : Streams) (t u : List ℕ → Option (List ℕ)) (f h : ℕ) (why : NoModels) (o : Option (List ℕ)) (c : Command) → LacksModels o f h why →
    HasCommandCause c (outside s t f) (outside s u h) (status_of (ended_by why))
lacks_cause s t u f h why o (Check model) l = log_lacks_cause s t u f h why o l
lacks_cause s t u f h why o (Watch model) l = log_lacks_cause s t u f h why o l
lacks_cause s t u f h why o (Replay model log) l = replay_lacks_cause s t u f h why o (t log) l

-- memory was wanted before the words were read
pub memory_first : (s : Streams) (t u : List ℕ → Option (List ℕ)) (f h : ℕ) (o : Option Request) → RunsWords (outside s t f) (outside s u h) status.Memory o
memory_first s t u f h None = (untouched_same s, inr refl)
memory_first s t u f h (Some r) = (λ e. cc, told_without s t u f h status.Memory r (t (model_of r.command)) (inr refl))

-- ---- a model

does_text : (s n : Streams) (t u : List ℕ → Option (List ℕ)) (f h : ℕ) (x : Status) (q : Request) (automata : List Automaton) (told : Option (List ℕ)) →
    IfSome told (λ text. AreModelsOf text automata) → Does q.command automata q.options (outside s t f) (outside n u h) x → IfSome told (RunsText (outside s t f) (outside n u h) x q)
does_text s n t u f h x q automata None is does = tt
does_text s n t u f h x q automata (Some text) is does = record {
  does = λ others of. inl (subst (λ z. Does q.command z q.options (outside s t f) (outside n u h) x) (sym (is.only others of)) does);
  refuses = λ none. absurd (none automata is.says);
}

pub does_runs : (s n : Streams) (t u : List ℕ → Option (List ℕ)) (f h : ℕ) (x : Status) (automata : List Automaton) (r : Request) →
    IfSome (t (model_of r.command)) (λ text. AreModelsOf text automata) → Does r.command automata r.options (outside s t f) (outside n u h) x →
    RunsWords (outside s t f) (outside n u h) x (Some r)
does_runs s n t u f h x automata r is does =
    (does_no_words r.options (outside s t f) (outside n u h) x r.command automata does, does_text s n t u f h x r automata (t (model_of r.command)) is does)

-- ---- want of memory in telling the cause

memory_does : (before now : Outside) (x : Status) (q : Request) (automata : List Automaton) → Does q.command automata q.options before now x ⊎ HasNoModel before now x →
    Does q.command automata q.options before now status.Memory ⊎ HasNoModel before now status.Memory
memory_does before now x q automata (inl does) = inl (does_memory q.options before now x q.command automata does)
memory_does before now x q automata (inr none) = inr (record { untouched = none.untouched; why = inr refl })

memory_text : (before now : Outside) (x : Status) (q : Request) (text : List ℕ) → RunsText before now x q text → RunsText before now status.Memory q text
memory_text before now x q text r = record {
  does = λ automata is. memory_does before now x q automata (r.does automata is);
  refuses = λ none.
      let u = (r.refuses none).untouched in
      record { untouched = u; why = inr (record { untouched = u; why = inr refl }) };
}

memory_told : (before now : Outside) (x : Status) (q : Request) (o : Option (List ℕ)) → IfSome o (RunsText before now x q) → IfSome o (RunsText before now status.Memory q)
memory_told before now x q None r = tt
memory_told before now x q (Some text) r = memory_text before now x q text r

memory_runs : (before now : Outside) (x : Status) (o : Option Request) → RunsWords before now x o → RunsWords before now status.Memory o
memory_runs before now x None r = (r.0, inr refl)
memory_runs before now x (Some q) r = (λ w. cc, memory_told before now x q (before.shelf (model_of q.command)) r.1)

pub told_runs : (s n : Streams) (t u : List ℕ → Option (List ℕ)) (f h : ℕ) (x y : Status) (o : Option Request) → (y ≡ x) ⊎ (y ≡ status.Memory) → RunsWords (outside s t f) (outside n u h) x o →
    RunsWords (outside s t f) (outside n u h) y o
told_runs s n t u f h x y o (inl e) r = subst (λ z. RunsWords (outside s t f) (outside n u h) z o) (sym e) r
told_runs s n t u f h x y o (inr e) r = subst (λ z. RunsWords (outside s t f) (outside n u h) z o) (sym e) (memory_runs (outside s t f) (outside n u h) x o r)

pub told_cause : (s n : Streams) (t u : List ℕ → Option (List ℕ)) (f h : ℕ) (x y : Status) (o : Option Request) → (y ≡ x) ⊎ (y ≡ status.Memory) → HasCause o (outside s t f) (outside n u h) x →
    HasCause o (outside s t f) (outside n u h) y
told_cause s n t u f h x y o (inl e) c = subst (λ z. HasCause o (outside s t f) (outside n u h) z) (sym e) c
told_cause s n t u f h x y o (inr e) c = subst (λ z. HasCause o (outside s t f) (outside n u h) z) (sym e) (memory_cause o (outside s t f) (outside n u h))

-- ---- completeness

-- no model was had
none_complete : (before now : Outside) (x : Status) (c : Command) → HasNoModel before now x → CompletesCommand c before now x
none_complete before now x (Check model) none = λ u. elim none.why [ inl w ↦ absurd (u.shelf w.1) | inr e ↦ inr (inr (inr e)) ]
none_complete before now x (Watch model) none = λ u. elim none.why [ inl w ↦ absurd (u.shelf w.1) | inr e ↦ inr (inr (inr e)) ]
none_complete before now x (Replay model log) none = if_log (before.shelf log)
  where
    if_log : (told : Option (List ℕ)) → CompletesReplay told before now x
    if_log None = tt
    if_log (Some text) = λ within u. elim none.why [ inl w ↦ absurd (u.shelf w.1) | inr e ↦ inr (inr (inr (inr e))) ]

complete_by : (before now : Outside) (x : Status) (q : Request) (automata : List Automaton) → Does q.command automata q.options before now x ⊎ HasNoModel before now x →
    CompletesCommand q.command before now x
complete_by before now x q automata (inl does) = does_complete q.options before now x q.command automata does
complete_by before now x q automata (inr none) = none_complete before now x q.command none

complete_told : (before now : Outside) (x : Status) (q : Request) (o : Option (List ℕ)) → IfSome o (RunsText before now x q) →
    IfSome o (λ text. (automata : List Automaton) → SaysAutomata text automata → CompletesCommand q.command before now x)
complete_told before now x q None r = tt
complete_told before now x q (Some text) r = λ automata is. complete_by before now x q automata (r.does automata is)

pub completes : (s n : Streams) (t u : List ℕ → Option (List ℕ)) (f h : ℕ) (x : Status) (o : Option Request) → RunsWords (outside s t f) (outside n u h) x o →
    Completes (outside s t f) (outside n u h) x o
completes s n t u f h x None r = tt
completes s n t u f h x (Some q) r = complete_told (outside s t f) (outside n u h) x q (t (model_of q.command)) r.1
