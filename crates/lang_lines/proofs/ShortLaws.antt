-- Reading a short line finds what it says, or its first fault.
use Rattle.std.proofs.Common.{◌≡◌, ◌⊎◌, inl, inr, ◌&&◌, ℕ, Bool, true, false, if◌then◌else◌, List, [], ◌∷◌, ◌++◌, Option, Some, None, Result, Ok, refl, sym, ap, ◌∙◌, subst}
use Rattle.std.proofs.lemmas.List.{append-nil}
use Rattle.std.proofs.lemmas.Slice.Eq.{bytes_eq-Decides}
use Rattle.std.specs.Prelude.{bytes_eq}
use Rattle.lang_specs.specs.declared.Which.{Which}
use Rattle.lang_specs.specs.declared.Which.TheVariants.{Automata, Variables, Locations, Transitions, Rows, Terms, NameBytes, Digits}
use Rattle.lang_specs.specs.declared.Kind.{Kind}
use Rattle.lang_specs.specs.declared.Kind.TheVariants as kinds
use Rattle.lang_specs.specs.Tokens.{Placed}
use Rattle.lang_specs.specs.Marks.{Mark, the, a_name, a_number}
use Rattle.lang_specs.specs.Grammar.{unsafe_if}
use Rattle.lang_specs.specs.Grammar as grammar
use Rattle.lang_specs.proofs.SplitLemmas.{apart}
use Rattle.lang_tokens.specs.declared.faults.LineFault.{LineFault}
use Rattle.lang_tokens.specs.Kinds.{same_kind}
use Rattle.lang_tokens.specs.Machines.{run}
use Rattle.lang_tokens.specs.LineFaults.{marks, AreLiterals, IsLine, marks_keep}
use Rattle.lang_tokens.specs.Gives.{FailsSo}
use Rattle.lang_tokens.proofs.LimitLemmas.{plain_keep}
use Rattle.lang_tokens.proofs.LineLaws.{LineLaws, reads_start, reads_run, line_fault, line_within}
use Rattle.lang_tokens.proofs.Walks.{both, IsClean, is_the, is_a_name, is_a_number, if_some, if_either, walk, and_walk}
use Rattle.lang_order.specs.Statements as statements
use Rattle.lang_order.specs.Statements.{Statement, first_word}
use Rattle.lang_order.specs.LineLimits.{line_keeps}
use Rattle.lang_order.specs.FaultsByLines.{StandIn}
use Rattle.lang_order.specs.Bodies.{IsBodyBehind}
use Rattle.lang_order.proofs.Things.{Spelled, Says}
use Rattle.lang_lists.specs.BoxMachine.{no_limits}
use Rattle.lang_lines.specs.Lines.{IsRead, IsBodyFault}
use Rattle.lang_lines.specs.ShortMachine.{Short, version, automaton, loc, nothing, statement_of, is_short, State, at_version, at_name, at_loc, at_unsafe, behind, ended, start_at, is_version, version_of, behind_version, next_short, short_line, Ends}
use Rattle.lang_lines.proofs.Readings.{is_read, body_fault}

-- ---- what such a line says

abbrev word_of : Short → Kind
word_of x = first_word (statement_of x)

abbrev spelled : Short → List Mark
spelled (version second) = a_number (grammar.version second) ∷ []
spelled (automaton name) = a_name name ∷ []
spelled (loc name is_unsafe) = a_name name ∷ unsafe_if is_unsafe
spelled nothing = []

abbrev IsShort : Kind → List Mark → Short → Type 0
IsShort word ms x = (word_of x ≡ word) × (ms ≡ spelled x)

short_into : (second : Bool) (word : Kind) (body : List Mark) (x : Short) → IsShort word body x → IsBodyBehind second word body (statement_of x)
short_into second word body (version v) h = h
short_into second word body (automaton name) h = h
short_into second word body (loc name u) h = h
short_into second word body nothing h = h

short_out : (second : Bool) (word : Kind) → is_short word ≡ true → (body : List Mark) (s : Statement) → IsBodyBehind second word body s → Spelled (IsShort word) statement_of body s
short_out second word short body (statements.Version v) h = record { thing = version v; says = refl; holds = h }
short_out second word short body (statements.Automaton name) h = record { thing = automaton name; says = refl; holds = h }
short_out second word short body (statements.Loc name u) h = record { thing = loc name u; says = refl; holds = h }
short_out second word short body statements.End h = record { thing = nothing; says = refl; holds = h }
short_out second word short body s h = apart (sym (ap is_short h.0 ∙ short))

short_says : (second : Bool) (word : Kind) → is_short word ≡ true → Says second word (IsShort word) statement_of
short_says second word short = record { into = short_into second word; out = short_out second word short }

short_alike : (which : Which) (x : Short) → line_keeps which [] (statement_of x) ≡ no_limits which x
short_alike Automata x = refl
short_alike Variables (version v) = refl
short_alike Variables x = refl
short_alike Locations x = refl
short_alike Transitions x = refl
short_alike Rows (version v) = refl
short_alike Rows x = refl
short_alike Terms (version v) = refl
short_alike Terms x = refl
short_alike NameBytes x = refl
short_alike Digits x = refl

-- ---- what was read up to a state

abbrev said : State → List Mark
said at_version = []
said at_name = []
said at_loc = []
said (at_unsafe name) = a_name name ∷ []
said (behind x) = spelled x
said (ended x) = spelled x ++ the kinds.EndLine ∷ []

abbrev word_at : State → Kind
word_at at_version = kinds.Lha
word_at at_name = kinds.Automaton
word_at at_loc = kinds.Loc
word_at (at_unsafe name) = kinds.Loc
word_at (behind x) = word_of x
word_at (ended x) = word_of x

abbrev SaidBehind : Kind → State → List Mark → Type 0
SaidBehind word s ms = (ms ≡ said s) × (word_at s ≡ word)

start_said : (word : Kind) → is_short word ≡ true → SaidBehind word (start_at word) []
start_said kinds.Lha h = (refl, refl)
start_said kinds.Automaton h = (refl, refl)
start_said kinds.Loc h = (refl, refl)
start_said kinds.End h = (refl, refl)
start_said word h = apart (sym h)

is_written : (second : Bool) (m : Mark) → is_version second m ≡ true → m ≡ a_number (grammar.version second)
is_written second m h =
    let p = both (same_kind m.kind kinds.Number) (bytes_eq m.text (grammar.version second)) h in
    is_a_number m p.0 ∙ ap a_number ((bytes_eq-Decides m.text (grammar.version second)).0 p.1)

module _ (word : Kind) where
  more_said : (s u : State) (m : Mark) (ms : List Mark) → SaidBehind word s ms → said u ≡ said s ++ m ∷ [] → word_at u ≡ word_at s → SaidBehind word u (ms ++ m ∷ [])
  more_said s u m ms h e w = (ap (λ z. z ++ m ∷ []) h.0 ∙ sym e, w ∙ h.1)

  version_said : (u : State) (m : Mark) (ms : List Mark) → SaidBehind word at_version ms → behind_version (version_of m) ≡ Some u → SaidBehind word u (ms ++ m ∷ [])
  version_said u m ms h e =
      elim (is_version false m) as (λ b. is_version false m ≡ b → behind_version (if b then Some false else if is_version true m then Some true else None) ≡ Some u → SaidBehind word u (ms ++ m ∷ [])) [
        | true ↦ λ k f.
            let same : behind (version false) ≡ u = cc in
            subst (λ v. SaidBehind word v (ms ++ m ∷ [])) same (more_said at_version (behind (version false)) m ms h (ap (λ z. z ∷ []) (sym (is_written false m k))) refl)
        | false ↦ λ k f.
            elim (is_version true m) as (λ b. is_version true m ≡ b → behind_version (if b then Some true else None) ≡ Some u → SaidBehind word u (ms ++ m ∷ [])) [
              | true ↦ λ l g.
                  let same : behind (version true) ≡ u = cc in
                  subst (λ v. SaidBehind word v (ms ++ m ∷ [])) same (more_said at_version (behind (version true)) m ms h (ap (λ z. z ∷ []) (sym (is_written true m l))) refl)
              | false ↦ λ l g. absurd cc
            ] refl f
      ] refl e

  said_next : (s u : State) (m : Mark) (ms : List Mark) → IsClean m → SaidBehind word s ms → next_short s m ≡ Some u → SaidBehind word u (ms ++ m ∷ [])
  unfolding next_short
  said_next at_version u m ms c h e = version_said u m ms h e
  said_next at_name u m ms c h e =
      let k = if_some (same_kind m.kind kinds.Name) (behind (automaton m.text)) u e in
      subst (λ v. SaidBehind word v (ms ++ m ∷ [])) k.1 (more_said at_name (behind (automaton m.text)) m ms h (ap (λ z. z ∷ []) (sym (is_a_name m k.0))) refl)
  said_next at_loc u m ms c h e =
      let k = if_some (same_kind m.kind kinds.Name) (at_unsafe m.text) u e in
      subst (λ v. SaidBehind word v (ms ++ m ∷ [])) k.1 (more_said at_loc (at_unsafe m.text) m ms h (ap (λ z. z ∷ []) (sym (is_a_name m k.0))) refl)
  said_next (at_unsafe name) u m ms c h e =
      elim (if_either (same_kind m.kind kinds.Unsafe) (same_kind m.kind kinds.EndLine) (behind (loc name true)) (ended (loc name false)) u e) [
        | inl k ↦ subst (λ v. SaidBehind word v (ms ++ m ∷ [])) k.1
            (more_said (at_unsafe name) (behind (loc name true)) m ms h (ap (λ z. a_name name ∷ z ∷ []) (sym (is_the m kinds.Unsafe c refl k.0))) refl)
        | inr k ↦ subst (λ v. SaidBehind word v (ms ++ m ∷ [])) k.1
            (more_said (at_unsafe name) (ended (loc name false)) m ms h (ap (λ z. a_name name ∷ z ∷ []) (sym (is_the m kinds.EndLine c refl k.0))) refl)
      ]
  said_next (behind x) u m ms c h e =
      let k = if_some (same_kind m.kind kinds.EndLine) (ended x) u e in
      subst (λ v. SaidBehind word v (ms ++ m ∷ [])) k.1 (more_said (behind x) (ended x) m ms h (ap (λ z. spelled x ++ z ∷ []) (sym (is_the m kinds.EndLine c refl k.0))) refl)
  said_next (ended x) u m ms c h e = absurd cc

-- ---- a line is taken, and each beginning can be completed

walks : (x : Short) → walk next_short (start_at (word_of x)) (spelled x ++ the kinds.EndLine ∷ []) ≡ Some (ended x)
unfolding walk and_walk next_short
walks (version true) = refl
walks (version false) = refl
walks (automaton name) = refl
walks (loc name true) = refl
walks (loc name false) = refl
walks nothing = refl

taken : (word : Kind) (ms : List Mark) (x : Short) → IsLine (IsShort word) ms x →
    (u : State) × (walk next_short (start_at word) ms ≡ Some u) × ((which : Which) → no_limits which x ≡ true → true ≡ true)
taken word ms x (inside, parts, (w, e)) = (
  ended x,
  ap (λ k. walk next_short (start_at k) ms) (sym w) ∙ ap (walk next_short (start_at (word_of x))) (parts ∙ ap (λ z. z ++ the kinds.EndLine ∷ []) e) ∙ walks x,
  λ which k. refl,
)

abbrev Completes : Kind → List Mark → Type 0
Completes word ms =
    (more : List Mark) × (x : Short) × IsLine (IsShort word) (ms ++ more) x × ((which : Which) → true ≡ true → (no_limits which x ≡ true) × (marks_keep which more ≡ true))

-- a name that any line may hold
abbrev x_name : List ℕ
x_name = 120 ∷ []

completes : (word : Kind) (s : State) (ms : List Mark) → SaidBehind word s ms → Completes word ms
completes word at_version ms h =
    let more = a_number (grammar.version false) ∷ the kinds.EndLine ∷ [] in
    (more, version false, (a_number (grammar.version false) ∷ [], ap (λ z. z ++ more) h.0, (h.1, refl)), λ which f. (refl, plain_keep which more (refl, (refl, tt))))
completes word at_name ms h =
    let more = a_name x_name ∷ the kinds.EndLine ∷ [] in
    (more, automaton x_name, (a_name x_name ∷ [], ap (λ z. z ++ more) h.0, (h.1, refl)), λ which f. (refl, plain_keep which more (refl, (refl, tt))))
completes word at_loc ms h =
    let more = a_name x_name ∷ the kinds.EndLine ∷ [] in
    (more, loc x_name false, (a_name x_name ∷ [], ap (λ z. z ++ more) h.0, (h.1, refl)), λ which f. (refl, plain_keep which more (refl, (refl, tt))))
completes word (at_unsafe name) ms h =
    let more = the kinds.EndLine ∷ [] in
    (more, loc name false, (a_name name ∷ [], ap (λ z. z ++ more) h.0, (h.1, refl)), λ which f. (refl, plain_keep which more (refl, tt)))
completes word (behind x) ms h =
    let more = the kinds.EndLine ∷ [] in
    (more, x, (spelled x, ap (λ z. z ++ more) h.0, (h.1, refl)), λ which f. (refl, plain_keep which more (refl, tt)))
completes word (ended x) ms h = ([], x, (spelled x, append-nil ms ∙ h.0, (h.1, refl)), λ which f. (refl, refl))

module _ (word : Kind) (short : is_short word ≡ true) where
  short_laws : LineLaws (short_line word) (SaidBehind word) (IsShort word) no_limits
  short_laws = record {
    start_said = start_said word short;
    start_fits = λ which. refl;
    said_next = said_next word;
    taken = taken word;
    fits_before = λ which s u m e f. refl;
    completes = λ s ms read h. completes word s ms h;
  }

  -- ---- what is read

  pub short_found : (u : State) (ts : List Placed) (s : Statement) (second : Bool) → AreLiterals (marks ts) → run (short_line word) (start_at word) ts ≡ Ok u → Ends u s →
      IsRead second word (marks ts) s
  short_found at_version ts s second read e h = absurd h
  short_found at_name ts s second read e h = absurd h
  short_found at_loc ts s second read e h = absurd h
  short_found (at_unsafe name) ts s second read e h = absurd h
  short_found (behind x) ts s second read e h = absurd h
  short_found (ended x) ts s second read e h =
      let reads = reads_run (short_line word) (SaidBehind word) (IsShort word) no_limits short_laws (start_at word) (ended x) ts []
      (reads_start (short_line word) (SaidBehind word) (IsShort word) no_limits short_laws) read e in
      let line : IsLine (IsShort word) (marks ts) x = (spelled x, reads.said_so.0, (reads.said_so.1, refl)) in
      let within = line_within (short_line word) (SaidBehind word) (IsShort word) no_limits short_laws (ended x) ts x read e line (λ which f. refl) in
      subst (IsRead second word (marks ts)) (sym h) (is_read (IsShort word) no_limits statement_of short_alike second word (short_says second word short) (marks ts) x within)

  pub short_fault : (line : ℕ) (ts : List Placed) (e : LineFault) (second : Bool) → StandIn line ts → AreLiterals (marks ts) → FailsSo e (run (short_line word) (start_at word) ts) →
      IsBodyFault second line word ts e
  short_fault line ts e second here read h =
      body_fault (IsShort word) no_limits statement_of short_alike second word (short_says second word short) line ts e here
      (line_fault (short_line word) (SaidBehind word) (IsShort word) no_limits short_laws ts e read h)
