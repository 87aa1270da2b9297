-- What stays true of the open sessions: their automata are those of the file, and their samples are logs.
use Rattle.std.proofs.Common.{◌≡◌, inl, inr, ℕ, List, [], ◌∷◌, ◌++◌, length, Bool, true, false, not, ◌==◌, cond, if◌then◌else◌, T, Option, Some, None, Result, Ok, Err, refl, sym, subst, get_or}
use Rattle.std.specs.Prelude.{All, ⊤, IfSome, IfOk, find, nat_le, bytes_eq}
use Rattle.std.proofs.lemmas.Bool.{not-false}
use Rattle.std.proofs.lemmas.List.{length-map}
use Rattle.std.proofs.lemmas.List.Elements.{All-nil, All-head, All-tail, All-push, All-map, All-weaker, All-filter}
use Rattle.poly_specs.proofs.FractionLemmas
use Rattle.poly_specs.specs.Fractions.{Fraction, AtMost, Below, zero_fraction}
use Rattle.poly_specs.specs.LowestTerms.{IsLowest}
use Rattle.run_specs.specs.Automaton.{Automaton, width}
use Rattle.run_specs.specs.Logs.{Sample, IsSample, RiseFrom, TimesRise}
use Rattle.log_specs.specs.declared.LogForm.{LogForm}
use Rattle.log_specs.specs.declared.LogForm.TheVariants.{Check, Watch}
use Rattle.log_specs.specs.declared.Refusal.{Refusal}
use Rattle.log_specs.specs.declared.Refusal.TheVariants as why
use Rattle.number_specs.specs.LogNumbers.{IsLogNumber}
use Rattle.log_specs.specs.LogRows.{WatchRow, Cells, read_row, read_header, read_cells}
use Rattle.log_specs.specs.LogRows as row
use Rattle.log_specs.specs.LogSessions.{LogSession, LogState, HasLogNumbers, KeepsLog, Judgement, passed_over, refused, opened, closed, flushed, accepted, has_name, session_of, automaton_of, are_columns, cell_under, sample_in, is_below, may_follow, judge_columns, judge_opening, judge_sample, judge_closing, judge_row, first_automaton, judge_header, judge_cells, judge, with_sample, state_after}
use Rattle.log_specs.proofs.RowLemmas.{IsCell, AreCells, IsRead, IsReadSample, IsReadRow, row_is, cells_are_read}

-- the session's automaton is one of those, and its samples are a log
pub record IsSound (Q : Automaton → Type 0) (s : LogSession) : Type 0 where
  pub automaton : Q s.automaton
  pub each : All (IsReadSample (width s.automaton)) s.samples
  pub rise : TimesRise s.samples

-- all open sessions are so
abbrev pub AllSound : (Automaton → Type 0) → LogState → Type 0
AllSound Q at = All (IsSound Q) at.open_sessions

-- so is the session that a line opens, and one that it gives a sample, with this sample
abbrev pub Suits : (Automaton → Type 0) → Judgement → Type 0
Suits Q passed_over = ⊤
Suits Q (refused e) = ⊤
Suits Q (opened s) = IsSound Q s
Suits Q (closed name) = ⊤
Suits Q flushed = ⊤
Suits Q (accepted s sample) = IsSound Q (record s { samples = s.samples ++ sample ∷ [] })

either : (Q : Automaton → Type 0) (b : Bool) (j k : Judgement) → (b ≡ true → Suits Q j) → (b ≡ false → Suits Q k) → Suits Q (if b then j else k)
either Q true j k p q = p refl
either Q false j k p q = q refl

one_found : {X : Type 0} (P : X → Type 0) (b : Bool) (x : X) (o : Option X) → P x → IfSome o P → IfSome (cond b (Some x) o) P
one_found P true x o h k = h
one_found P false x o h k = k

found : {X : Type 0} (P : X → Type 0) (p : X → Bool) (xs : List X) → All P xs → IfSome (find p xs) P
found P p [] h = tt
found P p (x ∷ xs) h = one_found P (p x) x (find p xs) (All-head P x xs h) (found P p xs (All-tail P x xs h))

columns_suit : (Q : Automaton → Type 0) (at : LogState) (name : List ℕ) (columns : List (List ℕ)) (a : Automaton) → Q a → Suits Q (judge_columns at name columns a)
columns_suit Q at name columns a h =
    let s : LogSession = record { name = name; automaton = a; columns = columns; samples = [] } in
    let sound : IsSound Q s = record { automaton = h; each = All-nil (IsReadSample (width a)); rise = tt } in
    let inner : Judgement = if nat_le 1000 (length at.open_sessions) then refused why.Limit else opened s in
    either Q (not (are_columns a.variables columns)) (refused why.Column) inner (λ _. tt)
    (λ _. either Q (nat_le 1000 (length at.open_sessions)) (refused why.Limit) (opened s) (λ _. tt) (λ _. sound))

opening_suits : (Q : Automaton → Type 0) (at : LogState) (name : List ℕ) (columns : List (List ℕ)) (a : Option Automaton) (s : Option LogSession) → IfSome a Q →
    Suits Q (judge_opening at name columns a s)
opening_suits Q at name columns a (Some s) h = tt
opening_suits Q at name columns None None h = tt
opening_suits Q at name columns (Some a) None h = columns_suit Q at name columns a h

-- ---- samples

below_is : (x y : Fraction) → is_below x y ≡ true → Below x y
below_is x y e = record { lt = subst T (sym e) tt }

not_below_is : (x y : Fraction) → not (is_below x y) ≡ true → AtMost y x
not_below_is x y e = elim (FractionLemmas.either x y) [
  | inl h ↦ absurd (subst T (not_true (is_below x y) e) h.lt)
  | inr h ↦ h
]
  where
    not_true : (b : Bool) → not b ≡ true → b ≡ false
    not_true true f = absurd (let g : ⊥ = cc in g)
    not_true false f = refl

rise_from : (s : Sample) (rest : List Sample) (c : Sample) → may_follow (s ∷ rest) c.time ≡ true → RiseFrom s.time rest → RiseFrom s.time (rest ++ c ∷ [])
rise_from s [] c e h = (below_is s.time c.time e, tt)
rise_from s (r ∷ more) c e h = (h.0, rise_from r more c e h.1)

rises : (ss : List Sample) (c : Sample) → may_follow ss c.time ≡ true → TimesRise ss → TimesRise (ss ++ c ∷ [])
rises [] c e h = (not_below_is c.time zero_fraction e, tt)
rises (s ∷ rest) c e h = (h.0, rise_from s rest c e h.1)

cell_is : (columns : List (List ℕ)) (cells : List (Option Fraction)) (variable : List ℕ) → AreCells cells → IfSome (cell_under columns cells variable) IsLogNumber
cell_is [] cells variable h = tt
cell_is (column ∷ columns) [] variable h = tt
cell_is (column ∷ columns) (cell ∷ cells) variable h =
    one_cell (bytes_eq variable column) cell (cell_under columns cells variable) (All-head IsCell cell cells h)
    (cell_is columns cells variable (All-tail IsCell cell cells h))
  where
    one_cell : (b : Bool) (c d : Option Fraction) → IfSome c IsLogNumber → IfSome d IsLogNumber → IfSome (if b then c else d) IsLogNumber
    one_cell true c d p q = p
    one_cell false c d p q = q

sample_is : (s : LogSession) (c : Cells) → IsRead c → IsReadSample (width s.automaton) (sample_in s c)
sample_is s c h = record {
  time = h.time;
  sized = length-map s.automaton.variables (cell_under s.columns c.cells);
  cells = All-map IsCell (cell_under s.columns c.cells) s.automaton.variables
      (λ k d lt. cell_is s.columns c.cells (get_or s.automaton.variables k d) h.cells);
}

sample_suits : (Q : Automaton → Type 0) (at : LogState) (c : Cells) (s : Option LogSession) → IsRead c → IfSome s (IsSound Q) → Suits Q (judge_sample at c s)
sample_suits Q at c None r h = tt
sample_suits Q at c (Some s) r h =
    let last : Judgement = if nat_le 200000 at.accepted then refused why.Limit else accepted s (sample_in s c) in
    let second : Judgement = if not (may_follow s.samples c.time) then refused why.Time else last in
    let sound : may_follow s.samples c.time ≡ true → IsSound Q (record s { samples = s.samples ++ sample_in s c ∷ [] }) = λ e. record {
      automaton = h.automaton;
      each = All-push (IsReadSample (width s.automaton)) s.samples (sample_in s c) h.each (sample_is s c r);
      rise = rises s.samples (sample_in s c) e h.rise;
    } in
    either Q (not (length c.cells == length s.columns)) (refused why.Cells) second (λ _. tt)
    (λ _. either Q (not (may_follow s.samples c.time)) (refused why.Time) last (λ _. tt)
    (λ e. either Q (nat_le 200000 at.accepted) (refused why.Limit) (accepted s (sample_in s c)) (λ _. tt) (λ _. sound (not-false (may_follow s.samples c.time) e))))

closing_suits : (Q : Automaton → Type 0) (name : List ℕ) (s : Option LogSession) → Suits Q (judge_closing name s)
closing_suits Q name None = tt
closing_suits Q name (Some s) = tt

-- ---- lines

row_suits : (Q : Automaton → Type 0) (models : List Automaton) (at : LogState) (r : Result WatchRow Refusal) → IfOk r IsReadRow → All Q models → AllSound Q at →
    Suits Q (judge_row models at r)
row_suits Q models at (Err e) h wf ok = tt
row_suits Q models at (Ok (row.opening name automaton columns)) h wf ok =
    opening_suits Q at name columns (automaton_of models automaton) (session_of at name) (found Q (λ a. bytes_eq automaton a.name) models wf)
row_suits Q models at (Ok (row.sample name time cells)) h wf ok =
    sample_suits Q at (record { time = time; cells = cells }) (session_of at name) h (found (IsSound Q) (has_name name) at.open_sessions ok)
row_suits Q models at (Ok (row.closing name)) h wf ok = closing_suits Q name (session_of at name)
row_suits Q models at (Ok row.flush) h wf ok = tt

first_suits : (Q : Automaton → Type 0) (models : List Automaton) → All Q models → IfSome (first_automaton models) Q
first_suits Q [] wf = tt
first_suits Q (a ∷ models) wf = All-head Q a models wf

header_suits : (Q : Automaton → Type 0) (models : List Automaton) (at : LogState) (r : Result (List (List ℕ)) Refusal) → All Q models → Suits Q (judge_header models at r)
header_suits Q models at (Err e) wf = tt
header_suits Q models at (Ok columns) wf = opening_suits Q at [] columns (first_automaton models) None (first_suits Q models wf)

cells_suit : (Q : Automaton → Type 0) (at : LogState) (r : Result Cells Refusal) → IfOk r IsRead → AllSound Q at → Suits Q (judge_cells at r)
cells_suit Q at (Err e) h ok = tt
cells_suit Q at (Ok c) h ok = sample_suits Q at c (session_of at []) h (found (IsSound Q) (has_name []) at.open_sessions ok)

pub judged : (Q : Automaton → Type 0) (form : LogForm) (models : List Automaton) (at : LogState) (line : List ℕ) → All Q models → AllSound Q at →
    Suits Q (judge form models at line)
judged Q form models at [] wf ok = tt
judged Q Watch models at (b ∷ bytes) wf ok = row_suits Q models at (read_row (b ∷ bytes)) (row_is (b ∷ bytes)) wf ok
judged Q Check models at (b ∷ bytes) wf ok =
    either Q at.has_begun (judge_cells at (read_cells (b ∷ bytes))) (judge_header models at (read_header (b ∷ bytes)))
    (λ _. cells_suit Q at (read_cells (b ∷ bytes)) (cells_are_read (b ∷ bytes)) ok) (λ _. header_suits Q models at (read_header (b ∷ bytes)) wf)

-- ---- the state after a line

with_sample_sound : (Q : Automaton → Type 0) (s : LogSession) (sample : Sample) (t : LogSession) → IsSound Q (record s { samples = s.samples ++ sample ∷ [] }) → IsSound Q t →
    IsSound Q (with_sample s sample t)
with_sample_sound Q s sample t h k = one (has_name s.name t)
  where
    one : (b : Bool) → IsSound Q (if b then record s { samples = s.samples ++ sample ∷ [] } else t)
    one true = h
    one false = k

pub kept : (Q : Automaton → Type 0) (at : LogState) (j : Judgement) → Suits Q j → AllSound Q at → AllSound Q (state_after at j)
kept Q at passed_over h ok = ok
kept Q at (refused e) h ok = ok
kept Q at (opened s) h ok = All-push (IsSound Q) at.open_sessions s ok h
kept Q at (closed name) h ok = All-filter (λ s. not (has_name name s)) (IsSound Q) at.open_sessions ok
kept Q at flushed h ok = ok
kept Q at (accepted s sample) h ok =
    All-map (IsSound Q) (with_sample s sample) at.open_sessions
    (All-weaker (IsSound Q) (λ t. IsSound Q (with_sample s sample t)) (λ t k. with_sample_sound Q s sample t h k) at.open_sessions ok)

-- ---- logs

lowest_sample : (m : ℕ) (s : Sample) → IsReadSample m s → IsSample m s
lowest_sample m s h = record {
  time = h.time.lowest_terms;
  sized = h.sized;
  cells = All-weaker IsCell (λ c. IfSome c IsLowest) lowest_cell s.cells h.cells;
}
  where
    lowest_cell : (c : Option Fraction) → IfSome c IsLogNumber → IfSome c IsLowest
    lowest_cell None h = tt
    lowest_cell (Some v) h = h.lowest_terms

pub sound_keeps : (Q : Automaton → Type 0) (s : LogSession) → IsSound Q s → KeepsLog s
sound_keeps Q s h = record {
  log = record {
    each = All-weaker (IsReadSample (width s.automaton)) (IsSample (width s.automaton)) (lowest_sample (width s.automaton)) s.samples h.each;
    rise = h.rise;
  };
  numbers = All-weaker (IsReadSample (width s.automaton)) HasLogNumbers (λ c k. record { time = k.time; cells = k.cells }) s.samples h.each;
}
