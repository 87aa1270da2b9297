-- How a line is judged.
use Rattle.std.proofs.Common.{◌≡◌, ℕ, ◌<◌, List, [], ◌∷◌, length, Bool, true, false, Result, Err, refl, ap, ◌∙◌, arith}
use Rattle.std.specs.Prelude.{if◌then◌else◌}
use Rattle.std.proofs.lemmas.Bool.{lt-ltb}
use Rattle.run_specs.specs.Automaton.{Automaton}
use Rattle.log_specs.specs.declared.LogForm.{LogForm}
use Rattle.log_specs.specs.declared.LogForm.TheVariants.{Check, Watch}
use Rattle.log_specs.specs.declared.Refusal.{Refusal}
use Rattle.log_specs.specs.declared.Refusal.TheVariants as why
use Rattle.log_specs.specs.Fields.{is_text, fields_of, read_by, is_long}
use Rattle.log_specs.specs.LogRows.{time_and_cells, header_of, row_of, read_header, read_cells, read_row}
use Rattle.log_specs.specs.LogSessions.{LogState, Judgement, passed_over, refused, judge_header, judge_cells, judge_row, judge}
use Rattle.log_specs.specs.Blocks.{Task}
use Rattle.log_specs.specs.LogReports.{judgement}
use Rattle.log_session.specs.Progress.{Progress, IsTaskOf, AddsLine}
use Rattle.log_session.specs.Told.{Tells, TellsHeader, TellsCells, TellsRow}
use Rattle.log_session.proofs.ToldLemmas.{told_as, passed_told}

-- what is told of a line's judgement is told of the line
adds : (task : Task) (old new : Progress) (number : ℕ) (line before after : List ℕ) → Tells task old new number (judgement task old.known line) before after →
    AddsLine task old new number line before after
adds task old new number line before after h =
    record { block = h.block; replies = h.replies; grown = h.grown; is_block = h.is_block; next = h.next }

-- ---- by what stands in the line

pub adds_nothing : (task : Task) (p : Progress) (number : ℕ) (line bytes : List ℕ) → line ≡ [] → AddsLine task p p number line bytes bytes
adds_nothing task p number line bytes e =
    adds task p p number line bytes bytes
    (told_as task p p number (judgement task p.known line) passed_over bytes bytes (ap (judgement task p.known) e) (passed_told task p number bytes))

module _ (form : LogForm) (models : List Automaton) (at : LogState) where
  first_of_check : Judgement → Judgement → Bool → Judgement
  first_of_check cells header begun = if begun then cells else header

  of_check : (b : ℕ) (bytes : List ℕ) → form ≡ Check →
      judge form models at (b ∷ bytes) ≡ first_of_check (judge_cells at (read_cells (b ∷ bytes))) (judge_header models at (read_header (b ∷ bytes))) at.has_begun
  unfolding first_of_check
  of_check b bytes e = ap (λ f. judge f models at (b ∷ bytes)) e

  judged_first : (line : List ℕ) → form ≡ Check → at.has_begun ≡ false → (line ≡ [] → ⊥) → judge form models at line ≡ judge_header models at (read_header line)
  unfolding first_of_check
  judged_first [] e f n = absurd (n refl)
  judged_first (b ∷ bytes) e f n =
      of_check b bytes e ∙ ap (first_of_check (judge_cells at (read_cells (b ∷ bytes))) (judge_header models at (read_header (b ∷ bytes)))) f

  judged_later : (line : List ℕ) → form ≡ Check → at.has_begun ≡ true → (line ≡ [] → ⊥) → judge form models at line ≡ judge_cells at (read_cells line)
  unfolding first_of_check
  judged_later [] e f n = absurd (n refl)
  judged_later (b ∷ bytes) e f n =
      of_check b bytes e ∙ ap (first_of_check (judge_cells at (read_cells (b ∷ bytes))) (judge_header models at (read_header (b ∷ bytes)))) f

  judged_watched : (line : List ℕ) → form ≡ Watch → (line ≡ [] → ⊥) → judge form models at line ≡ judge_row models at (read_row line)
  judged_watched [] e n = absurd (n refl)
  judged_watched (b ∷ bytes) e n = ap (λ f. judge f models at (b ∷ bytes)) e

module _ (old new : Progress) (number : ℕ) (line before after : List ℕ) (n : line ≡ [] → ⊥) where
  pub adds_header : old.form ≡ Check → old.known.state.has_begun ≡ false → TellsHeader old new number (read_header line) before after → (task : Task) → IsTaskOf task old →
      AddsLine task old new number line before after
  adds_header e f told task is =
      adds task old new number line before after
      (told_as task old new number (judgement task old.known line) (judge_header task.models old.known.state (read_header line)) before after
      (judged_first task.form task.models old.known.state line (is.form ∙ e) f n) (told task is))

  pub adds_cells : old.form ≡ Check → old.known.state.has_begun ≡ true → TellsCells old new number (read_cells line) before after → (task : Task) → IsTaskOf task old →
      AddsLine task old new number line before after
  adds_cells e f told task is =
      adds task old new number line before after
      (told_as task old new number (judgement task old.known line) (judge_cells old.known.state (read_cells line)) before after
      (judged_later task.form task.models old.known.state line (is.form ∙ e) f n) (told task is))

  pub adds_row : old.form ≡ Watch → TellsRow old new number (read_row line) before after → (task : Task) → IsTaskOf task old →
      AddsLine task old new number line before after
  adds_row e told task is =
      adds task old new number line before after
      (told_as task old new number (judgement task old.known line) (judge_row task.models old.known.state (read_row line)) before after
      (judged_watched task.form task.models old.known.state line (is.form ∙ e) n) (told task is))

-- ---- a long line

long_read : {A : Type 0} (f : List (List ℕ) → Result A Refusal) (line : List ℕ) → is_long line ≡ true → read_by f line ≡ Err why.Long
long_read {A} f line e =
    let inner : Result A Refusal = if is_text line then f (fields_of line) else Err why.Text in
    ap (λ b. if b then Err why.Long else inner) e

no_line : (b : ℕ) (bytes : List ℕ) → (b ∷ bytes) ≡ [] → ⊥
no_line b bytes e = let f : ⊥ = cc in f

long_by : (form : LogForm) (models : List Automaton) (at : LogState) (b : ℕ) (bytes : List ℕ) (c : Bool) → is_long (b ∷ bytes) ≡ true → at.has_begun ≡ c →
    judge form models at (b ∷ bytes) ≡ refused why.Long
long_by Watch models at b bytes c l f = ap (judge_row models at) (long_read row_of (b ∷ bytes) l)
long_by Check models at b bytes true l f =
    judged_later Check models at (b ∷ bytes) refl f (no_line b bytes) ∙ ap (judge_cells at) (long_read time_and_cells (b ∷ bytes) l)
long_by Check models at b bytes false l f =
    judged_first Check models at (b ∷ bytes) refl f (no_line b bytes) ∙ ap (judge_header models at) (long_read header_of (b ∷ bytes) l)

judged_long : (form : LogForm) (models : List Automaton) (at : LogState) (line : List ℕ) → 4096 < length line → judge form models at line ≡ refused why.Long
judged_long form models at [] h = absurd (let g : ⊥ = omega (arith, h) in g)
judged_long form models at (b ∷ bytes) h = long_by form models at b bytes at.has_begun (lt-ltb 4096 (length (b ∷ bytes)) h) refl

pub adds_long : (task : Task) (old new : Progress) (number : ℕ) (line before after : List ℕ) → 4096 < length line →
    Tells task old new number (refused why.Long) before after → AddsLine task old new number line before after
adds_long task old new number line before after h told =
    adds task old new number line before after
    (told_as task old new number (judgement task old.known line) (refused why.Long) before after
    (judged_long task.form task.models old.known.state line h) told)
