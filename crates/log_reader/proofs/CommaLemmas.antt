-- What `csv` makes of a line without a quotation mark: the fields between its commas.
use Rattle.std.proofs.Common.{◌≡◌, ◌≢◌, ℕ, zero, suc, ◌+◌, ◌<◌, List, [], ◌∷◌, ◌++◌, length, take, drop, slice_index, get_or, Bor, Bool, true, false, not, ◌&&◌, ◌||◌, ◌==◌, if◌then◌else◌, Option, Some, None, refl, sym, ◌∙◌, ap, subst, append_assoc, arith}
use Rattle.std.specs.Prelude.{All, map}
use Rattle.std.specs.List.{list_any}
use Rattle.std.specs.Str.{is_utf8}
use Rattle.std.proofs.lemmas.Bool.{eq-eqb, ne_eqb}
use Rattle.std.proofs.lemmas.List.{append-nil, map-append, take_more}
use Rattle.std.proofs.lemmas.List.Elements.{All-nil, All-cons, All-head, All-tail}
use Rattle.csv.specs.Machine.{next_record, step, is_end, fields_after, field_after, ends_at_end, Read}
use Rattle.csv.specs.Reading.{default_config, strip_bom}
use Rattle.csv.specs.Records.{field_at}
use Rattle.csv.proofs.RecordFacts.{field-get}
use Rattle.csv.specs.declared.parser.State.{State}
use Rattle.csv.specs.declared.parser.State.TheVariants.{StartRecord, StartField, InField}
use Rattle.csv.specs.declared.parser.Action.{Action}
use Rattle.csv.specs.declared.parser.Action.TheVariants.{Copy, EndField}
use Rattle.report_specs.specs.Lines.{HasNoFeed}
use Rattle.log_specs.specs.Fields.{fields_of, is_text, first_of, without_blanks}
use Rattle.log_reader.specs.Commas.{byte_first, between_commas, trimmed}

-- ---- bytes in front

-- bytes in front of the first field
abbrev pub bytes_first : List ℕ → List (List ℕ) → List (List ℕ)
bytes_first bytes [] = bytes ∷ []
bytes_first bytes (field ∷ fields) = (bytes ++ field) ∷ fields

first_more : (bytes : List ℕ) (b : ℕ) (fields : List (List ℕ)) → bytes_first (bytes ++ b ∷ []) fields ≡ bytes_first bytes (byte_first b fields)
first_more bytes b [] = refl
first_more bytes b (field ∷ fields) = ap (λ x. x ∷ fields) (append_assoc bytes (b ∷ []) field)

nothing_first : (b : ℕ) (fields : List (List ℕ)) → bytes_first [] (byte_first b fields) ≡ byte_first b fields
nothing_first b [] = refl
nothing_first b (field ∷ fields) = refl

nothing_before : (xs : List ℕ) → bytes_first [] (between_commas xs) ≡ between_commas xs
nothing_before [] = refl
nothing_before (b ∷ xs) =
    elim (b == 44) as (λ t. bytes_first [] (if t then [] ∷ between_commas xs else byte_first b (between_commas xs)) ≡ (if t then [] ∷ between_commas xs else byte_first b (between_commas xs))) [
      | true ↦ refl
      | false ↦ nothing_first b (between_commas xs)
    ]

-- ---- one byte

-- neither a quotation mark nor the end of a line
pub record IsPlain (b : ℕ) : Type 0 where
  pub quote : (b == 34) ≡ false
  pub return : (b == 13) ≡ false
  pub feed : (b == 10) ≡ false

-- where a byte leads that is no end of a line
abbrev after_byte : ℕ → State × Action
after_byte b = if b == 44 then (StartField, EndField) else (InField, Copy)

chosen : {X : Type 0} (c r f : Bool) (y z v : X) → r ≡ false → f ≡ false → (if c then y else if r || f then z else v) ≡ (if c then y else v)
chosen true r f y z v e g = refl
chosen false true f y z v e g = absurd (let no : ⊥ = cc in no)
chosen false false true y z v e g = absurd (let no : ⊥ = cc in no)
chosen false false false y z v e g = refl

passed : {X : Type 0} (q : Bool) (y z : X) → q ≡ false → (if q then y else z) ≡ z
passed true y z e = absurd (let no : ⊥ = cc in no)
passed false y z e = refl

passed_two : {X : Type 0} (r f : Bool) (y z : X) → r ≡ false → f ≡ false → (if r || f then y else z) ≡ z
passed_two true f y z e g = absurd (let no : ⊥ = cc in no)
passed_two false true y z e g = absurd (let no : ⊥ = cc in no)
passed_two false false y z e g = refl

step_in : (b : ℕ) → IsPlain b → step default_config InField b ≡ after_byte b
step_in b p = chosen (b == 44) (b == 13) (b == 10) _ _ _ p.return p.feed

step_start : (b : ℕ) → IsPlain b → step default_config StartField b ≡ after_byte b
step_start b p = passed (b == 34) _ _ p.quote ∙ step_in b p

step_first : (b : ℕ) → IsPlain b → step default_config StartRecord b ≡ after_byte b
step_first b p = passed_two (b == 13) (b == 10) _ _ p.return p.feed ∙ step_start b p

-- ---- all bytes

-- the state goes on with plain bytes, and the end of the line ends its record
record GoesOn (s : State) : Type 0 where
  steps : (b : ℕ) → IsPlain b → step default_config s b ≡ after_byte b
  ends : ends_at_end s ≡ true

goes_start : GoesOn StartField
goes_start = record { steps = step_start; ends = refl }

goes_in : GoesOn InField
goes_in = record { steps = step_in; ends = refl }

-- what is read after one step
after_step : State × Action → List (List ℕ) → List ℕ → ℕ → List ℕ → Option Read
after_step st fields field b xs =
    if is_end st.1 then Some (fields_after st.1 fields field, st.0, xs)
    else next_record default_config st.0 (fields_after st.1 fields field) (field_after st.1 b field) xs

by_step : (s : State) (fields : List (List ℕ)) (field : List ℕ) (b : ℕ) (xs : List ℕ) → next_record default_config s fields field (b ∷ xs) ≡ after_step (step default_config s b) fields field b xs
unfolding next_record after_step
by_step s fields field b xs = refl

at_end : (s : State) (fields : List (List ℕ)) (field : List ℕ) → ends_at_end s ≡ true → next_record default_config s fields field [] ≡ Some (fields ++ (field ∷ []), StartRecord, [])
unfolding next_record
at_end s fields field e =
    let r : Option Read = Some (fields ++ (field ∷ []), StartRecord, []) in
    let none : Option Read = None in
    ap (λ t. if t then r else none) e

same_end : (fields : List (List ℕ)) (field : List ℕ) → fields ++ (field ∷ []) ≡ fields ++ bytes_first field ([] ∷ [])
same_end fields field = ap (λ x. fields ++ (x ∷ [])) (sym (append-nil field))

same_field : (fields : List (List ℕ)) (field : List ℕ) (xs : List ℕ) → (fields ++ (field ∷ [])) ++ bytes_first [] (between_commas xs) ≡ fields ++ bytes_first field ([] ∷ between_commas xs)
same_field fields field xs =
    ap (λ ys. (fields ++ (field ∷ [])) ++ ys) (nothing_before xs)
    ∙ append_assoc fields (field ∷ []) (between_commas xs)
    ∙ ap (λ x. fields ++ (x ∷ between_commas xs)) (sym (append-nil field))

-- the record of these fields, to the end of the line
abbrev whole : List (List ℕ) → Option Read
whole fields = Some (fields, StartRecord, [])

ended_field : (fields : List (List ℕ)) (field : List ℕ) (b : ℕ) (xs : List ℕ) → after_step (StartField, EndField) fields field b xs ≡ next_record default_config StartField (fields ++ (field ∷ [])) [] xs
unfolding after_step
ended_field fields field b xs = refl

more_field : (fields : List (List ℕ)) (field : List ℕ) (b : ℕ) (xs : List ℕ) → after_step (InField, Copy) fields field b xs ≡ next_record default_config InField fields (field ++ (b ∷ [])) xs
unfolding after_step
more_field fields field b xs = refl

next_plain : (s : State) → GoesOn s → (fields : List (List ℕ)) (field xs : List ℕ) → All IsPlain xs → next_record default_config s fields field xs ≡ whole (fields ++ bytes_first field (between_commas xs))
next_plain s g fields field [] p = at_end s fields field g.ends ∙ ap whole (same_end fields field)
next_plain s g fields field (b ∷ xs) p =
    let rest = All-tail IsPlain b xs p in
    by_step s fields field b xs
    ∙ ap (λ st. after_step st fields field b xs) (g.steps b (All-head IsPlain b xs p))
    ∙ elim (b == 44) as (λ t. after_step (if t then (StartField, EndField) else (InField, Copy)) fields field b xs ≡ whole (fields ++ bytes_first field (if t then [] ∷ between_commas xs else byte_first b (between_commas xs)))) [
      | true ↦ ended_field fields field b xs ∙ next_plain StartField goes_start (fields ++ (field ∷ [])) [] xs rest ∙ ap whole (same_field fields field xs)
      | false ↦ more_field fields field b xs ∙ next_plain InField goes_in fields (field ++ (b ∷ [])) xs rest ∙ ap (λ ys. whole (fields ++ ys)) (first_more field b (between_commas xs))
    ]

-- ---- a line

no_record : first_of (next_record default_config StartRecord [] [] []) ≡ [] ∷ []
unfolding next_record
no_record = refl

record_plain : (xs : List ℕ) → All IsPlain xs → first_of (next_record default_config StartRecord [] [] xs) ≡ between_commas xs
record_plain [] p = no_record
record_plain (b ∷ xs) p =
    let one = All-head IsPlain b xs p in
    ap first_of (by_step StartRecord [] [] b xs
    ∙ ap (λ st. after_step st [] [] b xs) (step_first b one ∙ sym (step_start b one))
    ∙ sym (by_step StartField [] [] b xs)
    ∙ next_plain StartField goes_start [] [] (b ∷ xs) p)
    ∙ nothing_before (b ∷ xs)

or_none : (t u : Bool) → (t || u) ≡ false → (t ≡ false) × (u ≡ false)
or_none true u e = absurd (let no : ⊥ = cc in no)
or_none false u e = (refl, e)

all_plain : (xs : List ℕ) → list_any (λ b. b == 34) xs ≡ false → list_any (λ b. b == 13) xs ≡ false → HasNoFeed xs → All IsPlain xs
all_plain [] q r f = All-nil IsPlain
all_plain (b ∷ xs) q r f =
    let quotes = or_none (b == 34) (list_any (λ c. c == 34) xs) q in
    let returns = or_none (b == 13) (list_any (λ c. c == 13) xs) r in
    All-cons IsPlain b xs
    (record { quote = quotes.0; return = returns.0; feed = ne_eqb b 10 (All-head (λ c. c ≢ 10) b xs f) })
    (all_plain xs quotes.1 returns.1 (All-tail (λ c. c ≢ 10) b xs f))

right_none : (t u : Bool) → (t && not u) ≡ true → u ≡ false
right_none true true e = absurd (let no : ⊥ = cc in no)
right_none true false e = refl
right_none false u e = absurd (let no : ⊥ = cc in no)

pub no_return : (line : List ℕ) → is_text line ≡ true → list_any (λ b. b == 13) line ≡ false
no_return line e = right_none (is_utf8 line) (list_any (λ b. b == 13) line) e

pub plain_fields : (line : List ℕ) → strip_bom line ≡ line → list_any (λ b. b == 34) line ≡ false → list_any (λ b. b == 13) line ≡ false → HasNoFeed line → fields_of line ≡ trimmed (between_commas line)
plain_fields line s q r f =
    ap (λ xs. trimmed (first_of (next_record default_config StartRecord [] [] xs))) s ∙ ap trimmed (record_plain line (all_plain line q r f))

pub not_marked : (xs : List ℕ) → slice_index xs 0 ≢ 0xEF → strip_bom xs ≡ xs
unfolding strip_bom
not_marked [] h = refl
not_marked (a ∷ []) h = refl
not_marked (a ∷ b ∷ []) h = refl
not_marked (a ∷ b ∷ c ∷ xs) h = ap (λ t. if t && (b == 0xBB) && (c == 0xBF) then xs else a ∷ b ∷ c ∷ xs) (ne_eqb a 0xEF h)

pub nothing_marked : (xs : List ℕ) → length xs ≡ 0 → strip_bom xs ≡ xs
unfolding strip_bom
nothing_marked [] h = refl
nothing_marked (a ∷ xs) h = absurd (omega (arith, h))

-- ---- the first comma

pub no_comma : (xs : List ℕ) → All (λ b. b ≢ 44) xs → between_commas xs ≡ xs ∷ []
no_comma [] h = refl
no_comma (b ∷ xs) h =
    ap (λ t. if t then [] ∷ between_commas xs else byte_first b (between_commas xs)) (ne_eqb b 44 (All-head (λ c. c ≢ 44) b xs h))
    ∙ ap (byte_first b) (no_comma xs (All-tail (λ c. c ≢ 44) b xs h))

pub at_comma : (xs : List ℕ) (at : ℕ) → at < length xs → slice_index xs at ≡ 44 → All (λ b. b ≢ 44) (take at xs) → between_commas xs ≡ take at xs ∷ between_commas (drop (suc at) xs)
at_comma [] at l e h = absurd (omega (arith, l))
at_comma (b ∷ xs) zero l e h = ap (λ t. if t then [] ∷ between_commas xs else byte_first b (between_commas xs)) (eq-eqb b 44 e)
at_comma (b ∷ xs) (suc at) l e h =
    ap (λ t. if t then [] ∷ between_commas xs else byte_first b (between_commas xs)) (ne_eqb b 44 (All-head (λ c. c ≢ 44) b (take at xs) h))
    ∙ ap (byte_first b) (at_comma xs at (omega (arith, l)) e (All-tail (λ c. c ≢ 44) b (take at xs) h))

-- ---- fields in turn

pub grown_by : (found more : List (Bor (List ℕ))) (field : Bor (List ℕ)) → more ≡ found ++ field ∷ [] → map (λ f. f.now) more ≡ map (λ f. f.now) found ++ field.now ∷ []
grown_by found more field e = ap (λ xs. map (λ f. f.now) xs) e ∙ map-append (λ f. f.now) found (field ∷ [])

-- fields that were found, and one more up to a comma
pub one_more : (found more all : List (List ℕ)) (field line : List ℕ) (at : ℕ) →
    at < length line → slice_index line at ≡ 44 → All (λ b. b ≢ 44) (take at line) →
    field ≡ without_blanks (take at line) → more ≡ found ++ field ∷ [] → found ++ trimmed (between_commas line) ≡ all →
    more ++ trimmed (between_commas (drop (at + 1) line)) ≡ all
one_more found more all field line at l e h is grown known =
    let others = between_commas (drop (at + 1) line) in
    ap (λ xs. xs ++ trimmed others) grown
    ∙ append_assoc found (field ∷ []) (trimmed others)
    ∙ ap (λ x. found ++ (x ∷ trimmed others)) is
    ∙ ap (λ n. found ++ trimmed (take at line ∷ between_commas (drop n line))) (add_one at)
    ∙ ap (λ xs. found ++ trimmed xs) (sym (at_comma line at l e h))
    ∙ known
  where
    add_one : (n : ℕ) → n + 1 ≡ suc n
    add_one n = omega arith

-- fields that were found, and the last one
pub last_more : (found more all : List (List ℕ)) (field line : List ℕ) →
    All (λ b. b ≢ 44) line → field ≡ without_blanks line → more ≡ found ++ field ∷ [] → found ++ trimmed (between_commas line) ≡ all → more ≡ all
last_more found more all field line h is grown known =
    grown ∙ ap (λ x. found ++ (x ∷ [])) is ∙ ap (λ xs. found ++ trimmed xs) (sym (no_comma line h)) ∙ known

-- fields of a record that were found, and the next one
pub next_found : (found more fields : List (List ℕ)) (field next : List ℕ) (at : ℕ) →
    at < length fields → field_at fields at ≡ Some next → field ≡ without_blanks next → more ≡ found ++ field ∷ [] →
    found ≡ trimmed (take at fields) → more ≡ trimmed (take (at + 1) fields)
next_found found more fields field next at l e is grown known =
    grown
    ∙ ap (λ xs. xs ++ field ∷ []) known
    ∙ ap (λ x. trimmed (take at fields) ++ x ∷ []) (is ∙ ap without_blanks (sym (field-get fields at next e)))
    ∙ sym (map-append without_blanks (take at fields) (get_or fields at [] ∷ []))
    ∙ ap trimmed (sym (take_more fields at [] l))
