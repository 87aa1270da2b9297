-- A reader of lines, between two calls.
use Rattle.std.specs.Prelude.{◌≡◌, ◌≢◌, ◌⊎◌, ℕ, ◌+◌, ◌<◌, ◌≤◌, List, [], ◌∷◌, ◌++◌, length, take, slice_index, Bool, true, false, Option, Some, None, ⊤}
use Rattle.std.specs.Io.KnownBytes.{Consumes, IsAtEnd}
use Rattle.report_specs.specs.Lines.{HasNoFeed, HaveNoFeed, without_return, unmarked, ended, shown_lines, lines_of}
use Rattle.log_reader.specs.declared.line.Line.{Line}
use Rattle.log_reader.specs.declared.line.Line.TheVariants.{Text, Long, End}
use Rattle.log_reader.specs.declared.reader.ReadFault.{ReadFault}
use Rattle.log_reader.specs.declared.reader.ReadFault.TheVariants.{Failed, Limit, Memory}

-- the bytes got and not given yet, how many lines were given, how many bytes were got and may be, and whether the source gave its end
pub record Reading : Type 0 where
  pub held : List ℕ
  pub given : ℕ
  pub taken : ℕ
  pub most : ℕ
  pub has_ended : Bool

-- what a reader is seen as: a reading of the bytes that it stores, and how many bytes of the line before them it dropped
pub record Stored : Type 0 where
  pub reading : Reading
  pub dropped : ℕ

-- the same reading with these bytes before those held
abbrev pub behind : List ℕ → Reading → Reading
behind front r = record { held = front ++ r.held; given = r.given; taken = r.taken; most = r.most; has_ended = r.has_ended }

-- the reading without the bytes held
abbrev pub emptied : Reading → Reading
emptied r = record { held = []; given = r.given; taken = r.taken; most = r.most; has_ended = r.has_ended }

-- a line of so many bytes is a long one, whatever is dropped at its ends: a mark of three bytes and a carriage return
abbrev pub surely_long : ℕ
surely_long = 4101

-- the reading that a reader stands for, with the bytes that it dropped: they hold no line feed, and belong to a line that is a long one
-- whatever bytes they were
pub record IsOf (s : Stored) (r : Reading) : Type 0 where
  pub front : List ℕ
  pub same : r ≡ behind front s.reading
  pub size : length front ≡ s.dropped
  pub no_feed : HasNoFeed front
  pub long : (s.dropped ≡ 0) ⊎ (surely_long ≤ s.dropped)

-- whatever reading the reader stood for, a call led from it to a reading that the reader then stands for
abbrev pub Moves : (Reading → Reading → Type 0) → Stored → Stored → Type 0
Moves Leads old new = (r : Reading) → IsOf old r → (s : Reading) × IsOf new s × Leads r s

-- these bytes were got from the source, whose bytes left are those before and after
pub record Gets (before after : Option (List ℕ)) (old new : Reading) (got : List ℕ) : Type 0 where
  pub consumed : Consumes before after got
  pub counted : new.taken ≡ old.taken + length got
  pub most : new.most ≡ old.most
  pub end : old.has_ended ≡ false → new.has_ended ≡ true → IsAtEnd after
  -- no more was got after the last byte that may be
  pub below : old.has_ended ≡ false → new.has_ended ≡ true → new.taken < new.most
  pub ended : old.has_ended ≡ true → (new.has_ended ≡ true) × (got ≡ [])

-- the bytes begin with a line, and the others follow its line feed
pub record HasLine (given : ℕ) (bytes line others : List ℕ) : Type 0 where
  pub raw : List ℕ
  pub no_feed : HasNoFeed raw
  pub whole : bytes ≡ raw ++ 10 ∷ others
  pub shown : line ≡ without_return (unmarked given raw)

-- the bytes are a last line without a line feed
pub record HasLastLine (given : ℕ) (bytes line : List ℕ) : Type 0 where
  pub no_feed : HasNoFeed bytes
  pub some : line ≢ []
  pub shown : line ≡ unmarked given bytes

-- the next line of the bytes
abbrev pub HasNext : List ℕ → Reading → Reading → List ℕ → Type 0
HasNext bytes old new line =
    HasLine old.given bytes line new.held
    ⊎ ((new.has_ended ≡ true) × (new.held ≡ []) × HasLastLine old.given bytes line)

-- what a call gave, of the bytes held before and got in it
abbrev pub Gives : List ℕ → Reading → Reading → Line → Type 0
Gives bytes old new (Text number line) =
    (number ≡ old.given + 1) × (new.given ≡ number) × (length line.items ≤ 4096) × HasNext bytes old new line.items
Gives bytes old new (Long number) =
    (number ≡ old.given + 1) × (new.given ≡ number) × ((line : List ℕ) × (4096 < length line) × HasNext bytes old new line)
Gives bytes old new End =
    (new.given ≡ old.given) × (new.has_ended ≡ true) × HasNoFeed bytes × (unmarked old.given bytes ≡ []) × (new.held ≡ bytes)

-- the bytes of a line hold no line feed
abbrev pub HoldsNoFeed : Line → Type 0
HoldsNoFeed (Text number line) = HasNoFeed line.items
HoldsNoFeed (Long number) = ⊤
HoldsNoFeed End = ⊤

-- why a call gave no line; the bytes stay
abbrev pub Fails : List ℕ → Reading → Reading → ReadFault → Type 0
Fails bytes old new Failed = (new.held ≡ bytes) × (new.given ≡ old.given) × HasNoFeed bytes × (new.has_ended ≡ false) × (new.taken < new.most)
Fails bytes old new Limit = (new.held ≡ bytes) × (new.given ≡ old.given) × HasNoFeed bytes × (new.has_ended ≡ false) × (new.taken ≡ new.most)
Fails bytes old new Memory = (new.held ≡ bytes) × (new.given ≡ old.given)

-- a line of this number, by its bytes
abbrev pub Shows : Line → ℕ → List ℕ → Type 0
Shows (Text n line) number bytes = (n ≡ number) × (line.items ≡ bytes) × (length bytes ≤ 4096)
Shows (Long n) number bytes = (n ≡ number) × (4096 < length bytes)
Shows End number bytes = ⊥

-- the same source, as far as the reader knows it
pub record KeepsSource (old new : Reading) : Type 0 where
  pub taken : new.taken ≡ old.taken
  pub most : new.most ≡ old.most
  pub has_ended : new.has_ended ≡ old.has_ended

-- what a call gave, of the bytes held
pub record GivesFrom (old new : Reading) (line : Line) : Type 0 where
  pub gives : Gives old.held old new line
  pub keeps : KeepsSource old new

-- what a call gave, of the bytes held before and got in it
abbrev pub GivesNext : Option (List ℕ) → Option (List ℕ) → Line → Reading → Reading → Type 0
GivesNext before after line old new = (got : List ℕ) × Gets before after old new got × Gives (old.held ++ got) old new line

-- why a call gave none
abbrev pub FailsNext : Option (List ℕ) → Option (List ℕ) → ReadFault → Reading → Reading → Type 0
FailsNext before after fault old new = (got : List ℕ) × Gets before after old new got × Fails (old.held ++ got) old new fault

-- what a call of the source adds
pub record Fills (before after : Option (List ℕ)) (old new : Reading) : Type 0 where
  pub got : List ℕ
  pub gets : Gets before after old new got
  pub held : new.held ≡ old.held ++ got
  pub given : new.given ≡ old.given

-- where the first line feed stands in the bytes held; none: the source gave its end, and there is none
abbrev pub Finds : Reading → Option ℕ → Type 0
Finds r (Some at) = (at < length r.held) × (slice_index r.held at ≡ 10) × HasNoFeed (take at r.held)
Finds r None = (r.has_ended ≡ true) × HasNoFeed r.held

-- why there is neither a line feed nor an end
abbrev pub Lacks : Reading → ReadFault → Type 0
Lacks r Failed = HasNoFeed r.held × (r.has_ended ≡ false) × (r.taken < r.most)
Lacks r Limit = HasNoFeed r.held × (r.has_ended ≡ false) × (r.taken ≡ r.most)
Lacks r Memory = HasNoFeed r.held × (r.has_ended ≡ false)

-- ---- what was given of an input

-- of the bytes that were read these lines were given, and the others are held
pub record IsInside (read : List ℕ) (r : Reading) (raws : List (List ℕ)) : Type 0 where
  pub split : read ≡ ended raws ++ r.held
  pub no_feeds : HaveNoFeed raws
  pub given : r.given ≡ length raws

-- these lines were given: whole ones, or all that there are
abbrev pub HasGiven : List ℕ → Reading → List (List ℕ) → Type 0
HasGiven read r lines =
    ((raws : List (List ℕ)) × IsInside read r raws × (lines ≡ shown_lines raws))
    ⊎ ((r.has_ended ≡ true) × (r.held ≡ []) × (lines ≡ lines_of read))
