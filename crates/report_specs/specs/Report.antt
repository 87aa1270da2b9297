-- The report of a log: a block for each line, in order.
use Rattle.std.specs.Prelude.{◌≡◌, ◌⊎◌, ℕ, suc, List, [], ◌∷◌, ◌++◌}
use Rattle.run_specs.specs.declared.Verdict.{Verdict}
use Rattle.report_specs.specs.Lines.{lines_of, whole_lines}

-- how lines are judged: what is known before the first line, and which blocks a line may have.
-- IsLine known number line block replies after: the line of this number, where so much is known, may have this block, in which
-- these replies stand, and after it so much is known
pub record Rules (K : Type 0) : Type 1 where
  pub start : K
  pub IsLine : K → ℕ → List ℕ → List ℕ → List Verdict → K → Type 0

-- the blocks of the lines from this number on, one after the other, the replies in them, and what is known after them
abbrev pub AreBlocks : {K : Type 0} → Rules K → K → ℕ → List (List ℕ) → List ℕ → List Verdict → K → Type 0
AreBlocks rules known number [] bytes replies after = (bytes ≡ []) × (replies ≡ []) × (after ≡ known)
AreBlocks {K} rules known number (line ∷ lines) bytes replies after =
    (block : List ℕ) × (rest : List ℕ) × (here : List Verdict) × (later : List Verdict) × (next : K)
    × (bytes ≡ block ++ rest) × (replies ≡ here ++ later)
    × rules.IsLine known number line block here next
    × AreBlocks rules next (suc number) lines rest later after

-- the bytes are a report of these lines, with these replies
abbrev pub IsReportOf : {K : Type 0} → Rules K → List (List ℕ) → List ℕ → List Verdict → Type 0
IsReportOf {K} rules lines bytes replies = (after : K) × AreBlocks rules rules.start 1 lines bytes replies after

-- the bytes are a report of the input
abbrev pub IsReport : {K : Type 0} → Rules K → List ℕ → List ℕ → List Verdict → Type 0
IsReport rules input bytes replies = IsReportOf rules (lines_of input) bytes replies

-- these are the first lines of what was read: whole ones, or all lines where the input ended there
abbrev pub AreFirstLines : Type 0 → List ℕ → List (List ℕ) → Type 0
AreFirstLines Ended read lines =
    ((others : List (List ℕ)) × (whole_lines read ≡ lines ++ others)) ⊎ (Ended × (lines ≡ lines_of read))
