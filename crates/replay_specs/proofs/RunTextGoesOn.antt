-- Every place has lines that lead from it to the end of a run's text.
use Rattle.std.proofs.Common.{◌≡◌, ℕ, zero, suc, List, [], ◌∷◌, ◌++◌, refl, arith, pos, All}
use Rattle.std.proofs.lemmas.Int.{ints}
use Rattle.poly_specs.specs.Bits.{FitsBits}
use Rattle.replay_specs.proofs.RunTextLines.{lead_on, at_leads, run_leads, first_gap_leads, next_gap_leads, leg_leads}
use Rattle.replay_specs.specs.RunTexts.{run_line, gap_line, at_line, leg_lines, AreWritableValues, IsWritableLeg}
use Rattle.replay_specs.specs.RunTextFaults.{Place, RunLine, GapLine, StartLine, StayLine, EndLine, NextLine, AfterLine, step, Leads, LeadFrom}
use Rattle.run_specs.specs.Runs.{Leg}

-- one value, 0
zeros : AreWritableValues (pos 0 ∷ [])
zeros = record { some = omega arith; few = omega arith; fit = one }
  where
    one : All FitsBits (pos 0 ∷ [])
    one zero d lt = omega arith
    one (suc k) d lt = absurd (omega (arith, lt))

still : Leg
still = record { length_of = pos 0; at_end = pos 0 ∷ [] }

still_is : IsWritableLeg still
unfolding still
still_is = record { time = omega arith; at_end = zeros }

-- lines that lead to the end
abbrev pub GoesOn : Place → Type 0
GoesOn place = (lines : List (List ℕ)) × LeadFrom place lines (NextLine 0)

after_one : (p q : Place) (line : List ℕ) → step p line ≡ Leads q → GoesOn q → GoesOn p
after_one p q line h k = (line ∷ k.0, (q, h, k.1))

from_next : (n : ℕ) → GoesOn (NextLine n)
from_next zero = ([], refl)
from_next (suc n) =
    after_one (NextLine (suc n)) (StartLine n) (gap_line (pos 1) 0) (next_gap_leads n (pos 1) 0 (omega (arith, ints)) (omega arith) (omega arith))
    (after_one (StartLine n) (StayLine n) (at_line (pos 0 ∷ [])) (at_leads (StayLine n) (pos 0 ∷ []) zeros)
    (let k = from_next n in (leg_lines still ++ k.0, lead_on (StayLine n) (NextLine n) (NextLine 0) (leg_lines still) k.0 (leg_leads n still still_is) k.1)))

from_stay : (n : ℕ) → GoesOn (StayLine n)
from_stay n = let k = from_next n in (leg_lines still ++ k.0, lead_on (StayLine n) (NextLine n) (NextLine 0) (leg_lines still) k.0 (leg_leads n still still_is) k.1)

from_start : (n : ℕ) → GoesOn (StartLine n)
from_start n = after_one (StartLine n) (StayLine n) (at_line (pos 0 ∷ [])) (at_leads (StayLine n) (pos 0 ∷ []) zeros) (from_stay n)

from_gap : (n : ℕ) → GoesOn (GapLine n)
from_gap n = after_one (GapLine n) (StartLine n) (gap_line (pos 1) 0) (first_gap_leads n (pos 1) 0 (omega (arith, ints)) (omega arith) (omega arith)) (from_start n)

pub goes_on : (place : Place) → GoesOn place
goes_on RunLine = after_one RunLine (GapLine 0) (run_line 1) (run_leads 0 (omega arith)) (from_gap 0)
goes_on (GapLine n) = from_gap n
goes_on (StartLine n) = from_start n
goes_on (StayLine n) = from_stay n
goes_on (EndLine n) = after_one (EndLine n) (NextLine n) (at_line (pos 0 ∷ [])) (at_leads (NextLine n) (pos 0 ∷ []) zeros) (from_next n)
goes_on (NextLine n) = from_next n
goes_on (AfterLine n) = after_one (AfterLine n) (StayLine n) (at_line (pos 0 ∷ [])) (at_leads (StayLine n) (pos 0 ∷ []) zeros) (from_stay n)
