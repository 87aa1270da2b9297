-- The log that a seed stands for: eight sessions of one model, in each of which a value rises and falls in waves.
use Rattle.std.specs.Prelude.{ℕ, zero, suc, ◌+◌, ◌*◌, ◌-◌, ◌%◌, List, [], ◌++◌, nat_le, if◌then◌else◌, codes, decimal}

-- the pieces for 0, for 1 and so on, for each number below n, one behind the other
unfoldable pub each_below : ℕ → (ℕ → List ℕ) → List ℕ
each_below zero piece = []
each_below (suc n) piece = each_below n piece ++ piece n

-- ---- the waves

abbrev pub session_count : ℕ
session_count = 8

-- the samples of each session
abbrev pub sample_count : ℕ → ℕ
sample_count seed = 500 + seed % 501

-- how high the waves of session j rise: from 1 to 8
abbrev pub amplitude : ℕ → ℕ → ℕ
amplitude seed j = (seed + j * j) % 8 + 1

-- a rise from 0 to the amplitude, by one at a time, and then the fall, at this place of the wave
abbrev pub height : ℕ → ℕ → ℕ
height a p = if nat_le p a then p else 2 * a - p

-- the value of session j at time i: a wave is twice as long as it is high
abbrev pub value_at : ℕ → ℕ → ℕ → ℕ
value_at seed j i = height (amplitude seed j) (i % (2 * amplitude seed j))

-- ---- the log

-- `open,s3,T,x`, with a line feed
abbrev pub opening_row : ℕ → List ℕ
opening_row j = codes "open,s" ++ decimal j ++ codes ",T,x\n"

-- `at,s3,12,2`, with a line feed: session, time and value
abbrev pub sample_row : ℕ → ℕ → ℕ → List ℕ
sample_row seed i j = codes "at,s" ++ decimal j ++ codes "," ++ decimal i ++ codes "," ++ decimal (value_at seed j i) ++ codes "\n"

-- a sample of each session, at time i
abbrev pub rows_at : ℕ → ℕ → List ℕ
rows_at seed i = each_below session_count (sample_row seed i)

-- all sessions are opened, and then sampled at one time after the other
abbrev pub wave_log : ℕ → List ℕ
wave_log seed = each_below session_count opening_row ++ each_below (sample_count seed) (rows_at seed)

-- ---- the model

-- a level that rises by at most 2 and falls by at most 1 in a unit of time, and may be unsafe from 8 on
abbrev pub wave_model : List ℕ
wave_model =
    codes "lha 1\n"
    ++ codes "automaton T\n"
    ++ codes "var x\n"
    ++ codes "loc ok\n"
    ++ codes "init x = 0\n"
    ++ codes "inv x <= 10\n"
    ++ codes "flow x in [-1, 2]\n"
    ++ codes "loc high unsafe\n"
    ++ codes "inv x >= 8\n"
    ++ codes "flow x in [-1, 1]\n"
    ++ codes "trans ok -> high as up when x >= 8\n"
    ++ codes "trans high -> ok as down when x <= 9\n"
    ++ codes "end\n"
