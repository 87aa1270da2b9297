-- What a contract sees of a memo, and what each call leaves of it.
use Rattle.std.specs.Prelude.{ℕ, ◌+◌, ◌-◌, ◌^◌, ◌≤◌, Bool, List, ◌∷◌, min, length, take, Option, Some, None, All}
use Rattle.std.specs.List.{IsDistinct}
use Rattle.std.specs.Option.{option_map_or}
use Rattle.std.specs.Map.{keys_of, lookup_entry}
use Rattle.lru.specs.LruCache.{promoted}
use Rattle.succ_memo.specs.declared.memo.Totals.{Totals}

-- the pairs of key and value, the most recently used first, the most of them that there may be, and the counts
pub record Memo (K V : Type 0) : Type 0 where
  pub entries : List (K × V)
  pub most : Option ℕ
  pub totals : Totals

-- one more, but no more than the type's last value
abbrev pub next_count : ℕ → ℕ
next_count n = min (n + 1) (2 ^ 64 - 1)

abbrev pub no_totals : Totals
no_totals = record { looks = 0; hits = 0; puts = 0; given_up = 0 }

-- the counts after a look that found an entry, or none
abbrev pub totals_after_look : {X : Type 0} → Option X → Totals → Totals
totals_after_look None t = record t { looks = next_count t.looks }
totals_after_look (Some x) t = record t { looks = next_count t.looks; hits = next_count t.hits }

module _ {K V : Type 0} where
  abbrev pub memo_of : List (K × V) → Option ℕ → Totals → Memo K V
  memo_of es most t = record { entries = es; most = most; totals = t }

  -- the entries that stay where one more is put in front: of a full memo all but the last
  abbrev pub entries_kept : Option ℕ → List (K × V) → List (K × V)
  entries_kept None es = es
  entries_kept (Some n) es = take (n - 1) es

  -- where an equal key has an entry all stay where they are, and else the new entry goes first
  abbrev pub entries_after_put : (K → K → Bool) → Option ℕ → List (K × V) → K × V → List (K × V)
  entries_after_put eq most es e = option_map_or (λ _. es) (lookup_entry (eq e.0) es) (e ∷ entries_kept most es)

  -- after a look for the keys that pass the test, with what it found: that entry goes first
  abbrev pub memo_after_look : (K → Bool) → Option (K × V) → Memo K V → Memo K V
  memo_after_look test found m = memo_of (promoted test m.entries) m.most (totals_after_look found m.totals)

  abbrev pub memo_after_put : (K → K → Bool) → K × V → Memo K V → Memo K V
  memo_after_put eq e m =
      memo_of (entries_after_put eq m.most m.entries e) m.most (record m.totals { puts = next_count m.totals.puts })

  abbrev pub memo_after_give_up : Memo K V → Memo K V
  memo_after_give_up m = memo_of m.entries m.most (record m.totals { given_up = next_count m.totals.given_up })

  -- no more entries than the bound
  abbrev pub IsWithin : Option ℕ → List (K × V) → Type 0
  IsWithin None es = Unit {0}
  IsWithin (Some n) es = length es ≤ n

  -- what each memo keeps: the keys are distinct, the relation holds for each entry, and the bound is kept
  pub record IsMemo (eq : K → K → Bool) (holds : K → V → Type 0) (m : Memo K V) : Type 0 where
    pub distinct : IsDistinct eq (keys_of m.entries)
    pub exact : All (λ e. holds e.0 e.1) m.entries
    pub within : IsWithin m.most m.entries
