-- The cache that a memo stores its entries in: the pairs that it shows, and what it keeps.
use Rattle.std.specs.Prelude.{◌≡◌, ℕ, ◌-◌, ◌^◌, ◌<◌, Bool, List, [], length, map, Option, Some, None, All}
use Rattle.std.specs.Option.{option_map, unwrap_or}
use Rattle.std.specs.declared.num.NonZeroUsize.{NonZeroUsize}
use Rattle.std.specs.NonZero.{non_zero_usize_get}
use Rattle.std.specs.declared.sync.Arc.{Arc}
use Rattle.std.specs.Arc.{arc_value}
use Rattle.lru.specs.LruCache.{LruCache, IsValid}

-- a bound as a number
abbrev pub bound_of : Option NonZeroUsize → Option ℕ
bound_of most = option_map non_zero_usize_get most

-- a key with its shared entry, and a cache of such
abbrev pub Cached : Type 0 → Type 0 → Type 0 → Type 0
Cached K V A = K × Arc (K × V) A

abbrev pub Cache : Type 0 → Type 0 → Type 0 → Type 0
Cache K V A = LruCache K (Arc (K × V) A)

module _ {K V A : Type 0} where
  abbrev held : Arc (K × V) A → K × V
  held entry = arc_value entry

  -- each key with the value that is held beside it
  abbrev pub shown_pairs : List (Cached K V A) → List (K × V)
  shown_pairs es = map (λ e. (e.0, (held e.1).1)) es

  -- with no cache yet, none
  abbrev pub cache_pairs : Option (Cache K V A) → List (K × V)
  cache_pairs None = []
  cache_pairs (Some c) = shown_pairs c.entries

  module _ (eq : K → K → Bool) (holds : K → V → Type 0) (most : Option NonZeroUsize) where
    -- each cached key is the key of what is held beside it, for which the relation holds,
    -- and the cache has room for as many as the bound says
    pub record IsStored (c : Cache K V A) : Type 0 where
      pub keys : All (λ e. e.0 ≡ (held e.1).0) c.entries
      pub exact : All (λ e. holds e.0 (held e.1).1) c.entries
      pub room : c.cap ≡ unwrap_or (bound_of most) (2 ^ 64 - 1)
      pub valid : IsValid eq c
      pub fits : length c.entries < 2 ^ 63

    abbrev pub IsStoredIn : Option (Cache K V A) → Type 0
    IsStoredIn None = Unit {0}
    IsStoredIn (Some c) = IsStored c
