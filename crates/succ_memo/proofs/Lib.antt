mod CacheEntries
mod ShownPairs
mod StoredMemo
