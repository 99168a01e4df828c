-- What is true of the links in an arena.
use Rattle.std.specs.Prelude.{◌≡◌, ℕ, ◌<◌, ◌≤◌, ◌==◌, Option, List, length, map, take, slice_index_or, All}
use Rattle.lrc_store.specs.declared.chains.Entry.{Entry}
use Rattle.lrc_store.specs.declared.chains.TheConstants.{MOST_ENTRIES}
use Rattle.lrc_store.specs.Chains.{last_at}

abbrev pub keys_of_entries : List Entry → List ℕ
keys_of_entries entries = map (λ entry. entry.key) entries

-- the newest entry of each key is where it is looked for, and each entry is linked to the one before it with its key
pub record IsLinked (newest : List (Option ℕ)) (entries : List Entry) : Type 0 where
  pub few : length entries ≤ MOST_ENTRIES
  pub in_range : All (λ entry. entry.key < length newest) entries
  pub heads : (key : ℕ) (d : Option ℕ) → key < length newest
      → slice_index_or newest key d ≡ last_at (λ other. other == key) (keys_of_entries entries)
  pub links : (at : ℕ) (d : Entry) → at < length entries
      → (slice_index_or entries at d).next
      ≡ last_at (λ other. other == (slice_index_or entries at d).key) (take at (keys_of_entries entries))
