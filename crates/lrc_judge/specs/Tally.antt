-- What the writes to a word so far say of a read.
use Rattle.std.specs.Prelude.{◌≡◌, ℕ, ◌<◌, ◌≤◌, ◌⊎◌, ◌↔◌, Bool, true, List, Option, Some, None}
use Rattle.lrc_trace.specs.declared.act.Act.{Act}
use Rattle.lrc_trace.specs.Order.{HappensBefore}
use Rattle.lrc_trace.specs.Reading.{WrittenBefore}
use Rattle.lrc_judge.specs.declared.reading.StoredValue.{StoredValue}

-- the last write before position n, if there is one
abbrev pub IsLast : List Act → ℕ → ℕ → ℕ → Option StoredValue → Type 0
IsLast run j word n None = (k v : ℕ) → k < n → WrittenBefore run j word k v → ⊥
IsLast run j word n (Some w) = (w.position < n) × WrittenBefore run j word w.position w.value
    × ((k v : ℕ) → k < n → WrittenBefore run j word k v → k ≤ w.position)

-- of the writes before position n that happen before j: whether one writes the value, whether any two are ordered, and
-- the last
pub record IsTally (run : List Act) (j word value n : ℕ) (is_written are_ordered : Bool) (last : Option StoredValue) : Type 0 where
  pub written : (is_written ≡ true) ↔ ((value ≡ 0) ⊎ ((i : ℕ) × (i < n) × WrittenBefore run j word i value))
  pub ordered : (are_ordered ≡ true) ↔ ((i k u v : ℕ) → k < n → WrittenBefore run j word i u → WrittenBefore run j word k v → i < k → HappensBefore run i k)
  pub latest : IsLast run j word n last
