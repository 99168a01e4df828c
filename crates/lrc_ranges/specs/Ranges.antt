-- What lies in a range.
use Rattle.std.specs.Prelude.{◌≡◌, ◌≤◌, ◌<◌, ◌-◌, ◌^◌, ℕ, Bool, true, false, List, Some, slice_get, slice_index}
use Rattle.lrc_ranges.specs.declared.range.Range.{Range}

-- the value lies in the range; a greatest value of 2^64 - 1 is no bound
pub record IsIn (range : Range) (value : ℕ) : Type 0 where
  pub least : range.least ≤ value
  pub greatest : range.greatest < 2 ^ 64 - 1 → value ≤ range.greatest

-- each value lies in the range of its name
abbrev pub AreIn : List Range → List ℕ → Type 0
AreIn ranges values = (name : ℕ) (range : Range) → slice_get ranges name ≡ Some range → IsIn range (slice_index values name)

-- all that lies in the one lies in the other
abbrev pub IsWithin : Range → Range → Type 0
IsWithin inner outer = (value : ℕ) → IsIn inner value → IsIn outer value

-- a condition of this value holds, or it fails
abbrev pub IsMet : Bool → ℕ → Type 0
IsMet true value = 0 < value
IsMet false value = value ≡ 0
