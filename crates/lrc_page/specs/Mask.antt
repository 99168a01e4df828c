-- Masks: sets of offsets, as four numbers whose bits are the members, 64 offsets each.
use Rattle.std.specs.Prelude.{ℕ, Bool, List, [], ◌∷◌, IsTrue, ◌==◌, ◌/◌, ◌%◌, ◌^◌, bit_or, slice_index, slice_set}
use Rattle.std.specs.Int.{bit_at}

-- the offset is in the mask
abbrev pub has : List ℕ → ℕ → Bool
has mask offset = bit_at (slice_index mask (offset / 64)) (offset % 64) == 1

-- the masks share an offset
abbrev pub Meets : List ℕ → List ℕ → Type 0
Meets a b = (offset : ℕ) × (IsTrue (has a offset) × IsTrue (has b offset))

-- the mask without offsets
abbrev pub no_offsets : List ℕ
no_offsets = 0 ∷ 0 ∷ 0 ∷ 0 ∷ []

-- the mask with the bit of an offset set
abbrev pub with_offset : List ℕ → ℕ → List ℕ
with_offset mask offset = slice_set mask (offset / 64) (bit_or (slice_index mask (offset / 64)) (2 ^ (offset % 64)))
