-- The acts that two acts come of.
use Rattle.std.specs.Prelude.{◌≡◌, ℕ, zero, suc, ◌⊎◌, List, [], ◌∷◌, ◌++◌, Some, length, slice_get}
use Rattle.lrc_trace.specs.declared.act.Act.{Act}
use Rattle.lrc_trace.specs.Order.{HappensBefore}

-- a position happens before one of two others
abbrev pub IsCause : List Act → (first second : ℕ) → ℕ → Type 0
IsCause run first second k = HappensBefore run k first ⊎ HappensBefore run k second

-- Of the acts before a position those stay, in their order, at whose positions something is so:
pub data Keeps (run : List Act) (IsSo : ℕ → Type 0) : (position : ℕ) → List Act → Type 0 where
  beginning : Keeps run IsSo zero []
  -- an act where it is so stays,
  kept : {position : ℕ} {told : List Act} {act : Act} → Keeps run IsSo position told → slice_get run position ≡ Some act → IsSo position
      → Keeps run IsSo (suc position) (told ++ act ∷ [])
  -- and one where it is not so goes
  left : {position : ℕ} {told : List Act} → Keeps run IsSo position told → ¬ IsSo position → Keeps run IsSo (suc position) told

-- of the acts of a run those that happen before one of two positions, in their order
abbrev pub AreCauses : List Act → (first second : ℕ) → List Act → Type 0
AreCauses run first second told = Keeps run (IsCause run first second) (length run) told
