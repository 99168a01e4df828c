-- Of which acts of a part of a run it is told why they are as they are.
use Rattle.std.specs.Prelude.{ℕ, ◌⊎◌, List}
use Rattle.lrc_trace.specs.declared.act.Act.{Act}
use Rattle.lrc_trace.specs.declared.act.Deed.TheVariants.{Read, Write}
use Rattle.lrc_trace.specs.Run.{IsDone}
use Rattle.lrc_why.specs.Positions.{IsRacing}
use Rattle.lrc_step.specs.declared.shown.Part.{Part}
use Rattle.lrc_step.specs.Shown.{IsShown}

-- at the position some node reads, or writes
abbrev pub IsReadAt : List Act → ℕ → Type 0
IsReadAt run position = (word : ℕ) × (value : ℕ) × IsDone run position (Read word value)

abbrev pub IsWriteAt : List Act → ℕ → Type 0
IsWriteAt run position = (word : ℕ) × (value : ℕ) × IsDone run position (Write word value)

-- the act at the position races with another, earlier or later
abbrev pub IsRacer : List Act → ℕ → Type 0
IsRacer run position = (node : ℕ) × (other : ℕ) × IsRacing run node position other

-- the act is shown, and reads, or writes and races with another, be that shown or not
abbrev pub IsTold : List Act → Part → ℕ → Type 0
IsTold run part position = IsShown part position × (IsReadAt run position ⊎ (IsWriteAt run position × IsRacer run position))
