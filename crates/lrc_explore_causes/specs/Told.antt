-- What is told of a run with a race.
use Rattle.std.specs.Prelude.{◌≡◌, ℕ, ◌+◌, ◌≤◌, List, [], ◌∷◌, ◌++◌, Some, length}
use Rattle.lrc_program.specs.declared.Program.{Program}
use Rattle.lrc_trace.specs.declared.act.Act.{Act}
use Rattle.lrc_trace.specs.declared.act.Deed.{Deed}
use Rattle.lrc_trace.specs.Run.{Does, act_of}
use Rattle.lrc_trace.specs.Conflict.{Races}
use Rattle.lrc_exec.specs.Plain.{plain}
use Rattle.lrc_exec.specs.Follows.{nodes_of_acts}
use Rattle.lrc_explore_causes.specs.Causes.{AreCauses}

-- two positions race, no race of the run ends earlier, and of those that end there none begins earlier
pub record IsEarliestRace (run : List Act) (first second : ℕ) : Type 0 where
  pub races : Races run first second
  pub earliest : (i j : ℕ) → Races run i j → second ≤ j
  pub least : (i : ℕ) → Races run i second → first ≤ i

-- a run ends with what the nodes of two positions do behind these acts
pub record EndsWithBoth (run : List Act) (first second : ℕ) (before told : List Act) : Type 0 where
  pub one : ℕ
  pub other : ℕ
  pub one_did : Deed
  pub other_did : Deed
  pub one_stood : Does run first one one_did
  pub other_stood : Does run second other other_did
  pub one_does : Deed
  pub other_does : Deed
  pub is : told ≡ before ++ act_of one one_does ∷ act_of other other_does ∷ []

-- What is told of a run is what its earliest race comes of: the acts that happen before one of the two accesses, in their order, and then
-- these two. The plain machine makes it, and its first race is that of its last two acts
pub record TellsRace (program : Program) (nodes : ℕ) (run told : List Act) : Type 0 where
  pub first : ℕ
  pub second : ℕ
  pub race : IsEarliestRace run first second
  pub before : List Act
  pub causes : AreCauses run first second before
  pub ends : EndsWithBoth run first second before told
  pub is : plain program nodes (nodes_of_acts told) ≡ Some told
  pub races : Races told (length before) (length before + 1)
  pub earliest : (i j : ℕ) → Races told i j → length before + 1 ≤ j
