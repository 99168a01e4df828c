-- Lazy runs of a program, and their outcomes.
use Rattle.std.specs.Prelude.{◌≡◌, ℕ, ◌<◌, ◌≤◌, ◌⊎◌, ◌++◌, ◌∷◌, [], List, Some, length}
use Rattle.lrc_program.specs.declared.Program.{Program}
use Rattle.lrc_trace.specs.declared.act.Act.{Act}
use Rattle.lrc_trace.specs.declared.act.Cause.{Cause}
use Rattle.lrc_trace.specs.declared.act.Deed.TheVariants.{Acquire, Depart, Trap, End}
use Rattle.lrc_trace.specs.Run.{Does, act_of, arrives_before, departs_before}
use Rattle.lrc_trace.specs.Conflict.{Races, IsRaceFree}
use Rattle.lrc_trace.specs.Reading.{ReadsLazily}
use Rattle.lrc_trace.specs.Synchronization.{Holds, IsWellSynchronized, MayGoOn}
use Rattle.lrc_exec.specs.Plain.{plain}
use Rattle.lrc_exec.specs.Follows.{FollowsText}
use Rattle.lrc_orders.specs.Notes.{notes_of}

-- Each node's acts are those of the text, each act is made where locks and barriers let it, and each read is lazy: where the writes of
-- its word that happen before it are ordered, it gives the last one's value, or 0 where there are none; else 0 or any one's.
pub record IsLazyRun (program : Program) (nodes : ℕ) (acts : List Act) : Type 0 where
  pub follows : FollowsText program nodes acts
  pub synchronized : IsWellSynchronized nodes acts
  pub lazily : ReadsLazily acts

-- The act may come next: it is the text's, and locks and barriers let its node make it. A read may come with any value.
pub record MayComeNext (program : Program) (nodes : ℕ) (acts : List Act) (act : Act) : Type 0 where
  pub follows : FollowsText program nodes (acts ++ act ∷ [])
  pub may : MayGoOn nodes acts act

-- no node can act
abbrev pub IsOver : Program → ℕ → List Act → Type 0
IsOver program nodes acts = (act : Act) → ¬ MayComeNext program nodes acts act

-- the node has ended or trapped
pub data HasStopped (acts : List Act) (node : ℕ) : Type 0 where
  ended : {i : ℕ} → Does acts i node End → HasStopped acts node
  trapped : {i : ℕ} {cause : Cause} → Does acts i node (Trap cause) → HasStopped acts node

-- The node waits: by the text it comes next to
pub data Waits (program : Program) (nodes : ℕ) (acts : List Act) (node : ℕ) : Type 0 where
  -- an acquire of a lock that some node holds,
  for_lock : {lock other : ℕ} → FollowsText program nodes (acts ++ act_of node (Acquire lock) ∷ [])
      → Holds acts (length acts) other lock → Waits program nodes acts node
  -- or a depart from a barrier that some node has not come to.
  at_barrier : {other : ℕ} → FollowsText program nodes (acts ++ act_of node Depart ∷ []) → other < nodes
      → arrives_before acts other (length acts) ≤ departs_before acts node (length acts) → Waits program nodes acts node

-- each node has ended, has trapped or waits
abbrev pub AllHaveStoppedOrWait : Program → ℕ → List Act → Type 0
AllHaveStoppedOrWait program nodes acts = (node : ℕ) → node < nodes → HasStopped acts node ⊎ Waits program nodes acts node

-- some lazy run, after which no node can act, has these notes
pub record IsLazyOutcome (program : Program) (nodes : ℕ) (notes : List Act) : Type 0 where
  pub acts : List Act
  pub run : IsLazyRun program nodes acts
  pub over : IsOver program nodes acts
  pub are : notes_of nodes acts ≡ notes

-- no lazy run has a race
abbrev pub HasNoLazyRace : Program → ℕ → Type 0
HasNoLazyRace program nodes = (acts : List Act) → IsLazyRun program nodes acts → IsRaceFree acts

-- some order gives the plain machine a run with a race
pub record RacesInSomeOrder (program : Program) (nodes : ℕ) : Type 0 where
  pub order : List ℕ
  pub acts : List Act
  pub is : plain program nodes order ≡ Some acts
  pub first : ℕ
  pub second : ℕ
  pub races : Races acts first second

-- some lazy run has a race
pub record RacesInSomeLazyRun (program : Program) (nodes : ℕ) : Type 0 where
  pub acts : List Act
  pub run : IsLazyRun program nodes acts
  pub first : ℕ
  pub second : ℕ
  pub races : Races acts first second
