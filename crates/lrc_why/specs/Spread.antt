-- Who learns of an act.
use Rattle.std.specs.Prelude.{◌≡◌, ℕ, ◌<◌, ◌≤◌, ◌≢◌, Bool, true, false, IsTrue, List, Option, Some, None, slice_get, length}
use Rattle.lrc_trace.specs.declared.act.Act.{Act}
use Rattle.lrc_trace.specs.declared.act.Deed.{Deed}
use Rattle.lrc_trace.specs.declared.act.Deed.TheVariants.{Write, Release, Arrive}
use Rattle.lrc_trace.specs.Run.{Does}
use Rattle.lrc_why_chains.specs.Writes.{AreExactly}
use Rattle.lrc_why.specs.declared.reasons.Forward.{Forward}
use Rattle.lrc_why.specs.declared.reasons.Forward.TheVariants.{Unsaid, Nobody, Others}
use Rattle.lrc_why.specs.declared.reasons.Since.{Since as SinceRecord}
use Rattle.lrc_why.specs.declared.reasons.Spread.{Spread as SpreadRecord}
use Rattle.lrc_why.specs.Since.{IsNeverKnown, IsSince}

-- a list has an item for each node below this number, of which this is so
pub record OfEach {X : Type 0} (nodes : ℕ) (IsSo : ℕ → X → Type 0) (list : List X) : Type 0 where
  pub all : length list ≡ nodes
  pub each : (node : ℕ) (x : X) → slice_get list node ≡ Some x → IsSo node x

-- whether a deed tells others of its node's acts: a release, or an arrive
abbrev pub tells : Deed → Bool
tells (Release l) = true
tells Arrive = true
tells _ = false

-- whether it is said who learns of a deed
abbrev pub is_told_of : Deed → Bool
is_told_of (Write word value) = true
is_told_of (Release l) = true
is_told_of Arrive = true
is_told_of _ = false

-- a release or an arrive of the node, from the position on
pub record IsTelling (run : List Act) (node position k : ℕ) : Type 0 where
  pub from : position ≤ k
  pub deed : Deed
  pub does : Does run k node deed
  pub tells : IsTrue (tells deed)

-- the first of them
pub record IsFirstTelling (run : List Act) (node position k : ℕ) : Type 0 where
  pub telling : IsTelling run node position k
  pub first : (m : ℕ) → IsTelling run node position m → k ≤ m

-- where the node is another one that comes to know the position, since when
abbrev pub IsLearner : List Act → ℕ → ℕ → ℕ → Option SinceRecord → Type 0
IsLearner run acting position node None = acting ≢ node → IsNeverKnown run node position
IsLearner run acting position node (Some since) = (acting ≢ node) × IsSince run node position since

-- the node is another one, which never knows the position
pub record IsNeverKnowing (run : List Act) (nodes acting position node : ℕ) : Type 0 where
  pub within : node < nodes
  pub other : node ≢ acting
  pub never : IsNeverKnown run node position

-- from which release or arrive on others can learn of the position, who does, and who never does
pub record IsSpread (run : List Act) (nodes acting position : ℕ) (spread : SpreadRecord) : Type 0 where
  pub from : IsFirstTelling run acting position spread.from
  pub learners : OfEach nodes (IsLearner run acting position) spread.learners.items
  pub never : AreExactly (IsNeverKnowing run nodes acting position) spread.never.items

-- who learns of a deed of the node at the position
pub data IsForward (run : List Act) (nodes acting position : ℕ) (deed : Deed) : Forward → Type 0 where
  alone : nodes < 2 → IsForward run nodes acting position deed Unsaid
  unsaid : is_told_of deed ≡ false → IsForward run nodes acting position deed Unsaid
  nobody : 2 ≤ nodes → IsTrue (is_told_of deed) → ((k : ℕ) → ¬ IsTelling run acting position k)
      → IsForward run nodes acting position deed Nobody
  others : {spread : SpreadRecord} → 2 ≤ nodes → IsTrue (is_told_of deed) → IsSpread run nodes acting position spread
      → IsForward run nodes acting position deed (Others spread)
