-- Two runs' intervals above a floor, as far as they decide what is still to come. A floor is a time that all nodes know.
use Rattle.std.specs.Prelude.{◌≡◌, Bool, true, ℕ, suc, zero, ◌-◌, ◌<◌, ◌≤◌, List, Option, Some, None, if◌then◌else◌, nat_le}
use Rattle.lrc_time.specs.Time.{entry, weight_of}
use Rattle.lrc_exact.specs.Memory.{Interval}

-- two numbers are one, or neither is below the cap
pub data IsCapped (cap number number' : ℕ) : Type 0 where
  exact : number' ≡ number → IsCapped cap number number'
  much : cap ≤ number → cap ≤ number' → IsCapped cap number number'

-- the weights of two intervals above the floors, less those of the floors
pub record IsWeightAlike (cap : ℕ) (floor floor' : List ℕ) (weight weight' : ℕ) : Type 0 where
  pub above : weight_of floor < weight
  pub above' : weight_of floor' < weight'
  pub capped : IsCapped cap (weight - weight_of floor) (weight' - weight_of floor')

-- a change of a word
pub record Change : Type 0 where
  pub weight : ℕ
  pub value : ℕ

abbrev pub newest : Option ℕ → ℕ → Option Change → Option Change
newest None weight earlier = earlier
newest (Some value) weight earlier = Some (record { weight = weight; value = value })

-- the last change of a word by the intervals above the first index, up to the last
abbrev pub last_change : (intervals : ℕ → Interval) (word first last : ℕ) → Option Change
last_change intervals word first zero = None
last_change intervals word first (suc last) =
    if nat_le first last
    then newest ((intervals (suc last)).changed word) (intervals (suc last)).weight (last_change intervals word first last)
    else None

-- two such changes, or none in both
pub data AreChangesAlike (cap : ℕ) (floor floor' : List ℕ) : Option Change → Option Change → Type 0 where
  no_change : AreChangesAlike cap floor floor' None None
  one_change : {change change' : Change} → change'.value ≡ change.value → IsWeightAlike cap floor floor' change.weight change'.weight
      → AreChangesAlike cap floor floor' (Some change) (Some change')

-- the weights of the intervals up to an index rise
abbrev pub AreRising : (ℕ → Interval) → ℕ → Type 0
AreRising intervals last = (i j : ℕ) → 1 ≤ i → i < j → j ≤ last → (intervals i).weight < (intervals j).weight

-- what the nodes' intervals did
abbrev pub Table : Type 0
Table = ℕ → ℕ → Interval

-- numbers of a node's intervals that correspond to each other in two runs
abbrev pub Levels : Type 1
Levels = ℕ → ℕ → ℕ → Type 0

-- such numbers, as they are told apart: each three are a level or not
abbrev pub Told : Type 0
Told = ℕ → ℕ → ℕ → Bool

abbrev pub levels_told : Told → Levels
levels_told told q a a' = told q a a' ≡ true

-- Levels that correspond to each other stand in one order, are as high above the floors, up to the cap, and between each two of them the
-- last change of each word is the same.
pub record AreLevels (cap : ℕ) (floor floor' : List ℕ) (made made' : Table) (level : Levels) : Type 0 where
  pub above : (q a a' : ℕ) → level q a a' → (entry floor q ≤ a) × (entry floor' q ≤ a')
  pub counted : (q a a' : ℕ) → level q a a' → IsCapped cap (a - entry floor q) (a' - entry floor' q)
  pub order : (q a a' b b' : ℕ) → level q a a' → level q b b' → a ≤ b → a' ≤ b'
  pub order' : (q a a' b b' : ℕ) → level q a a' → level q b b' → a' ≤ b' → a ≤ b
  pub changes : (q word a a' b b' : ℕ) → level q a a' → level q b b' → a ≤ b
      → AreChangesAlike cap floor floor' (last_change (made q) word a b) (last_change (made' q) word a' b')
  pub rising : (q a a' : ℕ) → level q a a' → AreRising (made q) a × AreRising (made' q) a'
