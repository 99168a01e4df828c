-- Runs of which two neighbouring acts change places.
use Rattle.std.specs.Prelude.{◌≡◌, ◌≢◌, ℕ, ◌+◌, ◌<◌, List, ◌∷◌, ◌++◌}
use Rattle.lrc_trace.specs.declared.act.Act.{Act}
use Rattle.lrc_trace.specs.declared.act.Deed.{Deed}
use Rattle.lrc_trace.specs.declared.act.Deed.TheVariants.{Acquire}
use Rattle.lrc_trace.specs.Synchronization.{MayGoOn}

-- the run before and after: these acts, then two, then those
abbrev pub pair : List Act → Act → Act → List Act → List Act
pair front first second rest = front ++ first ∷ second ∷ rest

-- what stands at position i stands at position j when what stands at k and what stands behind it have changed places
pub data Moved (k i j : ℕ) : Type 0 where
  before : i < k → j ≡ i → Moved k i j
  forward : i ≡ k → j ≡ k + 1 → Moved k i j
  back : i ≡ k + 1 → j ≡ k → Moved k i j
  behind : k + 1 < i → j ≡ i → Moved k i j

-- the deed acquires no lock
abbrev pub IsNoAcquire : Deed → Type 0
IsNoAcquire deed = (l : ℕ) → deed ≢ Acquire l

-- The second act may come before the first: they are of two nodes, the second is no acquire, and could be made where the first was.
pub record MayComeFirst (nodes : ℕ) (front : List Act) (first second : Act) : Type 0 where
  pub apart : first.node ≢ second.node
  pub first_among : first.node < nodes
  pub second_among : second.node < nodes
  pub no_acquire : IsNoAcquire second.deed
  pub may : MayGoOn nodes front second
