-- Lists that grow, what stands where when one does, and lists in which no spot stands twice.
use Rattle.std.specs.Prelude.{◌≡◌, ℕ, ◌+◌, Bool, true, false, List, ◌++◌}
use Rattle.std.specs.List.{IsDistinct}
use Rattle.lrc_exec.specs.declared.spot.Spot.{Spot}
use Rattle.lrc_exec.specs.contracts.spot.SpotPartialEq.TheImpl.{eq-value as spot_eq}

-- the list has grown
pub record Grows {A : Type 0} (old new : List A) : Type 0 where
  pub more : List A
  pub is : new ≡ old ++ more

-- no two spots are equal
abbrev pub AreSpotsDistinct : List Spot → Type 0
AreSpotsDistinct keys = IsDistinct spot_eq.it keys

-- what is new stands behind the others, and else there are as many as before
abbrev pub IsAddedAt : (before after place : ℕ) (added : Bool) → Type 0
IsAddedAt before after place true = (place ≡ before) × (after ≡ before + 1)
IsAddedAt before after place false = after ≡ before
