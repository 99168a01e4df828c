-- Circles of waiting, of nodes each of which waits for one node at most.
use Rattle.std.specs.Prelude.{◌≡◌, ℕ, ◌<◌, All, List, [], ◌∷◌, ◌++◌, Option, Some, None, nat_eq, slice_index_or}
use Rattle.std.specs.List.{IsDistinct}
use Rattle.lrc_explain_waits.specs.Circles.{circle_of}

-- a node waits for another one; past the last node nobody waits
abbrev pub WaitsFor : List (Option ℕ) → (node other : ℕ) → Type 0
WaitsFor waits node other = slice_index_or waits node None ≡ Some other

-- waiting leads from a node over these ones, each of which waits for the next, to another node
pub data WaitingLeads (waits : List (Option ℕ)) : (from : ℕ) → List ℕ → (to : ℕ) → Type 0 where
  straight : {from to : ℕ} → WaitsFor waits from to → WaitingLeads waits from [] to
  over : {from next to : ℕ} {way : List ℕ} → WaitsFor waits from next → WaitingLeads waits next way to → WaitingLeads waits from (next ∷ way) to

-- a circle, begun at one of its nodes: waiting leads from it over the others back to it, and none comes twice
pub record IsCircle (waits : List (Option ℕ)) (node : ℕ) (others : List ℕ) : Type 0 where
  pub leads : WaitingLeads waits node others node
  pub once : IsDistinct nat_eq (node ∷ others)

-- a circle, begun at the lowest of its nodes
abbrev pub IsCircleFromLowest : List (Option ℕ) → (node : ℕ) → (others : List ℕ) → Type 0
IsCircleFromLowest waits node others = IsCircle waits node others × All (λ other. node < other) others

-- these nodes of a circle are told from the lowest one on: those behind it come first, and then those before it
pub record IsToldFromLowest (waits : List (Option ℕ)) (circle : List ℕ) : Type 0 where
  pub before : List ℕ
  pub lowest : ℕ
  pub behind : List ℕ
  pub place : circle ≡ before ++ lowest ∷ behind
  pub told : circle_of waits lowest ≡ Some (behind ++ before)
