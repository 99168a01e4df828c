-- What is kept of the groups of pairs.
use Rattle.std.specs.Prelude.{◌≡◌, ℕ, ◌<◌, ◌^◌, true, List, Some, length, map, slice_get}
use Rattle.lrc_races_trace.specs.declared.event.Event.{Event}
use Rattle.lrc_races_trace.specs.declared.event.Pair.{Pair}
use Rattle.lrc_races_trace.specs.declared.group.Group.{Group}
use Rattle.lrc_races_trace.specs.Groups.{is_write, are_alike, IsGroup, IsBefore}
use Rattle.lrc_races_detector.specs.declared.groups.Side.{Side}
use Rattle.lrc_races_detector.specs.declared.groups.Sides.{Sides}
use Rattle.lrc_races_detector.specs.declared.groups.Groups.{Groups}

abbrev pub side_of : Event → Side
side_of event = record { location = event.location; is_write = is_write event.operation }

abbrev pub sides_of : Pair → Sides
sides_of pair = record { earlier = side_of pair.earlier.event; later = side_of pair.later.event }

-- each is a group of the pairs, those told first stand first, and each pair is of one of them
pub record AreAll (pairs : List Pair) (groups : List Group) : Type 0 where
  pub each : (k : ℕ) (group : Group) → slice_get groups k ≡ Some group → (place : ℕ) × IsGroup pairs place group
  pub rising : (k l : ℕ) (group other : Group) → k < l → slice_get groups k ≡ Some group → slice_get groups l ≡ Some other → IsBefore pairs group other
  pub all : (place : ℕ) (pair : Pair) → slice_get pairs place ≡ Some pair
      → (k : ℕ) × (group : Group) × (slice_get groups k ≡ Some group) × (are_alike group.first pair ≡ true)

-- these groups are kept of the pairs
pub record AreGrouped (pairs : List Pair) (kept : Groups) : Type 0 where
  pub sides : kept.sides.keys ≡ map (λ (group : Group). sides_of group.first) kept.groups.items
  pub groups : length pairs < 2 ^ 64 → AreAll pairs kept.groups.items
