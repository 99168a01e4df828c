-- Groups of the pairs that are told: one for each location and kind of the earlier access and of the later.
use Rattle.std.specs.Prelude.{◌≡◌, ℕ, ◌<◌, ◌==◌, ◌&&◌, ◌↔◌, not, Bool, true, false, List, Option, Some, None, AllPairs, Contains, count_by, slice_get}
use Rattle.lrc_races_trace.specs.declared.event.Event.{Event}
use Rattle.lrc_races_trace.specs.declared.event.Operation.{Operation}
use Rattle.lrc_races_trace.specs.declared.event.Operation.TheVariants.{Write}
use Rattle.lrc_races_trace.specs.declared.event.Pair.{Pair}
use Rattle.lrc_races_trace.specs.declared.group.Group.{Group}

abbrev pub is_write : Operation → Bool
is_write (Write variable) = true
is_write _ = false

abbrev pub same_kind : Bool → Bool → Bool
same_kind true is = is
same_kind false is = not is

-- both are at one location, or both at none
abbrev pub same_location : Option ℕ → Option ℕ → Bool
same_location (Some one) (Some other) = one == other
same_location (Some one) None = false
same_location None (Some other) = false
same_location None None = true

-- the accesses are of one location and kind
abbrev pub alike : Event → Event → Bool
alike one other = same_location one.location other.location && same_kind (is_write one.operation) (is_write other.operation)

-- so are both accesses of two pairs
abbrev pub are_alike : Pair → Pair → Bool
are_alike one other = alike one.earlier.event other.earlier.event && alike one.later.event other.later.event

-- The pair that is told at this place is the first of the group: none before is alike. The group counts all that are alike.
pub record IsGroup (pairs : List Pair) (place : ℕ) (group : Group) : Type 0 where
  pub told : slice_get pairs place ≡ Some group.first
  pub first : (k : ℕ) (pair : Pair) → k < place → slice_get pairs k ≡ Some pair → are_alike group.first pair ≡ false
  pub count : group.count ≡ count_by (are_alike group.first) pairs

-- the group is told before the other
abbrev pub IsBefore : List Pair → Group → Group → Type 0
IsBefore pairs group other = (k l : ℕ) × IsGroup pairs k group × IsGroup pairs l other × (k < l)

-- the groups are exactly those of the pairs, in the order in which they are first told
pub record AreGroups (pairs : List Pair) (groups : List Group) : Type 0 where
  pub in_order : AllPairs (IsBefore pairs) groups
  pub exact : (group : Group) → Contains groups group ↔ ((place : ℕ) × IsGroup pairs place group)
