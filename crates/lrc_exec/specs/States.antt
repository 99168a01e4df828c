-- States without the code, as the states of the plain machine that they stand for.
use Rattle.std.specs.Prelude.{◌≡◌, ◌≤◌, ◌<◌, ℕ, List, Option, Some, None, true, All, if◌then◌else◌, length, map, replicate, slice_get, slice_index, slice_set}
use Rattle.std.specs.List.{range_with_len}
use Rattle.lrc_trace.specs.declared.act.Deed.{Deed}
use Rattle.lrc_trace.specs.declared.act.Deed.TheVariants as deeds
use Rattle.lrc_exec.specs.declared.machine.Ask.{Ask}
use Rattle.lrc_exec.specs.declared.machine.Ask.TheVariants.{Read, Acquire}
use Rattle.lrc_exec.specs.declared.spot.Flat.{Flat}
use Rattle.lrc_exec.specs.declared.spot.Spot.{Spot}
use Rattle.lrc_exec.specs.declared.state.State.{State}
use Rattle.lrc_exec.specs.Ask.{deed_asked, IsResumable}
use Rattle.lrc_exec.specs.Meaning.{Thread}
use Rattle.lrc_exec.specs.Places.{place_after}
use Rattle.lrc_exec.specs.Plain.{Plain, nobody_holds, thread_in}
use Rattle.lrc_exec.specs.Spots.{spot_begun, spot_stopped, spot_thread, thread_at}
use Rattle.lrc_exec.specs.Wish.{Completes}

-- the state of the plain machine
abbrev pub plain_at : Flat → State → Plain
plain_at flat state = record {
  memory = state.memory.items;
  holders = state.holders.items;
  arrivals = state.arrivals.items;
  threads = map (spot_thread flat) state.spots.items;
}

-- there are as many words, locks and nodes as there should be, the nodes have their numbers, each node's place is one of the code, and a
-- node that has stopped keeps nothing but its number
pub record IsStateOf (flat : Flat) (state : State) : Type 0 where
  pub memory : length state.memory.items ≡ flat.words
  pub holders : length state.holders.items ≡ flat.locks
  pub arrivals : length state.arrivals.items ≡ flat.nodes
  pub spots : length state.spots.items ≡ flat.nodes
  pub numbers : map (λ (spot : Spot). spot.me) state.spots.items ≡ range_with_len 0 flat.nodes
  pub within : All (λ spot. spot.place ≤ length flat.code.now) state.spots.items
  pub blank : All (λ spot. spot.stopped ≡ true → spot ≡ spot_stopped spot.me) state.spots.items

-- the states have the same items
pub record IsCopy (copy state : State) : Type 0 where
  pub memory : copy.memory.items ≡ state.memory.items
  pub holders : copy.holders.items ≡ state.holders.items
  pub arrivals : copy.arrivals.items ≡ state.arrivals.items
  pub spots : copy.spots.items ≡ state.spots.items

-- a node's thread where the text begins at this place, and the machine at the beginning
abbrev pub thread_begun : Flat → (place me : ℕ) → Thread
thread_begun flat place me = thread_at flat (spot_begun place me)

abbrev pub machine_begun : Flat → ℕ → Plain
machine_begun flat place = record {
  memory = replicate flat.words 0;
  holders = replicate flat.locks None;
  arrivals = replicate flat.nodes 0;
  threads = map (λ me. Some (thread_begun flat place me)) (range_with_len 0 flat.nodes);
}

-- the place of each node
abbrev pub places_of : State → List ℕ
places_of state = map (λ (spot : Spot). spot.place) state.spots.items

-- where a deed leads a node: a node that stops stands at no statement, one that departs stays at its place, and else its
-- statement leads it
abbrev pub place_then : Flat → Deed → Spot → ℕ
place_then flat (deeds.Trap cause) spot = 0
place_then flat deeds.End spot = 0
place_then flat deeds.Depart spot = spot.place
place_then flat deed spot = place_after (thread_at flat spot) flat.code.now spot.place

-- a node has moved to where its spot leads, and each other one stands at the same place as before
abbrev pub HasMoved : State → (node : ℕ) → (Spot → ℕ) → State → Type 0
HasMoved before node to after =
    (spot : Spot) → slice_get before.spots.items node ≡ Some spot → places_of after ≡ slice_set (places_of before) node (to spot)

-- the beginning, where the text begins at a place of the code
pub record IsFirst (flat : Flat) (place : ℕ) (state : State) : Type 0 where
  pub begun : plain_at flat state ≡ machine_begun flat place
  pub placed : All (λ spot. spot.place ≡ place) state.spots.items

-- what is asked for is there
abbrev pub IsThere : (words locks : ℕ) → Ask → Type 0
IsThere words locks (Read word) = word < words
IsThere words locks (Acquire lock) = lock < locks
IsThere words locks ask = Unit {0}

-- what is done where a thread asks for this; none where another holds the lock
abbrev pub deed_now : Plain → Ask → Option Deed
deed_now machine (Read word) = Some (deeds.Read word (slice_index machine.memory word))
deed_now machine (Acquire lock) = if nobody_holds machine lock then Some (deeds.Acquire lock) else None
deed_now machine ask = Some (deed_asked 0 ask)

-- the number completes what a node asks for, where that goes on with an answer
abbrev pub CompletesAt : Plain → (node number : ℕ) → Type 0
CompletesAt machine node number = (thread : Thread) → thread_in machine node ≡ Some thread → IsResumable thread → Completes thread thread.rest number
