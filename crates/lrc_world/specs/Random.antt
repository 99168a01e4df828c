-- A run in a random order.
use Rattle.std.specs.Prelude.{◌≡◌, ◌+◌, ◌*◌, ◌/◌, ◌%◌, ◌^◌, ℕ, Option, Some, List, ◌++◌, bit_xor, filter, length, map, min, slice_get}
use Rattle.std.specs.List.{range_with_len}
use Rattle.lrc_program.specs.declared.Program.{Program}
use Rattle.lrc_protocol.specs.declared.event.Event.{Event}
use Rattle.lrc_protocol.specs.declared.event.Event.TheVariants as events
use Rattle.lrc_protocol.specs.Node.{OptionsRecord}
use Rattle.lrc_protocol.specs.Run.{World as Run, fresh_world}
use Rattle.lrc_world.specs.Led.{Schedule, AreLed, WearsOut}
use Rattle.lrc_world.specs.Rounds.{ready_at}

-- ---- the generator SplitMix64

-- the state after this one
abbrev pub next_state : ℕ → ℕ
next_state state = (state + 0x9e3779b97f4a7c15) % 2 ^ 64

-- a number with its high bits folded down by some places, times a factor
abbrev pub folded : ℕ → ℕ → ℕ → ℕ
folded z places factor = bit_xor z (z / 2 ^ places) * factor % 2 ^ 64

-- the number that a state gives
abbrev pub drawn_number : ℕ → ℕ
drawn_number state =
    let z = folded (folded state 30 0xbf58476d1ce4e5b9) 27 0x94d049bb133111eb in
    bit_xor z (z / 2 ^ 31)

-- ---- the events

-- what may happen next: a turn of each ready one of so many nodes, ascending, and then a delivery of each message in flight, as far as
-- an event can name it
abbrev pub choices_of : ℕ → Run → List Event
choices_of nodes run =
    map events.Run (filter (ready_at run) (range_with_len 0 nodes))
    ++ map events.Deliver (range_with_len 0 (min (length run.flight) (2 ^ 32)))

-- the one of some events that a number says
abbrev pub picked : ℕ → List Event → Option Event
picked number choices = slice_get choices (number % length choices)

abbrev pub drawn_event : ℕ → ℕ → Run → Option Event
drawn_event nodes number run = picked number (choices_of nodes run)

-- Each event is the one of all that may happen next that the generator's next number says. The run stands at the generator's state, at
-- first the seed.
abbrev pub wandering : ℕ → ℕ → Schedule
wandering nodes seed = record {
  Standing = ℕ;
  first = seed;
  Due = λ run state event after. (after ≡ next_state state) × (drawn_event nodes (drawn_number after) run ≡ Some event);
  Passes = λ run state after. ⊥;
}

-- the events are the first ones of a program's run in the random order of this seed
abbrev pub IsWandering : Program → ℕ → OptionsRecord → ℕ → List Event → Type 0
IsWandering program nodes options seed events = AreLed (wandering nodes seed) program nodes options events

-- a number or a message becomes too large at one of the first 100,000,000 events of that run
abbrev pub WanderingWearsOut : Program → ℕ → OptionsRecord → ℕ → Type 0
WanderingWearsOut program nodes options seed = WearsOut (wandering nodes seed) (fresh_world program nodes options)
