-- What a state's node can do, as on the plain machine, and what a state keeps where it does it.
use Rattle.std.proofs.Common.{◌≡◌, ◌∙◌, ℕ, ◌<◌, ◌≤◌, Bool, true, false, Option, Some, None, length, get_or, refl, sym, ap, subst, arith}
use Rattle.std.specs.Prelude.{option_map, if◌then◌else◌}
use Rattle.std.specs.Vec.{with_item}
use Rattle.std.proofs.lemmas.List.{get_or_past, length-map, length-set}
use Rattle.lrc_trace.specs.declared.act.Deed.{Deed}
use Rattle.lrc_exec.specs.declared.machine.Ask.{Ask}
use Rattle.lrc_exec.specs.declared.spot.Flat.{Flat}
use Rattle.lrc_exec.specs.declared.spot.Spot.{Spot}
use Rattle.lrc_exec.specs.Ask.{ask_of}
use Rattle.lrc_exec.specs.Meaning.{next_of}
use Rattle.lrc_exec.specs.Plain.{thread_in, plain_step}
use Rattle.lrc_exec.specs.Spots.{thread_at, spot_thread}
use Rattle.lrc_exec.proofs.NextLaws.{next_of-fine}
use Rattle.lrc_exec.proofs.PlainDeeds.{deed_of, deed_is, makes}
use Rattle.lrc_exec.proofs.PlainParts.{thread_within}
use Rattle.lrc_exec.specs.declared.state.State.{State}
use Rattle.lrc_exec.specs.States.{deed_now, plain_at, IsStateOf}
use Rattle.lrc_exec.proofs.Spots.{thread_there}

-- a node past the last has no thread
pub no_thread : (flat : Flat) (state : State) (node : ℕ) → length state.spots.items ≤ node → thread_in (plain_at flat state) node ≡ None
no_thread flat state node past = get_or_past _ node None (omega (arith, past, length-map state.spots.items (spot_thread flat)))

module _ (flat : Flat) (state : State) (node : ℕ) (spot : Spot) (within : node < length state.spots.items)
    (is : spot ≡ get_or state.spots.items node spot) where
  thread_is : thread_in (plain_at flat state) node ≡ spot_thread flat spot
  thread_is = thread_there flat state node spot within ∙ ap (spot_thread flat) (sym is)

  pub placed_at : IsStateOf flat state → spot.place ≤ length flat.code.now
  placed_at s = subst (λ (x : Spot). x.place ≤ length flat.code.now) (sym is) (s.within node spot within)

  pub stopped_thread : spot.stopped ≡ true → thread_in (plain_at flat state) node ≡ None
  stopped_thread stopped = thread_is ∙ ap (λ b. if b then None else Some (record (thread_at flat spot) { arrived = spot.arrived })) stopped

  pub going_thread : (arrived : Bool) → spot.stopped ≡ false → spot.arrived ≡ arrived
      → thread_in (plain_at flat state) node ≡ Some (record (thread_at flat spot) { arrived = arrived })
  going_thread arrived running waits =
      thread_is ∙ ap (λ b. if b then None else Some (record (thread_at flat spot) { arrived = spot.arrived })) running
      ∙ ap (λ b. Some (record (thread_at flat spot) { arrived = b })) waits

  pub own_deed : (ask : Ask) → spot.stopped ≡ false → spot.arrived ≡ false → ask ≡ ask_of (next_of (thread_at flat spot))
      → deed_now (plain_at flat state) ask ≡ deed_of (plain_at flat state) node (thread_in (plain_at flat state) node)
  own_deed ask running waits asked =
      let machine = plain_at flat state in
      let thread = thread_at flat spot in
      ap (deed_now machine) asked ∙ sym (deed_is machine node thread (next_of thread) (next_of-fine thread) refl)
      ∙ ap (deed_of machine node) (sym (going_thread false running waits))

-- the node is one of those that count their arrivals
pub counts : (flat : Flat) (old new : State) (node : ℕ) (d : Deed) → option_map (λ step. step.0) (plain_step (plain_at flat old) node) ≡ Some d
    → IsStateOf flat old → IsStateOf flat new → node < length new.arrivals.items
counts flat old new node d can s t =
    let m = makes (plain_at flat old) node d can in
    omega (arith, thread_within (plain_at flat old) node m.thread m.there, length-map old.spots.items (spot_thread flat), s.spots, t.arrivals)

-- as many words, locks and counts as before
pub state_memory : (flat : Flat) (state : State) (word value : ℕ) → IsStateOf flat state
    → IsStateOf flat (record state { memory = with_item state.memory word value })
state_memory flat state word value s = record {
  memory = length-set state.memory.items word value ∙ s.memory;
  holders = s.holders;
  arrivals = s.arrivals;
  spots = s.spots;
  numbers = s.numbers;
  within = s.within;
  blank = s.blank;
}

pub state_holders : (flat : Flat) (state : State) (lock : ℕ) (holder : Option ℕ) → IsStateOf flat state
    → IsStateOf flat (record state { holders = with_item state.holders lock holder })
state_holders flat state lock holder s = record {
  memory = s.memory;
  holders = length-set state.holders.items lock holder ∙ s.holders;
  arrivals = s.arrivals;
  spots = s.spots;
  numbers = s.numbers;
  within = s.within;
  blank = s.blank;
}

pub state_arrivals : (flat : Flat) (state : State) (node count : ℕ) → IsStateOf flat state
    → IsStateOf flat (record state { arrivals = with_item state.arrivals node count })
state_arrivals flat state node count s = record {
  memory = s.memory;
  holders = s.holders;
  arrivals = length-set state.arrivals.items node count ∙ s.arrivals;
  spots = s.spots;
  numbers = s.numbers;
  within = s.within;
  blank = s.blank;
}
