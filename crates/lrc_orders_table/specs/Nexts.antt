-- What a settled thread does next, and what comes of it.
use Rattle.std.specs.Prelude.{◌≡◌, ℕ, ◌≤◌, Bool, true, false, List, [], ◌∷◌, Some, filter, length, if◌then◌else◌}
use Rattle.lrc_trace.specs.declared.act.Act.{Act}
use Rattle.lrc_trace.specs.declared.act.Deed.{Deed}
use Rattle.lrc_trace.specs.declared.act.Deed.TheVariants.{Release, Print, Trap, End}
use Rattle.lrc_exec.specs.declared.machine.Ask.{Ask}
use Rattle.lrc_exec.specs.declared.machine.Ask.TheVariants as asks
use Rattle.lrc_exec.specs.declared.spot.Flat.{Flat}
use Rattle.lrc_exec.specs.declared.spot.Spot.{Spot}
use Rattle.lrc_exec.specs.Ask.{answered, ask_of}
use Rattle.lrc_exec.specs.Meaning.{Thread, next_of}
use Rattle.lrc_exec.specs.Spots.{spot_thread, thread_at}
use Rattle.lrc_orders.specs.Notes.{notes_with}
use Rattle.lrc_orders_laws.specs.Threads.{ThreadSettles}
use Rattle.lrc_orders_settling.specs.Gone.{kept_spot}
use Rattle.lrc_orders_table.specs.declared.next.Next.{Next}
use Rattle.lrc_orders_table.specs.declared.next.Next.TheVariants.{Stopped, Waits, Turns, Reads, Writes, Acquires}
use Rattle.lrc_orders_table.specs.declared.next.Settled.{Settled}

-- whether others can see a free deed, or it is noted
abbrev pub is_seen : Deed → Bool
is_seen (Release lock) = true
is_seen (Print value) = true
is_seen (Trap cause) = true
is_seen End = true
is_seen _ = false

-- what a thread does next that asks for this: if it has settled, a free act is one of endlessly many
abbrev pub next_by : Ask → Next
next_by (asks.Read word) = Reads word
next_by (asks.Write word value) = Writes word value
next_by (asks.Acquire lock) = Acquires lock
next_by _ = Turns

-- what the thread of a spot does next
abbrev pub next_in : Flat → Spot → Next
next_in flat spot = if spot.stopped then Stopped else (if spot.arrived then Waits else next_by (ask_of (next_of (thread_at flat spot))))

-- the thread after its next act, if that gives this value
abbrev pub thread_then : Flat → Spot → (value : ℕ) → Thread
thread_then flat spot value = if spot.arrived then thread_at flat spot else record (answered value (thread_at flat spot)) { arrived = false }

-- there it settles to this spot. Of its deeds those are kept that others can see or that are noted
pub record SettlesSo (flat : Flat) (spot : Spot) (value : ℕ) (settled : Settled) : Type 0 where
  pub deeds : List Deed
  pub there : Spot
  pub settles : ThreadSettles (Some (thread_then flat spot value)) deeds (spot_thread flat there)
  pub within : there.place ≤ length flat.code.now
  pub is : settled.spot ≡ kept_spot there spot.me
  pub seen : settled.deeds.items ≡ filter is_seen deeds

-- notes with several acts more
abbrev pub notes_on : List Act → List Act → List Act
notes_on notes [] = notes
notes_on notes (act ∷ acts) = notes_on (notes_with notes act) acts
