-- Settling one thread.
use Rattle.std.specs.Prelude.{◌≡◌, ℕ, zero, suc, ◌≤◌, Bool, true, false, Option, Some, None, List, length}
use Rattle.lrc_trace.specs.declared.act.Deed.{Deed}
use Rattle.lrc_trace.specs.declared.act.Deed.TheVariants as deeds
use Rattle.lrc_exec.specs.declared.machine.Ask.{Ask}
use Rattle.lrc_exec.specs.declared.machine.Ask.TheVariants as asks
use Rattle.lrc_exec.specs.declared.spot.Flat.{Flat}
use Rattle.lrc_exec.specs.declared.spot.Spot.{Spot}
use Rattle.lrc_exec.specs.Meaning.{Thread, next_of}
use Rattle.lrc_exec.specs.Spots.{thread_at, spot_thread}
use Rattle.lrc_exec.specs.Follows.{Goes}
use Rattle.lrc_orders_laws.specs.Free.{is_free, is_free_in, TurnsIn}
use Rattle.lrc_orders_laws.specs.Threads.{ThreadSettles}
use Rattle.lrc_orders_settling.specs.declared.settling.Settling.{Settling}
use Rattle.lrc_orders_settling.specs.declared.settling.Settling.TheVariants as settling
use Rattle.lrc_orders_settling.specs.declared.settling.Ending.{Ending}
use Rattle.lrc_orders_settling.specs.declared.settling.Ending.TheVariants.{Waits, Turns, Open}

-- whether this asks for a free act, at no barrier
abbrev pub is_free_ask : Ask → Bool
is_free_ask (asks.Read word) = false
is_free_ask (asks.Write word value) = false
is_free_ask (asks.Acquire lock) = false
is_free_ask _ = true

-- whether a thread that asks for this stops for good
abbrev pub is_last_ask : Ask → Bool
is_last_ask (asks.Trap cause) = true
is_last_ask asks.End = true
is_last_ask _ = false

-- whether this asks for a barrier
abbrev pub is_barrier_ask : Ask → Bool
is_barrier_ask asks.Barrier = true
is_barrier_ask _ = false

-- whether this is a quiet act or a print
abbrev pub is_quiet_deed : Deed → Bool
is_quiet_deed deeds.Quiet = true
is_quiet_deed (deeds.Print value) = true
is_quiet_deed _ = false

-- a thread makes so many free acts, one after another
pub data MakesFree : ℕ → Option Thread → Type 0 where
  none_more : (thread : Option Thread) → MakesFree zero thread
  one_more : (count : ℕ) (thread : Thread) (deed : Deed) (after : Option Thread) → is_free (next_of thread) ≡ true → Goes (next_of thread) deed after
      → MakesFree count after → MakesFree (suc count) (Some thread)

-- the next act is not free, and nothing is done; or it is this free act, and the thread goes on from there
abbrev pub MakesNext : Flat → Spot → Option Deed → Spot → Type 0
MakesNext flat spot None new = (is_free (next_of (thread_at flat spot)) ≡ false) × (new ≡ spot)
MakesNext flat spot (Some deed) new = (is_free (next_of (thread_at flat spot)) ≡ true) × Goes (next_of (thread_at flat spot)) deed (spot_thread flat new)

-- a thread settles by these deeds to where its next act is not free, or to where it turns for ever; or it makes so many free acts
abbrev pub EndsSo : Option Thread → (most : ℕ) → List Deed → Option Thread → Ending → Type 0
EndsSo thread most deeds there Waits = ThreadSettles thread deeds there × (is_free_in there ≡ false)
EndsSo thread most deeds there Turns = ThreadSettles thread deeds there × TurnsIn there
EndsSo thread most deeds there Open = MakesFree most thread

-- so does one that comes to this spot
abbrev pub IsSettling : Flat → Option Thread → (most : ℕ) → Settling → Type 0
IsSettling flat thread most (settling.Waits spot deeds) =
    ThreadSettles thread deeds.items (spot_thread flat spot) × (is_free_in (spot_thread flat spot) ≡ false) × (spot.place ≤ length flat.code.now)
IsSettling flat thread most (settling.Turns spot deeds) =
    ThreadSettles thread deeds.items (spot_thread flat spot) × TurnsIn (spot_thread flat spot) × (spot.place ≤ length flat.code.now)
IsSettling flat thread most settling.Open = MakesFree most thread
