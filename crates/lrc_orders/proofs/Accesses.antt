-- What a node of a state accesses next.
use Rattle.std.proofs.Common.{◌≡◌, ◌∙◌, ℕ, ◌<◌, Bool, true, false, Option, Some, None, length, get_or, refl, sym, ap}
use Rattle.lrc_exec.specs.declared.machine.Ask.{Ask}
use Rattle.lrc_exec.specs.declared.machine.Ask.TheVariants as asks
use Rattle.lrc_exec.specs.declared.spot.Flat.{Flat}
use Rattle.lrc_exec.specs.declared.spot.Spot.{Spot}
use Rattle.lrc_exec.specs.declared.state.State.{State}
use Rattle.lrc_exec.specs.Ask.{ask_of}
use Rattle.lrc_exec.specs.Meaning.{Next, quiet, prints, reads, writes, acquires, releases, arrives, departs, traps, ends, next_of}
use Rattle.lrc_exec.specs.Spots.{thread_at}
use Rattle.lrc_exec.specs.States.{plain_at}
use Rattle.lrc_exec.proofs.States.{going_thread}
use Rattle.lrc_orders.specs.Meeting.{access_of, next_access, next_access_in}

-- the access that is made where a thread asks for this
abbrev pub access_asked : Ask → Option (ℕ × Bool)
access_asked (asks.Read word) = Some (word, false)
access_asked (asks.Write word value) = Some (word, true)
access_asked _ = None

access_is : (next : Next) → access_of next ≡ access_asked (ask_of next)
access_is (quiet after) = refl
access_is (prints value after) = refl
access_is (reads word after) = refl
access_is (writes word value after) = refl
access_is (acquires lock after) = refl
access_is (releases lock after) = refl
access_is (arrives after) = refl
access_is (departs after) = refl
access_is (traps cause) = refl
access_is ends = refl

pub own_access : (flat : Flat) (state : State) (node : ℕ) (spot : Spot) → node < length state.spots.items → spot ≡ get_or state.spots.items node spot
    → (ask : Ask) → spot.stopped ≡ false → spot.arrived ≡ false → ask ≡ ask_of (next_of (thread_at flat spot))
    → access_asked ask ≡ next_access (plain_at flat state) node
own_access flat state node spot within is ask running waits asked =
    ap access_asked asked ∙ sym (access_is (next_of (thread_at flat spot)))
    ∙ ap next_access_in (sym (going_thread flat state node spot within is false running waits))
