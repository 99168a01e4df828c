-- What the code of a thread asks for, and where an answer leads.
use Rattle.std.specs.Prelude.{◌≡◌, ℕ, Bool, false}
use Rattle.lrc_trace.specs.declared.act.Deed.{Deed}
use Rattle.lrc_trace.specs.declared.act.Deed.TheVariants as deeds
use Rattle.lrc_exec.specs.declared.machine.Ask.{Ask}
use Rattle.lrc_exec.specs.declared.machine.Ask.TheVariants.{Quiet, Print, Read, Write, Acquire, Release, Barrier, Trap, End}
use Rattle.lrc_exec.specs.Meaning.{Thread, Next, quiet, prints, reads, writes, acquires, releases, arrives, departs, traps, ends, next_of}

-- what is asked for, where a thread does this next
abbrev pub ask_of : Next → Ask
ask_of (quiet after) = Quiet
ask_of (prints value after) = Print value
ask_of (reads word after) = Read word
ask_of (writes word value after) = Write word value
ask_of (acquires lock after) = Acquire lock
ask_of (releases lock after) = Release lock
ask_of (arrives after) = Barrier
ask_of (departs after) = Barrier
ask_of (traps cause) = Trap cause
ask_of ends = End

-- the deed of a thread that asks for this, a read giving this value
abbrev pub deed_asked : ℕ → Ask → Deed
deed_asked value Quiet = deeds.Quiet
deed_asked value (Print printed) = deeds.Print printed
deed_asked value (Read word) = deeds.Read word value
deed_asked value (Write word written) = deeds.Write word written
deed_asked value (Acquire lock) = deeds.Acquire lock
deed_asked value (Release lock) = deeds.Release lock
deed_asked value Barrier = deeds.Arrive
deed_asked value (Trap cause) = deeds.Trap cause
deed_asked value End = deeds.End

-- how many steps a deed takes: one for each condition evaluated and each other statement begun. A depart ends what the
-- arrive began, and the end of the text is no statement
abbrev pub steps_of : Deed → ℕ
steps_of deeds.Depart = 0
steps_of deeds.End = 0
steps_of _ = 1

-- how many steps it costs to begin what is asked for
abbrev pub cost_asked : Ask → ℕ
cost_asked ask = steps_of (deed_asked 0 ask)

-- an answer is due to all but a trap and the end
abbrev pub TakesAnswer : Ask → Type 0
TakesAnswer Quiet = Unit {0}
TakesAnswer (Print value) = Unit {0}
TakesAnswer (Read word) = Unit {0}
TakesAnswer (Write word value) = Unit {0}
TakesAnswer (Acquire lock) = Unit {0}
TakesAnswer (Release lock) = Unit {0}
TakesAnswer Barrier = Unit {0}
TakesAnswer (Trap cause) = ⊥
TakesAnswer End = ⊥

-- the thread once this is done, where a read gets the value; from a barrier it goes on once it has departed, and from a
-- trap or the end it does not go on
abbrev pub done : ℕ → Thread → Next → Thread
done value thread (quiet after) = after
done value thread (prints printed after) = after
done value thread (reads word after) = after value
done value thread (writes word written after) = after
done value thread (acquires lock after) = after
done value thread (releases lock after) = after
done value thread (arrives after) = record after { arrived = false }
done value thread (departs after) = after
done value thread (traps cause) = thread
done value thread ends = thread

-- the thread once what it asks for was answered with this value
abbrev pub answered : ℕ → Thread → Thread
answered value thread = done value thread (next_of thread)

-- the same, and then it waits at a barrier or not
abbrev pub resumed : (value : ℕ) → (arrived : Bool) → Thread → Thread
resumed value arrived thread = record (answered value thread) { arrived = arrived }

-- a thread that is at no barrier, and takes an answer
abbrev pub IsResumable : Thread → Type 0
IsResumable thread = (thread.arrived ≡ false) × TakesAnswer (ask_of (next_of thread))

-- a thread that goes on from a barrier
abbrev pub thread_departed : Thread → Thread
thread_departed thread = record thread { arrived = false }
