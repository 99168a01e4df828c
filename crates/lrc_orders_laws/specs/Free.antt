-- Free acts, and threads that turn for ever.
use Rattle.std.specs.Prelude.{ℕ, zero, suc, Bool, true, false, Option, Some, None, IsSome, option_and_then}
use Rattle.lrc_trace.specs.declared.act.Deed.{Deed}
use Rattle.lrc_trace.specs.declared.act.Deed.TheVariants.{Quiet, Print, Read, Write, Acquire, Release, Arrive, Depart, Trap, End}
use Rattle.lrc_exec.specs.Meaning.{Thread, Next, quiet, prints, reads, writes, acquires, releases, arrives, departs, traps, ends, next_of}
use Rattle.lrc_exec.specs.Plain.{Plain, thread_in}

-- whether a thread does this alone: it touches no word, and no act of another node changes it or keeps it from being made
abbrev pub is_free : Next → Bool
is_free (quiet after) = true
is_free (prints value after) = true
is_free (reads word after) = false
is_free (writes word value after) = false
is_free (acquires lock after) = false
is_free (releases lock after) = true
is_free (arrives after) = true
is_free (departs after) = false
is_free (traps cause) = true
is_free ends = true

-- whether the next act of a node is free; that of a node that has stopped is not
abbrev pub is_free_in : Option Thread → Bool
is_free_in None = false
is_free_in (Some thread) = is_free (next_of thread)

abbrev pub is_free_at : Plain → ℕ → Bool
is_free_at machine node = is_free_in (thread_in machine node)

-- the thread after a quiet act or a print, if that is what comes next
abbrev pub after_quiet : Next → Option Thread
after_quiet (quiet after) = Some after
after_quiet (prints value after) = Some after
after_quiet (reads word after) = None
after_quiet (writes word value after) = None
after_quiet (acquires lock after) = None
after_quiet (releases lock after) = None
after_quiet (arrives after) = None
after_quiet (departs after) = None
after_quiet (traps cause) = None
after_quiet ends = None

-- the thread after so many quiet acts and prints, if these are what comes next
abbrev pub after_quiets : ℕ → Thread → Option Thread
after_quiets zero thread = Some thread
after_quiets (suc count) thread = option_and_then (λ after. after_quiets count after) (after_quiet (next_of thread))

-- a thread turns for ever: it has endlessly many quiet acts and prints to come
pub record Turns (thread : Thread) : Type 0 where
  pub on : (count : ℕ) → IsSome (after_quiets count thread)

-- a node does, if it has not stopped
abbrev pub TurnsIn : Option Thread → Type 0
TurnsIn None = ⊥
TurnsIn (Some thread) = Turns thread

abbrev pub TurnsAt : Plain → ℕ → Type 0
TurnsAt machine node = TurnsIn (thread_in machine node)

-- reads, writes and acquires: what a node does alone, and what other nodes can change or keep from being made
abbrev pub is_contended : Deed → Bool
is_contended Quiet = false
is_contended (Print value) = false
is_contended (Read word value) = true
is_contended (Write word value) = true
is_contended (Acquire lock) = true
is_contended (Release lock) = false
is_contended Arrive = false
is_contended Depart = false
is_contended (Trap cause) = false
is_contended End = false
