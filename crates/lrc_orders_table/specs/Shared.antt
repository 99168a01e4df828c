-- What becomes of what nodes share.
use Rattle.std.specs.Prelude.{ℕ, ◌<◌, Bool, true, false, List, Option, Some, None, if◌then◌else◌, is_none, length, slice_index, slice_index_or, slice_set}
use Rattle.lrc_trace.specs.declared.act.Deed.{Deed}
use Rattle.lrc_trace.specs.declared.act.Deed.TheVariants.{Release}
use Rattle.lrc_orders_memory.specs.declared.sharing.AllShared.{AllShared}
use Rattle.lrc_orders_memory.specs.Sharing.{IsSharedAt}
use Rattle.lrc_orders_table.specs.declared.next.Next.{Next}
use Rattle.lrc_orders_table.specs.declared.next.Next.TheVariants.{Stopped, Waits, Reads, Writes, Acquires}

-- the words after what a node does next, and the holders of locks
abbrev pub words_then : Next → List ℕ → List ℕ
words_then (Writes word value) words = slice_set words word value
words_then _ words = words

abbrev pub holders_then : (node : ℕ) → Next → List (Option ℕ) → List (Option ℕ)
holders_then node (Acquires lock) holders = slice_set holders lock (Some node)
holders_then node _ holders = holders

-- whether a node changes some of them by what it does next, or by a deed that comes of it
abbrev pub is_change : Next → Bool
is_change (Writes word value) = true
is_change (Acquires lock) = true
is_change _ = false

abbrev pub is_release : Deed → Bool
is_release (Release lock) = true
is_release _ = false

-- the word or the lock is there that a node reads, writes or acquires next
abbrev pub Fits : Next → List ℕ → List (Option ℕ) → Type 0
Fits (Reads word) words holders = word < length words
Fits (Writes word value) words holders = word < length words
Fits (Acquires lock) words holders = lock < length holders
Fits _ words holders = Unit {0}

-- so it is of what is shared with this number
pub record IsFitting (all : AllShared) (number : ℕ) (next : Next) : Type 0 where
  pub words : List ℕ
  pub holders : List (Option ℕ)
  pub at : IsSharedAt all number words holders
  pub fits : Fits next words holders

-- the value that a read, a write or an acquire gives: what is read, and else 0. None where a node does none of these
-- next, or the lock is held
abbrev pub given : Next → List ℕ → List (Option ℕ) → Option ℕ
given (Reads word) words holders = Some (slice_index words word)
given (Writes word value) words holders = Some 0
given (Acquires lock) words holders = if is_none (slice_index_or holders lock None) then Some 0 else None
given _ words holders = None

-- whether a node can do next what it does, where those that wait depart or do not
abbrev pub can_act : Next → List (Option ℕ) → (departs : Bool) → Bool
can_act Stopped holders departs = false
can_act Waits holders departs = departs
can_act (Acquires lock) holders departs = is_none (slice_index_or holders lock None)
can_act _ holders departs = true

-- the word that is accessed next, and whether it is written
abbrev pub access_by : Next → Option (ℕ × Bool)
access_by (Reads word) = Some (word, false)
access_by (Writes word value) = Some (word, true)
access_by _ = None

-- whether a thread waits at a barrier, and whether it has stopped
abbrev pub is_waiting : Next → Bool
is_waiting Waits = true
is_waiting _ = false

abbrev pub is_stopped : Next → Bool
is_stopped Stopped = true
is_stopped _ = false
