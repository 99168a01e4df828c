-- Where the other nodes' texts are followed to.
use Rattle.std.specs.Prelude.{◌≡◌, ◌≢◌, ℕ, Bool, true, false, Option, Some, slice_index}
use Rattle.lrc_trace.specs.declared.act.Deed.{Deed}
use Rattle.lrc_trace.specs.declared.act.Deed.TheVariants.{Read, Write, Acquire, Depart}
use Rattle.lrc_exec.specs.Meaning.{Thread, holds, next_of}
use Rattle.lrc_exec.specs.Plain.{Plain, thread_in}
use Rattle.lrc_exec.specs.Follows.{Goes}
use Rattle.lrc_orders_undisputed.specs.Undisputed.{Conflicts}

-- What other nodes are taken to do before a node goes on: a read gives any value that the word may hold, no lock is acquired that the node
-- holds, and nobody departs, since the node has not arrived.
abbrev pub MayBeDone : Thread → (values : ℕ → ℕ → Bool) → Deed → Type 0
MayBeDone thread values (Read word value) = values word value ≡ true
MayBeDone thread values (Acquire lock) = holds thread lock ≡ false
MayBeDone thread values Depart = ⊥
MayBeDone thread values _ = Unit {0}

-- Sets of values for each word, and of threads for each other node, are closed: each word's value is in its set, and so is each that a thread
-- writes; each node's thread is in its set, and so is each that one of these goes on as. They may have more.
pub record IsFollowed (machine : Plain) (node : ℕ) (thread : Thread) (values : ℕ → ℕ → Bool) (threads : ℕ → Thread → Bool) : Type 0 where
  pub held_now : (word : ℕ) → values word (slice_index machine.memory word) ≡ true
  pub written : (other : ℕ) (before : Thread) (after : Option Thread) (word value : ℕ) → other ≢ node → threads other before ≡ true
      → Goes (next_of before) (Write word value) after → values word value ≡ true
  pub begun : (other : ℕ) (first : Thread) → other ≢ node → thread_in machine other ≡ Some first → threads other first ≡ true
  pub goes_on : (other : ℕ) (before after : Thread) (deed : Deed) → other ≢ node → threads other before ≡ true
      → Goes (next_of before) deed (Some after) → MayBeDone thread values deed → threads other after ≡ true

-- none of the threads is about to make an act that conflicts
abbrev pub NoneConflicts : (node : ℕ) → Deed → (threads : ℕ → Thread → Bool) → Type 0
NoneConflicts node deed threads =
    (other : ℕ) (before : Thread) → other ≢ node → threads other before ≡ true → ¬ Conflicts deed (next_of before)
