-- Threads that go on alike: each relation between threads under which related ones do the same next, and are related again after it.
use Rattle.std.specs.Prelude.{◌≡◌, ℕ, Bool, true, Option, Some, None, List, length}
use Rattle.lrc_trace.specs.declared.act.Act.{Act}
use Rattle.lrc_trace.specs.declared.act.Cause.{Cause}
use Rattle.lrc_trace.specs.declared.act.Deed.{Deed}
use Rattle.lrc_exec.specs.Meaning.{Thread, Next, next_of}
use Rattle.lrc_exec.specs.Meaning as next
use Rattle.lrc_exec.specs.Plain.{Plain, thread_in, plain_step, plain_from}

-- a relation that is given by a function
abbrev pub By : (Thread → Thread → Bool) → Thread → Thread → Type 0
By related t u = related t u ≡ true

-- both do the same next, and then are related; after a read they are for each value
pub data DoAlike (Related : Thread → Thread → Type 0) : Next → Next → Type 0 where
  quiet : {t u : Thread} → Related t u → DoAlike Related (next.quiet t) (next.quiet u)
  prints : {value : ℕ} {t u : Thread} → Related t u → DoAlike Related (next.prints value t) (next.prints value u)
  reads : {word : ℕ} {t u : ℕ → Thread} → ((value : ℕ) → Related (t value) (u value)) → DoAlike Related (next.reads word t) (next.reads word u)
  writes : {word value : ℕ} {t u : Thread} → Related t u → DoAlike Related (next.writes word value t) (next.writes word value u)
  acquires : {lock : ℕ} {t u : Thread} → Related t u → DoAlike Related (next.acquires lock t) (next.acquires lock u)
  releases : {lock : ℕ} {t u : Thread} → Related t u → DoAlike Related (next.releases lock t) (next.releases lock u)
  arrives : {t u : Thread} → Related t u → DoAlike Related (next.arrives t) (next.arrives u)
  departs : {t u : Thread} → Related t u → DoAlike Related (next.departs t) (next.departs u)
  traps : {cause : Cause} → DoAlike Related (next.traps cause) (next.traps cause)
  ends : DoAlike Related next.ends next.ends

-- related threads go on alike
pub record GoOnAlike (Related : Thread → Thread → Type 0) : Type 0 where
  pub each : (t u : Thread) → Related t u → DoAlike Related (next_of t) (next_of u)

-- both have stopped, or are related
pub data BothAlike (Related : Thread → Thread → Type 0) : Option Thread → Option Thread → Type 0 where
  stopped : BothAlike Related None None
  going : {t u : Thread} → Related t u → BothAlike Related (Some t) (Some u)

-- two states of the plain machine with the same words, holders of locks and arrivals, whose threads are related node by node
pub record StandAlike (Related : Thread → Thread → Type 0) (machine other : Plain) : Type 0 where
  pub memory : machine.memory ≡ other.memory
  pub holders : machine.holders ≡ other.holders
  pub arrivals : machine.arrivals ≡ other.arrivals
  pub count : length machine.threads ≡ length other.threads
  pub threads : (node : ℕ) → BothAlike Related (thread_in machine node) (thread_in other node)

-- a node makes this deed here too, and leads to a state that stands alike
pub record StepsAlike (Related : Thread → Thread → Type 0) (other : Plain) (node : ℕ) (deed : Deed) (after : Plain) : Type 0 where
  pub there : Plain
  pub is : plain_step other node ≡ Some (deed, there)
  pub alike : StandAlike Related after there

-- an order makes these acts here too, and leads to a state that stands alike
pub record RunsAlike (Related : Thread → Thread → Type 0) (other : Plain) (order : List ℕ) (acts : List Act) (final : Plain) : Type 0 where
  pub there : Plain
  pub is : plain_from other order ≡ Some (acts, there)
  pub alike : StandAlike Related final there
