-- Settling as each thread does it by itself.
use Rattle.std.specs.Prelude.{◌≡◌, ℕ, ◌≤◌, ◌⊎◌, true, false, List, [], ◌∷◌, Option, Some, None, slice_index_or}
use Rattle.lrc_trace.specs.declared.act.Act.{Act}
use Rattle.lrc_trace.specs.declared.act.Deed.{Deed}
use Rattle.lrc_trace.specs.declared.act.Deed.TheVariants.{Release}
use Rattle.lrc_exec.specs.Meaning.{Thread, next_of}
use Rattle.lrc_exec.specs.Plain.{Plain, thread_in}
use Rattle.lrc_exec.specs.Follows.{Goes, deeds_of}
use Rattle.lrc_orders_laws.specs.Free.{is_free, Turns}
use Rattle.lrc_orders_laws.specs.Settling.{Settles}

-- a thread makes these free deeds and comes to that one, whose next act is not free, or which turns for ever; or it has stopped
pub data ThreadSettles : Option Thread → List Deed → Option Thread → Type 0 where
  stopped : ThreadSettles None [] None
  waits : (thread : Thread) → is_free (next_of thread) ≡ false → ThreadSettles (Some thread) [] (Some thread)
  turns : (thread : Thread) → Turns thread → ThreadSettles (Some thread) [] (Some thread)
  goes : (thread : Thread) (deed : Deed) (after there : Option Thread) (deeds : List Deed) → Goes (next_of thread) deed after → is_free (next_of thread) ≡ true
      → ¬ Turns thread → ThreadSettles after deeds there → ThreadSettles (Some thread) (deed ∷ deeds) there

-- the acts are of nodes from this one on, ascending
abbrev pub AreAscending : ℕ → List Act → Type 0
AreAscending node [] = Unit {0}
AreAscending node (act ∷ acts) = (node ≤ act.node) × AreAscending act.node acts

-- each thread settles by itself, node by node, and the memory stays
pub record SettlesByThreads (machine : Plain) (acts : List Act) (final : Plain) : Type 0 where
  pub threads : (node : ℕ) → ThreadSettles (thread_in machine node) (deeds_of node acts) (thread_in final node)
  pub ascending : AreAscending 0 acts
  pub memory : final.memory ≡ machine.memory

-- one of the acts gives the lock back
abbrev pub IsGivenBack : ℕ → List Act → Type 0
IsGivenBack lock [] = ⊥
IsGivenBack lock (act ∷ acts) = (act.deed ≡ Release lock) ⊎ IsGivenBack lock acts

-- a lock that is given back is free, and any other one is held as before
pub record LocksSettle (machine : Plain) (acts : List Act) (final : Plain) : Type 0 where
  pub freed : (lock : ℕ) → IsGivenBack lock acts → slice_index_or final.holders lock None ≡ None
  pub kept : (lock : ℕ) → ¬ IsGivenBack lock acts → slice_index_or final.holders lock None ≡ slice_index_or machine.holders lock None

-- the state settles, each thread by these deeds and to that thread
pub record SettlesTogether (machine : Plain) (deeds : ℕ → List Deed) (there : ℕ → Option Thread) : Type 0 where
  pub acts : List Act
  pub final : Plain
  pub settles : Settles machine acts final
  pub made : (node : ℕ) → deeds_of node acts ≡ deeds node
  pub comes : (node : ℕ) → thread_in final node ≡ there node
