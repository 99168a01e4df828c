-- Which acts of a run are known to whom: to each node, to a lock by its releases, and to a barrier by its arrives. The first so many
-- barriers are gone: of what was known to them nothing is said.
use Rattle.std.specs.Prelude.{◌≡◌, ℕ, ◌+◌, List}
use Rattle.lrc_trace.specs.declared.act.Act.{Act}
use Rattle.lrc_trace.specs.declared.act.Deed.{Deed}
use Rattle.lrc_trace.specs.declared.act.Deed.TheVariants.{Write, Release, Arrive}
use Rattle.lrc_trace.specs.Run.{Does, IsDone, arrives_before}
use Rattle.lrc_trace.specs.Order.{Reaches}

-- Those who know have numbers: first the nodes, then the locks, then the barriers by their episodes, from the first that is not gone on. What
-- is done at a position is told
pub data Tells (nodes locks gone : ℕ) (run : List Act) (position knower : ℕ) : Type 0 where
  -- to its node,
  to_node : {deed : Deed} → Does run position knower deed → Tells nodes locks gone run position knower
  -- to the lock that it releases,
  to_lock : {node l : ℕ} → knower ≡ nodes + l → Does run position node (Release l) → Tells nodes locks gone run position knower
  -- and to the barrier that it comes to.
  to_barrier : {node : ℕ} (episode : ℕ) → knower ≡ nodes + locks + episode → arrives_before run node position ≡ gone + episode → Does run position node Arrive
      → Tells nodes locks gone run position knower

-- The position is known: it is one that was told, or happens before one.
pub record Knows (nodes locks gone : ℕ) (run : List Act) (knower position : ℕ) : Type 0 where
  pub through : ℕ
  pub told : Tells nodes locks gone run through knower
  pub reaches : Reaches run position through

-- At the position this value is written to the word, and that is known.
pub record KnowsWrite (nodes locks gone : ℕ) (run : List Act) (word knower position value : ℕ) : Type 0 where
  pub write : IsDone run position (Write word value)
  pub knows : Knows nodes locks gone run knower position
