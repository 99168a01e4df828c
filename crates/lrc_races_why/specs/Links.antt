-- By what an event comes right before a later one.
use Rattle.std.specs.Prelude.{◌≡◌, ◌≢◌, ℕ, ◌⊎◌, Some}
use Rattle.lrc_races_trace.specs.declared.event.Event.{Event}
use Rattle.lrc_races_trace.specs.declared.event.Operation.TheVariants as Op
use Rattle.lrc_races_trace.specs.Trace.{given, got}
use Rattle.lrc_races_why.specs.declared.link.Link.{Link}
use Rattle.lrc_races_why.specs.declared.link.Link.TheVariants.{Thread, Lock, Fork, Join, Barrier}

-- The first of these that holds of the two events:
pub data IsBy (a b : Event) : Link → Type 0 where
  -- both are of one thread,
  thread : a.thread ≡ b.thread → IsBy a b (Thread b.thread)
  -- the one releases or posts a lock that the other acquires or waits for,
  lock : {l : ℕ} → a.thread ≢ b.thread → given a.operation ≡ Some l → got b.operation ≡ Some l → IsBy a b (Lock l)
  -- it forks the other's thread,
  fork : a.thread ≢ b.thread → a.operation ≡ Op.Fork b.thread → IsBy a b (Fork b.thread)
  -- the other joins its thread, or a thread that it forks,
  join : {u : ℕ} → a.thread ≢ b.thread → a.operation ≢ Op.Fork b.thread → b.operation ≡ Op.Join u
      → (a.thread ≡ u) ⊎ (a.operation ≡ Op.Fork u) → IsBy a b (Join u)
  -- it arrives at a barrier from which the other departs.
  barrier : {x : ℕ} → a.thread ≢ b.thread → a.operation ≡ Op.Arrive x → b.operation ≡ Op.Depart x → IsBy a b (Barrier x)
