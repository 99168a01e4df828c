-- Settled threads in the order in which they first came: the number of one is how many stand before it.
use Rattle.std.specs.Prelude.{◌≡◌, ℕ, List, [], ◌∷◌, ◌++◌, Some, Contains, length, slice_get}
use Rattle.lrc_exec.specs.declared.spot.Spot.{Spot}
use Rattle.lrc_orders_settling.specs.declared.table.SettledThreads.{SettledThreads}

abbrev pub threads_in : SettledThreads → List Spot
threads_in table = table.spots.keys

-- From the threads before, this thread gives the threads after, and its number:
pub data IsNumbered (before : List Spot) (thread : Spot) : List Spot → ℕ → Type 0 where
  -- a thread that came before has its number,
  met : {number : ℕ} → slice_get before number ≡ Some thread → IsNumbered before thread before number
  -- and a new one has the next
  new : ¬ Contains before thread → IsNumbered before thread (before ++ thread ∷ []) (length before)
