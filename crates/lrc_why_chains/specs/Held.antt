-- The locks that a node holds.
use Rattle.std.specs.Prelude.{◌≡◌, ℕ, ◌<◌, ◌↔◌, Bool, false, IsTrue, List, length, slice_index_or}
use Rattle.lrc_trace.specs.declared.act.Act.{Act}
use Rattle.lrc_trace.specs.Synchronization.{Holds}

-- each of the 256 locks that an act can name is marked exactly where the node holds it at the position
pub record AreHeld (run : List Act) (node position : ℕ) (held : List Bool) : Type 0 where
  pub all : length held ≡ 256
  pub exact : (l : ℕ) → l < 256 → IsTrue (slice_index_or held l false) ↔ Holds run position node l
