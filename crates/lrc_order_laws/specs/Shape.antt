-- The shape of a node: it keeps its setting, and its lists have an entry for each node or lock.
use Rattle.std.specs.Prelude.{◌≡◌, length}
use Rattle.lrc_exec.specs.Meaning.{Setting}
use Rattle.lrc_protocol.specs.Locks.{Locks}

-- with this setting: the node's time has an entry for each node, and its tokens and the askers that it notes are those of
-- this node, with a place for each lock
pub record HasShape (setting : Setting) (locks : Locks) : Type 0 where
  pub times : length locks.time ≡ setting.nodes
  pub holder : locks.held.me ≡ setting.me
  pub held_nodes : locks.held.nodes ≡ setting.nodes
  pub tokens : length locks.held.locks ≡ setting.locks
  pub manager : locks.managed.me ≡ setting.me
  pub managed_nodes : locks.managed.nodes ≡ setting.nodes
  pub askers : length locks.managed.recent ≡ setting.locks
