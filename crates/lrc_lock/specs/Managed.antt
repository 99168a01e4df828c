-- The locks that a node manages: who asked last for each.
use Rattle.std.specs.Prelude.{◌≡◌, ℕ, ◌<◌, ◌≤◌, ◌==◌, List, All, length, map, slice_index, slice_set, if◌then◌else◌, Result, Ok, Err}
use Rattle.std.specs.List.{range_with_len}
use Rattle.lrc_lock.specs.declared.fault.LockFault.{LockFault}
use Rattle.lrc_lock.specs.declared.fault.LockFault.TheVariants.{NotMine}
use Rattle.lrc_lock.specs.Lock.{manager_of}

-- this node, the number of nodes, and for each lock its most recent asker. Where another node manages the lock that
-- entry stays the manager.
pub record ManagedRecord : Type 0 where
  pub me : ℕ
  pub nodes : ℕ
  pub recent : List ℕ

-- there are 1 to 16 nodes, of which this is one, and at most 64 locks, and each asker is a node
pub record IsManaged (managed : ManagedRecord) : Type 0 where
  pub me : managed.me < managed.nodes
  pub few : managed.nodes ≤ 16
  pub locks : length managed.recent ≤ 64
  pub askers : All (λ asker. asker < managed.nodes) managed.recent

-- it is the same node, of as many, with as many locks
pub record SameManager (before after : ManagedRecord) : Type 0 where
  pub me : after.me ≡ before.me
  pub nodes : after.nodes ≡ before.nodes
  pub locks : length after.recent ≡ length before.recent

-- at the start the manager counts as the most recent asker
abbrev pub first_managed : ℕ → ℕ → ℕ → ManagedRecord
first_managed me nodes locks = record {
  me = me;
  nodes = nodes;
  recent = map (manager_of nodes) (range_with_len 0 locks);
}

-- who asked last for a lock
abbrev pub recent_asker : ManagedRecord → ℕ → ℕ
recent_asker managed lock = slice_index managed.recent lock

-- the same once this node has asked for it
abbrev pub with_asker : ManagedRecord → ℕ → ℕ → ManagedRecord
with_asker managed lock asker = record managed { recent = slice_set managed.recent lock asker }

-- what a request does: nothing, or it goes on to a node
pub data Requested : Type 0 where
  refuses : LockFault → Requested
  forwards : ℕ → ManagedRecord → Requested

-- a request goes on to the most recent asker, and its sender is that from now on
abbrev pub requested : ManagedRecord → ℕ → ℕ → Requested
requested managed lock asker =
    if manager_of managed.nodes lock == managed.me
    then forwards (recent_asker managed lock) (with_asker managed lock asker)
    else refuses NotMine

-- what the manager answers
abbrev pub request_answer : Requested → Result ℕ LockFault
request_answer (refuses fault) = Err fault
request_answer (forwards to managed) = Ok to

-- what it is afterwards
abbrev pub managed_after : ManagedRecord → Requested → ManagedRecord
managed_after managed (refuses fault) = managed
managed_after managed (forwards to next) = next
