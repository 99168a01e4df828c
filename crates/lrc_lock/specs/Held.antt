-- The tokens at one node: how they come, are held, kept and passed on.
use Rattle.std.specs.Prelude.{◌≡◌, ℕ, ◌<◌, ◌≤◌, ◌==◌, Bool, true, false, List, All, length, map, slice_index_or}
use Rattle.std.specs.Prelude.{slice_set, if◌then◌else◌, Option, Some, None, Result, Ok, Err}
use Rattle.std.specs.List.{range_with_len}
use Rattle.lrc_time.specs.Time.{zeros}
use Rattle.lrc_lock.specs.declared.fault.LockFault.{LockFault}
use Rattle.lrc_lock.specs.declared.fault.LockFault.TheVariants.{NotMine, NotAsked, SecondSuccessor}
use Rattle.lrc_lock.specs.declared.state.Pass.{Pass}
use Rattle.lrc_lock.specs.declared.state.Waiter.{Waiter}
use Rattle.lrc_lock.specs.declared.state.LockState.{LockState}
use Rattle.lrc_lock.specs.declared.state.LockState.TheVariants.{Away, Awaited, Free, Held}
use Rattle.lrc_lock.specs.Lock.{manager_of, IsLockState}

-- this node, the number of nodes, and what the node knows of each lock
pub record HeldRecord : Type 0 where
  pub me : ℕ
  pub nodes : ℕ
  pub locks : List LockState

-- there are 1 to 16 nodes, of which this is one, and at most 64 locks, each in a state that can be
pub record IsHeld (held : HeldRecord) : Type 0 where
  pub me : held.me < held.nodes
  pub few : held.nodes ≤ 16
  pub locks : length held.locks ≤ 64
  pub states : All (IsLockState held.me held.nodes) held.locks

-- it is the same node, of as many, with as many locks
pub record SamePlace (before after : HeldRecord) : Type 0 where
  pub me : after.me ≡ before.me
  pub nodes : after.nodes ≡ before.nodes
  pub locks : length after.locks ≡ length before.locks

-- what the node knows of a lock
abbrev pub lock_at : HeldRecord → ℕ → LockState
lock_at held lock = slice_index_or held.locks lock Away

-- the node with another state of one lock
abbrev pub with_lock : HeldRecord → ℕ → LockState → HeldRecord
with_lock held lock state = record held { locks = slice_set held.locks lock state }

-- at the start the manager has the token, and the time kept with it is that of no interval
abbrev pub first_state : ℕ → ℕ → ℕ → LockState
first_state me nodes lock = if manager_of nodes lock == me then Free (zeros nodes) else Away

abbrev pub first_held : ℕ → ℕ → ℕ → HeldRecord
first_held me nodes locks = record {
  me = me;
  nodes = nodes;
  locks = map (first_state me nodes) (range_with_len 0 locks);
}

-- the node has asked for the token, and it has not come
abbrev pub is_awaited : LockState → Bool
is_awaited Away = false
is_awaited (Awaited successor) = true
is_awaited (Free kept) = false
is_awaited (Held successor) = false

-- ---- what a call does to a lock

-- it is refused, or the token doesn't leave, or it leaves with a pass
pub data LockStep : Type 0 where
  refuses : LockFault → LockStep
  stays : LockState → LockStep
  passes : Pass → LockStep

-- the lock afterwards: once the token has left it is gone
abbrev pub state_after : LockState → LockStep → LockState
state_after state (refuses fault) = state
state_after state (stays next) = next
state_after state (passes pass) = Away

-- the node afterwards
abbrev pub held_after : HeldRecord → ℕ → LockStep → HeldRecord
held_after held lock (refuses fault) = held
held_after held lock (stays next) = with_lock held lock next
held_after held lock (passes pass) = with_lock held lock Away

-- the pass, where there is one
abbrev pub pass_of : LockStep → Option Pass
pass_of (refuses fault) = None
pass_of (stays next) = None
pass_of (passes pass) = Some pass

-- the call takes what comes
abbrev pub is_taken : LockStep → Bool
is_taken (refuses fault) = false
is_taken _ = true

-- what a call answers that may be refused
abbrev pub answer_of : LockStep → Result (Option Pass) LockFault
answer_of (refuses fault) = Err fault
answer_of (stays next) = Ok None
answer_of (passes pass) = Ok (Some pass)

-- the grant that goes to a waiter
abbrev pub pass_to : ℕ → Waiter → List ℕ → Pass
pass_to lock waiter upto = record { lock = lock; to = waiter.node; since = waiter.time; upto = upto }

-- ---- the calls

-- a lock is free where its token is here and nobody holds it
abbrev pub is_free : LockState → Bool
is_free Away = false
is_free (Awaited successor) = false
is_free (Free kept) = true
is_free (Held successor) = false

-- the node takes a free lock by itself
abbrev pub taken : HeldRecord → ℕ → HeldRecord
taken held lock = if is_free (lock_at held lock) then with_lock held lock (Held None) else held

-- the node has asked for the token
abbrev pub asked : HeldRecord → ℕ → HeldRecord
asked held lock = with_lock held lock (Awaited None)

-- a request reaches the node: a free token goes at once, with the time of the last release here; a node that holds the
-- lock or awaits the token keeps one successor
abbrev pub forwarded_at : ℕ → Waiter → LockState → LockStep
forwarded_at lock waiter Away = refuses NotMine
forwarded_at lock waiter (Awaited None) = stays (Awaited (Some waiter))
forwarded_at lock waiter (Awaited (Some first)) = refuses SecondSuccessor
forwarded_at lock waiter (Free kept) = passes (pass_to lock waiter kept)
forwarded_at lock waiter (Held None) = stays (Held (Some waiter))
forwarded_at lock waiter (Held (Some first)) = refuses SecondSuccessor

-- nobody is its own successor
abbrev pub forwarded : HeldRecord → ℕ → ℕ → List ℕ → LockStep
forwarded held lock asker time =
    if asker == held.me
    then refuses NotMine
    else forwarded_at lock (record { node = asker; time = time }) (lock_at held lock)

-- the token comes: the node holds the lock, and its successor goes on waiting
abbrev pub granted_at : LockState → LockStep
granted_at Away = refuses NotAsked
granted_at (Awaited successor) = stays (Held successor)
granted_at (Free kept) = refuses NotAsked
granted_at (Held successor) = refuses NotAsked

abbrev pub granted : HeldRecord → ℕ → LockStep
granted held lock = granted_at (lock_at held lock)

-- what a grant is answered
abbrev pub grant_answer : LockStep → Result (Unit {0}) LockFault
grant_answer (refuses fault) = Err fault
grant_answer (stays next) = Ok tt
grant_answer (passes pass) = Ok tt

-- a lock that somebody holds is released: with no successor the token stays with the time, else it goes to the
-- successor with the time. A lock that nobody holds here is never released.
abbrev pub released_at : ℕ → List ℕ → LockState → LockStep
released_at lock now Away = stays Away
released_at lock now (Awaited successor) = stays (Awaited successor)
released_at lock now (Free kept) = stays (Free kept)
released_at lock now (Held None) = stays (Free now)
released_at lock now (Held (Some waiter)) = passes (pass_to lock waiter now)

abbrev pub released : HeldRecord → ℕ → List ℕ → LockStep
released held lock now = released_at lock now (lock_at held lock)

-- the node holds the lock
abbrev pub is_held : LockState → Bool
is_held Away = false
is_held (Awaited successor) = false
is_held (Free kept) = false
is_held (Held successor) = true

-- the token is here
abbrev pub has_token : LockState → Bool
has_token Away = false
has_token (Awaited successor) = false
has_token (Free kept) = true
has_token (Held successor) = true
