-- The tokens of locks, as a node knows of them.
use Rattle.std.specs.Prelude.{ℕ, ◌==◌, ◌||◌, Bool, true, false, not, Option, None, Some, List, ◌++◌, codes, decimal, filter}
use Rattle.std.specs.Prelude.{if◌then◌else◌, is_some}
use Rattle.std.specs.List.{range_with_len}
use Rattle.lrc_lock.specs.Held.{lock_at}
use Rattle.lrc_lock.specs.Lock.{manager_of}
use Rattle.lrc_lock.specs.Managed.{ManagedRecord, recent_asker}
use Rattle.lrc_lock.specs.declared.state.LockState.{LockState}
use Rattle.lrc_lock.specs.declared.state.LockState.TheVariants.{Away, Awaited, Free, Held}
use Rattle.lrc_lock.specs.declared.state.Waiter.{Waiter}
use Rattle.lrc_protocol.specs.Locks.{Locks}
use Rattle.lrc_state_text.specs.Json.{listed, number_or_null, numbers_text}

unfoldable pub token_name : LockState → List ℕ
token_name Away = codes "away"
token_name (Awaited successor) = codes "awaited"
token_name (Free kept) = codes "free"
token_name (Held successor) = codes "held"

-- the time of the last release here, where the token is free: it will be granted with it
unfoldable pub released_text : LockState → List ℕ
released_text Away = codes "null"
released_text (Awaited successor) = codes "null"
released_text (Free kept) = numbers_text kept
released_text (Held successor) = codes "null"

-- a successor, and the time that came with its request
unfoldable pub successor_text : Option Waiter → List ℕ
successor_text None = codes "null"
successor_text (Some waiter) = codes "{\"node\":" ++ decimal waiter.node ++ codes ",\"time\":" ++ numbers_text waiter.time ++ codes "}"

unfoldable pub next_text : LockState → List ℕ
next_text Away = codes "null"
next_text (Awaited successor) = successor_text successor
next_text (Free kept) = codes "null"
next_text (Held successor) = successor_text successor

-- who asked last for a lock that this node manages
abbrev pub asker_of : ManagedRecord → (lock_number : ℕ) → Option ℕ
asker_of managed lock_number =
    if manager_of managed.nodes lock_number == managed.me then Some (recent_asker managed lock_number) else None

unfoldable pub lock_text : Locks → (lock_number : ℕ) → List ℕ
lock_text locks lock_number =
    codes "{\"lock\":" ++ decimal lock_number ++ codes ",\"token\":\"" ++ token_name (lock_at locks.held lock_number)
    ++ codes "\",\"released\":" ++ released_text (lock_at locks.held lock_number)
    ++ codes ",\"next\":" ++ next_text (lock_at locks.held lock_number)
    ++ codes ",\"recent\":" ++ number_or_null (asker_of locks.managed lock_number) ++ codes "}"

abbrev pub is_away : LockState → Bool
is_away Away = true
is_away (Awaited successor) = false
is_away (Free kept) = false
is_away (Held successor) = false

-- the locks whose token is not away, or that this node manages
abbrev pub is_shown : Locks → (lock_number : ℕ) → Bool
is_shown locks lock_number = not (is_away (lock_at locks.held lock_number)) || is_some (asker_of locks.managed lock_number)

abbrev pub locks_shown : Locks → (count : ℕ) → List ℕ
locks_shown locks count = filter (is_shown locks) (range_with_len 0 count)

abbrev pub locks_member : Locks → (count : ℕ) → List ℕ
locks_member locks count = codes ",\"locks\":[" ++ listed (lock_text locks) (locks_shown locks count) ++ codes "]"
