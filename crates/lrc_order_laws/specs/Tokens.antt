-- The tokens at one node: what the text holds, and what is awaited; and where the token of each lock is.
use Rattle.std.specs.Prelude.{◌≡◌, ℕ, ◌==◌, Bool, true, false, List, length, filter}
use Rattle.lrc_exec.specs.Meaning.{Thread, holds}
use Rattle.lrc_lock.specs.Held.{HeldRecord, lock_at, is_awaited, is_held, has_token}
use Rattle.lrc_envelope.specs.Envelope.{EnvelopeRecord}
use Rattle.lrc_envelope.specs.declared.message.Message.{Message}
use Rattle.lrc_envelope.specs.declared.message.Message.TheVariants.{LockGrant}
use Rattle.lrc_protocol.specs.Node.{Course, going, Wait, awaits_grant}
use Rattle.lrc_protocol.specs.Run.{Logged}

-- a text that goes on holds just the locks whose tokens are held
abbrev pub HoldsTokens : Course → HeldRecord → Type 0
HoldsTokens course held = (thread : Thread) → course ≡ going thread → (lock : ℕ) → holds thread lock ≡ is_held (lock_at held lock)

-- who waits for a lock's grant awaits that token and no other, and nobody else awaits one
abbrev pub AwaitsOne : Wait → HeldRecord → Type 0
AwaitsOne wait held = (lock : ℕ) → is_awaited (lock_at held lock) ≡ awaits_grant lock wait

-- ---- the messages of one lock

-- a grant of this lock
abbrev pub is_grant_of : ℕ → Message → Bool
is_grant_of lock (LockGrant m) = m.lock == lock
is_grant_of lock _ = false

-- the grants of this lock among some messages
abbrev pub grants_of_lock : ℕ → List EnvelopeRecord → List EnvelopeRecord
grants_of_lock lock messages = filter (λ envelope. is_grant_of lock envelope.message) messages

-- how many of the nodes have the lock's token, free or held
abbrev pub tokens_at_nodes : ℕ → List Logged → ℕ
tokens_at_nodes lock nodes = length (filter (λ l. has_token (lock_at l.node.locks.held lock)) nodes)
