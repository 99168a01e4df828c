-- Turns of all nodes in one order: by their stamps, and where those are the same by their nodes.
use Rattle.std.specs.Prelude.{◌≡◌, ℕ, ◌+◌, ◌<◌, ◌≤◌, ◌⊎◌, ◌==◌, ◌&&◌, Bool, true, false, Some, None, List, [], ◌∷◌, ◌++◌}
use Rattle.std.specs.Prelude.{length, replicate, take, drop, remove, slice_get, slice_set}
use Rattle.std.specs.List.{list_any}
use Rattle.lrc_envelope.specs.Envelope.{EnvelopeRecord}
use Rattle.lrc_protocol.specs.declared.event.Event.{Event}
use Rattle.lrc_protocol.specs.declared.event.Event.TheVariants.{Run, Deliver, Repeat}
use Rattle.lrc_protocol.specs.Follows.{come_of, log_of, next_entry}
use Rattle.lrc_protocol.specs.Run.{Input, run, taken, EntryRecord, next_stamp, Flying, sent_by, with_mark}

-- a stamp and its node come before another stamp and its node, or are the same
abbrev pub IsUpTo : ℕ → ℕ → ℕ → ℕ → Type 0
IsUpTo stamp n other m = (stamp < other) ⊎ ((stamp ≡ other) × (n ≤ m))

-- this is a node's next turn, and no other node's next turn is to stand before it
pub record IsNext (logs : List (List EntryRecord)) (come : List ℕ) (n : ℕ) (entry : EntryRecord) : Type 0 where
  pub next : next_entry logs come n ≡ Some entry
  pub least : (m : ℕ) (other : EntryRecord) → next_entry logs come m ≡ Some other → IsUpTo entry.stamp n other.stamp m

-- an input is this message: one from the same node with the same number
abbrev pub takes_same : EnvelopeRecord → Input → Bool
takes_same envelope run = false
takes_same envelope (taken other) = (other.from == envelope.from) && (other.number == envelope.number)

-- one of these entries takes this message
abbrev pub is_taken_among : EnvelopeRecord → List EntryRecord → Bool
is_taken_among envelope log = list_any (λ entry. takes_same envelope entry.input) log

-- the message in flight at a place is what this turn of a node takes, with the stamp that the message's own one gives
pub record IsTakenAt (n : ℕ) (before : List EntryRecord) (entry : EntryRecord) (flight : List Flying) (place : ℕ) (flying : Flying) : Type 0 where
  pub there : slice_get flight place ≡ Some flying
  pub input : entry.input ≡ taken flying.envelope
  pub receiver : flying.envelope.to ≡ n
  pub stamp : entry.stamp ≡ next_stamp before flying.stamp

-- The event that makes a node's turn, with the entries of its log before and after it, and with what is in flight before it; and
-- what is left of that: a message leaves the flight with its last take.
pub data MakesNextTurn (n : ℕ) (before after : List EntryRecord) (entry : EntryRecord) (flight : List Flying) : Event → List Flying → Type 0 where
  runs : entry.input ≡ run → MakesNextTurn n before after entry flight (Run n) flight
  takes_last : {place : ℕ} {flying : Flying} → IsTakenAt n before entry flight place flying → is_taken_among flying.envelope after ≡ false
      → MakesNextTurn n before after entry flight (Deliver place) (remove flight place)
  takes_again : {place : ℕ} {flying : Flying} → IsTakenAt n before entry flight place flying → is_taken_among flying.envelope after ≡ true
      → MakesNextTurn n before after entry flight (Repeat place) (with_mark flight place)

-- How many turns of each node have come, what is in flight, and the events so far: each event makes the turn that is next.
pub data Woven (logs : List (List EntryRecord)) : List ℕ → List Flying → List Event → Type 0 where
  nothing_yet : Woven logs (replicate (length logs) 0) [] []
  then_one : {come : List ℕ} {flight left : List Flying} {events : List Event} {event : Event} {n : ℕ} {entry : EntryRecord}
      → Woven logs come flight events → IsNext logs come n entry
      → MakesNextTurn n (take (come_of come n) (log_of logs n)) (drop (come_of come n + 1) (log_of logs n)) entry flight event left
      → Woven logs (slice_set come n (come_of come n + 1)) (left ++ sent_by entry) (events ++ event ∷ [])

-- these events make all turns
pub record AreWoven (logs : List (List EntryRecord)) (events : List Event) (flight : List Flying) : Type 0 where
  pub come : List ℕ
  pub woven : Woven logs come flight events
  pub all : (n : ℕ) → next_entry logs come n ≡ None
