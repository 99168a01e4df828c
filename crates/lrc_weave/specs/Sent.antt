-- Messages that are taken, and the turns that sent them.
use Rattle.std.specs.Prelude.{◌≡◌, ℕ, Some, List, take, slice_get}
use Rattle.lrc_envelope.specs.Envelope.{EnvelopeRecord}
use Rattle.lrc_protocol.specs.Follows.{log_of}
use Rattle.lrc_protocol.specs.Run.{taken, EntryRecord, next_stamp, Flying, sent_by}

-- a message for a node, with a stamp that gives this entry's behind these, and the turn that sent it
pub record IsSent (logs : List (List EntryRecord)) (n : ℕ) (before : List EntryRecord) (entry : EntryRecord) (flying : Flying) : Type 0 where
  pub receiver : flying.envelope.to ≡ n
  pub stamp : entry.stamp ≡ next_stamp before flying.stamp
  pub sender : ℕ
  pub place : ℕ
  pub turn : EntryRecord
  pub there : slice_get (log_of logs sender) place ≡ Some turn
  pub sent : (at : ℕ) × (slice_get (sent_by turn) at ≡ Some flying)

-- Each message that a log takes was sent to its node by some turn of the logs. So it is of logs of nodes that ran side by side,
-- also where some of them stopped: a node's turn is in its log before others can take what it sent.
pub record AreTakesSent (logs : List (List EntryRecord)) : Type 0 where
  pub each : (n k : ℕ) (entry : EntryRecord) (envelope : EnvelopeRecord) → slice_get (log_of logs n) k ≡ Some entry → entry.input ≡ taken envelope
      → (flying : Flying) × (flying.envelope ≡ envelope) × IsSent logs n (take k (log_of logs n)) entry flying
