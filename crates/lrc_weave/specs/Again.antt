-- Turns that take a message which a later turn takes again.
use Rattle.std.specs.Prelude.{◌≡◌, ℕ, ◌+◌, ◌==◌, ◌&&◌, Bool, false, Some, List, length, drop, slice_get}
use Rattle.std.specs.List.{list_any}
use Rattle.lrc_envelope.specs.Envelope.{EnvelopeRecord}
use Rattle.lrc_protocol.specs.Run.{Input, run, taken, EntryRecord}
use Rattle.lrc_weave.specs.Woven.{is_taken_among}

-- one of these senders and numbers is the message's
abbrev pub has_key : List (ℕ × ℕ) → EnvelopeRecord → Bool
has_key keys message = list_any (λ key. (message.from == key.0) && (message.number == key.1)) keys

-- what an input takes is among them
abbrev pub is_noted : List (ℕ × ℕ) → Input → Bool
is_noted keys run = false
is_noted keys (taken message) = has_key keys message

-- one of these turns takes what an input takes
abbrev pub is_again : Input → List EntryRecord → Bool
is_again run later = false
is_again (taken message) later = is_taken_among message later

-- for each turn of a log, whether a later one takes the same message
pub record AreAgain (log : List EntryRecord) (again : List Bool) : Type 0 where
  pub count : length again ≡ length log
  pub each : (place : ℕ) (entry : EntryRecord) → slice_get log place ≡ Some entry
      → slice_get again place ≡ Some (is_again entry.input (drop (place + 1) log))

-- the same of all logs
pub record AreAllAgain (logs : List (List EntryRecord)) (again : List (List Bool)) : Type 0 where
  pub count : length again ≡ length logs
  pub each : (node : ℕ) (log : List EntryRecord) → slice_get logs node ≡ Some log
      → (bits : List Bool) × (slice_get again node ≡ Some bits) × AreAgain log bits
