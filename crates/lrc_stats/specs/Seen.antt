-- The numbers of the messages that turns took, by their senders.
use Rattle.std.specs.Prelude.{◌≡◌, ℕ, ◌==◌, Bool, false, List, [], slice_index_or}
use Rattle.std.specs.List.{list_any}
use Rattle.lrc_protocol.specs.Run.{EntryRecord, Input, run, taken}
use Rattle.lrc_stats.specs.declared.seen.Seen.{Seen}
use Rattle.lrc_stats.specs.Learned.{took}

-- the number is among those of a sender
abbrev pub is_seen : Seen → ℕ → ℕ → Bool
is_seen seen from number = list_any (λ n. n == number) (slice_index_or seen.numbers.items from [])

-- the message that makes a turn is among them
abbrev pub has_seen : Seen → Input → Bool
has_seen seen run = false
has_seen seen (taken envelope) = is_seen seen envelope.from envelope.number

-- the messages are those that these turns took
pub record HasSeen (before : List EntryRecord) (seen : Seen) : Type 0 where
  pub numbers : (from number : ℕ) → is_seen seen from number ≡ took before from number
