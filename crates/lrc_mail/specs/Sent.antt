-- How many messages were sent.
use Rattle.std.specs.Prelude.{ℕ, ◌+◌, ◌≤◌, List, All, length, Option, Some, None, nat_le, if◌then◌else◌}
use Rattle.lrc_envelope.specs.declared.limits.TheConstants.{MOST_NODES}
use Rattle.lrc_protocol.specs.Times.{MOST_NUMBER}

-- a count for each of at most so many nodes, no more than there are numbers
pub record AreCounts (sent : List ℕ) : Type 0 where
  pub nodes : length sent ≤ MOST_NODES
  pub few : All (λ count. count ≤ MOST_NUMBER + 1) sent

-- the number of the next message, where so many were sent before
abbrev pub number_after : ℕ → ℕ → Option ℕ
number_after first before = if nat_le (first + before) MOST_NUMBER then Some (first + before) else None
