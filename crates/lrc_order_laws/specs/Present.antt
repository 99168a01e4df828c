-- The time that a node has between its acts, by what it waits for.
use Rattle.std.specs.Prelude.{◌≡◌, ℕ, List}
use Rattle.lrc_time.specs.Time.{joined}
use Rattle.lrc_clock.specs.Times.{raised}
use Rattle.lrc_protocol.specs.Node.{Wait, nothing, grant, departure, access, upkeep, discard}

-- A node's time is that of its last act. Where it waits for a grant its own entry is one greater, for the interval that it
-- has closed; and in a collection it has learned the barrier's time already.
abbrev pub IsPresent : ℕ → Wait → List ℕ → List ℕ → Type 0
IsPresent node nothing last time = time ≡ last
IsPresent node (grant lock) last time = time ≡ raised last node
IsPresent node departure last time = time ≡ last
IsPresent node (access need) last time = time ≡ last
IsPresent node (upkeep collection needs) last time = time ≡ joined last collection.time
IsPresent node (discard collection) last time = time ≡ joined last collection.time
