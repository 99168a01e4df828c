-- The accesses of a run, by kind.
use Rattle.std.specs.Prelude.{ℕ, Bool, true, false, List}
use Rattle.lrc_trace.specs.declared.act.Act.{Act}
use Rattle.lrc_trace.specs.Conflict.{Reads, Writes}

-- at the position the node writes the word, or reads it
abbrev pub AccessesBy : Bool → List Act → ℕ → ℕ → ℕ → Type 0
AccessesBy true run position node word = Writes run position node word
AccessesBy false run position node word = Reads run position node word
