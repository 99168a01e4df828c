-- How many turns each node made.
use Rattle.std.specs.Prelude.{◌≡◌, ℕ, ◌<◌, List, slice_index}
use Rattle.lrc_turns_text.specs.Turns.{Made, made_by}

-- these are the counts of each node's turns
abbrev pub Counts : List Made → List ℕ → Type 0
Counts turns counts = (node : ℕ) → node < 256 → slice_index counts node ≡ made_by node turns
