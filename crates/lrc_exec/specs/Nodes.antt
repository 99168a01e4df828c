-- How many nodes a run may have.
use Rattle.std.specs.Prelude.{ℕ, ◌≤◌}

-- there are 1 to 16 nodes
abbrev pub AreNodes : ℕ → Type 0
AreNodes nodes = (1 ≤ nodes) × (nodes ≤ 16)
