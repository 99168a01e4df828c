-- The ranges of what a run is asked for.
use Rattle.std.specs.Prelude.{ℕ, ◌≤◌}

-- how many statements a node may begin: 1 to 1,000,000
abbrev pub AreSteps : ℕ → Type 0
AreSteps steps = (1 ≤ steps) × (steps ≤ 1000000)
