-- What stands for the items of a list, one after another.
use Rattle.std.specs.Prelude.{ℕ, List}
use Rattle.std.specs.List.{enumerate_from, flat_map}

-- for each item, by its position in the list
abbrev pub each : {X Y : Type 0} → (ℕ → X → List Y) → List X → List Y
each of items = flat_map (λ at. of at.0 at.1) (enumerate_from 0 items)
