-- The later of positions.
use Rattle.std.specs.Prelude.{ℕ, Option, Some, None, max}

-- the greater of what there is
abbrev pub later_of : Option ℕ → Option ℕ → Option ℕ
later_of None second = second
later_of (Some i) None = Some i
later_of (Some i) (Some j) = Some (max i j)
