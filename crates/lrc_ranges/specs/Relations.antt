-- What two values that are compared are to one another.
use Rattle.std.specs.Prelude.{◌≡◌, ◌≢◌, ◌≤◌, ◌<◌, ℕ}
use Rattle.lrc_ranges.specs.declared.narrow.Relation.{Relation}
use Rattle.lrc_ranges.specs.declared.narrow.Relation.TheVariants.{Equal, NotEqual, Less, LessOrEqual, Greater, GreaterOrEqual}

abbrev pub Relates : Relation → ℕ → ℕ → Type 0
Relates Equal x y = x ≡ y
Relates NotEqual x y = x ≢ y
Relates Less x y = x < y
Relates LessOrEqual x y = x ≤ y
Relates Greater x y = y < x
Relates GreaterOrEqual x y = y ≤ x
