-- Numbers of pages, ascending.
use Rattle.std.specs.Prelude.{ℕ, ◌-◌, ◌<◌, List, length, Option, slice_get, AllPairs}

-- each number is below those after it
abbrev pub IsRising : List ℕ → Type 0
IsRising pages = AllPairs (λ p q. p < q) pages

-- the greatest number
abbrev pub last_page : List ℕ → Option ℕ
last_page pages = slice_get pages (length pages - 1)
