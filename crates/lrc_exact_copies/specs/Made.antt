-- What closed intervals did, as the judge keeps it.
use Rattle.std.specs.Prelude.{◌≡◌, ℕ, zero, suc, ◌<◌, ◌≤◌, ◌==◌, List, [], ◌∷◌, Bool, Vec, Option, Some, None, length, slice_get, if◌then◌else◌}
use Rattle.std.specs.List.{list_any}
use Rattle.std.specs.declared.alloc.Global.{Global}
use Rattle.lrc_time.specs.Time.{entry}
use Rattle.lrc_exact.specs.Memory.{Interval}
use Rattle.lrc_exact.specs.Rule.{Knowledge, no_interval}
use Rattle.lrc_exact_copies.specs.declared.made.Change.{Change}
use Rattle.lrc_exact_copies.specs.declared.made.Made.{Made}

-- whether the number is one of these
abbrev pub has : List ℕ → ℕ → Bool
has xs x = list_any (λ y. y == x) xs

-- the value to which the first change of the word sets it, if there is one
abbrev pub change_in : List Change → ℕ → Option ℕ
change_in [] word = None
change_in (change ∷ changes) word = if change.word == word then Some change.value else change_in changes word

-- the interval that did this
abbrev pub interval_of : Made → Interval
interval_of made =
    record {
      weight = made.weight;
      changed = change_in made.changes.items;
      names = has made.pages.items;
    }

-- an interval of a list, or that of nobody
abbrev pub interval_or : Option Made → Interval
interval_or (Some made) = interval_of made
interval_or None = no_interval

-- the intervals of a node
abbrev pub row_or : Option (Vec Made Global) → List Made
row_or (Some row) = row.items
row_or None = []

abbrev pub row_of : List (Vec Made Global) → ℕ → List Made
row_of made node = row_or (slice_get made node)

-- the interval of a row with this index, from 1 on
abbrev pub in_row : List Made → ℕ → Interval
in_row row zero = no_interval
in_row row (suc index) = interval_or (slice_get row index)

-- each interval that is known is one of these
pub record AreAmong (made : List (Vec Made Global)) (knows : Knowledge) : Type 0 where
  pub there : (node : ℕ) → entry knows.time node ≤ length (row_of made node)
  pub is : (node index : ℕ) → index < entry knows.time node → knows.interval node (suc index) ≡ in_row (row_of made node) (suc index)
