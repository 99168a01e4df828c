-- Names in the order in which they were first mentioned: the number of a name is how many stand before it.
use Rattle.std.specs.Prelude.{◌≡◌, ℕ, List, [], ◌∷◌, ◌++◌, Some, Vec, Contains, length, map, slice_get}
use Rattle.std.specs.declared.alloc.Global.{Global}
use Rattle.lrc_races_lines.specs.declared.table.Table.{Table}

abbrev pub names_of : Table → List (List ℕ)
names_of table = map (λ (name : Vec ℕ Global). name.items) table.names.keys

-- From the names before, this name gives the names after, and its number:
pub data IsNumbered (before : List (List ℕ)) (name : List ℕ) : List (List ℕ) → ℕ → Type 0 where
  -- a name met before has its number,
  met : {number : ℕ} → slice_get before number ≡ Some name → IsNumbered before name before number
  -- and a new one has the next
  new : ¬ Contains before name → IsNumbered before name (before ++ name ∷ []) (length before)
