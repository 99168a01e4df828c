-- The label lines of what is declared.
use Rattle.std.specs.Prelude.{ℕ, ◌+◌, ◌-◌, List, [], ◌∷◌, ◌++◌, codes, decimal}
use Rattle.std.specs.List.{flat_map}
use Rattle.lrc_named_names.specs.Names.{Meaning, constant, shared, lock, function, Declared}
use Rattle.lrc_named_names.specs.Elements.{elements}

-- each of these sizes, a blank before it
abbrev pub sizes_text : List ℕ → List ℕ
sizes_text sizes = flat_map (λ size. codes " " ++ decimal size) sizes

-- the first and the last number of an array, and a name, a blank before it
abbrev pub ends_text : ℕ → ℕ → List ℕ
ends_text first last = codes "s " ++ decimal first ++ codes " " ++ decimal last

abbrev pub name_text : List ℕ → List ℕ
name_text name = codes " " ++ name

-- the line of an item, which begins with what it is of: its first number, of an array the last one too, its name, and all its sizes but the first
abbrev pub item_text : (kind name : List ℕ) → (first : ℕ) → (sizes : List ℕ) → List ℕ
item_text kind name first [] = kind ++ (codes " " ++ decimal first ++ codes " " ++ name ++ codes "\n")
item_text kind name first (size ∷ sizes) =
    kind ++ (ends_text first (first + (elements (size ∷ sizes) - 1)) ++ name_text name ++ sizes_text sizes ++ codes "\n")

abbrev pub label_text : List ℕ → Meaning → List ℕ
label_text name (constant n) = []
label_text name (shared item) = item_text (codes "#: word") name item.first item.sizes
label_text name (lock item) = item_text (codes "#: lock") name item.first item.sizes
label_text name (function parameters body) = []

-- those of all items, in the order in which they are declared
abbrev pub labels_text : List Declared → List ℕ
labels_text declared = flat_map (λ (d : Declared). label_text d.name d.meaning) declared
