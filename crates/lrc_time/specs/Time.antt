-- Vector times: lists of numbers, one for each node. Keleher, Cox and Zwaenepoel (1992) order intervals by them.
use Rattle.std.specs.Prelude.{ℕ, ◌≤◌, ◌&&◌, Bool, true, List, [], ◌∷◌, max, nat_le, replicate, slice_index, sum}

-- the time at which no node has closed an interval
abbrev pub zeros : ℕ → List ℕ
zeros nodes = replicate nodes 0

-- how many intervals of a node the time knows; 0 where the time has no entry for the node
abbrev pub entry : List ℕ → ℕ → ℕ
entry time node = slice_index time node

-- the time knows this interval of the node
abbrev pub Knows : List ℕ → ℕ → ℕ → Type 0
Knows time node index = index ≤ entry time node

-- `Knows` as a test
abbrev pub knows : List ℕ → ℕ → ℕ → Bool
knows time node index = nat_le index (entry time node)

-- every entry of the first time is at least as large as that of the second
abbrev pub Covers : List ℕ → List ℕ → Type 0
Covers a b = (node : ℕ) → entry b node ≤ entry a node

-- `Covers` as a test
abbrev pub covers : List ℕ → List ℕ → Bool
covers xs [] = true
covers [] (y ∷ ys) = nat_le y 0 && covers [] ys
covers (x ∷ xs) (y ∷ ys) = nat_le y x && covers xs ys

-- the greater of each two entries
abbrev pub joined : List ℕ → List ℕ → List ℕ
joined [] ys = ys
joined (x ∷ xs) [] = x ∷ xs
joined (x ∷ xs) (y ∷ ys) = max x y ∷ joined xs ys

-- the sum of the entries
abbrev pub weight_of : List ℕ → ℕ
weight_of time = sum time
