-- Lists in words: items parted by a comma and a blank.
use Rattle.std.specs.Prelude.{ℕ, List, [], ◌∷◌, ◌++◌, codes, decimal, if◌then◌else◌, length, nat_le, take}
use Rattle.std.specs.List.{flat_map}

-- numbers behind others
abbrev pub later_text : (comma : List ℕ) → List ℕ → List ℕ
later_text comma numbers = flat_map (λ number. comma ++ decimal number) numbers

unfoldable pub joined_text : (comma : List ℕ) → List ℕ → List ℕ
joined_text comma [] = []
joined_text comma (number ∷ numbers) = decimal number ++ later_text comma numbers

-- positions, values and nodes; and the entries of a time, which a comma alone parts
abbrev pub numbers_text : List ℕ → List ℕ
numbers_text numbers = joined_text (codes ", ") numbers

abbrev pub time_text : List ℕ → List ℕ
time_text entries = joined_text (codes ",") entries

-- numbers, 8 at most
unfoldable pub some_text : List ℕ → List ℕ
some_text numbers = if nat_le (length numbers) 8 then numbers_text numbers else numbers_text (take 8 numbers) ++ codes ", .."

-- one node or several
unfoldable pub node_word : List ℕ → List ℕ
node_word [] = codes "node "
node_word (other ∷ others) = codes "nodes "

-- a line on nodes, if there are some
unfoldable pub nodes_line : (said : List ℕ) → List ℕ → List ℕ
nodes_line said [] = []
nodes_line said (node ∷ nodes) = said ++ node_word nodes ++ numbers_text (node ∷ nodes) ++ codes "\n"
