-- Names where they are declared.
use Rattle.std.specs.Prelude.{ℕ, ◌+◌, ◌&&◌, Bool, Option, None, Some, List, [], ◌∷◌, if◌then◌else◌, length, map, nat_le}
use Rattle.std.specs.List.{flat_map}
use Rattle.std.specs.Option.{option_or}
use Rattle.lrc_named_tree.specs.Tree.{Named, Expression, Expressions, none, more, Place, Declaration, node_count, constant, shared, lock, function}
use Rattle.lrc_named_tree.specs.Ends.{last_of}
use Rattle.lrc_named_entries.specs.declared.entry.Sort.{Sort}
use Rattle.lrc_named_entries.specs.declared.entry.Sort.TheVariants as sorts

-- a name where it is declared: what it is, how many indices or arguments it takes, and the last token of what declares it
pub record Entry : Type 0 where
  pub name : Named
  pub sort : Sort
  pub count : ℕ
  pub last : ℕ

-- the last token of some expressions, or the one before them where there are none
abbrev pub last_behind : ℕ → Expressions → ℕ
last_behind before none = before
last_behind before (more e others) = last_behind (last_of e) others

-- how many expressions these are
abbrev pub count_of : Expressions → ℕ
count_of none = 0
count_of (more e others) = count_of others + 1

abbrev pub constant_entry : Named → Expression → Entry
constant_entry name value = record { name = name; sort = sorts.Constant; count = 0; last = last_of value }

abbrev pub function_entry : Named → List Named → Expression → Entry
function_entry name parameters body = record { name = name; sort = sorts.Function; count = length parameters; last = last_of body }

abbrev pub item_entry : Sort → Place → Entry
item_entry sort p = record { name = p.name; sort = sort; count = count_of p.indices; last = last_behind p.name.at p.indices }

-- what a declaration declares, parameters aside
abbrev pub entries_in : Declaration → List Entry
entries_in (node_count at n) = []
entries_in (constant at name value) = constant_entry name value ∷ []
entries_in (shared at items) = map (item_entry sorts.Shared) items
entries_in (lock at items) = map (item_entry sorts.Lock) items
entries_in (function at name parameters body) = function_entry name parameters body ∷ []

abbrev pub entries_of : List Declaration → List Entry
entries_of declarations = flat_map entries_in declarations

-- whether a token stands from a function's name to the end of its body
abbrev pub belongs : ℕ → Named → Expression → Bool
belongs at name body = nat_le name.at at && nat_le at (last_of body)

-- the parameters of a function to which a token belongs
abbrev pub parameters_in : ℕ → Declaration → List Named
parameters_in at (function begins name parameters body) = if belongs at name body then parameters else []
parameters_in at _ = []

abbrev pub parameters_around : ℕ → List Declaration → List Named
parameters_around at declarations = flat_map (parameters_in at) declarations

-- the token with which a `nodes` declaration begins
abbrev pub nodes_in : Declaration → Option ℕ
nodes_in (node_count at n) = Some at
nodes_in other = None

-- that of the first one
abbrev pub first_nodes : List Declaration → Option ℕ
first_nodes [] = None
first_nodes (first ∷ others) = option_or (nodes_in first) (first_nodes others)
