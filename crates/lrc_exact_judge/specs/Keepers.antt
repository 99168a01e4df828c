-- Which node keeps each page at a collection, as the judge finds it.
use Rattle.std.specs.Prelude.{◌≡◌, ℕ, ◌<◌, Bool, List, Vec, Option, Some, None, if◌then◌else◌}
use Rattle.std.specs.declared.alloc.Global.{Global}
use Rattle.std.specs.Ordering.{nat_cmp}
use Rattle.std.specs.BTreeMap.{BTreeMap, get}
use Rattle.lrc_exact.specs.Rule.{Knowledge, Shape, State, keeper_of, kept_value, page_of}
use Rattle.lrc_exact_copies.specs.declared.made.Made.{Made}
use Rattle.lrc_exact_copies.specs.Made.{in_row, row_of}

-- the node is added where it has the page and no node is there yet
abbrev pub kept_or : ℕ → Bool → Option ℕ → Option ℕ
kept_or node has (Some other) = Some other
kept_or node has None = if has then Some node else None

abbrev pub AddsKeeper : ℕ → (ℕ → Bool) → BTreeMap ℕ ℕ → BTreeMap ℕ ℕ → Type 0
AddsKeeper node has old new = (page : ℕ) → get nat_cmp new page ≡ kept_or node (has page) (get nat_cmp old page)

-- what is known where the intervals are these
abbrev pub known_of : List (Vec Made Global) → List ℕ → Knowledge
known_of made time = record { time = time; interval = λ node index. in_row (row_of made node) index }

-- a node below the number of nodes is the keeper, or none is, and the number of nodes stands for it
abbrev pub IsKeeper : ℕ → ℕ → Option ℕ → Type 0
IsKeeper nodes keeper (Some node) = (keeper ≡ node) × (node < nodes)
IsKeeper nodes keeper None = keeper ≡ nodes

-- the keepers of all pages
abbrev pub AreKeepers : ℕ → List (Vec Made Global) → List ℕ → List ℕ → BTreeMap ℕ ℕ → Type 0
AreKeepers nodes made dropped all keepers =
    (page : ℕ) → IsKeeper nodes (keeper_of nodes dropped (known_of made all) page) (get nat_cmp keepers page)

-- each of them is a node
abbrev pub AreNodes : ℕ → BTreeMap ℕ ℕ → Type 0
AreNodes nodes keepers = (page node : ℕ) → get nat_cmp keepers page ≡ Some node → node < nodes

-- the nodes have, once they have learned this, what their states at the arrives had, and no other node arrived
pub record AreKeptValues (nodes : ℕ) (knows : Knowledge) (arrived : ℕ → Option State) (have : ℕ → State) : Type 0 where
  pub values : (node : ℕ) → node < nodes → (word : ℕ) → kept_value nodes knows (arrived node) word ≡ ((have node).words word).value
  pub none : arrived nodes ≡ None

-- the value that a keeper has of a word; 0 where there is no keeper
abbrev pub value_at : Option ℕ → (ℕ → State) → ℕ → ℕ
value_at (Some node) have word = ((have node).words word).value
value_at None have word = 0

-- the keepers have these values of all words
abbrev pub AreValues : Shape → BTreeMap ℕ ℕ → (ℕ → State) → (ℕ → ℕ) → Type 0
AreValues shape keepers have values = (word : ℕ) → value_at (get nat_cmp keepers (page_of shape word)) have word ≡ values word
