-- Graphs, and the ways along their edges.
use Rattle.std.specs.Prelude.{◌≡◌, ℕ, ◌<◌, List, Bool, true, false, Some, Contains, Vec, length, slice_get, slice_index_or}
use Rattle.std.specs.declared.alloc.Global.{Global}
use Rattle.lrc_graph.specs.declared.graph.Graph.{Graph}

-- how many places there are
abbrev pub place_count : Graph → ℕ
place_count graph = length graph.before.items

-- an edge leads from one place to another
pub record HasEdge (graph : Graph) (from to : ℕ) : Type 0 where
  pub before : Vec ℕ Global
  pub there : slice_get graph.before.items to ≡ Some before
  pub listed : Contains before.items from

-- each edge leads from one of the places
abbrev pub IsWithin : Graph → Type 0
IsWithin graph = (from to : ℕ) → HasEdge graph from to → from < place_count graph

-- edges lead from one place to another, one after the other; none leads from a place to itself
pub data LeadsTo (graph : Graph) : (from to : ℕ) → Type 0 where
  here : (place : ℕ) → LeadsTo graph place place
  on : (from mid to : ℕ) → HasEdge graph from mid → LeadsTo graph mid to → LeadsTo graph from to

-- they lead from a place to one of the places at which the table says yes
pub record LeadsToSome (graph : Graph) (ends : List Bool) (from : ℕ) : Type 0 where
  pub to : ℕ
  pub is : slice_index_or ends to false ≡ true
  pub leads : LeadsTo graph from to
