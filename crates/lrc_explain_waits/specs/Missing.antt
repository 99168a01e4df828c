-- Who has not come to a barrier.
use Rattle.std.specs.Prelude.{ℕ, ◌==◌, ◌&&◌, not, Bool, List, [], ◌∷◌, Option, Some, None, if◌then◌else◌, nat_lt}
use Rattle.lrc_text.specs.Each.{each}
use Rattle.lrc_explain_waits.specs.declared.missing.Missing.{Missing}
use Rattle.lrc_explain_waits.specs.declared.stand.Stand.{Stand}

-- whether a node has not come to the barrier of node `me`, another one, that has this number
abbrev pub has_not_come : (number me node : ℕ) → Stand → Bool
has_not_come number me node stand = not (node == me) && nat_lt stand.arrives number

abbrev pub missing_if : Bool → ℕ → Stand → List Missing
missing_if missing node stand = if missing then record { node = node; fate = stand.fate } ∷ [] else []

-- the nodes that have not come to it, ascending
abbrev pub missing_nodes : (number me : ℕ) → List Stand → List Missing
missing_nodes number me stands = each (λ node stand. missing_if (has_not_come number me node stand) node stand) stands

-- the first of these nodes
abbrev pub first_of : List Missing → Option ℕ
first_of [] = None
first_of (missing ∷ others) = Some missing.node
