-- How often each node did something.
use Rattle.std.specs.Prelude.{ℕ, ◌+◌, Bool, true, false, List, slice_index, slice_set}

-- one more at the node, if its act is counted
abbrev pub tallied : List ℕ → ℕ → Bool → List ℕ
tallied counts node true = slice_set counts node (slice_index counts node + 1)
tallied counts node false = counts
