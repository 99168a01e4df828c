-- Lists that are not empty, as the definitions see them.
use Rattle.std.proofs.Common.{◌≡◌, ◌≤◌, ℕ, false, List, [], ◌∷◌, length, refl, arith}
use Rattle.lrc_named_tree.specs.declared.tree.Expression as code_tree
use Rattle.lrc_named_tree.specs.View.{expressions_of}
use Rattle.lrc_named_core.specs.declared.tree.Statement.{Statement}
use Rattle.lrc_named_core.specs.Tree.{Expression, index}
use Rattle.lrc_named_core.specs.View.{block_of}
use Rattle.lrc_named_translation.specs.Made.{is_plain, trap_at}

-- statements come before the expression
pub not_plain : (before : List Statement) (p : Expression) → 1 ≤ length before → false ≡ is_plain (block_of before) p
not_plain [] p some = absurd (omega arith)
not_plain (s ∷ before) p some = refl

-- an item with indices
pub trap_some : (name : List ℕ) (indices : List code_tree.Expression) → 1 ≤ length indices → index name ≡ trap_at name (expressions_of indices)
trap_some name [] some = absurd (omega arith)
trap_some name (e ∷ indices) some = refl
