-- One of some cores.
use Rattle.std.proofs.Common.{◌≡◌, ℕ, zero, suc, ◌<◌, List, [], ◌∷◌, map, length, get_or, refl, arith}
use Rattle.std.specs.Prelude.{Some, slice_get}
use Rattle.lrc_named_core.specs.declared.tree.Expression as code_core
use Rattle.lrc_named_core.specs.View.{expression_of}

pub core_some : (xs : List code_core.Expression) (i : ℕ) (d : code_core.Expression) → i < length xs
    → slice_get (map expression_of xs) i ≡ Some (expression_of (get_or xs i d))
core_some [] i d lt = absurd (omega arith)
core_some (x ∷ xs) zero d lt = refl
core_some (x ∷ xs) (suc i) d lt = core_some xs i d (omega arith)
