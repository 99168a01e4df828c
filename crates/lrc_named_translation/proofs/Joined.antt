-- The name that holds the value of a junction.
use Rattle.std.proofs.Common.{◌≡◌, ℕ, refl}
use Rattle.lrc_named_tree.specs.Ends.{first_of, last_of}
use Rattle.lrc_named_tree.specs.Tree.{Expression}
use Rattle.lrc_named_core.specs.Tree.{own}
use Rattle.lrc_named_translation.specs.declared.parts.Kind.{Kind}
use Rattle.lrc_named_translation.specs.declared.parts.Kind.TheVariants.{Both, Either}
use Rattle.lrc_named_translation.specs.Made.{holding}
use Rattle.lrc_named_translation.specs.Turn.{joined_by}

pub own_joined : (kind : Kind) (k : ℕ) (left right : Expression) → own k (first_of left) (last_of right) ≡ holding k (joined_by kind left right)
own_joined Both k left right = refl
own_joined Either k left right = refl
