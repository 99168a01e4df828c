-- The line of what was found.
use Rattle.std.proofs.Common.{◌≡◌, ℕ, List}
use Rattle.std.specs.Prelude.{Option, Some, None}
use Rattle.lrc_named_tree.specs.Tree.{NamedTree}
use Rattle.lrc_named_index_hint.specs.declared.over.Beyond.{Beyond}
use Rattle.lrc_named_index_hint.specs.Line.{IsOutLine, line_of}
use Rattle.lrc_named_index_hint.specs.Out.{IsOutOfRange}
use Rattle.lrc_named_index_hint.specs.Over.{IsFound}

pub told : (tree : NamedTree) (at : ℕ) (found : Option Beyond) (line : List ℕ) → (v : ℕ) × (s : ℕ) × IsOutOfRange tree at v s
    → IsFound (λ v s. IsOutOfRange tree at v s) found → line ≡ line_of found → IsOutLine tree at line
told tree at None line some none is = absurd (none some.0 some.1 some.2)
told tree at (Some x) line some h is = (x.value, x.size, h, is)
