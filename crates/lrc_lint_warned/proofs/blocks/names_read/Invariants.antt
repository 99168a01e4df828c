-- The names so far are marked.
use Rattle.std.proofs.Common.{◌≡◌, ℕ, map, take, get_or}
use Rattle.std.specs.Prelude.{false}
use Rattle.std.specs.List.{list_any}
use Rattle.lrc_program.specs.Statements.{expression_of}
use Rattle.lrc_lint_warned.specs.Names.{is_name}
use Rattle.lrc_lint_warned.proofs.blocks.names_read.Given as goal

abbrev pub invariant-loop-n : goal.invariant-loop-n
invariant-loop-n l = (k : ℕ) → get_or l.marked k false ≡ list_any (is_name k) (map (λ n. expression_of n.now) (take l.n-index l.nodes))
