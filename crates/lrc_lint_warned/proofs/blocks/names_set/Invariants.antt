-- The names so far are marked.
use Rattle.std.proofs.Common.{◌≡◌, ℕ, map, take, get_or}
use Rattle.std.specs.Prelude.{false}
use Rattle.std.specs.List.{list_any}
use Rattle.lrc_program.specs.Statements.{statement_of}
use Rattle.lrc_lint_warned.specs.Names.{sets}
use Rattle.lrc_lint_warned.proofs.blocks.names_set.Given as goal

abbrev pub invariant-loop-s : goal.invariant-loop-s
invariant-loop-s l = (k : ℕ) → get_or l.marked k false ≡ list_any (sets k) (map (λ s. statement_of s.now) (take l.s-index l.statements))
