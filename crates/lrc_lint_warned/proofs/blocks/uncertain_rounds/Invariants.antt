-- What is warned of in the items so far was added.
use Rattle.std.proofs.Common.{◌≡◌, ◌++◌, map, take}
use Rattle.std.specs.List.{flat_map}
use Rattle.lrc_lint_warned.specs.Found.{StatementAt, found_at, statement_seen}
use Rattle.lrc_lint_warned.specs.Blocks.{rounds_kind}
use Rattle.lrc_lint_warned.proofs.blocks.uncertain_rounds.Given as goal

abbrev pub invariant-loop-s : goal.invariant-loop-s
invariant-loop-s l =
    l.out.items ≡ l.fn.out.items ++ flat_map (λ (s : StatementAt). found_at s.at (rounds_kind s.statement)) (map statement_seen (take l.s-index l.statements))
