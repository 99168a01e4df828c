-- All are still where those from here on are.
use Rattle.std.proofs.Common.{◌≡◌, map, drop}
use Rattle.std.specs.List.{list_all}
use Rattle.lrc_program.specs.Statements.{statement_of}
use Rattle.lrc_lint_warned.specs.Blocks.{is_still_by}
use Rattle.lrc_lint_warned.proofs.blocks.all_still.Given as goal

abbrev pub invariant-loop-s : goal.invariant-loop-s
invariant-loop-s l =
    list_all (is_still_by l.set l.of_condition) (map (λ s. statement_of s.now) l.statements)
    ≡ list_all (is_still_by l.set l.of_condition) (map (λ s. statement_of s.now) (drop l.s-index l.statements))
