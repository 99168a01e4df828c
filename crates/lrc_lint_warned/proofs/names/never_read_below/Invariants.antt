-- What is warned of, by the numbers so far, was added.
use Rattle.std.proofs.Common.{◌≡◌, ◌++◌, map}
use Rattle.std.specs.List.{flat_map, range_with_len}
use Rattle.lrc_lint_warned.specs.Found.{node_seen, statement_seen}
use Rattle.lrc_lint_warned.specs.Names.{never_read_of}
use Rattle.lrc_lint_warned.proofs.names.never_read_below.Given as goal

abbrev pub invariant-loop-name : goal.invariant-loop-name
invariant-loop-name l = l.out.items ≡ l.fn.out.items ++ flat_map (never_read_of (map node_seen l.nodes) (map statement_seen l.statements)) (range_with_len 0 l.name)
