-- The walks so far are those of the nodes so far.
use Rattle.std.proofs.Common.{◌≡◌, map}
use Rattle.std.specs.List.{range_with_len}
use Rattle.lrc_lines.specs.Seen.{walk_of}
use Rattle.lrc_lines.specs.Walks.{walk_at_start}
use Rattle.lrc_lines.proofs.walks.Walks.start.Given as goal

abbrev pub invariant-loop-me : goal.invariant-loop-me
invariant-loop-me l = map walk_of l.walks.items ≡ map (walk_at_start l.code l.nodes l.lines) (range_with_len 0 l.me)
