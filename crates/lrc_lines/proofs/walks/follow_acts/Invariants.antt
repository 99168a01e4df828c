-- What was found so far are the lines of the acts so far, and the nodes are where these have led them.
use Rattle.std.proofs.Common.{◌≡◌, take}
use Rattle.lrc_lines.specs.Seen.{walks_of}
use Rattle.lrc_lines.specs.Walks.{walks_behind, act_lines, end_line}
use Rattle.lrc_lines.proofs.walks.follow_acts.Given as goal

abbrev pub invariant-loop-act : goal.invariant-loop-act
invariant-loop-act l =
    (l.found.items ≡ act_lines l.code l.nodes l.lines (take l.act-index l.acts))
    × (walks_of l.walks ≡ walks_behind l.code l.nodes l.lines (take l.act-index l.acts))
    × (l.walks.end ≡ end_line l.lines)
