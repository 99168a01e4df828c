-- How the nodes of a run ended, as their acts say.
use Rattle.std.specs.Prelude.{ℕ, ◌==◌, None, List, map, filter}
use Rattle.std.specs.List.{last_or, range_with_len}
use Rattle.lrc_trace.specs.declared.act.Act.{Act}
use Rattle.lrc_trace.specs.declared.end.End.{End}
use Rattle.lrc_node.specs.Logged.{end_by}

-- how a node ended: as its last act says
abbrev pub end_by_acts : ℕ → List Act → End
end_by_acts node acts = end_by (last_or None (filter (λ a. a.node == node) acts))

-- how each node ended, from node 0 up
abbrev pub ends_of : ℕ → List Act → List End
ends_of nodes acts = map (λ node. end_by_acts node acts) (range_with_len 0 nodes)
