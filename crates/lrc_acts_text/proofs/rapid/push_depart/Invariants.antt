use Rattle.std.proofs.Common.{◌≡◌, ◌++◌}
use Rattle.std.specs.List.{flat_map, range_with_len}
use Rattle.lrc_acts_text.specs.Rapid.{lock_of_arrival, passes, step_line}
use Rattle.lrc_acts_text.proofs.rapid.push_depart.Given as goal

-- the locks of the nodes so far
abbrev pub invariant-loop-node : goal.invariant-loop-node
invariant-loop-node l = l.text.items
    ≡ l.initial.text.items
    ++ flat_map (step_line l.spot.line)
    (flat_map (λ q. passes l.spot.node l.spot.position (lock_of_arrival l.meeting l.meeting.departed q)) (range_with_len 0 l.node))
