use Rattle.lrc_wire.proofs.Shapes.{intervals_go_with, intervals_ascend}
use Rattle.lrc_wire.proofs.reading.intervals.read_intervals.Goals as goal

pub from_ascending-requires : goal.from_ascending-requires
from_ascending-requires c = intervals_ascend c.args.version c.args.nodes _ _ c.in_ok-list.list.items _ c.in_ok-list.ensures

pub returns-clause-together : goal.returns-clause-together
returns-clause-together c = rw c.from_ascending.ensures (intervals_go_with c.args.version c.args.nodes _ _ c.in_ok-list.list.items _ c.in_ok-list.ensures)
