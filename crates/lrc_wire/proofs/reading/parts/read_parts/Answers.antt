use Rattle.lrc_wire.proofs.Shapes.{parts_long, parts_ascend}
use Rattle.lrc_wire.proofs.reading.parts.read_parts.Goals as goal

pub from_short-requires : goal.from_short-requires
from_short-requires c = parts_ascend c.args.version _ _ c.in_ok-list.list.items _ c.in_ok-list.ensures

pub returns-clause-some : goal.returns-clause-some
returns-clause-some c = rw (c.from_short.ensures, parts_long c.args.version _ _ c.in_ok-list.list.items _ c.in_ok-list.ensures) c.in_ok-count.ensures.fits
