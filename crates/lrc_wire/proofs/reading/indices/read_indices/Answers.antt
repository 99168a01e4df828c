use Rattle.lrc_wire.proofs.Shapes.{indices_long, indices_begun, indices_increase}
use Rattle.lrc_wire.proofs.reading.indices.read_indices.Goals as goal

pub from_short-requires : goal.from_short-requires
from_short-requires c =
    record {
      begun = indices_begun _ _ c.in_ok-list.list.items _ c.in_ok-list.ensures;
      ascending =
          indices_increase _ _ c.in_ok-list.list.items _ c.in_ok-list.ensures;
    }

pub returns-clause-some : goal.returns-clause-some
returns-clause-some c = rw (c.from_short.ensures, indices_long _ _ c.in_ok-list.list.items _ c.in_ok-list.ensures) c.in_ok-count.ensures.fits
