use Rattle.lrc_memory.proofs.Inside.{kept}
use Rattle.lrc_memory.proofs.Copies.{within-seen, base_as}
use Rattle.lrc_memory.proofs.memory.Memory.base.Goals as goal

pub base-requires : goal.base-requires
base-requires c = within-seen (kept c.self.inside) _ _ c.self.view_is c.requires

pub returns : goal.returns
returns c = rw (← base_as (kept c.self.inside) _ _ c.self.view_is c.requires) c.base.ensures
