-- A base copy as the protocol's machine sees it.
use Rattle.lrc_protocol.specs.Pages.{unneeded, due, come}
use Rattle.lrc_protocol.specs.Pages as fetch
use Rattle.lrc_need.specs.declared.base.Base.{Base}
use Rattle.lrc_need.specs.declared.base.Base.TheVariants.{Unneeded, Due, Come}

-- the machine has the values of the words that came
abbrev pub seen_base : Base → fetch.Base
seen_base Unneeded = unneeded
seen_base (Due keeper) = due keeper
seen_base (Come copy) = come copy.value
