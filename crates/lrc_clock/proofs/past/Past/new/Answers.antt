use Rattle.std.proofs.Common.{refl}
use Rattle.lrc_clock.proofs.NextPast.{starts}
use Rattle.lrc_clock.proofs.past.Past.new.Goals as goal

pub returns : goal.returns
returns c nodes = starts nodes _ refl refl c.new.ensures.items refl refl
