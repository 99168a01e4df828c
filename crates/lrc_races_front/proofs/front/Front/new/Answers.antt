-- Nothing has come.
use Rattle.std.proofs.Common.{refl}
use Rattle.lrc_races_front.proofs.FrontLemmas.{read_none}
use Rattle.lrc_races_front.proofs.front.Front.new.Goals as goal

pub returns : goal.returns
returns g c sought none = read_none (g.K.Keep.has_kept sought) c.args.form c.args.last _ c.requires refl refl refl c.new.ensures.items none
