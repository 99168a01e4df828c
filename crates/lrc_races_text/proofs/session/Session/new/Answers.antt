-- Nothing has come.
use Rattle.std.proofs.Common.{refl}
use Rattle.lrc_races_text.proofs.SessionLemmas.{read_none}
use Rattle.lrc_races_text.proofs.session.Session.new.Goals as goal

pub returns : goal.returns
returns c = read_none c.args.form c.args.asked _ refl refl refl c.new-2.ensures.items (c.new.ensures c.args.form c.args.asked refl)
