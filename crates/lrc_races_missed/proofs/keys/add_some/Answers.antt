-- The key is added.
use Rattle.std.proofs.lemmas.Result.{on_ok_weaker}
use Rattle.lrc_races_missed.proofs.KeyLemmas.{added_some}
use Rattle.lrc_races_missed.proofs.keys.add_some.Goals as goal

pub returns-in-Some : goal.returns-in-Some
returns-in-Some c =
    on_ok_weaker c.add.result (added_some c.args.keys.now.keys c.add.new.keys.keys c.args.key c.in-Some.key c.in-Some.is) c.add.ensures
