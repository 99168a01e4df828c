use Rattle.std.proofs.Common.{◌∙◌, sym}
use Rattle.lrc_states.proofs.player.Player.take_known.Goals as goal

pub returns-in-Some-clause-known : goal.returns-in-Some-clause-known
returns-in-Some-clause-known c world is kept =
    kept c.args.node c.in-Some.known (sym c.remove.ensures.value ∙ c.in-Some.is)
