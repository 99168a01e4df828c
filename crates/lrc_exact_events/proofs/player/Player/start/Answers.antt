use Rattle.std.proofs.Common.{refl}
use Rattle.lrc_exact_events.proofs.player.Player.start.Goals as goal

pub returns-clause-player : goal.returns-clause-player
returns-clause-player c = record { replay = c.in_ok-replay.ensures; acts = refl }
