use Rattle.lrc_protocol.specs.Run.{turns_of_logs}
use Rattle.lrc_world.proofs.ActsInTurn.{no_origins}
use Rattle.lrc_world.proofs.origins.origins_of.Goals as goal

pub returns-in-Newest : goal.returns-in-Newest
returns-in-Newest c =
    no_origins c.args.keep c.in-Newest.is c.args.program.now c.args.nodes (turns_of_logs c.args.logs.now) c.args.turned.now c.args.acts.now _
    c.new.ensures.items c.new-in-Newest.ensures.items c.none.ensures
