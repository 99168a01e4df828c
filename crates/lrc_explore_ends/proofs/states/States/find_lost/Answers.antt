use Rattle.lrc_explore_ends.proofs.Linking.{within_wider}
use Rattle.lrc_explore_ends.proofs.states.States.find_lost.Goals as goal

pub lost_told-requires-clause-some : goal.lost_told-requires-clause-some
lost_told-requires-clause-some c =
    within_wider c.args.task.now c.args.self.now c.link_all.new.self 0 c.requires.stepped.found c.in_ok-link_all.ensures.wider c.requires.some
