use Rattle.lrc_store.proofs.IntervalLists.{ascending-push}
use Rattle.lrc_store.proofs.intervals.Intervals.push.Goals as goal

pub invariant_of-self-2 : goal.invariant_of-self-2
invariant_of-self-2 c =
    rw c.in_ok-push.ensures.items
    (ascending-push c.self.inside.list.items c.args.interval c.self.invariant (rw c.self.view_is c.requires.above))
