use Rattle.std.proofs.Common.{subst}
use Rattle.lrc_explore.specs.Reached.{SettlesStart}
use Rattle.lrc_explore.proofs.Telling.{led_first}
use Rattle.lrc_explore.proofs.task.Found.acts_to.Goals as goal

pub follow-requires-clause-led : goal.follow-requires-clause-led
follow-requires-clause-led c =
    let task = c.args.task.now in
    let acts = c.settled_start.new.acts.items in
    led_first task c.args.self.now c.args.place acts c.in_ok-_start._start c.requires.found c.requires.within
    (subst (λ l. SettlesStart task l acts c.in_ok-_start._start) c.new-acts.ensures.items c.in_ok-_start.ensures.start)
