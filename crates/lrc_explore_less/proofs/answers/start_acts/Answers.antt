use Rattle.std.proofs.Common.{subst}
use Rattle.lrc_explore.specs.Reached.{SettlesStart}
use Rattle.lrc_explore.proofs.Trapping.{start_led}
use Rattle.lrc_explore_less.proofs.answers.start_acts.Goals as goal

pub returns-clause-led : goal.returns-clause-led
returns-clause-led c =
    let task = c.args.task.now in
    let acts = c.settled_start.new.acts.items in
    start_led task acts c.in_ok-_state._state
    (subst (λ l. SettlesStart task l acts c.in_ok-_state._state) c.new-acts.ensures.items c.in_ok-_state.ensures.start) c.requires.traps
