use Rattle.std.proofs.Common.{arith}
use Rattle.lrc_explore.proofs.Telling.{following_first, following_on, followed, next, next_led, next_within}
use Rattle.lrc_explore.proofs.task.Found.follow.Goals as goal

pub loop-at-init : goal.loop-at-init
loop-at-init c =
    following_first c.args.task.now c.args.self.now c.args.path.now c.args.place c.args.acts.now.items c.requires.comes c.requires.led

pub take_again-requires-clause-within : goal.take_again-requires-clause-within
take_again-requires-clause-within c =
    next_within c.args.task.now c.args.self.now c.args.path.now c.args.place c.loop-at.at-index c.loop-at.acts.items c.requires.found c.loop-at.invariant
    (omega (arith, c.loop-at-test.true))

pub take_again-requires-clause-later : goal.take_again-requires-clause-later
take_again-requires-clause-later c =
    (next c.args.task.now c.args.self.now c.args.path.now c.args.place c.loop-at.at-index c.loop-at.acts.items c.requires.found c.loop-at.invariant
    (omega (arith, c.loop-at-test.true))).later

pub take_again-requires-clause-led : goal.take_again-requires-clause-led
take_again-requires-clause-led c =
    next_led c.args.task.now c.args.self.now c.args.path.now c.args.place c.loop-at.at-index c.loop-at.acts.items c.requires.found c.loop-at.invariant
    (omega (arith, c.loop-at-test.true))

pub loop-at-preserved : goal.loop-at-preserved
loop-at-preserved c =
    following_on c.args.task.now c.args.self.now c.args.path.now c.args.place c.loop-at.at-index c.loop-at.acts.items c.requires.found c.loop-at.invariant
    (omega (arith, c.loop-at-test.true)) c.take_again.new.acts.items c.in_ok-take_again.ensures.led

pub returns-clause-led : goal.returns-clause-led
returns-clause-led c =
    followed c.args.task.now c.args.self.now c.args.path.now c.args.place c.loop-at.at-index c.loop-at.acts.items c.loop-at.invariant
    (omega (arith, c.loop-at-test.false))
