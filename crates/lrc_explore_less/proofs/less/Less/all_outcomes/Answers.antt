use Rattle.lrc_explore.specs.Answers.{is_long}
use Rattle.lrc_explore_less.proofs.Enough.{exact}
use Rattle.lrc_explore_less.proofs.Steps.{long_less}
use Rattle.lrc_explore_less.proofs.less.Less.all_outcomes.Goals as goal

pub returns-clause-enough : goal.returns-clause-enough
returns-clause-enough c =
    let e = c.in_ok-gather.ensures in
    record { less_is = e.less; begun = e.begun; done = e.done.done }

pub returns-clause-exact : goal.returns-clause-exact
returns-clause-exact c =
    let e = c.in_ok-gather.ensures in
    exact c.args.task.now c.gather.new.self e.less e.begun e.done.done c.gather.new.outcomes.keys c.requires.noting e.sound e.done

pub returns-then-not-passes-clause-faults : goal.returns-then-not-passes-clause-faults
returns-then-not-passes-clause-faults c =
    let e = c.in_ok-passes.ensures in
    let long = long_less c.args.task.now c.begin.new.self e.less.sound (e.long c.if-not-passes.true) in
    record { nodes = λ is. cc; many = λ is. is_long long }
