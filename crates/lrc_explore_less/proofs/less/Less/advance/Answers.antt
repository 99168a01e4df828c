use Rattle.std.proofs.Common.{subst, arith}
use Rattle.lrc_explore_less.specs.Passing.{HasPassed}
use Rattle.lrc_explore_less.proofs.Steps.{long_less, long_opened, opened_last, widens_opened}
use Rattle.lrc_explore_less.proofs.Ways.{widens_again, widens_not}
use Rattle.lrc_explore_less.proofs.less.Less.advance.Goals as goal

pub loop-alloc-init : goal.loop-alloc-init
loop-alloc-init c = record { passing = c.requires.passing; widens = widens_not c.args.self.now }

pub loop-alloc-preserved : goal.loop-alloc-preserved
loop-alloc-preserved c =
    let e = c.in_ok-pass.ensures in
    record {
      passing = subst (HasPassed c.args.task.now c.pass.new.self c.args.first) c.in-On.is e.passed;
      widens = widens_again c.loop-alloc.invariant.widens e.widens;
    }

pub loop-alloc-smaller : goal.loop-alloc-smaller
loop-alloc-smaller c =
    let more = c.in_ok-pass.ensures.on c.in-On.is in
    omega (arith, more, c.loop-alloc-test.true, c.len.ensures.len)

pub returns-in-Joined-clause-less : goal.returns-in-Joined-clause-less
returns-in-Joined-clause-less c = subst (HasPassed c.args.task.now c.pass.new.self c.args.first) c.in-Joined.is c.in_ok-pass.ensures.passed

pub returns-in-Joined-clause-widens : goal.returns-in-Joined-clause-widens
returns-in-Joined-clause-widens c = widens_again c.loop-alloc.invariant.widens c.in_ok-pass.ensures.widens

pub keep_open-requires : goal.keep_open-requires
keep_open-requires c =
    let p = subst (HasPassed c.args.task.now c.pass.new.self c.args.first) c.in-Open.is c.in_ok-pass.ensures.passed in
    let some = p.some in omega (arith, some)

pub returns-in-Open-clause-less : goal.returns-in-Open-clause-less
returns-in-Open-clause-less c =
    let p = subst (HasPassed c.args.task.now c.pass.new.self c.args.first) c.in-Open.is c.in_ok-pass.ensures.passed in
    opened_last c.args.task.now c.pass.new.self c.keep_open.new.self c.args.first p c.keep_open.ensures.others
    c.in_ok-keep_open-in-Open.ensures.opens

pub returns-in-Open-clause-widens : goal.returns-in-Open-clause-widens
returns-in-Open-clause-widens c =
    widens_again c.loop-alloc.invariant.widens
    (widens_again c.in_ok-pass.ensures.widens
    (widens_opened c.pass.new.self c.keep_open.new.self _ c.keep_open.ensures.others c.in_ok-keep_open-in-Open.ensures.opens))

pub keep_open-requires-2 : goal.keep_open-requires-2
keep_open-requires-2 c = let some = c.loop-alloc.invariant.passing.some in omega (arith, some)

pub returns-clause-less : goal.returns-clause-less
returns-clause-less c =
    opened_last c.args.task.now c.loop-alloc.self c.keep_open-2.new.self c.args.first c.loop-alloc.invariant.passing c.keep_open-2.ensures.others
    c.in_ok-keep_open.ensures.opens

pub returns-clause-widens : goal.returns-clause-widens
returns-clause-widens c =
    widens_again c.loop-alloc.invariant.widens
    (widens_opened c.loop-alloc.self c.keep_open-2.new.self _ c.keep_open-2.ensures.others c.in_ok-keep_open.ensures.opens)

-- ---- where some node computes too long

pub keep_open-requires-in-Long : goal.keep_open-requires-in-Long
keep_open-requires-in-Long c =
    let p = subst (HasPassed c.args.task.now c.pass.new.self c.args.first) c.in-Long.is c.in_ok-pass.ensures.passed in
    let some = p.0.some in omega (arith, some)

pub returns-in-Long-clause-long : goal.returns-in-Long-clause-long
returns-in-Long-clause-long c = λ is.
    let task = c.args.task.now in
    let mid = c.pass.new.self in
    let new = c.keep_open-in-Long.new.self in
    let others = c.keep_open-in-Long.ensures.others in
    let opens = c.in_ok-keep_open-in-Long.ensures.opens in
    let p = subst (HasPassed task mid c.args.first) c.in-Long.is c.in_ok-pass.ensures.passed in
    record {
      less = opened_last task mid new c.args.first p.0 others opens;
      widens =
          widens_again c.loop-alloc.invariant.widens
          (widens_again c.in_ok-pass.ensures.widens (widens_opened mid new _ others opens));
      long = long_opened task mid new others p.1;
    }

pub returns-in-Long-clause-faults : goal.returns-in-Long-clause-faults
returns-in-Long-clause-faults c =
    let task = c.args.task.now in
    let p = subst (HasPassed task c.pass.new.self c.args.first) c.in-Long.is c.in_ok-pass.ensures.passed in
    record { nodes = λ is. cc; many = λ is. long_less task c.pass.new.self p.0.sound p.1 }
