-- One event more.
use Rattle.std.proofs.Common.{◌≡◌, ◌<◌, length, sym, subst, arith}
use Rattle.std.proofs.lemmas.Option.{slice_get-get_or}
use Rattle.lrc_races_why.specs.Held.{holding_at, AreHoldings}
use Rattle.lrc_races_why.proofs.Holding.{AreHeldBelow, below-none, below-next, below-all}
use Rattle.lrc_races_why.proofs.held.held_at.Goals as goal

pub loop-at-init : goal.loop-at-init
loop-at-init c = below-none c.args.events.now c.args.thread c.args.position c.new-locks.result.items c.new-locks.ensures.items

pub loop-at-preserved : goal.loop-at-preserved
loop-at-preserved c =
    let events = c.args.events.now in
    let n = c.loop-at.at in
    let lt : n < length events = omega (arith, c.requires) in
    let are = subst (λ hs. AreHoldings events c.args.thread c.args.position hs) (sym c.as_slice.ensures.value) c.in_ok-holdings.ensures in
    below-next events c.args.thread c.args.position n lt c.loop-at-test.true c.as_slice.result.now are
    c.held_since-lock.result
    (c.held_since-lock.ensures events c.args.position c.loop-at-test.true (record { is = slice_get-get_or events n _ lt }) are)
    c.loop-at.locks.items c.add.new.locks.items c.in_ok-add.ensures.some c.in_ok-add.ensures.none c.loop-at.invariant

pub returns : goal.returns
returns c =
    let done : c.loop-at.at ≡ c.args.position = omega arith in
    below-all c.args.events.now c.args.thread c.args.position c.loop-at.locks.items (holding_at c.in_ok-holdings.holdings.items) c.in_ok-holdings.ensures
    (subst (λ m. AreHeldBelow c.args.events.now c.args.thread c.args.position m c.loop-at.locks.items) done c.loop-at.invariant)
