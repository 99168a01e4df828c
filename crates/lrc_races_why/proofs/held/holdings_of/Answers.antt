-- One event more.
use Rattle.std.proofs.Common.{◌≡◌, ◌+◌, ◌<◌, ◌^◌, length, subst, arith}
use Rattle.std.proofs.lemmas.Option.{slice_get-get_or}
use Rattle.lrc_races_why.specs.Held.{AreHoldings}
use Rattle.lrc_races_why.proofs.Holding.{holdings_none}
use Rattle.lrc_races_why.proofs.held.holdings_of.Goals as goal

pub loop-at-init : goal.loop-at-init
loop-at-init c = holdings_none c.args.events.now c.args.thread c.new-holdings.result.items c.new-holdings.ensures.items

pub loop-at-preserved : goal.loop-at-preserved
loop-at-preserved c =
    let events = c.args.events.now in
    let n = c.loop-at.at in
    let lt : n < length events = omega (arith, c.requires) in
    let few : n + 1 < 2 ^ 64 = omega arith in
    c.in_ok-take_of.ensures events few (record { is = slice_get-get_or events n _ lt }) c.loop-at.invariant

pub returns : goal.returns
returns c =
    let done : c.loop-at.at ≡ c.args.position = omega arith in
    subst (λ n. AreHoldings c.args.events.now c.args.thread n c.loop-at.holdings.items) done c.loop-at.invariant
