use Rattle.std.proofs.Common.{refl}
use Rattle.lrc_named_parse.proofs.Behind.{IsBehind-start}
use Rattle.lrc_named_may.proofs.Stopping.{nothing_read, read_more, stopped, none_stopped}
use Rattle.lrc_named_may.proofs.first_fault.first_fault_behind.Goals as goal

pub loop-index-init : goal.loop-index-init
loop-index-init c =
    nothing_read c.args.state.now c.args.limits.now
    (IsBehind-start c.args.state.now c.args.limits.now c.requires.start c.requires.nested c.requires.counted)

pub loop-index-preserved : goal.loop-index-preserved
loop-index-preserved c =
    read_more c.args.all.now c.loop-index.index c.loop-index.index c.loop-index.state c.stop_at.new.state c.loop-index.limits c.stop_at.new.limits
    c.in_ok-stop.field-0 c.loop-index-test.true refl c.in_default.is c.loop-index.invariant c.in_ok-stop.ensures

pub returns-in-Some : goal.returns-in-Some
returns-in-Some c =
    rw (c.at_place.ensures.index, c.at_place.ensures.kind, c.at_place.ensures.may_stand)
    (stopped c.args.all.now c.loop-index.index c.loop-index.index c.loop-index.state c.stop_at.new.state c.loop-index.limits c.stop_at.new.limits
    c.in_ok-stop.field-0 c.in-Some.stop c.loop-index-test.true refl c.in-Some.is c.loop-index.invariant c.in_ok-stop.ensures)

pub returns : goal.returns
returns c = none_stopped c.args.all.now c.loop-index.index c.loop-index.state c.loop-index.limits c.loop-index-test.false c.loop-index.invariant
