-- One event more, and the two at the end.
use Rattle.std.proofs.Common.{sym, subst}
use Rattle.lrc_races_witness.specs.Past.{IsWay}
use Rattle.lrc_races_witness.proofs.Collecting.{before-next, shown}
use Rattle.lrc_races_witness.proofs.reordering.reordering_of.Goals as goal

pub loop-position-preserved : goal.loop-position-preserved
loop-position-preserved c =
    let events = c.args.events.now in
    before-next events c.args.earlier c.args.later c.loop-position.position _ c.loop-position-test.true c.as_slice.result.now
    c.as_slice-in-loop-position.result.now (subst (λ known. IsWay events c.args.earlier known) (sym c.as_slice.ensures.value) c.in_ok-first.ensures)
    (subst (λ known. IsWay events c.args.later known) (sym c.as_slice-in-loop-position.ensures.value) c.in_ok-second.ensures)
    c.loop-position.positions.items c.note.new.positions.items c.in_ok-note.ensures.on c.in_ok-note.ensures.off c.loop-position.invariant

pub returns : goal.returns
returns c =
    shown c.args.events.now c.args.earlier c.args.later c.loop-position.position c.loop-position.positions.items c.push.new.self.items
    c.push-2.new.self.items c.requires.order c.requires.within c.loop-position-test.false c.loop-position.invariant c.in_ok-push.ensures.items
    c.in_ok-push-2.ensures.items
