-- One event more is taken and marked.
use Rattle.std.proofs.Common.{◌+◌, ◌==◌, List, Bool, sym, subst, ap, ◌∙◌, arith}
use Rattle.std.proofs.lemmas.Option.{slice_get-get_or}
use Rattle.lrc_races_locations.proofs.Knowing.{taken_position}
use Rattle.lrc_races_claims.specs.Racing.{AreMarked}
use Rattle.lrc_races_claims.proofs.Marking.{mark_more, mark_none}
use Rattle.lrc_races_claims.proofs.racing.marks_of.Goals as goal

pub loop-event-init : goal.loop-event-init
loop-event-init c = record {
  taken = c.new-detector.ensures c.args.events.now;
  marked = subst (λ (marks : List Bool). AreMarked c.args.sought c.args.events.now 0 marks) (sym c.new-marks.ensures.items) (mark_none c.args.sought c.args.events.now);
}

pub take-requires : goal.take-requires
take-requires c =
    let at = taken_position c.args.sought c.args.events.now c.loop-event.event-index c.loop-event.detector c.loop-event.invariant.taken in
    omega (arith, at)

pub loop-event-preserved : goal.loop-event-preserved
loop-event-preserved c =
    let events = c.args.events.now in
    let n = c.loop-event.event-index in
    let (taken, told) = c.in_ok-take.ensures c.args.sought events n (record { is = slice_get-get_or events n _ c.loop-event-test.true })
    c.loop-event.invariant.taken in
    record {
      taken = taken;
      marked = subst (λ (marks : List Bool). AreMarked c.args.sought events (n + 1) marks) (sym c.in_ok-push.ensures.items)
          (mark_more c.args.sought events n c.loop-event.marks.items c.take.new.told.items c.is_empty.result c.loop-event.invariant.marked told
          (c.is_empty.ensures ∙ ap (λ n. n == 0) c.take.new.told.ok.0));
    }
