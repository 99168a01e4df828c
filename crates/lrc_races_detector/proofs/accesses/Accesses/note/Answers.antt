-- There may be a write where there may have been one, or where this is one.
use Rattle.lrc_races_detector.specs.Placed.{row_in}
use Rattle.lrc_races_detector.specs.Written.{any_written}
use Rattle.lrc_races_detector.proofs.Written.{seen_none, seen_now, seen_true, written_noted}
use Rattle.lrc_races_detector.proofs.accesses.Accesses.note.Goals as goal
use Rattle.lrc_races_detector.proofs.accesses.Accesses.note.Goals.{then-self, else-self}

pub invariant_of-self-2-clause-all_seen : goal.invariant_of-self-2-clause-all_seen
invariant_of-self-2-clause-all_seen c =
    let was = row_in c.args.self.now.lasts.items c.args.self.now.order.items in
    let is = row_in c.note_last.new.lasts.items c.note_last.new.order.items in
    elim c.if-self.branch [
      | then-self w ↦ rw w.written-is (rw w.if-self.true (seen_true (any_written is)))
      | else-self w ↦
          rw w.written-is (seen_now (any_written was) (any_written is) c.args.is_write
          (written_noted was is c.args.placed c.args.is_write c.in_ok-note_last.ensures.noted)
          (seen_none (any_written was) c.args.self.now.written c.args.self.now.all_seen w.if-self.false))
    ]
