-- One index further, and all of them.
use Rattle.std.proofs.Common.{get_or, arith}
use Rattle.std.proofs.lemmas.Option.{slice_get-get_or}
use Rattle.lrc_judge.specs.declared.lanes.Entry.{Entry}
use Rattle.lrc_judge.proofs.Representing.{firsts-same, firsts-more, rising-more, firsts-all}
use Rattle.lrc_judge.proofs.firsts.firsts_of.Goals as goal
use Rattle.lrc_judge.proofs.firsts.firsts_of.Goals.{then-not-is_alike+in_ok-push, else-not-is_alike}

pub loop-at-preserved : goal.loop-at-preserved
loop-at-preserved c =
    let nothing : Entry = record { lane = record { word = 0; value = 0; node = 0 }; position = 0 } in
    let entries = c.args.entries.now in
    let intervals = c.args.intervals.now in
    let n = c.loop-at.at in
    let firsts = c.loop-at.firsts.items in
    let e : Entry = get_or entries n nothing in
    let is = slice_get-get_or entries n nothing c.loop-at-test.true in
    let adds = c.loop-at.invariant.found in
    elim c.if-not-is_alike.branch [
      | then-not-is_alike+in_ok-push w ↦
          let more = w.push.new.self.items in
          let pushed = w.in_ok-push.ensures.items in
          record {
            rising = rw w.firsts-is (rising-more entries intervals c.requires.in_order firsts more n e is pushed adds c.loop-at.invariant.rising);
            found = rw w.firsts-is (firsts-more entries intervals c.requires.in_order firsts more n e is pushed adds (w.if-not-is_alike.ensures e is));
          }
      | else-not-is_alike w ↦ record {
        rising = rw w.firsts-is c.loop-at.invariant.rising;
        found = rw w.firsts-is (firsts-same entries intervals c.requires.in_order firsts n w.if-not-is_alike.ensures adds);
      }
    ]

pub returns : goal.returns
returns c = firsts-all c.args.entries.now c.args.intervals.now c.requires.in_order c.loop-at.firsts.items c.loop-at.at (omega arith)
    c.loop-at.invariant.rising c.loop-at.invariant.found
