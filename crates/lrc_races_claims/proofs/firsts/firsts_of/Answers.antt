-- One event more.
use Rattle.std.proofs.Common.{◌≡◌, ◌<◌, length, arith}
use Rattle.std.proofs.lemmas.Option.{slice_get-get_or}
use Rattle.lrc_races_claims.proofs.Noting.{firsts_none, firsts_done}
use Rattle.lrc_races_claims.proofs.firsts.firsts_of.Goals as goal

pub loop-position-init : goal.loop-position-init
loop-position-init c = firsts_none c.args.events.now c.args.marks.now c.new.result c.new-2.result c.new.ensures c.new-2.ensures

pub loop-position-preserved : goal.loop-position-preserved
loop-position-preserved c =
    let events = c.args.events.now in
    let marks = c.args.marks.now in
    let n = c.loop-position.position in
    let within : n < length marks = omega arith in
    record {
      any = c.in_ok-note_any.ensures events marks n (record { is = slice_get-get_or events n _ c.loop-position-test.true }) c.loop-position.invariant.any;
      marked = c.in_ok-note_marked.ensures events marks n (record { is = slice_get-get_or events n _ c.loop-position-test.true })
          (slice_get-get_or marks n _ within) c.loop-position.invariant.marked;
    }

pub returns : goal.returns
returns c =
    let done : c.loop-position.position ≡ length c.args.events.now = omega arith in
    firsts_done c.args.events.now c.args.marks.now c.loop-position.position c.loop-position.firsts done c.loop-position.invariant
