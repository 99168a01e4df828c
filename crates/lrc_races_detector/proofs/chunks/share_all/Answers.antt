-- One chunk more is shared.
use Rattle.std.proofs.Common.{length, refl}
use Rattle.std.proofs.lemmas.Option.{slice_get_read}
use Rattle.lrc_races_detector.proofs.Chunking.{shared_next, shared_values}
use Rattle.lrc_races_detector.proofs.chunks.share_all.Goals as goal

pub loop-chunk-preserved : goal.loop-chunk-preserved
loop-chunk-preserved c =
    let l = c.loop-chunk in
    let item = c.chunk-item in
    let lt = c.loop-chunk-test.true in
    let there = slice_get_read c.args.more.now (length c.args.more.now) l.chunk-index item.result refl lt item.is in
    shared_next c.args.more.now l.chunks.items c.push.new.self.items l.chunk-index c.in_ok-share.field-0 item.result lt
    l.invariant c.in_ok-push.ensures.items
    there c.in_ok-share.ensures

pub returns : goal.returns
returns c = shared_values c.args.more.now c.loop-chunk.chunks.items c.loop-chunk.chunk-index c.loop-chunk-test.false c.loop-chunk.invariant
