-- The entries of one chunk more are behind the list.
use Rattle.std.proofs.Common.{length, refl}
use Rattle.std.proofs.lemmas.Option.{slice_get_read}
use Rattle.lrc_races_detector.proofs.Chunking.{listed_all, listed_next}
use Rattle.lrc_races_detector.proofs.chunks.list.Goals as goal

pub loop-chunk-preserved : goal.loop-chunk-preserved
loop-chunk-preserved c =
    let l = c.loop-chunk in
    let item = c.chunk-item in
    let there = slice_get_read c.args.chunks.now (length c.args.chunks.now) l.chunk-index item.result refl c.loop-chunk-test.true item.is in
    listed_next c.args.chunks.now l.chunk-index l.list.items c.append.new.list.items item.result l.invariant there
    c.in_ok-append.ensures

pub returns : goal.returns
returns c = listed_all c.args.chunks.now c.loop-chunk.chunk-index c.loop-chunk.list.items c.loop-chunk-test.false
    c.loop-chunk.invariant
