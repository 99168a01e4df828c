-- One chunk more is joined.
use Rattle.std.proofs.Common.{length, refl}
use Rattle.std.proofs.lemmas.Option.{slice_get_read}
use Rattle.lrc_races_detector.proofs.Chunking.{joined_done, joined_next}
use Rattle.lrc_races_detector.proofs.chunks.join_all.Goals as goal

pub loop-index-preserved : goal.loop-index-preserved
loop-index-preserved c =
    let l = c.loop-index in
    let more = c.args.more.now in
    let item = c.index-more-index in
    let there = slice_get_read more (length more) l.index item.result refl c.loop-index-test.true item.is in
    joined_next c.reserve_exact.new.self.items more l.chunks.items c.join_chunk.new.chunks.items l.index item.result
    l.invariant there c.in_ok-join_chunk.ensures

pub returns : goal.returns
returns c =
    joined_done c.args.chunks.now.items c.reserve_exact.new.self.items c.args.more.now c.loop-index.chunks.items
    c.loop-index.index
    c.in_ok-reserve_exact.ensures.items c.loop-index-test.false c.loop-index.invariant
