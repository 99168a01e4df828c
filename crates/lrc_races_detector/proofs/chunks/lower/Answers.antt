-- The entry is set, or is so already.
use Rattle.std.proofs.Common.{ap, ◌∙◌, arith}
use Rattle.std.proofs.lemmas.Result.{on_ok_weaker}
use Rattle.lrc_races_detector.specs.Chunks.{value_of}
use Rattle.lrc_races_detector.proofs.Chunking.{lowered_not, lowered_put}
use Rattle.lrc_races_detector.proofs.chunks.lower.Goals as goal

pub returns-then-entry-value_of : goal.returns-then-entry-value_of
returns-then-entry-value_of c =
    let chunks = c.args.chunks.now.items in
    let e = c.args.entry in
    on_ok_weaker c.put.result (lowered_put chunks c.put.new.chunks.items e.thread e.value) c.put.ensures

pub returns : goal.returns
returns c =
    let chunks = c.args.chunks.now.items in
    let e = c.args.entry in
    let was = c.value_of.ensures ∙ ap (λ xs. value_of xs e.thread) c.as_slice.ensures.value in
    let stays = c.if-entry-value_of.false in
    lowered_not chunks e.thread e.value (omega (arith, was, stays))
