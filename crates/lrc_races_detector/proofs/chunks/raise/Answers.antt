-- The entry is set, or is so already.
use Rattle.std.proofs.Common.{ap, ◌∙◌, arith}
use Rattle.std.proofs.lemmas.Result.{on_ok_weaker}
use Rattle.lrc_races_detector.specs.Chunks.{value_of}
use Rattle.lrc_races_detector.proofs.Chunking.{raised_not, raised_put}
use Rattle.lrc_races_detector.proofs.chunks.raise.Goals as goal

pub returns-then-value_of-entry : goal.returns-then-value_of-entry
returns-then-value_of-entry c =
    let chunks = c.args.chunks.now.items in
    let e = c.args.entry in
    let was = c.value_of.ensures ∙ ap (λ xs. value_of xs e.thread) c.as_slice.ensures.value in
    let less = c.if-value_of-entry.true in
    on_ok_weaker c.put.result (raised_put chunks c.put.new.chunks.items e.thread e.value (omega (arith, was, less))) c.put.ensures

pub returns : goal.returns
returns c =
    let chunks = c.args.chunks.now.items in
    let e = c.args.entry in
    let was = c.value_of.ensures ∙ ap (λ xs. value_of xs e.thread) c.as_slice.ensures.value in
    let stays = c.if-value_of-entry.false in
    raised_not chunks e.thread e.value (omega (arith, was, stays))
