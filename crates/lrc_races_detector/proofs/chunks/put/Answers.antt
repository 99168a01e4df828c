-- The chunk of the entry is made anew.
use Rattle.std.proofs.Common.{◌/◌, ap, sym, ◌∙◌, arith}
use Rattle.std.specs.Prelude.{Some, slice_index}
use Rattle.std.proofs.lemmas.Option.{slice_get-get_or}
use Rattle.lrc_races_detector.specs.declared.chunks.Chunk.{Chunk}
use Rattle.lrc_races_detector.specs.Chunks.{entry_at, entry_of}
use Rattle.lrc_races_detector.proofs.Chunking.{put_later, put_values}
use Rattle.lrc_races_detector.proofs.chunks.put.Goals as goal

pub returns : goal.returns
returns c =
    let chunks = c.args.chunks.now.items in
    let reached = c.reach.new.chunks.items in
    let after = c.set_chunk.new.chunks.items in
    let thread = c.args.thread in
    let (room, kept) = c.in_ok-reach.ensures in
    let chunk : Chunk = record { floor = 0; values = Some c.in_ok-new.field-0 } in
    put_values chunks after thread c.args.value chunk c.index.result.now c.in_ok-entries.entries.items
    (λ place. ap (λ x. entry_at x place) c.index.ensures
    ∙ sym (ap (λ o. entry_of o place) (slice_get-get_or reached (thread / 128) _ room)) ∙ kept (thread / 128) place)
    c.in_ok-entries.ensures
    (λ place. let same = ap (λ v. slice_index v.items place) c.in_ok-new.ensures.ok in omega (arith, same))
    (put_later chunks reached after (thread / 128) chunk kept c.set_chunk.ensures.put)
