-- The chunk is made anew.
use Rattle.std.proofs.Common.{max, ap, sym, ◌∙◌}
use Rattle.std.proofs.lemmas.Option.{slice_get-get_or}
use Rattle.lrc_races_detector.specs.Chunks.{entry_at, entry_of}
use Rattle.lrc_races_detector.proofs.Chunking.{put_later, raised_values}
use Rattle.lrc_races_detector.proofs.chunks.level.Goals as goal

pub returns : goal.returns
returns c =
    let chunks = c.args.chunks.now.items in
    let reached = c.reach.new.chunks.items in
    let after = c.set_chunk.new.chunks.items in
    let index = c.args.index in
    let value = c.args.value in
    let chunk = c.in_ok-chunk.chunk in
    let (room, kept) = c.in_ok-reach.ensures in
    raised_values chunks after index value chunk
    (λ place. c.in_ok-chunk.ensures place ∙ ap (λ x. max x value)
    (ap (λ x. entry_at x place) c.index.ensures
    ∙ sym (ap (λ o. entry_of o place) (slice_get-get_or reached index _ room)) ∙ kept index place))
    (put_later chunks reached after index chunk kept c.set_chunk.ensures.put)
