-- The base is shared, the others are joined, and the recent entries are raised.
use Rattle.std.proofs.Common.{length, ap, ◌∙◌, arith}
use Rattle.std.specs.Prelude.{slice_index}
use Rattle.lrc_races_detector.specs.Chunks.{values}
use Rattle.lrc_races_detector.specs.Vectors.{greatest}
use Rattle.lrc_races_detector.proofs.Chunking.{joined_values}
use Rattle.lrc_races_detector.proofs.Entries.{rest_at}
use Rattle.lrc_races_detector.proofs.vectors.Vector.chunks.Goals as goal

pub returns : goal.returns
returns c = λ thread.
    let base = ap (λ xs. slice_index xs thread) (c.in_ok-share_all.ensures ∙ ap values c.chunks_of.ensures) in
    let both = joined_values c.share_all.new.chunks.items c.as_slice.result.now c.join_all.new.chunks.items c.in_ok-join_all.ensures thread in
    let own = ap (λ xs. slice_index (values xs) thread) c.as_slice.ensures.value in
    let all = c.in_ok-raise_all.ensures thread in
    let recent = ap (λ es. greatest es thread (length es)) c.as_slice-2.ensures.value in
    omega (arith, rest_at c.args.self.now thread, base, both, own, all, recent)
