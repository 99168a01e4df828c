-- The greatest of what the parts say.
use Rattle.std.proofs.Common.{length, sym, ap, ◌∙◌, arith}
use Rattle.lrc_races_detector.specs.Chunks.{chunks_of, value_of}
use Rattle.lrc_races_detector.specs.Vectors.{greatest}
use Rattle.lrc_races_detector.proofs.Chunking.{at_values}
use Rattle.lrc_races_detector.proofs.Entries.{rest_at}
use Rattle.lrc_races_detector.proofs.vectors.Vector.rest.Goals as goal

pub returns : goal.returns
returns c =
    let self = c.args.self.now in
    let t = c.args.thread in
    let own = c.value_of-own.ensures ∙ ap (λ xs. value_of xs t) c.as_slice.ensures.value ∙ sym (at_values self.others.items t) in
    let shared = c.value_of-shared.ensures ∙ ap (λ xs. value_of xs t) c.chunks_of.ensures ∙ sym (at_values (chunks_of self.base) t) in
    let recent = c.greatest-recent.ensures ∙ ap (λ es. greatest es t (length es)) c.as_slice-2.ensures.value in
    omega (arith, rest_at self t, own, shared, recent)
