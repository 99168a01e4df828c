-- The entry that stands apart is as it was.
use Rattle.std.proofs.Common.{sym, subst}
use Rattle.std.specs.Prelude.{Option}
use Rattle.std.proofs.lemmas.Result.{on_ok_weaker}
use Rattle.lrc_races_detector.specs.declared.vectors.Entry.{Entry}
use Rattle.lrc_races_detector.specs.Chunks.{IsChunkRaised}
use Rattle.lrc_races_detector.specs.Vectors.{held, rest, with_apart}
use Rattle.lrc_races_detector.proofs.Entries.{chunk_raised_among}
use Rattle.lrc_races_detector.proofs.vectors.Vector.level.Goals as goal

pub returns : goal.returns
returns c =
    let self = c.args.self.now in
    let after = c.level_rest.new.self in
    on_ok_weaker c.level_rest.result (λ raised.
    subst (λ (o : Option Entry). IsChunkRaised (held self) (with_apart o (rest after)) c.args.chunk c.args.value)
    (sym c.level_rest.ensures.apart)
    (chunk_raised_among self.apart (rest self) (rest after) c.args.chunk c.args.value raised)) c.level_rest.ensures.rest
