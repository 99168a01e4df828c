-- The base and the others are joined, and the recent entries are raised.
use Rattle.std.proofs.Common.{length, refl, ap, arith}
use Rattle.std.specs.Prelude.{slice_index}
use Rattle.std.proofs.lemmas.Result.{on_ok_weaker}
use Rattle.lrc_races_detector.specs.declared.vectors.Vector.{Vector}
use Rattle.lrc_races_detector.specs.Chunks.{values}
use Rattle.lrc_races_detector.specs.Vectors.{greatest}
use Rattle.lrc_races_detector.proofs.Chunking.{joined_values}
use Rattle.lrc_races_detector.proofs.Entries.{rest_at}
use Rattle.lrc_races_detector.proofs.vectors.Vector.join_rest.Goals as goal

pub returns : goal.returns
returns c =
    let self = c.args.self.now in
    let more = c.args.more.now in
    let after : Vector = record { apart = self.apart; recent = self.recent; others = c.raise_all.new.chunks; base = self.base } in
    record {
      rest = on_ok_weaker c.raise_all.result (λ raised thread.
          let one = joined_values self.others.items c.chunks_of.result.now c.join_all.new.chunks.items c.in_ok-join_all.ensures thread in
          let two = joined_values c.join_all.new.chunks.items c.as_slice.result.now c.join_all-2.new.chunks.items c.in_ok-join_all-2.ensures thread in
          let base = ap (λ xs. slice_index (values xs) thread) c.chunks_of.ensures in
          let own = ap (λ xs. slice_index (values xs) thread) c.as_slice.ensures.value in
          let recent = ap (λ es. greatest es thread (length es)) c.as_slice-2.ensures.value in
          let all = raised thread in
          omega (arith, rest_at self thread, rest_at more thread, rest_at after thread, one, two, base, own, recent, all)) c.raise_all.ensures;
      apart = refl;
    }
