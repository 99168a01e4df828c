-- All is in the base, and there the chunk is raised.
use Rattle.std.proofs.Common.{refl, ap}
use Rattle.std.specs.Prelude.{Some}
use Rattle.lrc_races_detector.specs.declared.vectors.Vector.{Vector}
use Rattle.lrc_races_detector.specs.Chunks.{values}
use Rattle.lrc_races_detector.specs.Vectors.{rest}
use Rattle.lrc_races_detector.proofs.Entries.{chunk_raised_alike, rest_shared}
use Rattle.lrc_races_detector.proofs.vectors.Vector.level_rest.Goals as goal

pub returns : goal.returns
returns c =
    let self = c.args.self.now in
    let all = c.level.new.chunks.items in
    let after : Vector = record {
      apart = self.apart;
      recent = c.clear-2.new.self;
      others = c.clear.new.self;
      base =
          Some c.in_ok-new.field-0;
    } in
    record {
      rest = chunk_raised_alike (rest self) (values c.in_ok-all.all.items) (values all)
          (rest after) c.args.chunk c.args.value c.in_ok-all.ensures c.in_ok-level.ensures
          (rest_shared after all c.clear.ensures.items
          (ap (λ v. v.items) c.in_ok-new.ensures.ok) c.clear-2.ensures.items);
      apart = refl;
    }
