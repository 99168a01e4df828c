-- The entry is set in chunks of all, or is so already.
use Rattle.std.proofs.Common.{refl, arith}
use Rattle.std.specs.Prelude.{None}
use Rattle.lrc_races_detector.specs.declared.vectors.Vector.{Vector}
use Rattle.lrc_races_detector.specs.Chunks.{values}
use Rattle.lrc_races_detector.specs.Vectors.{rest}
use Rattle.lrc_races_detector.proofs.Entries.{lowered_alike, rest_own}
use Rattle.lrc_races_detector.proofs.vectors.Vector.lower.Goals as goal

pub returns-in_ok-lower : goal.returns-in_ok-lower
returns-in_ok-lower c =
    let self = c.args.self.now in
    let e = c.args.entry in
    let all = c.lower.new.chunks in
    let after : Vector = record { apart = self.apart; recent = c.clear.new.self; others = all; base = None } in
    lowered_alike (rest self) (values c.in_ok-all.all.items) (values all.items) (rest after) e.thread e.value c.in_ok-all.ensures c.in_ok-lower.ensures
    (rest_own after all.items refl refl c.clear.ensures.items)

pub returns-else-entry-rest : goal.returns-else-entry-rest
returns-else-entry-rest c = record {
  here = let most = c.rest.ensures in let stays = c.if-entry-rest.false in omega (arith, most, stays);
  others = λ p ne. refl;
}
