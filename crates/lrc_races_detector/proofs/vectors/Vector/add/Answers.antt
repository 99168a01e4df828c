-- It stands apart, or among the others.
use Rattle.std.proofs.Common.{refl, arith}
use Rattle.std.proofs.lemmas.Result.{on_ok_weaker}
use Rattle.lrc_races_detector.specs.declared.vectors.Vector.{Vector}
use Rattle.lrc_races_detector.specs.Vectors.{rest}
use Rattle.lrc_races_detector.proofs.Entries.{raised_again, raised_among, raised_first, raised_rest}
use Rattle.lrc_races_detector.proofs.vectors.Vector.add.Goals as goal

pub returns-then-apart-entry : goal.returns-then-apart-entry
returns-then-apart-entry c =
    let self = c.args.self.now in
    raised_again self.apart (rest self) c.in-Some.apart c.args.entry c.max.result c.in-Some.is c.if-apart-entry.true (omega arith)

pub returns-else-apart-entry : goal.returns-else-apart-entry
returns-else-apart-entry c =
    let self = c.args.self.now in
    let e = c.args.entry in
    let after : Vector = record { apart = self.apart; recent = self.recent; others = c.raise.new.chunks; base = self.base } in
    on_ok_weaker c.raise.result (λ raised.
    raised_among self.apart (rest self) (rest after) e.thread e.value (raised_rest self after e raised refl refl)) c.raise.ensures

pub returns-in-None : goal.returns-in-None
returns-in-None c =
    let self = c.args.self.now in
    raised_first self.apart (rest self) c.args.entry c.in-None.is
