-- It is pushed behind them.
use Rattle.std.proofs.Common.{refl}
use Rattle.lrc_races_detector.specs.Vectors.{rest}
use Rattle.lrc_races_detector.proofs.Entries.{noted_rest}
use Rattle.lrc_races_detector.proofs.vectors.Vector.note.Goals as goal

pub returns : goal.returns
returns c = record {
  rest =
      let v = c.trim.new.self in
      noted_rest v (record { apart = v.apart; recent = c.push.new.self; others = v.others; base = v.base }) c.args.entry (rest c.args.self.now)
      c.in_ok-trim.ensures.rest c.in_ok-push.ensures.items refl refl;
  apart = c.in_ok-trim.ensures.apart;
}
