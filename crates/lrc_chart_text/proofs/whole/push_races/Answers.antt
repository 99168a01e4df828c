use Rattle.std.proofs.Common.{refl}
use Rattle.lrc_chart_text.specs.Sketch.{race_lines}
use Rattle.lrc_chart_text.proofs.Steps.{flat_lines}
use Rattle.lrc_chart_text.proofs.whole.push_races.Goals as goal

pub loop-race-preserved : goal.loop-race-preserved
loop-race-preserved c =
    flat_lines c.args.races.now c.args.races.now refl c.loop-race.race-index c.race-item.result c.loop-race-test.true
    c.race-item.is (race_lines c.args.rows.now) c.extend_from_slice.new.self.items c.loop-race.text.items
    c.push_race.new.text.items c.loop-race.invariant c.in_ok-push_race.ensures
