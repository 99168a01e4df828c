-- What is told is of what is kept.
use Rattle.lrc_races_stream.specs.Locations.{lacking}
use Rattle.lrc_races_stream.proofs.LocationLemmas.{report_of}
use Rattle.lrc_races_stream.proofs.locating.reported.Goals as goal

pub returns-in-Ok : goal.returns-in-Ok
returns-in-Ok c = report_of c.args.form c.args.layout c.args.located.now c.in-Ok.status _ _ c.new-text.ensures.items c.in-Ok.ensures

pub returns-in-Err : goal.returns-in-Err
returns-in-Err c = lacking
