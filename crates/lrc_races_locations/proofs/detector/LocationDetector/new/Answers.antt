use Rattle.lrc_races_locations.proofs.detector.LocationDetector.new.Goals as goal

pub returns : goal.returns
returns c = λ events. record { taken = c.new.ensures events; shown = c.new-3.ensures c.args.sought events }
