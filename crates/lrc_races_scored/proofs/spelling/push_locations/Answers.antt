-- One line more is added, and all.
use Rattle.std.proofs.lemmas.Option.{slice_get-get_or}
use Rattle.lrc_races_text.specs.Tables.{naming_of}
use Rattle.lrc_races_scored.specs.Spelled.{locations_line}
use Rattle.lrc_races_scored.proofs.Adding.{lines_all, lines_more, lines_none}
use Rattle.lrc_races_scored.proofs.spelling.push_locations.Goals as goal

pub loop-pair-init : goal.loop-pair-init
loop-pair-init c = lines_none (locations_line (naming_of c.args.names.now)) c.args.pairs.now c.args.text.now.items

pub loop-pair-preserved : goal.loop-pair-preserved
loop-pair-preserved c =
    let i = c.loop-pair.pair-index in
    lines_more (locations_line (naming_of c.args.names.now)) c.args.pairs.now c.args.text.now.items i _ c.loop-pair.text.items c.push_places.new.text.items
    (slice_get-get_or c.args.pairs.now i _ c.loop-pair-test.true) c.loop-pair.invariant c.in_ok-push_places.ensures

pub returns : goal.returns
returns c =
    lines_all (locations_line (naming_of c.args.names.now)) c.args.pairs.now c.args.text.now.items c.loop-pair.pair-index c.loop-pair.text.items c.loop-pair-test.false
    c.loop-pair.invariant
