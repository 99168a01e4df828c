-- One line more is added, and all.
use Rattle.std.proofs.lemmas.Option.{slice_get-get_or}
use Rattle.lrc_races_claims.specs.Known.{known_names}
use Rattle.lrc_races_scored.specs.Spelled.{first_line}
use Rattle.lrc_races_scored.proofs.Adding.{lines_all, lines_more, lines_none}
use Rattle.lrc_races_scored.proofs.spelling.push_firsts.Goals as goal

pub loop-racing-init : goal.loop-racing-init
loop-racing-init c = lines_none (first_line (known_names c.args.variables.now)) c.args.missed.now c.args.text.now.items

pub loop-racing-preserved : goal.loop-racing-preserved
loop-racing-preserved c =
    let i = c.loop-racing.racing-index in
    lines_more (first_line (known_names c.args.variables.now)) c.args.missed.now c.args.text.now.items i _ c.loop-racing.text.items c.push_first.new.text.items
    (slice_get-get_or c.args.missed.now i _ c.loop-racing-test.true) c.loop-racing.invariant c.in_ok-push_first.ensures

pub returns : goal.returns
returns c =
    lines_all (first_line (known_names c.args.variables.now)) c.args.missed.now c.args.text.now.items c.loop-racing.racing-index c.loop-racing.text.items c.loop-racing-test.false
    c.loop-racing.invariant
