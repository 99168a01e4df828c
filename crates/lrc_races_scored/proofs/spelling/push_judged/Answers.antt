-- One line more is added, and all.
use Rattle.std.proofs.Common.{◌<◌, length, arith}
use Rattle.std.specs.Prelude.{zip}
use Rattle.std.proofs.lemmas.Option.{slice_get-get_or}
use Rattle.lrc_races_lines.specs.Table.{names_of}
use Rattle.lrc_races_scored.specs.Spelled.{judged_line}
use Rattle.lrc_races_scored.proofs.Adding.{lines_none, zip_lines_all, zip_lines_more}
use Rattle.lrc_races_scored.proofs.spelling.push_judged.Goals as goal

pub loop-place-init : goal.loop-place-init
loop-place-init c =
    lines_none (judged_line c.args.sought (names_of c.args.threads.now)) (zip c.args.claims.now c.args.verdicts.now) c.args.text.now.items

pub loop-place-preserved : goal.loop-place-preserved
loop-place-preserved c =
    let claims = c.args.claims.now in
    let verdicts = c.args.verdicts.now in
    let i = c.loop-place.place in
    let within : i < length verdicts = omega arith in
    zip_lines_more claims verdicts c.requires (judged_line c.args.sought (names_of c.args.threads.now)) c.args.text.now.items i _ _
    c.loop-place.text.items c.push_line.new.text.items (slice_get-get_or claims i _ c.loop-place-test.true) (slice_get-get_or verdicts i _ within)
    c.loop-place.invariant c.in_ok-push_line.ensures

pub returns : goal.returns
returns c =
    zip_lines_all c.args.claims.now c.args.verdicts.now c.requires (judged_line c.args.sought (names_of c.args.threads.now)) c.args.text.now.items
    c.loop-place.place c.loop-place.text.items c.loop-place-test.false c.loop-place.invariant
