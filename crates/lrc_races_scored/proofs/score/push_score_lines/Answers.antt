-- Sort by sort.
use Rattle.std.proofs.Common.{◌∙◌, length}
use Rattle.std.proofs.lemmas.Result.{on_ok_weaker}
use Rattle.lrc_races_scored.specs.declared.sort.Sort.TheVariants.{Events, Firsts, Locations, Pairs, Variables}
use Rattle.lrc_races_scored.specs.Spelled.{score_line}
use Rattle.lrc_races_scored.proofs.ScoreLemmas.{five_together, scored_part}
use Rattle.lrc_races_scored.proofs.score.push_score_lines.Goals as goal

pub returns : goal.returns
returns c =
    let claims = c.args.claims.now in
    let verdicts = c.args.verdicts.now in
    let missed = c.args.missed.now in
    let old = c.args.text.now.items in
    let one = c.push_score_line.new.text.items in
    let two = c.push_score_line-2.new.text.items in
    let three = c.push_score_line-3.new.text.items in
    let four = c.push_score_line-4.new.text.items in
    let five = c.push_score_line-5.new.text.items in
    on_ok_weaker c.push_score_line-5.result (λ last.
    five_together old one two three four five (score_line claims verdicts Events (length missed.events.items))
    (score_line claims verdicts Pairs (length missed.pairs.items)) (score_line claims verdicts Locations (length missed.locations.items))
    (score_line claims verdicts Variables (length missed.variables.items)) (score_line claims verdicts Firsts (length missed.firsts.items))
    (scored_part claims verdicts Events old one c.len.result (length missed.events.items) c.in_ok-push_score_line.ensures (c.len.ensures ∙ missed.events.ok.0))
    (scored_part claims verdicts Pairs one two c.len-2.result (length missed.pairs.items) c.in_ok-push_score_line-2.ensures (c.len-2.ensures ∙ missed.pairs.ok.0))
    (scored_part claims verdicts Locations two three c.len-3.result (length missed.locations.items) c.in_ok-push_score_line-3.ensures
    (c.len-3.ensures ∙ missed.locations.ok.0))
    (scored_part claims verdicts Variables three four c.len-4.result (length missed.variables.items) c.in_ok-push_score_line-4.ensures
    (c.len-4.ensures ∙ missed.variables.ok.0))
    (scored_part claims verdicts Firsts four five c.len-5.result (length missed.firsts.items) last (c.len-5.ensures ∙ missed.firsts.ok.0)))
    c.push_score_line-5.ensures
