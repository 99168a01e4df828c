-- One pair more.
use Rattle.std.proofs.Common.{get_or, ap, ◌∙◌}
use Rattle.std.proofs.lemmas.List.{get_or_default}
use Rattle.std.specs.Prelude.{slice_index}
use Rattle.lrc_trace.specs.declared.act.Act.{Act}
use Rattle.lrc_trace.specs.declared.act.Deed.TheVariants.{Quiet}
use Rattle.lrc_trace.proofs.Positions.{Does-read}
use Rattle.lrc_judge.specs.declared.lanes.Pair.{Pair}
use Rattle.lrc_judge.specs.Races.{IsNameOf, race_of_places}
use Rattle.lrc_judge.proofs.Additions.{some-more}
use Rattle.lrc_judge.proofs.Naming.{names-push}
use Rattle.lrc_judge.proofs.races.add_names.Goals as goal

pub loop-pair-preserved : goal.loop-pair-preserved
loop-pair-preserved c =
    let quiet : Act = record { node = 0; deed = Quiet } in
    let nothing : Pair = record { later = 0; earlier = 0 } in
    let run = c.args.acts.now in
    let intervals = c.args.intervals.now in
    let pairs = c.args.pairs.now in
    let i = c.loop-pair.pair-index in
    let within = c.loop-pair-test.true in
    let pair : Pair = get_or pairs i nothing in
    let first : Act = get_or run pair.earlier quiet in
    let second : Act = get_or run pair.later quiet in
    let is = c.race_of_places.ensures
    ∙ ap (λ w. race_of_places w first.node (slice_index intervals pair.earlier) second.node (slice_index intervals pair.later))
    c.word_of-word.ensures in
    some-more pairs (IsNameOf run intervals) c.args.races.now.items c.loop-pair.races.items c.push.new.self.items i pair within
    (get_or_default pairs i nothing pair within) c.loop-pair.invariant
    (names-push run intervals pair first.node second.node first.deed second.deed c.loop-pair.races.items c.push.new.self.items c.race_of_places.result
    (Does-read run pair.earlier quiet (c.requires.earlier i nothing within)) (Does-read run pair.later quiet (c.requires.later i nothing within)) is
    c.in_ok-push.ensures.items)
