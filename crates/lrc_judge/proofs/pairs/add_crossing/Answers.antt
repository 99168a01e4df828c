-- One entry more.
use Rattle.std.proofs.Common.{get_or, subst}
use Rattle.std.proofs.lemmas.List.{get_or_default, take_all}
use Rattle.lrc_judge.specs.Adding.{Adds}
use Rattle.lrc_judge.specs.Pairs.{IsCrossing}
use Rattle.lrc_judge.specs.declared.lanes.Entry.{Entry}
use Rattle.lrc_judge.proofs.Crossing.{crossing-more}
use Rattle.lrc_judge.proofs.pairs.add_crossing.Goals as goal

pub loop-entry-preserved : goal.loop-entry-preserved
loop-entry-preserved c =
    let from = c.args.from.now in
    let i = c.loop-entry.entry-index in
    let nothing : Entry = record { lane = record { word = 0; value = 0; node = 0 }; position = 0 } in
    let e : Entry = get_or from i nothing in
    crossing-more c.args.among.now c.args.order.now from c.args.pairs.now.items c.loop-entry.pairs.items c.add_of_others.new.pairs.items i e
    c.loop-entry-test.true (get_or_default from i nothing e c.loop-entry-test.true) c.loop-entry.invariant c.in_ok-add_of_others.ensures

pub add_of_others-requires : goal.add_of_others-requires
add_of_others-requires c = c.requires

pub returns : goal.returns
returns c =
    subst (λ from. Adds c.args.pairs.now.items c.loop-entry.pairs.items (IsCrossing from c.args.among.now c.args.order.now))
    (take_all c.loop-entry.entry-index c.args.from.now c.loop-entry-test.false) c.loop-entry.invariant
