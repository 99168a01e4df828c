use Rattle.std.proofs.Common.{◌≡◌, ◌∙◌, Some, get_or, sym, arith}
use Rattle.std.specs.Prelude.{slice_get}
use Rattle.std.proofs.lemmas.Option.{slice_get-get_or}
use Rattle.lrc_race.specs.Pairs.{IsLane, IsRaceOfTraces}
use Rattle.lrc_judge.proofs.Additions.{below-more}
use Rattle.lrc_race.proofs.Found.{pair-found, pair-none, below-all, below-start}
use Rattle.lrc_race.proofs.Stretches.{at_contains}
use Rattle.lrc_race.proofs.detector.Survey.add_races_with.Goals as goal
use Rattle.lrc_race.proofs.detector.Survey.add_races_with.Goals.{then-node+in_ok-add_lanes, else-node}

pub loop-j-init : goal.loop-j-init
loop-j-init c = below-start c.args.self.now.traces.now c.args.i c.args.races.now.items

pub add_lanes-requires : goal.add_lanes-requires
add_lanes-requires c =
    let traces = c.args.self.now.traces.now in
    let lanes = c.args.self.now.lanes.now in
    let i = c.args.i in
    let j = c.loop-j.j in
    let survey = c.requires.survey in
    let of = survey.entries.1 in
    let a = get_or traces i c.index-self-i.result in
    let b = get_or traces j c.index-self-j.result in
    let first = get_or lanes i c.index-self-i-then-node.result in
    let second = get_or lanes j c.index-self-j-then-node.result in
    let a_is : slice_get traces i ≡ Some a = slice_get-get_or traces i c.index-self-i.result (omega arith) in
    let b_is : slice_get traces j ≡ Some b = slice_get-get_or traces j c.index-self-j.result (omega arith) in
    let a_in = at_contains traces i a a_is in
    let b_in = at_contains traces j b b_is in
    record {
      first =
          survey.lanes.each i a first a_is
          (slice_get-get_or lanes i c.index-self-i-then-node.result (omega (arith, survey.lanes.long)));
      second =
          survey.lanes.each j b second b_is
          (slice_get-get_or lanes j c.index-self-j-then-node.result (omega (arith, survey.lanes.long)));
      pair = record {
        entries = record {
          first = λ s there. omega (arith, of.below b b_in, of.entries a s a_in there);
          second = λ t there. omega (arith, of.below a a_in, of.entries b t b_in there);
        };
        rising = λ up. (survey.rising up a a_in, survey.rising up b b_in);
      };
    }

pub loop-j-preserved : goal.loop-j-preserved
loop-j-preserved c =
    let traces = c.args.self.now.traces.now in
    let lanes = c.args.self.now.lanes.now in
    let i = c.args.i in
    let j = c.loop-j.j in
    let survey = c.requires.survey in
    let a = get_or traces i c.index-self-i.result in
    let b = get_or traces j c.index-self-j.result in
    let a_is : slice_get traces i ≡ Some a = slice_get-get_or traces i c.index-self-i.result (omega arith) in
    let b_is : slice_get traces j ≡ Some b = slice_get-get_or traces j c.index-self-j.result (omega arith) in
    elim c.if-node.branch [
      | then-node+in_ok-add_lanes w ↦
          let first = get_or lanes i w.index-self-i-then-node.result in
          let second = get_or lanes j w.index-self-j-then-node.result in
          let of_a : IsLane a first =
          survey.lanes.each i a first a_is (slice_get-get_or lanes i w.index-self-i-then-node.result (omega (arith, survey.lanes.long))) in
          let of_b : IsLane b second =
          survey.lanes.each j b second b_is (slice_get-get_or lanes j w.index-self-j-then-node.result (omega (arith, survey.lanes.long))) in
          rw w.races-is
          (below-more (IsRaceOfTraces traces i) c.args.races.now.items c.loop-j.races.items w.add_lanes.new.races.items j c.loop-j.invariant
          (pair-found traces i j a b first second (omega arith) a_is b_is
          (λ same. w.if-node.true (c.node.ensures ∙ same ∙ sym c.node-in-loop-j.ensures)) of_a of_b c.loop-j.races.items
          w.add_lanes.new.races.items w.in_ok-add_lanes.ensures))
      | else-node w ↦
          rw w.races-is
          (below-more (IsRaceOfTraces traces i) c.args.races.now.items c.loop-j.races.items c.loop-j.races.items j c.loop-j.invariant
          (pair-none traces i j a b c.loop-j.races.items a_is b_is
          (sym c.node.ensures ∙ w.if-node.false ∙ c.node-in-loop-j.ensures)))
    ]

pub returns : goal.returns
returns c =
    below-all c.args.self.now.traces.now c.args.i c.loop-j.j c.args.races.now.items c.loop-j.races.items (omega arith) (omega arith)
    c.loop-j.invariant
