-- One pair more.
use Rattle.std.proofs.Common.{◌≡◌, ◌∙◌, ◌+◌, Some, get_or, sym, subst}
use Rattle.std.specs.Prelude.{slice_get}
use Rattle.std.specs.BTreeSet.{contains}
use Rattle.std.proofs.lemmas.Option.{slice_get-get_or}
use Rattle.lrc_judge.specs.declared.lanes.Pair.{Pair}
use Rattle.lrc_judge.specs.Races.{race_cmp}
use Rattle.lrc_judge.proofs.Leading.{AreLeading, leading_none, leading_new, leading_same, leading_whole, was_new, was_known}
use Rattle.lrc_judge.proofs.first_pairs.leaders_of.Goals as goal
use Rattle.lrc_judge.proofs.first_pairs.leaders_of.Goals.{then-branch+in_ok-push, else-branch}

abbrev no_pair : Pair
no_pair = record { later = 0; earlier = 0 }

pub loop-pair-init : goal.loop-pair-init
loop-pair-init c =
    leading_none c.args.acts.now c.args.intervals.now c.args.pairs.now c.new-named.result c.new-leaders.result.items c.new-named.ensures.empty
    c.new-leaders.ensures.items

pub loop-pair-preserved : goal.loop-pair-preserved
loop-pair-preserved c =
    let run = c.args.acts.now in
    let intervals = c.args.intervals.now in
    let pairs = c.args.pairs.now in
    let i = c.loop-pair.pair-index in
    let here = get_or pairs i no_pair in
    let race = c.name_of-race.result in
    let old = c.loop-pair.named in
    let at : slice_get pairs i ≡ Some here = slice_get-get_or pairs i no_pair c.loop-pair-test.true in
    elim c.if-branch.branch [
      | then-branch+in_ok-push w ↦
          subst (λ leaders. AreLeading run intervals pairs (i + 1) c.insert.new.self leaders.items) (sym w.leaders-is)
          (leading_new run intervals pairs i here race at c.name_of-race.ensures old c.insert.new.self c.in_ok-insert.ensures.updates
          c.loop-pair.leaders.items c.loop-pair.invariant (was_new (contains race_cmp old race) (sym c.in_ok-insert.ensures.added ∙ w.if-branch.true))
          w.push.new.self.items w.in_ok-push.ensures.items)
      | else-branch w ↦
          subst (λ leaders. AreLeading run intervals pairs (i + 1) c.insert.new.self leaders.items) (sym w.leaders-is)
          (leading_same run intervals pairs i here race at c.name_of-race.ensures old c.insert.new.self c.in_ok-insert.ensures.updates
          c.loop-pair.leaders.items c.loop-pair.invariant (was_known (contains race_cmp old race) (sym c.in_ok-insert.ensures.added ∙ w.if-branch.false)))
    ]

pub returns : goal.returns
returns c = leading_whole c.args.acts.now c.args.intervals.now c.args.pairs.now c.loop-pair.pair-index c.loop-pair.named c.loop-pair.leaders.items
    c.loop-pair-test.false c.loop-pair.invariant
