use Rattle.std.proofs.Common.{◌+◌, ◌<◌, ◌∙◌, ap, length, sym, subst, arith}
use Rattle.std.specs.Prelude.{Some}
use Rattle.std.proofs.lemmas.Option.{slice_get-get_or}
use Rattle.lrc_orders.proofs.Keeping.{stands_on}
use Rattle.lrc_explore.specs.Cut.{are_more, is_longer}
use Rattle.lrc_explore_less.specs.Enough.{IsVisit}
use Rattle.lrc_explore_less.proofs.Seeking.{Seeking, no_shorter, seeking_first, seeking_grown, seeking_more, through}
use Rattle.lrc_explore_less.proofs.Steps.{begun_on}
use Rattle.lrc_explore_less.proofs.less.Less.seek.Goals as goal

pub loop-index-init : goal.loop-index-init
loop-index-init c = (seeking_first c.args.task.now c.args.self.now c.args.races c.requires.less c.requires.begun, omega arith)

pub end_of_all-requires-clause-cut : goal.end_of_all-requires-clause-cut
end_of_all-requires-clause-cut c = are_more (c.are_too_many-many.ensures.many c.if-many.true)

pub end_of_all-requires-in-Cut-clause-cut : goal.end_of_all-requires-in-Cut-clause-cut
end_of_all-requires-in-Cut-clause-cut c =
    let long = subst (IsVisit c.args.task.now c.visit.new.self _ c.args.races) c.in-Cut.is c.in_ok-p.ensures.visit in
    is_longer long.0 long.1

pub returns-in-Cut-clause-begun : goal.returns-in-Cut-clause-begun
returns-in-Cut-clause-begun c =
    let begun = c.loop-index.invariant.0.begun in
    begun_on c.args.task.now c.loop-index.self c.visit.new.self c.in_ok-p.ensures.widens begun

pub visit-requires-clause-within : goal.visit-requires-clause-within
visit-requires-clause-within c =
    let old = c.loop-index.self in
    let index = c.loop-index.index in
    let lt : index < length old.opens.items = omega (arith, c.loop-index-test.true, c.len.ensures) in
    c.loop-index.invariant.0.less.within index c.index-place.result.now (slice_get-get_or old.opens.items index _ lt ∙ ap Some (sym c.index-place.ensures))

pub returns-in-Meeting-clause-begun : goal.returns-in-Meeting-clause-begun
returns-in-Meeting-clause-begun c = begun_on c.args.task.now c.loop-index.self c.visit.new.self c.in_ok-p.ensures.widens c.loop-index.invariant.0.begun

pub returns-in-Meeting-clause-sought : goal.returns-in-Meeting-clause-sought
returns-in-Meeting-clause-sought c = subst (IsVisit c.args.task.now c.visit.new.self _ c.args.races) c.in-Meeting.is c.in_ok-p.ensures.visit

pub returns-clause-sought : goal.returns-clause-sought
returns-clause-sought c =
    through c.args.task.now c.loop-index.self c.loop-index.index (omega (arith, c.loop-index-test.false, c.len.ensures)) c.args.races c.loop-index.stuck
    c.loop-index.invariant.0

pub loop-index-preserved : goal.loop-index-preserved
loop-index-preserved c =
    let task = c.args.task.now in
    let old = c.loop-index.self in
    let new = c.visit.new.self in
    let index = c.loop-index.index in
    let races = c.args.races in
    let stuck = c.loop-index.stuck in
    let i = c.loop-index.invariant in
    let e = c.in_ok-p.ensures in
    let lt : index < length old.opens.items = omega (arith, c.loop-index-test.true, c.len.ensures) in
    let place = c.index-place.result.now in
    let seen = subst (IsVisit task new place races) c.in-Past.is e.visit in
    let at = stands_on index place e.widens.opens (slice_get-get_or old.opens.items index _ lt ∙ ap Some (sym c.index-place.ensures)) in
    let g = seeking_grown task old new index races stuck i.0 i.1 e.less e.widens in (
      subst (Seeking task new (index + 1) races) (sym c.first_stuck-stuck.ensures)
          (seeking_more task new index place races c.in-Past.halts at seen stuck g),
      (let longer = no_shorter old.opens.items new.opens.items e.widens.opens in omega (arith, longer, lt)),
    )

pub loop-index-smaller : goal.loop-index-smaller
loop-index-smaller c =
    let few = c.are_too_many-many.ensures.fits c.if-many.false in
    omega (arith, few, c.loop-index-test.true, c.len.ensures)
