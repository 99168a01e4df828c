use Rattle.std.proofs.Common.{◌≡◌, subst, arith}
use Rattle.lrc_explore_less.specs.Passing.{AreFirst}
use Rattle.lrc_explore_less.proofs.Steps.{first_more, first_none}
use Rattle.lrc_explore_less.proofs.less.first_places.Goals as goal

pub loop-place-init : goal.loop-place-init
loop-place-init c = first_none c.args.places.now.items c.requires

pub loop-place-preserved : goal.loop-place-preserved
loop-place-preserved c = first_more c.loop-place.places.items c.push.new.self.items c.loop-place.place c.loop-place.invariant c.in_ok-push.ensures.items

pub returns : goal.returns
returns c =
    let all : c.loop-place.place ≡ c.args.count = omega arith in
    subst (AreFirst c.loop-place.places.items) all c.loop-place.invariant
