use Rattle.lrc_lint_warned.proofs.Standing.{place_all, place_at}
use Rattle.lrc_lint_warned.proofs.places.places_from.Goals as goal

pub loop-i-preserved : goal.loop-i-preserved
loop-i-preserved c =
    place_at c.args.scan c.args.tokens.now c.loop-i.i _ _ c.loop-i.places.items _ c.loop-i.behind_seam _ _
    c.loop-i-test.true c.loop-i.invariant c.is_wanted.ensures c.is_seam-behind_seam.ensures c.in_ok-put_place.ensures

pub returns : goal.returns
returns c =
    place_all c.args.scan c.args.tokens.now c.loop-i.i _ _ c.loop-i.behind_seam c.loop-i-test.false c.loop-i.invariant
