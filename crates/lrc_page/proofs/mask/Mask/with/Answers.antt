use Rattle.std.proofs.Common.{◌≡◌, ◌<◌, ◌/◌, arith}
use Rattle.lrc_page.proofs.Masks.{has-with, with_offset-is}
use Rattle.lrc_page.proofs.mask.Mask.with.Goals as goal

pub returns-clause-members : goal.returns-clause-members
returns-clause-members c = λ other.
    let place : c.from-place.result ≡ c.args.offset / 64 = c.from-place.ensures in
    let small : c.args.offset < 256 = omega (arith, c.ranges.offset.fits) in
    rw (place, ← c.self.view_is) (has-with c.self.inside.words c.args.offset other c.self.told small)

pub returns-clause-exact : goal.returns-clause-exact
returns-clause-exact c =
    let place : c.from-place.result ≡ c.args.offset / 64 = c.from-place.ensures in
    rw (place, ← c.self.view_is) (with_offset-is c.self.inside.words c.args.offset)
