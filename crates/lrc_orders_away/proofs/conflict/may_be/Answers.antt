use Rattle.std.proofs.Common.{◌≡◌, ◌∙◌, true, false, sym}
use Rattle.lrc_orders_away.proofs.conflict.may_be.Goals as goal

pub returns : goal.returns
returns c = λ e privates are is.
    let has = c.has.ensures.1 (c.range_of.ensures privates c.args.value are is) in
    let off : true ≡ false = sym has ∙ e in
    cc
