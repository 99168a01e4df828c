-- The condition is that of the statement at the node's place.
use Rattle.std.proofs.Common.{◌≡◌, ◌∙◌, get_or, sym, arith}
use Rattle.lrc_exec.specs.Flat.{rest_at}
use Rattle.lrc_exec.proofs.Running.{condition_holds-end, condition_holds-at}
use Rattle.lrc_exec.proofs.spot.Flat.condition_holds.Goals as goal

pub returns-in_default : goal.returns-in_default
returns-in_default c =
    let at_end : c.args.spot.now.place ≡ 0 = omega (arith, c.in_default.ensures) in
    sym (condition_holds-end c.args.self.now c.args.spot.now at_end)

pub returns : goal.returns
returns c =
    let flat = c.args.self.now in
    let d = c.index-self-index.result in
    let k = c.in-Some.index in
    c.is_met.ensures (rest_at flat.code.now (get_or flat.code.now k d).next)
    ∙ sym (condition_holds-at flat c.args.spot.now d k c.requires.flat c.requires.within c.in-Some.ensures.0 c.in-Some.ensures.1)
