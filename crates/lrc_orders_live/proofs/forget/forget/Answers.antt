use Rattle.std.proofs.Common.{◌≡◌, ◌∙◌, sym, arith, length}
use Rattle.std.proofs.lemmas.Grind.{same_number_lists}
use Rattle.lrc_orders_live.specs.Live.{without_dead}
use Rattle.lrc_orders_live.proofs.Dead.{dead_at, length_dead}
use Rattle.lrc_orders_live.proofs.forget.forget.Goals as goal

pub returns : goal.returns
returns c =
    let live = c.args.live.now in
    let values = c.args.privates.now in
    let size : length live ≡ 32 = c.told-live in
    let many : length values ≡ 32 = c.told-privates in
    same_number_lists c.loop-name.privates (without_dead live values) (c.loop-name.invariant.0 ∙ sym (length_dead live values))
    (λ k lt.
    c.loop-name.invariant.1 k (omega (arith, lt, c.loop-name.invariant.0, many, c.loop-name-test.false))
    ∙ sym (dead_at live values k (omega (arith, lt, c.loop-name.invariant.0, many, size))))
