use Rattle.std.proofs.Common.{◌≡◌, length, arith, lit<}
use Rattle.lrc_lock.specs.Held.{first_state}
use Rattle.lrc_lock.proofs.Starts.{made_length, made_more, is_held}
use Rattle.lrc_lock.proofs.held.Held.new.Goals as goal

pub push-requires : goal.push-requires
push-requires c =
    let long : length c.loop-lock.states.items ≡ c.loop-lock.lock = made_length _ _ _ c.loop-lock.invariant in
    (lit< tt, omega (arith, long))

pub loop-lock-preserved : goal.loop-lock-preserved
loop-lock-preserved c =
    made_more (first_state c.args.me c.args.nodes) c.loop-lock.lock c.loop-lock.states.items _ c.loop-lock.invariant
    (rw (← c.first.ensures) c.push.ensures.items)

pub invariant_of-result : goal.invariant_of-result
invariant_of-result c =
    is_held c.args.me c.args.nodes c.loop-lock.lock _ c.requires.here c.requires.few (omega arith) c.loop-lock.invariant
