use Rattle.std.proofs.Common.{rules}
use Rattle.lrc_weave.specs.Matched.{own_in}
use Rattle.lrc_weave.proofs.Owning.{puts_more, puts_not}
use Rattle.lrc_weave.proofs.owner.are_puts_next.Goals as goal

pub returns-then-not-is_put_next : goal.returns-then-not-is_put_next
returns-then-not-is_put_next c =
    puts_not c.args.owner c.args.out.now c.loop-envelope.envelope-index c.envelope-item.result (own_in c.args.owner c.args.rest.now.now)
    (own_in c.args.owner c.loop-envelope.rest.now) (own_in c.args.owner c.is_put_next.new.rest.now) c.is_put_next.result (search rules)
    (search rules) c.loop-envelope.invariant c.is_put_next.ensures (search rules)

pub loop-envelope-preserved : goal.loop-envelope-preserved
loop-envelope-preserved c =
    puts_more c.args.owner c.args.out.now c.loop-envelope.envelope-index c.envelope-item.result (own_in c.args.owner c.args.rest.now.now)
    (own_in c.args.owner c.loop-envelope.rest.now) (own_in c.args.owner c.is_put_next.new.rest.now) c.is_put_next.result (search rules)
    (search rules) c.loop-envelope.invariant c.is_put_next.ensures (search rules)
