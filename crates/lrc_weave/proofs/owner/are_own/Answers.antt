use Rattle.std.proofs.Common.{rules, ◌↔◌, IsTrue, subst}
use Rattle.lrc_weave.specs.Matched.{own_in}
use Rattle.lrc_weave.specs.Compared.{AreOwn}
use Rattle.lrc_weave.proofs.Owning.{turns_end, turns_more, turns_not}
use Rattle.lrc_weave.proofs.owner.are_own.Goals as goal

pub returns-then-not-is_turn_next : goal.returns-then-not-is_turn_next
returns-then-not-is_turn_next c =
    turns_not c.args.owner c.args.log.now c.args.history.now (own_in c.args.owner c.loop-entry.rest.now)
    (own_in c.args.owner c.is_turn_next.new.rest.now) c.loop-entry.entry-index c.entry-item.result _ _ c.is_turn_next.result (search rules)
    (search rules) c.loop-entry.invariant c.is_turn_next.ensures (search rules) (search rules) (search rules)

pub loop-entry-preserved : goal.loop-entry-preserved
loop-entry-preserved c =
    turns_more c.args.owner c.args.log.now c.args.history.now (own_in c.args.owner c.loop-entry.rest.now)
    (own_in c.args.owner c.is_turn_next.new.rest.now) c.loop-entry.entry-index c.entry-item.result _ _ c.is_turn_next.result (search rules)
    (search rules) c.loop-entry.invariant c.is_turn_next.ensures (search rules) (search rules) (search rules)

pub returns : goal.returns
returns c =
    subst (λ b. IsTrue b ↔ AreOwn c.args.owner c.args.log.now c.args.history.now) (search rules)
    (turns_end c.args.owner c.args.log.now c.args.history.now c.loop-entry.rest.now c.next_own.new.history.now c.loop-entry.entry-index
    (search rules) c.loop-entry.invariant c.next_own.result c.next_own.ensures)
