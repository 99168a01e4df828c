use Rattle.std.proofs.Common.{rules, ◌-◌, length}
use Rattle.lrc_weave.proofs.Repeated.{so_begun, so_more}
use Rattle.lrc_weave.proofs.again.again_of.Goals as goal

pub loop-place-init : goal.loop-place-init
loop-place-init c =
    so_begun c.args.log.now (length c.args.log.now) c.new-seen.result.keys c.in_ok-again.again.items (search rules) (search rules) (search rules)

pub loop-place-preserved : goal.loop-place-preserved
loop-place-preserved c =
    so_more c.args.log.now c.loop-place.place (c.loop-place.place - 1) c.loop-place.seen.keys c.note.new.seen.keys c.loop-place.again.items
    c.index-log-place.result _ c.in_ok-again-2.field-0 c.loop-place.invariant (search rules) (search rules) (search rules)
    c.in_ok-again-2.ensures.noted c.in_ok-again-2.ensures.more (search rules)
