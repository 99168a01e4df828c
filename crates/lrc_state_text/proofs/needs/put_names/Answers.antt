use Rattle.lrc_state_text.specs.Needs.{name_of}
use Rattle.lrc_state_text.proofs.Lists.{mapped_next}
use Rattle.lrc_state_text.proofs.needs.put_names.Goals as goal

pub loop-place-preserved : goal.loop-place-preserved
loop-place-preserved c =
    mapped_next (name_of c.args.node) c.args.indices.now c.loop-place.place c.at-index.result c.args.names.now.items c.loop-place.names.items
    c.push.new.self.items c.at-index.ensures c.loop-place.invariant c.in_ok-push.ensures.items
