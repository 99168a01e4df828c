use Rattle.std.proofs.Common.{refl}
use Rattle.lrc_acts_text.specs.Json.{entry_text}
use Rattle.lrc_state_text.proofs.Lists.{each_next}
use Rattle.lrc_state_text.proofs.json.push_all.Goals as goal

pub loop-place-preserved : goal.loop-place-preserved
loop-place-preserved c =
    each_next entry_text c.args.numbers.now c.loop-place.place _ 0 c.args.text.now.items c.loop-place.text.items c.push_entry.new.text.items
    c.loop-place-test.true refl c.loop-place.invariant c.in_ok-push_entry.ensures
