use Rattle.std.proofs.Common.{refl, []}
use Rattle.lrc_state_text.specs.Words.{used_word}
use Rattle.lrc_state_text.proofs.Lists.{each_next}
use Rattle.lrc_state_text.proofs.words.used_words.Goals as goal

pub loop-place-preserved : goal.loop-place-preserved
loop-place-preserved c =
    each_next (used_word c.args.first) c.args.values.now c.loop-place.place _ 0 [] c.loop-place.words.items c.put_used.new.words.items
    c.loop-place-test.true refl c.loop-place.invariant c.in_ok-put_used.ensures
