use Rattle.std.proofs.Common.{◌∙◌, ◌++◌, ◌∷◌, [], ap}
use Rattle.lrc_state_text.specs.declared.words.Word.{Word}
use Rattle.lrc_state_text.specs.Words.{changed_word}
use Rattle.lrc_state_text.proofs.Lists.{mapped_next}
use Rattle.lrc_state_text.proofs.words.changed_words.Goals as goal

pub loop-place-preserved : goal.loop-place-preserved
loop-place-preserved c =
    mapped_next (changed_word c.args.first) c.args.changes.now c.loop-place.place c.at.result [] c.loop-place.words.items c.push.new.self.items
    c.at.ensures c.loop-place.invariant
    (c.in_ok-push.ensures.items ∙ ap (λ (w : Word). c.loop-place.words.items ++ w ∷ []) c.changed_word.ensures)
