use Rattle.std.proofs.Common.{◌∙◌, ◌<◌, ◌++◌, ap, sym, append_assoc, length, take, get_or}
use Rattle.lrc_judge.specs.declared.lanes.Pair.{Pair}
use Rattle.lrc_text.proofs.Each.{each_more}
use Rattle.lrc_step.specs.Lines.{pair_text, pairs_text}
use Rattle.lrc_step.proofs.lines.push_pairs.Goals as goal

abbrev no_pair : Pair
no_pair = record { later = 0; earlier = 0 }

pub loop-place-preserved : goal.loop-place-preserved
loop-place-preserved c =
    let pairs = c.args.pairs.now in
    let n = c.loop-place.place in
    let within : n < length pairs = c.loop-place-test.true in
    c.in_ok-push_pair.ensures
    ∙ ap (λ l. l ++ pair_text n (get_or pairs n no_pair)) c.loop-place.invariant
    ∙ append_assoc _ (pairs_text (take n pairs)) (pair_text n (get_or pairs n no_pair))
    ∙ ap (λ l. c.args.text.now.items ++ l) (sym (each_more pair_text pairs n no_pair within))
