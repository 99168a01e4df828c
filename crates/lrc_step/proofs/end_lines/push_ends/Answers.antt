use Rattle.std.proofs.Common.{◌∙◌, ◌<◌, ◌++◌, ap, sym, append_assoc, length, take, get_or}
use Rattle.lrc_text.proofs.Each.{each_more}
use Rattle.lrc_explain_waits.specs.declared.stand.Fate.TheVariants.{Ended}
use Rattle.lrc_step.specs.EndLines.{end_at, ends_text}
use Rattle.lrc_step.specs.declared.end_lines.End.{End}
use Rattle.lrc_step.proofs.end_lines.push_ends.Goals as goal

abbrev no_end : End
no_end = record { fate = Ended; line = 0; prints = 0 }

pub loop-node-preserved : goal.loop-node-preserved
loop-node-preserved c =
    let ends = c.args.ends.now in
    let n = c.loop-node.node in
    let within : n < length ends = c.loop-node-test.true in
    c.in_ok-push_end_at.ensures
    ∙ ap (λ l. l ++ end_at n (get_or ends n no_end)) c.loop-node.invariant
    ∙ append_assoc _ (ends_text (take n ends)) (end_at n (get_or ends n no_end))
    ∙ ap (λ l. c.args.text.now.items ++ l) (sym (each_more end_at ends n no_end within))
