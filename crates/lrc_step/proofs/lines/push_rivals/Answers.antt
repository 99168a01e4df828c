use Rattle.std.proofs.Common.{◌∙◌, ◌<◌, ◌++◌, Option, None, ap, sym, append_assoc, length, take, get_or}
use Rattle.lrc_text.proofs.Each.{each_more}
use Rattle.lrc_step.specs.Lines.{rival_at, rivals_text}
use Rattle.lrc_step.specs.declared.rivals.Rival.{Rival}
use Rattle.lrc_step.proofs.lines.push_rivals.Goals as goal

abbrev no_rival : Option Rival
no_rival = None

pub loop-node-preserved : goal.loop-node-preserved
loop-node-preserved c =
    let rivals = c.args.rivals.now in
    let n = c.loop-node.node in
    let within : n < length rivals = c.loop-node-test.true in
    c.in_ok-push_rival_at.ensures
    ∙ ap (λ l. l ++ rival_at n (get_or rivals n no_rival)) c.loop-node.invariant
    ∙ append_assoc _ (rivals_text (take n rivals)) (rival_at n (get_or rivals n no_rival))
    ∙ ap (λ l. c.args.text.now.items ++ l) (sym (each_more rival_at rivals n no_rival within))
