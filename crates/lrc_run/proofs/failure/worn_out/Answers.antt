use Rattle.std.proofs.Common.{◌≡◌, Err, ap, inr, map, subst}
use Rattle.lrc_node.specs.Options.{options_of}
use Rattle.lrc_run.specs.Halts.{IsUntoldWearing, logs_left}
use Rattle.lrc_run.proofs.failure.worn_out.Goals as goal

pub returns-in-Err-Mismatch : goal.returns-in-Err-Mismatch
returns-in-Err-Mismatch c = λ picker left_so.
    let program = c.args.program.now in
    let nodes = c.args.setting.now.nodes.count in
    let options = options_of c.args.setting.now in
    let left = c.args.left in
    let logs : map (λ log. log.items) c.as_slice.result.now ≡ logs_left left = ap (map (λ log. log.items)) c.as_slice.ensures.value in
    let wires : c.mailboxes.result.now ≡ left.wires = c.mailboxes.ensures.all in
    let untold = subst (λ w. IsUntoldWearing program nodes options (logs_left left) w c.args.node) wires
    (subst (λ l. IsUntoldWearing program nodes options l c.mailboxes.result.now c.args.node) logs
    (c.in-Err-Mismatch.ensures.mismatch (ap Err c.in-Err-Mismatch.field-0-is))) in
    record { left_so = left_so; differ = inr (c.args.node, c.requires.first, untold) }
