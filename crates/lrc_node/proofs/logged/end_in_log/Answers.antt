use Rattle.std.proofs.Common.{◌≡◌, ◌∙◌, ◌+◌, suc, Some, length, take, refl, ap, arith, rules}
use Rattle.std.specs.Prelude.{slice_get}
use Rattle.std.proofs.lemmas.Option.{slice_get_read}
use Rattle.lrc_node.specs.Logged.{ended_by, end_next}
use Rattle.lrc_node.proofs.Ending.{ended_more}
use Rattle.lrc_node.proofs.logged.end_in_log.Goals as goal

pub loop-entry-preserved : goal.loop-entry-preserved
loop-entry-preserved c =
    let i = c.loop-entry.entry-index in
    let at : slice_get c.args.log.now i ≡ Some c.entry-item.result =
    slice_get_read c.args.log.now (length c.args.log.now) i c.entry-item.result refl (omega (arith, c.loop-entry-test.true)) c.entry-item.is in
    let next : c.end_next-end.result ≡ end_next c.loop-entry.end c.entry-item.result.turn.act = search rules in
    let more : suc i ≡ i + 1 = omega arith in
    ended_more c.args.log.now i c.entry-item.result c.end_next-end.result at (next ∙ ap (λ e. end_next e c.entry-item.result.turn.act) c.loop-entry.invariant)
    ∙ ap (λ n. ended_by (take n c.args.log.now)) more
