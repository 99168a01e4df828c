use Rattle.lrc_text.proofs.Fronts.{begins_still}
use Rattle.lrc_text.proofs.Pushed.{err_is}
use Rattle.lrc_labels.proofs.show.push_each_index.Goals as goal

pub returns-in_err-push_index-clause-err : goal.returns-in_err-push_index-clause-err
returns-in_err-push_index-clause-err c =
    err_is c.from_residual.result
    (begins_still c.args.text.now.items _ c.loop-index.text.items c.push_index.new.text.items c.loop-index.invariant c.in_err-push_index.ensures.err)
