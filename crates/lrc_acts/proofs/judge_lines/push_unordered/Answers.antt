-- What a refused end leaves: four parts were added before it.
use Rattle.std.proofs.Common.{◌∙◌}
use Rattle.std.proofs.lemmas.Result.{on_err_weaker}
use Rattle.lrc_text.specs.Front.{BeginsWith}
use Rattle.lrc_text.proofs.Fronts.{begins_still, four}
use Rattle.lrc_acts.proofs.judge_lines.push_unordered.Goals as goal

pub returns-clause-err : goal.returns-clause-err
returns-clause-err c =
    let old = c.args.text.now.items in
    on_err_weaker c.push_last.result
    (λ (begins : BeginsWith c.push_last.new.text.items c.push_read.new.text.items).
    begins_still old _ c.push_read.new.text.items c.push_last.new.text.items (c.in_ok-push_read.ensures.ok ∙ four old _ _ _ _) begins)
    c.push_last.ensures.err
