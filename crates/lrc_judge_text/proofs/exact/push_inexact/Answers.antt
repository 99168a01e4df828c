use Rattle.std.proofs.lemmas.Result.{on_ok_weaker}
use Rattle.lrc_text.proofs.Fronts.{grown_by}
use Rattle.lrc_judge_text.proofs.exact.push_inexact.Goals as goal

pub returns : goal.returns
returns c =
    on_ok_weaker c.push_what.result (λ is. grown_by c.args.text.now.items _ _ c.in_ok-push_where.ensures is) c.push_what.ensures
