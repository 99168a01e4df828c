use Rattle.lrc_lang.proofs.Trees.{block_of-push}
use Rattle.lrc_lang.proofs.body.Body.done.Goals as goal

pub returns-clause-step : goal.returns-clause-step
returns-clause-step c =
    rw (c.go_to.ensures.outer, c.go_to.ensures.before, c.go_to.ensures.place, c.in_ok-push.ensures.items, block_of-push)
