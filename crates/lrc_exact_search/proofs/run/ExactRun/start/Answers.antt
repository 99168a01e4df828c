use Rattle.lrc_exact_search.proofs.Standing.{begun}
use Rattle.lrc_exact_search.proofs.run.ExactRun.start.Goals as goal

pub returns-clause-at : goal.returns-clause-at
returns-clause-at c =
    begun c.args.task.now _ c.requires c.new.ensures.items c.in_ok-start.ensures.first c.in_ok-start.ensures.state c.in_ok-new.ensures.memory
    c.in_ok-new.ensures.layout
