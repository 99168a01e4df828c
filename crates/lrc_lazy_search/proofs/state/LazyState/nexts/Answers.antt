use Rattle.std.proofs.lemmas.Result.{IfOk-weaker}
use Rattle.lrc_lazy_search.specs.Searching.{of_one, of_all}
use Rattle.lrc_lazy_search.proofs.Neat.{none_neat}
use Rattle.lrc_lazy_search.proofs.state.LazyState.nexts.Goals as goal

pub returns-in_ok-nexts_of-in-Some-clause-enough : goal.returns-in_ok-nexts_of-in-Some-clause-enough
returns-in_ok-nexts_of-in-Some-clause-enough c =
    of_one c.in-Some.node (c.in_front.ensures.front c.in-Some.node c.in-Some.is) (c.in_front.ensures.first c.in-Some.node c.in-Some.is) c.in_ok-nexts_of-in-Some.ensures.all

pub returns-in-None-clause-enough : goal.returns-in-None-clause-enough
returns-in-None-clause-enough c =
    IfOk-weaker c.nexts_of_all.result _ _ (λ all each. of_all (c.in_front.ensures.none c.in-None.is) each) c.nexts_of_all.ensures.all

pub returns-in_ok-nexts_of-in-Some-clause-neat : goal.returns-in_ok-nexts_of-in-Some-clause-neat
returns-in_ok-nexts_of-in-Some-clause-neat c = λ neat.
    c.in_ok-nexts_of-in-Some.ensures.neat neat (none_neat c.args.flat.now c.new-all.result.items c.new-all.ensures.items)
