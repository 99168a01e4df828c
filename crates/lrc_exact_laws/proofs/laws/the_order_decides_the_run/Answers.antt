use Rattle.lrc_exact.specs.Rule.{exact_rule}
use Rattle.lrc_exact_laws.proofs.Ordered.{order_decides}
use Rattle.lrc_exact_laws.proofs.laws.the_order_decides_the_run.Goals as goal

pub returns : goal.returns
returns c = λ program shape run other a b (rest, order).
    order_decides (exact_rule shape) (λ state word. (state.words word).value) program shape.nodes run other a.exact.states b.exact.states
    record { follows = a.follows; synchronized = a.synchronized; keeps = a.exact.keeps; reads = a.exact.reads }
    record { follows = b.follows; synchronized = b.synchronized; keeps = b.exact.keeps; reads = b.exact.reads } rest order
