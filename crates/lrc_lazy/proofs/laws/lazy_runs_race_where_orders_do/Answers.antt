use Rattle.lrc_lazy.proofs.Racing.{order_to_lazy, lazy_to_order, none_to_order, none_to_lazy}
use Rattle.lrc_lazy.proofs.laws.lazy_runs_race_where_orders_do.Goals as goal

pub returns-clause-some : goal.returns-clause-some
returns-clause-some c = λ program nodes. (lazy_to_order program nodes, order_to_lazy program nodes)

pub returns-clause-none : goal.returns-clause-none
returns-clause-none c = λ program nodes. (none_to_order program nodes, none_to_lazy program nodes)
