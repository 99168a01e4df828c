use Rattle.std.proofs.Common.{◌≡◌, ◌<◌, All, AllPairs, IsTrue, take}
use Rattle.std.specs.List.{filter}
use Rattle.lrc_store.specs.Interval.{by_node}
use Rattle.lrc_barrier.specs.Barrier.{intervals_of, is_news}
use Rattle.lrc_barrier.specs.Filled.{all_with}
use Rattle.lrc_barrier.proofs.departing.news_of_all.Given as goal

abbrev pub invariant-loop-node : goal.invariant-loop-node
invariant-loop-node l = record {
  news : l.news.items ≡ filter (is_news l.since) (intervals_of (all_with l.last (take l.node l.kept)));
  ascending : AllPairs (λ a b. IsTrue (by_node a b)) (intervals_of (all_with l.last (take l.node l.kept)));
  below : All (λ i. i.node < l.node) (intervals_of (all_with l.last (take l.node l.kept)));
}
