use Rattle.std.proofs.Common.{◌≡◌, ◌++◌, ◌∙◌, IsTrue, ap, arith, length, refl, sym, take, ◌+◌, List, Option}
use Rattle.std.specs.List.{filter}
use Rattle.std.proofs.lemmas.List.{take_all}
use Rattle.std.proofs.lemmas.List.Elements.{filter-append}
use Rattle.std.proofs.lemmas.Result.{IfOk-from_err}
use Rattle.lrc_barrier.specs.declared.arrival.Arrival.{Arrival}
use Rattle.std.proofs.lemmas.List.Kept.{AllPairs-filter}
use Rattle.lrc_store.specs.Interval.{IntervalRecord, by_node}
use Rattle.lrc_barrier.specs.Barrier.{intervals_of, is_news, IsArrival}
use Rattle.lrc_barrier.specs.Filled.{all_with}
use Rattle.lrc_barrier.proofs.Filled.{is_arrival_at, news_more}
use Rattle.lrc_barrier.proofs.News.{ascending_more, below_more}
use Rattle.lrc_barrier.proofs.departing.news_of_all.Goals as goal

pub add_news-requires-clause-own : goal.add_news-requires-clause-own
add_news-requires-clause-own c =
    rw c.requires.counted
    (is_arrival_at (length c.args.kept.now) c.args.last.now c.args.kept.now c.loop-node.node c.index-kept-node.result
    c.arrival_in.result.now refl c.requires.arrivals (omega arith) c.index-kept-node.is c.arrival_in.ensures)

pub loop-node-preserved : goal.loop-node-preserved
loop-node-preserved c =
    let since = c.args.since.now in
    let kept = c.args.kept.now in
    let last = c.args.last.now in
    let node = c.loop-node.node in
    let arrival = c.arrival_in.result.now in
    let before = intervals_of (all_with last (take node kept)) in
    let own : IsArrival (length kept) node arrival =
    is_arrival_at (length kept) last kept node c.index-kept-node.result arrival refl c.requires.arrivals (omega arith)
    c.index-kept-node.is c.arrival_in.ensures in
    let more : intervals_of (all_with last (take (node + 1) kept)) ≡ before ++ arrival.intervals =
    news_more last kept node c.index-kept-node.result arrival (omega arith) c.index-kept-node.is c.arrival_in.ensures in
    record {
      news =
          c.in_ok-add_news.ensures.news
          ∙ ap (λ (xs : List IntervalRecord). xs ++ filter (is_news since) arrival.intervals) c.loop-node.invariant.news
          ∙ sym (filter-append (is_news since) before arrival.intervals)
          ∙ ap (filter (is_news since)) (sym more);
      ascending =
          rw more
          (ascending_more node before arrival.intervals c.loop-node.invariant.ascending c.loop-node.invariant.below
          c.in_ok-add_news.ensures.ascending own.own);
      below = rw more (below_more node before arrival.intervals c.loop-node.invariant.below own.own);
    }

pub from_ascending-requires : goal.from_ascending-requires
from_ascending-requires c =
    rw c.loop-node.invariant.news
    (AllPairs-filter (λ (a b : IntervalRecord). IsTrue (by_node a b)) (is_news c.args.since.now)
    (intervals_of (all_with c.args.last.now (take c.loop-node.node c.args.kept.now))) c.loop-node.invariant.ascending)

pub returns-in_err-news : goal.returns-in_err-news
returns-in_err-news c = IfOk-from_err _ _ c.from_residual.ensures.0

pub returns-in_err-add_news : goal.returns-in_err-add_news
returns-in_err-add_news c = IfOk-from_err _ _ c.from_residual-in_err-add_news.ensures.0

pub loop-node-init : goal.loop-node-init
loop-node-init c = record {
  news = c.in_ok-news.ensures.items;
  ascending = λ i j d h within. absurd (omega (arith, within));
  below = λ k d within. absurd (omega (arith, within));
}

pub returns : goal.returns
returns c =
    c.from_ascending.ensures ∙ c.loop-node.invariant.news
    ∙ ap (λ (kept : List (Option Arrival)). filter (is_news c.args.since.now) (intervals_of (all_with c.args.last.now kept)))
    (take_all c.loop-node.node c.args.kept.now (omega (arith, c.loop-node-test.false)))
