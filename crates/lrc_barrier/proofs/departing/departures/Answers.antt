use Rattle.std.proofs.Common.{◌∙◌, arith, length, refl}
use Rattle.std.proofs.lemmas.Result.{IfOk-from_err}
use Rattle.lrc_barrier.specs.declared.departure.Departure.{Departure}
use Rattle.lrc_barrier.specs.Barrier.{IsArrival}
use Rattle.lrc_barrier.specs.Filled.{all_with}
use Rattle.lrc_barrier.proofs.Filled.{departures_more, is_arrival_at, told_to}
use Rattle.lrc_barrier.proofs.departing.departures.Goals as goal

pub news_of_all-requires-clause-counted : goal.news_of_all-requires-clause-counted
news_of_all-requires-clause-counted c =
    let own : IsArrival (length c.args.kept.now) c.loop-node.node c.arrival_in-own.result.now =
    is_arrival_at (length c.args.kept.now) c.args.last.now c.args.kept.now c.loop-node.node c.index-kept-node.result
    c.arrival_in-own.result.now refl c.requires.arrivals (omega arith) c.index-kept-node.is c.arrival_in-own.ensures in
    own.counted

pub loop-node-preserved : goal.loop-node-preserved
loop-node-preserved c =
    let kept = c.args.kept.now in
    let last = c.args.last.now in
    let node = c.loop-node.node in
    let arrival = c.arrival_in-own.result.now in
    let own : IsArrival (length kept) node arrival =
    is_arrival_at (length kept) last kept node c.index-kept-node.result arrival refl c.requires.arrivals (omega arith)
    c.index-kept-node.is c.arrival_in-own.ensures in
    let departure : Departure = record {
      to = node;
      episode = arrival.episode;
      collect = c.collects-collect.result;
      time = c.copy.result;
      intervals = c.in_ok-intervals.intervals;
    } in
    departures_more last kept node c.index-kept-node.result arrival c.loop-node.list.items c.push.new.self.items departure
    (omega arith) c.index-kept-node.is c.arrival_in-own.ensures c.loop-node.invariant
    (told_to (length kept) (all_with last kept) node arrival c.collects-collect.result c.copy.result
    c.in_ok-intervals.intervals own.counted c.collects-collect.ensures
    (c.copy.ensures ∙ c.time_of_all-time.ensures.all) c.in_ok-intervals.ensures)
    c.in_ok-push.ensures.items

pub loop-node-init : goal.loop-node-init
loop-node-init c = c.in_ok-list.ensures.items

pub returns-in_err-list : goal.returns-in_err-list
returns-in_err-list c = IfOk-from_err c.from_residual.result _ c.from_residual.ensures.0

pub returns-in_err-intervals : goal.returns-in_err-intervals
returns-in_err-intervals c = IfOk-from_err c.from_residual-in_err-intervals.result _ c.from_residual-in_err-intervals.ensures.0

pub returns-in_err-push : goal.returns-in_err-push
returns-in_err-push c = IfOk-from_err c.from_residual-in_err-push.result _ c.from_residual-in_err-push.ensures.0
