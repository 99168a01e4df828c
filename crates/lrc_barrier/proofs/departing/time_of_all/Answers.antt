use Rattle.std.proofs.Common.{◌∙◌, length, refl, sym, ap, arith}
use Rattle.lrc_time.proofs.Times.{length-joined_same}
use Rattle.lrc_barrier.specs.Barrier.{IsArrival}
use Rattle.lrc_barrier.proofs.Filled.{is_arrival_at, time_more}
use Rattle.lrc_barrier.proofs.departing.time_of_all.Goals as goal

pub join-requires : goal.join-requires
join-requires c =
    let own : IsArrival (length c.args.kept.now) c.loop-place.place-index c.arrival_in.result.now =
    is_arrival_at (length c.args.kept.now) c.args.last.now c.args.kept.now c.loop-place.place-index c.place-item.result
    c.arrival_in.result.now refl c.requires.arrivals (omega arith) c.place-item.is c.arrival_in.ensures in
    c.loop-place.invariant.counted ∙ sym own.counted

pub loop-place-preserved : goal.loop-place-preserved
loop-place-preserved c =
    let own : IsArrival (length c.args.kept.now) c.loop-place.place-index c.arrival_in.result.now =
    is_arrival_at (length c.args.kept.now) c.args.last.now c.args.kept.now c.loop-place.place-index c.place-item.result
    c.arrival_in.result.now refl c.requires.arrivals (omega arith) c.place-item.is c.arrival_in.ensures in
    record {
      all =
          time_more (length c.args.kept.now) c.args.last.now c.args.kept.now c.loop-place.place-index c.place-item.result
          c.arrival_in.result.now c.loop-place.time c.join.new.self (omega arith) c.place-item.is c.arrival_in.ensures
          c.loop-place.invariant.all c.join.ensures;
      counted =
          ap length c.join.ensures
          ∙ length-joined_same c.loop-place.time c.arrival_in.result.now.time (c.loop-place.invariant.counted ∙ sym own.counted)
          ∙ c.loop-place.invariant.counted;
    }
