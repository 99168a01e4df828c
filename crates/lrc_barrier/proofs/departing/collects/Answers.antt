use Rattle.std.proofs.Common.{ap, arith, sym, ◌∙◌}
use Rattle.lrc_barrier.specs.declared.arrival.Arrival.{Arrival}
use Rattle.lrc_barrier.proofs.Filled.{asks_none, asks_one}
use Rattle.lrc_barrier.proofs.departing.collects.Goals as goal

pub returns-then-arrival_in : goal.returns-then-arrival_in
returns-then-arrival_in c =
    sym (asks_one c.args.last.now c.args.kept.now c.loop-place.place-index c.place-item.result (omega arith) c.place-item.is
    (ap (λ (a : Arrival). a.ask) (sym c.arrival_in.ensures) ∙ c.if-arrival_in.true))

pub returns : goal.returns
returns c = sym (asks_none c.args.last.now c.args.kept.now (λ k d h. c.loop-place.invariant k d (omega (arith, h))))
