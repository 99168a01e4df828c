-- One event more has its number.
use Rattle.std.proofs.Common.{◌+◌, ◌<◌, ◌∙◌, ◌^◌, length, sym, subst, ap, arith}
use Rattle.std.proofs.lemmas.Option.{slice_get-get_or}
use Rattle.std.proofs.lemmas.List.{length_push}
use Rattle.lrc_races_trace.proofs.Positions.{At-within}
use Rattle.lrc_races_why.specs.Cycles.{AreCycles}
use Rattle.lrc_races_why.proofs.Cycling.{cycles-none, number_pushed}
use Rattle.lrc_races_why.proofs.cycles.cycles_of.Goals as goal

pub loop-event-init : goal.loop-event-init
loop-event-init c = record {
  kept = cycles-none c.args.events.now c.new-barriers.result.items c.new-barriers.ensures.items;
  all = ap length c.new-numbers.ensures.items;
  each = λ k a lt at. absurd (omega (arith, lt));
}

pub loop-event-preserved : goal.loop-event-preserved
loop-event-preserved c =
    let events = c.args.events.now in
    let n = c.loop-event.event-index in
    let inv = c.loop-event.invariant in
    let few : n + 1 < 2 ^ 64 = omega arith in
    let kept = subst (λ l. AreCycles events n l) (sym c.as_slice.ensures.value) inv.kept in
    record {
      kept = c.in_ok-take.ensures events n few (record { is = slice_get-get_or events n _ c.loop-event-test.true }) inv.kept;
      all = ap length c.in_ok-push.ensures.items ∙ length_push c.loop-event.numbers.items c.number_of.result ∙ ap (λ m. m + 1) inv.all;
      each = number_pushed events n c.loop-event.numbers.items c.push.new.self.items _ c.number_of.result
          (record { is = slice_get-get_or events n _ c.loop-event-test.true }) (c.number_of.ensures events n kept)
          inv.all c.in_ok-push.ensures.items inv.each;
    }

pub returns : goal.returns
returns c = record {
  all = omega (arith, c.loop-event.invariant.all, c.loop-event-test.false);
  each = λ k a at. let within = At-within at in c.loop-event.invariant.each k a (omega (arith, within, c.loop-event-test.false)) at;
}
