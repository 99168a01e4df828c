-- One event more.
use Rattle.std.proofs.Common.{◌+◌, ◌++◌, ◌∙◌, ap, sym, subst}
use Rattle.std.proofs.lemmas.Option.{slice_get-get_or}
use Rattle.lrc_races_sure_pass.specs.Detecting.{AreSureToldBefore}
use Rattle.lrc_races_sure_pass.proofs.Collecting.{told-none, told-more, told-all}
use Rattle.lrc_races_sure_pass.proofs.trace.take_all.Goals as goal

pub loop-event-init : goal.loop-event-init
loop-event-init c = record {
  taken = c.requires.fresh;
  told = subst (λ ps. AreSureToldBefore c.args.events.now 0 ps) (sym c.requires.none) (told-none c.args.events.now);
}

pub loop-event-preserved : goal.loop-event-preserved
loop-event-preserved c =
    let events = c.args.events.now in
    let n = c.loop-event.event-index in
    let both = c.in_ok-take.ensures events n (record { is = slice_get-get_or events n _ c.loop-event-test.true }) c.loop-event.invariant.taken in
    let all = c.in_ok-extend_from_slice.ensures.items ∙ ap (λ xs. c.loop-event.all.items ++ xs) c.as_slice.ensures.value in
    record {
      taken = both.0;
      told = subst (λ ps. AreSureToldBefore events (n + 1) ps) (sym all)
          (told-more events n c.loop-event.all.items c.take.new.told.items c.loop-event.invariant.told both.1);
    }

pub returns : goal.returns
returns c = told-all c.args.events.now c.loop-event.event-index c.loop-event.all.items c.loop-event-test.false c.loop-event.invariant.told
