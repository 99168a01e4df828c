use Rattle.std.proofs.Common.{◌≡◌, ◌∙◌, ◌<◌, IsTrue, Some, arith, false, length, map, sym, subst, take, rules}
use Rattle.std.specs.Prelude.{slice_get}
use Rattle.std.proofs.lemmas.Option.{slice_get_within}
use Rattle.lrc_protocol.specs.Run.{last_stamp}
use Rattle.lrc_run.specs.Sources.{IsTakeSent}
use Rattle.lrc_run.proofs.Sources.{at_place, each_more, last_at, no, untrue, yes}
use Rattle.lrc_run.proofs.sent.are_sent_to.Goals as goal

pub returns-then-not-branch : goal.returns-then-not-branch
returns-then-not-branch c = no (λ all.
    let entry = c.entry-item.result in
    let at : slice_get c.args.log.now c.loop-entry.entry-index ≡ Some entry =
    at_place c.args.log.now c.loop-entry.entry-index entry entry (search rules) c.entry-item.is in
    let not_so : c.in_ok-is_take_sent.field-0 ≡ false = search rules in
    untrue (subst IsTrue not_so (c.in_ok-is_take_sent.ensures.1
    (subst (λ last. IsTakeSent (map (λ log. log.items) c.args.logs.now) c.args.node last entry) (sym c.loop-entry.invariant.last_is)
    (all c.loop-entry.entry-index entry at)))))

pub loop-entry-preserved : goal.loop-entry-preserved
loop-entry-preserved c =
    let entry = c.entry-item.result in
    let at : slice_get c.args.log.now c.loop-entry.entry-index ≡ Some entry =
    at_place c.args.log.now c.loop-entry.entry-index entry entry (search rules) c.entry-item.is in
    let so : IsTrue c.in_ok-is_take_sent.field-0 = search rules in
    let stamp : c.entry.inside.stamp ≡ entry.stamp = search rules in
    record {
      last_is = stamp ∙ sym (last_at c.args.log.now c.loop-entry.entry-index entry at);
      sent = each_more (λ k entry. IsTakeSent (map (λ log. log.items) c.args.logs.now) c.args.node (last_stamp (take k c.args.log.now)) entry)
          c.args.log.now c.loop-entry.entry-index entry at
          (subst (λ last. IsTakeSent (map (λ log. log.items) c.args.logs.now) c.args.node last entry) c.loop-entry.invariant.last_is
          (c.in_ok-is_take_sent.ensures.0 so))
          c.loop-entry.invariant.sent;
    }

pub returns : goal.returns
returns c = yes (λ k entry at.
    let inside : k < length c.args.log.now = slice_get_within c.args.log.now k entry at in
    let far : k < c.loop-entry.entry-index = omega (arith, inside) in
    c.loop-entry.invariant.sent k entry far at)
