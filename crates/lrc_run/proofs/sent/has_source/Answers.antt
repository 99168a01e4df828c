use Rattle.std.proofs.Common.{◌≡◌, ◌∙◌, ◌<◌, IsTrue, Some, ap, arith, false, length, map, subst, rules}
use Rattle.std.specs.Prelude.{option_map, slice_get}
use Rattle.std.proofs.lemmas.List.{length-map}
use Rattle.std.proofs.lemmas.Option.{slice_get-map, slice_get_within}
use Rattle.lrc_run.specs.Sources.{IsSentIn}
use Rattle.lrc_run.proofs.Sources.{at_place, no, none_more, untrue}
use Rattle.lrc_run.proofs.sent.has_source.Goals as goal

pub loop-log-preserved : goal.loop-log-preserved
loop-log-preserved c =
    let log = c.log-item.result in
    let at : slice_get c.args.logs.now c.loop-log.log-index ≡ Some log =
    at_place c.args.logs.now c.loop-log.log-index log log (search rules) c.log-item.is in
    let not_so : c.in_ok-is_sent_in.field-0 ≡ false = search rules in
    let seen : log.items ≡ c.as_slice.result.now = search rules in
    none_more (λ found. IsSentIn found c.args.last c.args.stamp c.args.envelope.now) (map (λ log. log.items) c.args.logs.now) c.loop-log.log-index log.items
    (slice_get-map (λ log. log.items) c.args.logs.now c.loop-log.log-index ∙ ap (option_map (λ log. log.items)) at)
    (λ has. untrue (subst IsTrue not_so
    (c.in_ok-is_sent_in.ensures.1 (subst (λ found. IsSentIn found c.args.last c.args.stamp c.args.envelope.now) seen has))))
    c.loop-log.invariant

pub returns : goal.returns
returns c = no (λ has.
    let logs = map (λ log. log.items) c.args.logs.now in
    let inside : has.1.0 < length logs = slice_get_within logs has.1.0 has.1.1 has.1.2 in
    let far : has.1.0 < c.loop-log.log-index = omega (arith, inside, length-map c.args.logs.now (λ log. log.items)) in
    c.loop-log.invariant has.1.0 has.1.1 far has.1.2 has.1.3)
