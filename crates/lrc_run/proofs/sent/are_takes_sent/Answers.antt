use Rattle.std.proofs.Common.{◌≡◌, ◌∙◌, ◌<◌, IsTrue, Some, ap, arith, below_more, false, map, sym, subst, rules}
use Rattle.std.specs.Prelude.{option_map, slice_get}
use Rattle.std.proofs.lemmas.List.{length-map}
use Rattle.std.proofs.lemmas.Option.{slice_get-map}
use Rattle.lrc_protocol.specs.Follows.{log_of}
use Rattle.lrc_run.specs.Sources.{AreSentTo}
use Rattle.lrc_run.proofs.Sources.{all_sent, at_place, each_sent, log_there, no, untrue, yes}
use Rattle.lrc_run.proofs.sent.are_takes_sent.Goals as goal

pub returns-then-not-branch : goal.returns-then-not-branch
returns-then-not-branch c = no (λ are.
    let logs = map (λ log. log.items) c.args.logs.now in
    let node = c.loop-node.node in
    let log = c.index-logs-node.result in
    let at : slice_get c.args.logs.now node ≡ Some log = at_place c.args.logs.now node log log (search rules) c.index-logs-node.is in
    let seen : log.items ≡ c.as_slice.result.now = search rules in
    let same : log_of logs node ≡ c.as_slice.result.now =
    log_there logs node log.items (slice_get-map (λ log. log.items) c.args.logs.now node ∙ ap (option_map (λ log. log.items)) at) ∙ seen in
    let not_so : c.in_ok-are_sent_to.field-0 ≡ false = search rules in
    untrue (subst IsTrue not_so (c.in_ok-are_sent_to.ensures.1 (subst (AreSentTo logs node) same (each_sent logs are node)))))

pub loop-node-preserved : goal.loop-node-preserved
loop-node-preserved c =
    let logs = map (λ log. log.items) c.args.logs.now in
    let node = c.loop-node.node in
    let log = c.index-logs-node.result in
    let at : slice_get c.args.logs.now node ≡ Some log = at_place c.args.logs.now node log log (search rules) c.index-logs-node.is in
    let seen : log.items ≡ c.as_slice.result.now = search rules in
    let same : log_of logs node ≡ c.as_slice.result.now =
    log_there logs node log.items (slice_get-map (λ log. log.items) c.args.logs.now node ∙ ap (option_map (λ log. log.items)) at) ∙ seen in
    let so : IsTrue c.in_ok-are_sent_to.field-0 = search rules in
    below_more (λ n. AreSentTo logs n (log_of logs n)) node c.loop-node.invariant
    (subst (AreSentTo logs node) (sym same) (c.in_ok-are_sent_to.ensures.0 so))

pub returns : goal.returns
returns c = yes (all_sent (map (λ log. log.items) c.args.logs.now) (λ n inside.
    let far : n < c.loop-node.node = omega (arith, inside, length-map c.args.logs.now (λ log. log.items)) in
    c.loop-node.invariant n far))
