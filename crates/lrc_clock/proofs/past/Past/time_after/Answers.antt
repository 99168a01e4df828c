use Rattle.std.proofs.Common.{◌≡◌, ◌+◌, ap, sym, ◌∙◌, arith, length, length-set}
use Rattle.lrc_trace.specs.Run.{departs_before}
use Rattle.lrc_time.specs.Time.{entry}
use Rattle.lrc_clock.specs.Times.{time_before}
use Rattle.lrc_clock.proofs.Rules.{long-before}
use Rattle.lrc_clock.proofs.Computing.{arrived-length, own-few, released-length}
use Rattle.lrc_clock.proofs.past.Past.time_after.Goals as goal

pub close-requires-clause-in_range : goal.close-requires-clause-in_range
close-requires-clause-in_range c =
    let long : length c.of_node-time.result ≡ c.args.nodes = ap length c.of_node-time.ensures
    ∙ long-before c.requires.keeps c.args.act.node (length c.args.acts.now) in
    let lt = c.requires.node in
    omega arith

pub close-requires-clause-few : goal.close-requires-clause-few
close-requires-clause-few c =
    let is : entry c.of_node-time.result c.args.act.node ≡ entry (time_before c.args.nodes c.args.acts.now c.args.times.now c.args.act.node
    (length c.args.acts.now)) c.args.act.node = ap (λ t. entry t c.args.act.node) c.of_node-time.ensures in
    let few = own-few c.requires.keeps c.args.act.node in
    let short = c.requires.short in
    omega arith

pub join-requires : goal.join-requires
join-requires c =
    ap length c.close.ensures
    ∙ length-set c.of_node-time.result c.args.act.node (entry c.of_node-time.result c.args.act.node + 1)
    ∙ ap length c.of_node-time.ensures
    ∙ long-before c.requires.keeps c.args.act.node (length c.args.acts.now)
    ∙ sym (ap length c.of_lock.ensures ∙ released-length c.requires.keeps c.in-Acquire.lock (length c.args.acts.now))

pub close-requires-in-Release-clause-in_range : goal.close-requires-in-Release-clause-in_range
close-requires-in-Release-clause-in_range c =
    let long : length c.of_node-time.result ≡ c.args.nodes = ap length c.of_node-time.ensures
    ∙ long-before c.requires.keeps c.args.act.node (length c.args.acts.now) in
    let lt = c.requires.node in
    omega arith

pub close-requires-in-Release-clause-few : goal.close-requires-in-Release-clause-few
close-requires-in-Release-clause-few c =
    let is : entry c.of_node-time.result c.args.act.node ≡ entry (time_before c.args.nodes c.args.acts.now c.args.times.now c.args.act.node
    (length c.args.acts.now)) c.args.act.node = ap (λ t. entry t c.args.act.node) c.of_node-time.ensures in
    let few = own-few c.requires.keeps c.args.act.node in
    let short = c.requires.short in
    omega arith

pub join-requires-in-Depart : goal.join-requires-in-Depart
join-requires-in-Depart c =
    let acts = c.args.acts.now in
    let number = departs_before acts c.args.act.node (length acts) in
    ap length c.of_node-time.ensures
    ∙ long-before c.requires.keeps c.args.act.node (length acts)
    ∙ sym (ap length c.of_barrier.ensures ∙ arrived-length c.requires.keeps number (length acts))
