use Rattle.std.proofs.Common.{◌<◌, ◌∙◌, length, sym, subst, arith}
use Rattle.std.specs.Prelude.{slice_index}
use Rattle.std.proofs.lemmas.Option.{slice_get_within}
use Rattle.lrc_orders.proofs.Keeping.{item_at}
use Rattle.lrc_orders_table.proofs.parts.threads_at.Goals as goal

pub bounds-keys-numbers : goal.bounds-keys-numbers
bounds-keys-numbers c =
    let t = c.requires.there in
    let node = c.loop-node.node in
    let (x, at) = item_at t.0 node (let n = t.1.count in omega (arith, n, c.loop-node-test.true, c.loop-node.auto.node-end)) in
    subst (λ l. slice_index c.args.numbers.now node < length l) (sym c.as_slice-keys.ensures.keys)
    (slice_get_within c.args.threads.now.keys (slice_index c.args.numbers.now node) x
    (t.1.each node (omega (arith, c.loop-node-test.true, c.loop-node.auto.node-end)) ∙ at))

pub returns : goal.returns
returns c =
    let i = c.loop-node.invariant in
    let t = c.requires.there.1 in
    let end = c.loop-node.auto.node-end in
    record {
      long = t.long;
      count = omega (arith, i.count, c.loop-node-test.false, end);
      each = λ k lt. i.each k (omega (arith, lt, c.loop-node-test.false));
      past = t.past;
    }
