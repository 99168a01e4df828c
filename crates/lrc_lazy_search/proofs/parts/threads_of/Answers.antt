use Rattle.std.proofs.Common.{◌<◌, ◌∙◌, length, refl, sym, arith}
use Rattle.std.proofs.lemmas.List.{length-set}
use Rattle.std.proofs.lemmas.Option.{slice_get-get_or}
use Rattle.lrc_orders.proofs.Keeping.{grows_again, grows_not}
use Rattle.lrc_lazy_search.proofs.Numbering.{numbered_more, past_more, zeros}
use Rattle.lrc_lazy_search.proofs.parts.threads_of.Goals as goal

pub loop-node-init : goal.loop-node-init
loop-node-init c = record {
  grows = grows_not c.args.threads.now.keys c.args.threads.now.keys refl;
  distinct = c.requires;
  long = refl;
  each = λ k lt. absurd (omega (arith, lt));
  past = λ k le. zeros 16 k;
}

pub loop-node-preserved : goal.loop-node-preserved
loop-node-preserved c =
    let i = c.loop-node.invariant in
    let e = c.in_ok-number.ensures in
    let old = c.loop-node.threads.keys in
    let new = c.thread_number.new.threads.keys in
    let numbers = c.loop-node.numbers in
    let number = c.in_ok-number.number in
    let node = c.loop-node.node in
    let spots = c.args.spots.now in
    let within : node < length spots = omega (arith, c.loop-node-test.true, c.loop-node.auto.node-end) in
    record {
      grows = grows_again i.grows e.grows;
      distinct = e.distinct;
      long = length-set numbers node number ∙ i.long;
      each = numbered_more old new numbers number spots node e.grows (let n = i.long in omega (arith, within, n, c.if-spots-gt16.false)) within i.each
          (e.there ∙ sym (slice_get-get_or spots node _ within));
      past = past_more numbers number node i.past;
    }

pub returns-clause-there : goal.returns-clause-there
returns-clause-there c =
    let i = c.loop-node.invariant in
    record {
      long = i.long;
      count = refl;
      each = λ k lt. i.each k (omega (arith, lt, c.loop-node-test.false));
      past = λ k le. i.past k (omega (arith, le, c.loop-node-test.false, c.loop-node.auto.node-end));
    }
