-- Each index has its size, and what its size leaves of the stride.
use Rattle.std.proofs.Common.{◌<◌, ◌≤◌, ◌+◌, ◌++◌, min, map, length, get_or, drop, sym, ap, ◌∙◌, arith, append-nil}
use Rattle.lrc_named_core.specs.View.{expression_of}
use Rattle.lrc_named_address.specs.Address.{indices_of}
use Rattle.lrc_named_address.specs.View.{index_of}
use Rattle.lrc_named_address.proofs.Indices.{here_is, indices_past, indices_step, next_some, stride_next}
use Rattle.lrc_named_address.proofs.element.indices.Goals as goal

pub loop-i-preserved : goal.loop-i-preserved
loop-i-preserved c =
    let cores = c.args.cores.now in
    let sizes = c.args.sizes.now in
    let i = c.loop-i.i in
    let inv = c.loop-i.invariant in
    let lt : i < length cores = omega (arith, c.min-i-end.ensures, c.loop-i-test.true) in
    let less : i < length sizes = omega (arith, c.min-i-end.ensures, c.loop-i-test.true) in
    let next = stride_next sizes i c.loop-i.stride less inv.stride inv.some in
    record {
      stride = next;
      some = next_some sizes i c.loop-i.stride less inv.stride inv.some;
      made = indices_step c.loop-i.all.items c.push.new.self.items _ cores sizes i c.index-cores-i.result
          (indices_of (map expression_of cores) sizes) lt less c.in_ok-push.ensures.items
          (here_is _ _ (get_or sizes i 0) _ (drop (i + 1) sizes) (ap expression_of c.index-cores-i.is) next) inv.made;
    }

pub returns : goal.returns
returns c =
    let h : min (length c.args.cores.now) (length c.args.sizes.now) ≤ c.loop-i.i = omega (arith, c.min-i-end.ensures, c.loop-i-test.false) in
    sym (append-nil (map index_of c.loop-i.all.items))
    ∙ ap (λ l. map index_of c.loop-i.all.items ++ l) (sym (indices_past c.args.cores.now c.args.sizes.now c.loop-i.i h))
    ∙ c.loop-i.invariant.made
