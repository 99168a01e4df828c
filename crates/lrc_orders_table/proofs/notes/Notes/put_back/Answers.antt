use Rattle.std.proofs.Common.{◌≡◌, ◌<◌, [], ◌++◌, ◌∙◌, length, sym, ap, subst, arith}
use Rattle.std.specs.Prelude.{◌-◌}
use Rattle.lrc_orders.proofs.Noting.{no_more}
use Rattle.lrc_orders_table.specs.Links.{IsChain}
use Rattle.lrc_orders_table.proofs.Linking.{chain_falls, chain_none, chain_put, chain_step, chain_within, link_there}
use Rattle.lrc_orders_table.proofs.notes.Notes.put_back.Goals as goal

pub bounds-as_slice-at : goal.bounds-as_slice-at
bounds-as_slice-at c =
    let at = c.loop-at.at in
    let h = c.loop-at.invariant.there in
    let within = chain_within c.args.self.now.links.keys at h.0 h.1 in
    subst (λ l. at - 1 < length l) (sym c.as_slice.ensures.keys) (omega (arith, within, c.loop-at-test.true))

pub loop-at-smaller : goal.loop-at-smaller
loop-at-smaller c =
    let keys = c.args.self.now.links.keys in
    let at = c.loop-at.at in
    let more = c.loop-at-test.true in
    let h = c.loop-at.invariant.there in
    chain_falls keys at _ h.0 more (link_there keys c.as_slice.result.now at _ h.0 c.as_slice.ensures.keys more h.1) h.1

pub loop-at-preserved : goal.loop-at-preserved
loop-at-preserved c =
    let keys = c.args.self.now.links.keys in
    let at = c.loop-at.at in
    let more = c.loop-at-test.true in
    let i = c.loop-at.invariant in
    let there = link_there keys c.as_slice.result.now at _ i.there.0 c.as_slice.ensures.keys more i.there.1 in
    let (less, are, chain) = chain_step keys at _ i.there.0 more there i.there.1 in
    record {
      there = (less, chain);
      all = λ late begun.
          let (rest, left, sum) = i.all late begun in
          chain_put keys at _ c.args.acts.now.items late c.loop-at.acts.items c.push.new.self.items rest c.in_ok-push.ensures.items more there left sum;
    }

pub returns : goal.returns
returns c late begun =
    let keys = c.args.self.now.links.keys in
    let items = c.loop-at.acts.items in
    let (rest, left, sum) = c.loop-at.invariant.all late begun in
    let none : c.loop-at.at ≡ 0 = omega (arith, c.loop-at-test.false) in
    let empty : rest ≡ [] = chain_none keys rest (subst (λ n. IsChain keys n rest) none left) in
    sym (no_more items) ∙ ap (λ l. items ++ l) (sym empty) ∙ sum
