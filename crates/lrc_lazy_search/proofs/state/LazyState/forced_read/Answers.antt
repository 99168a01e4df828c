use Rattle.std.proofs.Common.{◌≡◌, ◌<◌, length, refl, subst, arith}
use Rattle.std.proofs.lemmas.Option.{same_Some}
use Rattle.lrc_trace.specs.declared.act.Deed.{Deed}
use Rattle.lrc_orders.proofs.Keeping.{item_in}
use Rattle.lrc_lazy_search.specs.Searching.{IsForced}
use Rattle.lrc_lazy_search.proofs.Making.{only_one}
use Rattle.lrc_lazy_search.proofs.state.LazyState.forced_read.Goals as goal

pub returns : goal.returns
returns c = λ deed is.
    let flat = c.args.flat.now in
    let key = c.args.self.now in
    let node = c.args.node in
    let deeds = c.in_ok-deeds.deeds.items in
    let first = c.index.result.now in
    let single : length deeds ≡ 1 = omega (arith, c.len.ensures, c.if-len-ne1.false) in
    let within : 0 < length deeds = omega (arith, single) in
    let there = item_in deeds deeds 0 first refl within c.index.ensures in
    subst (λ (d : Deed). IsForced flat key node d) (same_Some first deed is) (record {
      front = c.requires.front;
      can = c.in_ok-deeds.ensures.sound 0 first there;
      only = only_one flat key node deeds first single there c.in_ok-deeds.ensures.all;
      no_arrive = c.in_default.not-Arrive;
    })
