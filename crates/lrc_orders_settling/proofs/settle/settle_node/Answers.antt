use Rattle.std.proofs.Common.{◌∙◌, length, refl, ap, subst}
use Rattle.std.specs.Prelude.{Option, MatchOption}
use Rattle.std.proofs.lemmas.List.{get_or_default}
use Rattle.lrc_exec.specs.declared.spot.Spot.{Spot}
use Rattle.lrc_exec.specs.Spots.{spot_thread}
use Rattle.lrc_orders_settling.specs.Settling.{MakesFree}
use Rattle.lrc_orders_settling.specs.declared.settle.Settled.{Settled}
use Rattle.lrc_orders_settling.specs.Gone.{IsSettledSpot}
use Rattle.lrc_orders_settling.proofs.OneNode.{keeps_number}
use Rattle.lrc_orders_settling.proofs.Parts.{with_locks, length-freed}
use Rattle.lrc_orders_settling.proofs.settle.settle_node.Goals as goal

pub put_spot-requires-clause-number : goal.put_spot-requires-clause-number
put_spot-requires-clause-number c = λ on.
    let flat = c.args.flat.now in
    let old = c.index.result.now in
    let new = c.in-Some.settled in
    let P : Option Settled → Type 0 = λ o. MatchOption o (MakesFree c.args.most (spot_thread flat old)) (IsSettledSpot flat old) in
    let s : IsSettledSpot flat old new = subst P c.in-Some.is c.in_ok-settled.ensures in
    keeps_number flat old new.spot new.deeds.items s.settles on
    ∙ ap (λ (x : Spot). x.me) (c.index.ensures ∙ get_or_default c.args.state.now.spots.items c.args.node old new.spot c.requires.within)

pub returns-clause-state : goal.returns-clause-state
returns-clause-state c =
    let put = c.put_spot.new.state in
    with_locks c.args.flat.now put (record put { holders = c.give_back.new.holders }) c.put_spot.ensures.state refl
    (ap (λ l. length l) c.give_back.ensures ∙ length-freed c.deref-2.result.now put.holders.items)
