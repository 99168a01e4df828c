use Rattle.std.proofs.Common.{◌∙◌, sym, ap, subst}
use Rattle.std.specs.Vec.{with_item}
use Rattle.std.proofs.lemmas.List.{get_or_default}
use Rattle.lrc_exec.specs.declared.spot.Spot.{Spot}
use Rattle.lrc_exec.specs.States.{plain_at, IsStateOf}
use Rattle.lrc_orders_settling.proofs.Parts.{put_state, put_plain}
use Rattle.lrc_orders_settling.proofs.settle.put_spot.Goals as goal

pub returns-clause-state : goal.returns-clause-state
returns-clause-state c =
    let flat = c.args.flat.now in
    let state = c.args.state.now in
    let node = c.args.node in
    let old = c.index.result.now in
    let spots = state.spots.items in
    subst (λ (x : Spot). IsStateOf flat (record state { spots = with_item state.spots node x })) (sym c.kept_spot.ensures)
    (put_state flat state node old c.args.spot c.index.ensures c.requires.state c.requires.placed
    (λ on. c.requires.number on ∙ sym (ap (λ (x : Spot). x.me) (c.index.ensures ∙ get_or_default spots node old c.args.spot c.requires.within))))

pub returns-clause-put : goal.returns-clause-put
returns-clause-put c =
    let flat = c.args.flat.now in
    let state = c.args.state.now in
    let node = c.args.node in
    ap (λ (x : Spot). plain_at flat (record state { spots = with_item state.spots node x })) c.kept_spot.ensures
    ∙ put_plain flat state node c.index.result.now.me c.args.spot
