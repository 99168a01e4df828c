use Rattle.std.proofs.Common.{◌≡◌, map, refl}
use Rattle.std.specs.Vec.{with_items}
use Rattle.lrc_exec.specs.declared.state.State.{State}
use Rattle.lrc_orders_live.specs.Live.{forgot}
use Rattle.lrc_orders_live.proofs.Dead.{all_forgotten, counted_forgot, like_forgot, state_forgot}
use Rattle.lrc_orders_live.proofs.forget.forget_dead.Goals as goal

pub returns-clause-state : goal.returns-clause-state
returns-clause-state c =
    let old = c.args.state.now in
    let new : State = record old { spots = with_items old.spots c.forget_all.new.spots } in
    let spots : new.spots.items ≡ map (forgot c.args.table.now) old.spots.items =
    all_forgotten c.args.table.now old.spots c.deref_mut.result.now c.forget_all.new.spots c.deref_mut.ensures.value c.deref_mut.ensures.len c.forget_all.ensures in
    state_forgot c.args.flat.now c.args.table.now c.requires.live old new c.requires.state refl refl refl spots

pub returns-clause-counted : goal.returns-clause-counted
returns-clause-counted c =
    let old = c.args.state.now in
    let new : State = record old { spots = with_items old.spots c.forget_all.new.spots } in
    let spots : new.spots.items ≡ map (forgot c.args.table.now) old.spots.items =
    all_forgotten c.args.table.now old.spots c.deref_mut.result.now c.forget_all.new.spots c.deref_mut.ensures.value c.deref_mut.ensures.len c.forget_all.ensures in
    counted_forgot c.args.flat.now c.args.table.now c.requires.live old new c.requires.state refl refl refl spots c.requires.counted

pub returns-clause-like : goal.returns-clause-like
returns-clause-like c =
    let old = c.args.state.now in
    let new : State = record old { spots = with_items old.spots c.forget_all.new.spots } in
    let spots : new.spots.items ≡ map (forgot c.args.table.now) old.spots.items =
    all_forgotten c.args.table.now old.spots c.deref_mut.result.now c.forget_all.new.spots c.deref_mut.ensures.value c.deref_mut.ensures.len c.forget_all.ensures in
    like_forgot c.args.flat.now c.args.table.now c.requires.live old new c.requires.state refl refl refl spots
