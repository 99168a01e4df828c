use Rattle.std.proofs.Common.{sym, subst}
use Rattle.std.specs.Prelude.{Some}
use Rattle.lrc_exec.specs.Spots.{thread_at}
use Rattle.lrc_orders_reach.specs.Standing.{HasSome, IsClosed, Stands}
use Rattle.lrc_orders_reach.proofs.Coming.{reached_some}
use Rattle.lrc_orders_reach.proofs.follow.follow.Goals as goal

pub returns : goal.returns
returns c =
    let follower = c.args.follower.now in
    let spot = c.args.spot.now in
    let first = c.of-first.result in
    reached_some follower spot first c.in_ok-all.all.items c.if-spot.false c.if-spot-2.false
    (subst (λ n. Stands follower.flat n first (thread_at follower.flat spot)) (sym c.requires.me) (c.of-first.ensures follower.flat))
    (subst (λ l. HasSome l (Some first)) c.deref.ensures.value (c.has.ensures c.if-not-has.false))
    (subst (IsClosed follower) c.deref-2.ensures.value (c.is_closed.ensures c.if-not-is_closed.false))
