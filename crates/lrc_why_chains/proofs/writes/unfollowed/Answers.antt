-- A place more, and all of them.
use Rattle.std.proofs.Common.{◌≡◌, ◌-◌, arith, subst, sym}
use Rattle.std.specs.Prelude.{Contains}
use Rattle.lrc_why_chains.proofs.KnownWrites.{IsTail, tail_none, tail_followed, tail_more, tail_all}
use Rattle.lrc_why_chains.proofs.writes.unfollowed.Goals as goal

pub loop-place-init : goal.loop-place-init
loop-place-init c run position word are known = tail_none run position word c.args.writes.now known _ _ (omega arith) c.new-last.ensures.items

pub loop-place-preserved-in-Continue-1 : goal.loop-place-preserved-in-Continue-1
loop-place-preserved-in-Continue-1 c run position word are known =
    let writes = c.args.writes.now in
    tail_more run position word writes known c.loop-place.place (c.loop-place.place - 1) c.loop-place.last.items _ (omega arith) (omega arith)
    (λ u there before. c.if-not-is_followed.ensures u (subst (λ zs. Contains zs u) (sym c.as_slice.ensures.value) there) ((are _ u).1 before))
    c.in_ok-insert.ensures.items (c.loop-place.invariant run position word are known)

pub loop-place-preserved : goal.loop-place-preserved
loop-place-preserved c run position word are known =
    let (u, there, follows) = c.if-not-is_followed.ensures in
    tail_followed run position word c.args.writes.now known c.loop-place.place (c.loop-place.place - 1) u c.loop-place.last.items (omega arith)
    (subst (λ zs. Contains zs u) c.as_slice.ensures.value there)
    ((are _ u).0 follows) (c.loop-place.invariant run position word are known)

pub returns : goal.returns
returns c run position word are known =
    let end : c.loop-place.place ≡ 0 = omega arith in
    let tail = c.loop-place.invariant run position word are known in
    tail_all run position word c.args.writes.now known c.loop-place.last.items
    (subst (λ n. IsTail run position word c.args.writes.now known n c.loop-place.last.items) end tail)
